-- Which declarations have no home, as the code meets them.
use Rattle.std.proofs.Common.{◌≡◌, ℕ, zero, suc, ◌+◌, ◌<◌, ◌≤◌, List, [], ◌∷◌, ◌++◌, map, length, take, drop, get_or, Some, None, Result, Ok, Err, refl, sym, ap, ◌∙◌, subst, arith, length-append, append_assoc}
use Rattle.std.specs.Prelude.{IfErr}
use Rattle.std.proofs.lemmas.List.{take-append-drop, drop_more, map-append}
use Rattle.jz_words.specs.declared.size.Size.{Size}
use Rattle.jz_tree.specs.Failure.{Failure}
use Rattle.jz_tree.specs.Failure.TheVariants.{Refused, OutOfMemory}
use Rattle.jz_tree.specs.Failures.{IfRefused}
use Rattle.jz_tree.specs.Span.{Span}
use Rattle.jz_tree.specs.declared.expr.Decl.{Decl}
use Rattle.jz_tree.specs.declared.expr.Storage.TheVariants as storage
use Rattle.jz_tree.specs.declared.expr.Var.{Var}
use Rattle.jz_tree.specs.declared.expr.Expr.TheFolds.{fold-roll-Var}
use Rattle.jz_tree.specs.declared.expr.Expr.TheViews.{out-Decl, out-Var, roll-out-Var}
use Rattle.jz_tree.specs.declared.program.Fun.{Fun}
use Rattle.jz_tree.specs.declared.program.Param.{Param}
use Rattle.jz_type_names.specs.Scopes.{variables_of}
use Rattle.jz_ir.specs.declared.code.Kind.TheVariants as held
use Rattle.jz_meaning.specs.declared.access.Kind.{Kind}
use Rattle.jz_meaning.specs.Values.{Ref, ref_of, expr_step, ty_step, access_step, decl_step, var_step}
use Rattle.jz_homing.specs.Tables.{Table, no_homes, with_each, with_vars}
use Rattle.jz_homing.specs.Refusals.{most, NoVariable, NoStacked, NotStored, NotDeclared, HasNoHome, IsHomeless}
use Rattle.jz_homing.proofs.EntryLemmas.{vars_append}

-- ---- causes
-- a cause at a place
abbrev pub Refuses : {A : Type 0} → Result A (Failure Span) → (Span → Type 0) → Type 0
Refuses r P = IfErr r (λ v. IfRefused v P)

pub refuses_as : {A : Type 0} (P Q : Span → Type 0) (r : Result A (Failure Span)) → ((s : Span) → P s → Q s) → Refuses r P → Refuses r Q
refuses_as P Q (Ok x) f h = h
refuses_as P Q (Err (Refused s)) f h = f s h
refuses_as P Q (Err OutOfMemory) f h = h

-- ---- variables
pub span_is : (x : Var) → (ref_of x).span ≡ (out-Var x).span
span_is x = ap (λ w. (ref_of w).span) (sym (roll-out-Var x)) ∙ ap (λ (r : Ref). r.span) (fold-roll-Var _ _ _ _ _ expr_step ty_step access_step decl_step var_step (out-Var x))

module _ (x : Var) where
  -- at the variable, for such a cause
  abbrev pub At : Type 0 → Span → Type 0
  At P s = (s ≡ (ref_of x).span) × P

  pub at_span : (s : Span) → s ≡ (out-Var x).span → s ≡ (ref_of x).span
  at_span s e = e ∙ sym (span_is x)

  pub used : (s : Span) (k n : ℕ) → k ≡ n → (s ≡ (out-Var x).span) × (most ≤ k) → At (most ≤ n) s
  used s k n e h = (at_span s h.0, subst (λ m. most ≤ m) e h.1)

  -- ---- the cells of a register array
  pub each_many : (t : Table) (z : Size) (n : ℕ) → length (with_each t x z n).kinds ≡ length t.kinds + n
  each_many t z zero = omega (arith)
  each_many t z (suc n) = let e = length-append (with_each t x z n).kinds (held.Word ∷ []) in let f = each_many t z n in omega (arith, e, f)

  pub too_many : (m : ℕ) (t u : Table) (z : Size) (i n : ℕ) → u ≡ with_each t x z i → i < n → m ≤ length u.kinds → m < length t.kinds + n
  too_many m t u z i n e less h = let f = ap (λ (v : Table). length v.kinds) e in let g = each_many t z i in omega (arith, f, g, less, h)

  -- ---- by its declaration
  module _ (t : Table) (s : Span) (k : Kind) (is : k ≡ (ref_of x).kind) where
    pub no_variable : At (NoVariable t k) s → At (NoVariable t (ref_of x).kind) s
    no_variable h = (h.0, subst (NoVariable t) is h.1)

    pub no_stacked : At (NoStacked t k) s → At (NoStacked t (ref_of x).kind) s
    no_stacked h = (h.0, subst (NoStacked t) is h.1)

  pub in_registers : (t : Table) (s : Span) (d : Decl) → (out-Var x).decl ≡ Some d → (out-Decl d).storage ≡ storage.Reg → At (NoVariable t (ref_of x).kind) s → At (HasNoHome t x) s
  in_registers t s d e f h = (h.0, subst (NotDeclared t x) (sym e) (subst (NotStored t x) (sym f) h.1))

  pub on_stack : (t : Table) (s : Span) (d : Decl) → (out-Var x).decl ≡ Some d → (out-Decl d).storage ≡ storage.Stack → At (NoStacked t (ref_of x).kind) s → At (HasNoHome t x) s
  on_stack t s d e f h = (h.0, subst (NotDeclared t x) (sym e) (subst (NotStored t x) (sym f) h.1))

  pub undeclared : (t : Table) → (out-Var x).decl ≡ None → At (HasNoHome t x) (out-Var x).span
  undeclared t e = (at_span (out-Var x).span refl, subst (NotDeclared t x) (sym e) tt)

-- ---- one variable after another
module _ (t : Table) where
  pub homeless : (u : Table) (xs ys zs : List Var) (x : Var) (at : Span) → xs ≡ ys ++ (x ∷ zs) → u ≡ with_vars t ys → At x (HasNoHome u x) at → IsHomeless t xs at
  homeless u xs ys zs x at e f h = record { front = ys; var = x; back = zs; split = e; none = subst (λ v. HasNoHome v x) f h.1; stands = sym h.0 }

  pub var_homeless : (u : Table) (xs : List Var) (i : ℕ) (x : Var) (at : Span) → i < length xs → x ≡ get_or xs i x → u ≡ with_vars t (take i xs) → At x (HasNoHome u x) at → IsHomeless t xs at
  var_homeless u xs i x at lt is e h =
      let whole : xs ≡ take i xs ++ (x ∷ drop (i + 1) xs) = sym (take-append-drop i xs) ∙ ap (λ l. take i xs ++ l) (drop_more xs i x lt ∙ ap (λ y. y ∷ drop (i + 1) xs) (sym is)) in
      homeless u xs (take i xs) (drop (i + 1) xs) x at whole e h

  pub param_homeless : (u : Table) (ps : List Param) (i : ℕ) (x : Param) (at : Span) → i < length ps → x ≡ get_or ps i x → u ≡ with_vars t (map (λ p. p.var) (take i ps)) → At x.var (HasNoHome u x.var) at → IsHomeless t (map (λ p. p.var) ps) at
  param_homeless u ps i x at lt is e h =
      let whole : ps ≡ take i ps ++ (x ∷ drop (i + 1) ps) = sym (take-append-drop i ps) ∙ ap (λ l. take i ps ++ l) (drop_more ps i x lt ∙ ap (λ y. y ∷ drop (i + 1) ps) (sym is)) in
      let vars : map (λ (p : Param). p.var) ps ≡ map (λ (p : Param). p.var) (take i ps) ++ (x.var ∷ map (λ (p : Param). p.var) (drop (i + 1) ps)) =
      ap (map (λ (p : Param). p.var)) whole ∙ map-append (λ (p : Param). p.var) (take i ps) (x ∷ drop (i + 1) ps) in
      homeless u (map (λ (p : Param). p.var) ps) (map (λ (p : Param). p.var) (take i ps)) (map (λ (p : Param). p.var) (drop (i + 1) ps)) x.var at vars e h

  -- among others behind it, or before it
  pub homeless_before : (xs ys : List Var) (at : Span) → IsHomeless t xs at → IsHomeless t (xs ++ ys) at
  homeless_before xs ys at h = record { front = h.front; var = h.var; back = h.back ++ ys; split = ap (λ l. l ++ ys) h.split ∙ append_assoc h.front (h.var ∷ h.back) ys; none = h.none; stands = h.stands }

  pub homeless_behind : (xs ys : List Var) (at : Span) → IsHomeless (with_vars t xs) ys at → IsHomeless t (xs ++ ys) at
  homeless_behind xs ys at h = record {
    front = xs ++ h.front;
    var = h.var;
    back = h.back;
    split = ap (λ l. xs ++ l) h.split ∙ sym (append_assoc xs h.front (h.var ∷ h.back));
    none = subst (λ u. HasNoHome u h.var) (sym (vars_append t xs h.front)) h.none;
    stands = h.stands;
  }

pub of_params : (f : Fun) (t : Table) (at : Span) → t ≡ no_homes → IsHomeless t (map (λ p. p.var) f.params) at → IsHomeless no_homes (variables_of f) at
of_params f t at e h = homeless_before no_homes (map (λ (p : Param). p.var) f.params) f.vars at (subst (λ u. IsHomeless u (map (λ (p : Param). p.var) f.params) at) e h)

pub of_vars : (f : Fun) (t u : Table) (at : Span) → t ≡ no_homes → u ≡ with_vars t (map (λ p. p.var) f.params) → IsHomeless u f.vars at → IsHomeless no_homes (variables_of f) at
of_vars f t u at e g h = homeless_behind no_homes (map (λ (p : Param). p.var) f.params) f.vars at (subst (λ v. IsHomeless v f.vars at) (g ∙ ap (λ v. with_vars v (map (λ (p : Param). p.var) f.params)) e) h)
