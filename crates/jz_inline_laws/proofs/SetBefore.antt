-- Which inline variables are set on each path before a statement, and behind it.
use Rattle.std.proofs.Common.{◌≡◌, ℕ, List, [], ◌∷◌, Option, Some, None, Bool, true, false, not, ◌&&◌, ◌||◌, refl, ap, sym, ◌∙◌, subst, inl, inr, if◌then◌else◌, bytes_eq}
use Rattle.std.specs.Prelude.{◌⊎◌, All}
use Rattle.std.proofs.lemmas.Bool.{false≢true}
use Rattle.std.proofs.lemmas.List.Elements.{All-head, All-tail}
use Rattle.jz_tree.proofs.Texts.{bytes_eq-true}
use Rattle.jz_tree.specs.Span.{Span}
use Rattle.jz_tree.specs.declared.expr.BinOp.{BinOp}
use Rattle.jz_tree.specs.declared.expr.Expr.{Expr}
use Rattle.jz_tree.specs.declared.expr.Var.{Var}
use Rattle.jz_tree.specs.declared.expr.Expr.TheViews.{out-Access}
use Rattle.jz_tree.specs.declared.stmt.Lval.{Lval}
use Rattle.jz_tree.specs.declared.stmt.Lval.TheVariants as lval
use Rattle.jz_tree.specs.declared.stmt.Rhs.{Rhs}
use Rattle.jz_tree.specs.declared.program.Fun.{Fun}
use Rattle.jz_type_names.specs.Scopes.{name_of}
use Rattle.jz_type_names.specs.Order.{is_before, earlier, IsEarliest, here}
use Rattle.jz_type_storage.specs.Paths.{reading_lefts, reading_right, reading_condition, reading_old, setting, setting_all, assigning, flow_of_all, has_to_be_set, IsReadUnset}
use Rattle.jz_type_storage.specs.InnerSurely.{Names, having, put, missing, after, first}
use Rattle.jz_type_storage.specs.InnerWalks.{members}
use Rattle.jz_type_storage.proofs.Walking.{idle_expr, idle_right, idle_condition, idle_old}
use Rattle.jz_type_storage.proofs.Asking.{unset_law}
use Rattle.jz_meaning.specs.Values.{ref_of}
use Rattle.jz_bodies.proofs.Refs.{ref_name}
use Rattle.jz_unroll.specs.Values.{InlineNames}
use Rattle.jz_inline_laws.specs.InlineParts.{NameSet, Within, WithinAnd, HasOld, IsOtherLeft}

-- ---- nothing is read too early

some_none : (x : Span) → Some x ≡ None → ⊥
some_none x e = cc

pub none_both : (a b : Option Span) → earlier a b ≡ None → (a ≡ None) × (b ≡ None)
none_both None b e = (refl, e)
none_both (Some x) None e = absurd (some_none x e)
none_both (Some x) (Some y) e = absurd (by_test (is_before y x) e)
  where
    by_test : (t : Bool) → (if t then Some y else Some x) ≡ None → ⊥
    by_test true e = some_none y e
    by_test false e = some_none x e

-- of a function in which nothing is read too early
pub none_unset : (f : Fun) → ((at : Span) → IsReadUnset f at → ⊥) → first (has_to_be_set f) (flow_of_all f.body) (members []) ≡ None
none_unset f h = by_earliest (first (has_to_be_set f) (flow_of_all f.body) (members [])) (unset_law f (has_to_be_set f) [] (first (has_to_be_set f) (flow_of_all f.body) (members [])) refl refl refl)
  where
    by_earliest : (r : Option Span) → IsEarliest (IsReadUnset f) r → r ≡ None
    by_earliest None e = refl
    by_earliest (Some at) (here w rest) = absurd (h at w)

-- ---- names that are set, or need not be

module _ (asked : Names) where
  abbrev pub Known : Names → NameSet
  Known s n = s n || not (asked n)

  or_swap : (a b c : Bool) → ((a || b) || c) ≡ true → ((a || c) ≡ true) ⊎ (b ≡ true)
  or_swap true b c e = inl refl
  or_swap false true c e = inr refl
  or_swap false false c e = inl e

  -- one name more
  pub put_known : (m : List ℕ) (s : Names) (n : List ℕ) → Known (put asked m s) n ≡ true → (Known s n ≡ true) ⊎ (m ≡ n)
  put_known m s n e = by_asked (asked m) e
    where
      by_asked : (b : Bool) → ((if b then having m s else s) n || not (asked n)) ≡ true → ((s n || not (asked n)) ≡ true) ⊎ (m ≡ n)
      by_asked true e = elim (or_swap (s n) (bytes_eq n m) (not (asked n)) e) [ inl t ↦ inl t | inr t ↦ inr (sym (bytes_eq-true n m t)) ]
      by_asked false e = inl e

  -- ---- left sides

  var_named : (v : Var) → (name_of v).0 ≡ (ref_of v).name
  var_named v = sym (ref_name v)

  module _ (names : InlineNames) where
    true_not : (b : Bool) → b ≡ true → b ≡ false → ⊥
    true_not true e f = false≢true (sym f)
    true_not false e f = false≢true e

    left_within : (d : Lval) → IsOtherLeft names d → (s : Names) (n : List ℕ) → ((c : ℕ) → names n c ≡ true) → Known (after asked (setting d) s) n ≡ true → Known s n ≡ true
    left_within (lval.Skip at) h s n i e = e
    left_within (lval.Var v) h s n i e = elim (put_known (name_of v).0 s n e) [
      | inl t ↦ t
      | inr t ↦ absurd (true_not (names n (ref_of v).copy) (i (ref_of v).copy) (sym (ap (λ m. names m (ref_of v).copy) (sym (var_named v) ∙ t)) ∙ h.named))
    ]
    left_within (lval.Cell v x) h s n i e = subst (λ t. Known t n ≡ true) (idle_expr asked x s) e
    left_within (lval.Store a) h s n i e = subst (λ t. Known t n ≡ true) (idle_expr asked (out-Access a).at s) e

    lefts_within : (to : List Lval) → All (IsOtherLeft names) to → (s : Names) (n : List ℕ) → ((c : ℕ) → names n c ≡ true) → Known (after asked (setting_all to) s) n ≡ true → Known s n ≡ true
    lefts_within [] h s n i e = e
    lefts_within (d ∷ ds) h s n i e =
        left_within d (All-head (IsOtherLeft names) d ds h) s n i (lefts_within ds (All-tail (IsOtherLeft names) d ds h) (after asked (setting d) s) n i e)

  -- ---- assignments

  -- what is read sets nothing
  assigned_after : (to : List Lval) (o : Option BinOp) (from : Rhs) (c : Option Expr) (s : Names) → after asked (assigning to o from c) s ≡ after asked (setting_all to) s
  assigned_after to o from c s =
      ap (after asked (setting_all to))
      (ap (after asked (reading_old o c to)) (ap (after asked (reading_condition c)) (idle_right asked from s) ∙ idle_condition asked c s) ∙ idle_old asked o c to s)

  -- the names of a function are the same in each copy
  pub assigned_within : (names : InlineNames) → ((n : List ℕ) (c : ℕ) → names n 0 ≡ true → names n c ≡ true) → (to : List Lval) (o : Option BinOp) (from : Rhs) (c : Option Expr) (s : Names)
      → All (IsOtherLeft names) to → Within names (Known (after asked (assigning to o from c) s)) (Known s)
  assigned_within names same to o from c s h n i e =
      lefts_within names to h s n (λ k. same n k i) (subst (λ t. Known t n ≡ true) (assigned_after to o from c s) e)

  pub one_within : (names : InlineNames) (v : Var) (o : Option BinOp) (from : Rhs) (c : Option Expr) (s : Names)
      → WithinAnd names (Known (after asked (assigning (lval.Var v ∷ []) o from c) s)) (Known s) v
  one_within names v o from c s n i e =
      elim (put_known (name_of v).0 s n (subst (λ t. Known t n ≡ true) (assigned_after (lval.Var v ∷ []) o from c s) e)) [
        | inl t ↦ inl t
        | inr t ↦ inr (ref_name v ∙ t)
      ]

  none_missing : (v : Var) (s : Names) → missing asked (name_of v) s ≡ None → Known s (name_of v).0 ≡ true
  none_missing v s e = by_tests (asked (name_of v).0) (s (name_of v).0) e
    where
      by_tests : (a b : Bool) → (if a && not b then Some (name_of v).1 else None) ≡ None → (b || not a) ≡ true
      by_tests true true e = refl
      by_tests true false e = absurd (some_none (name_of v).1 e)
      by_tests false true e = refl
      by_tests false false e = refl

  old_read : (v : Var) (o : Option BinOp) (c : Expr) (s : Names) → first asked (reading_old o (Some c) (lval.Var v ∷ [])) s ≡ None → missing asked (name_of v) s ≡ None
  unfolding reading_lefts
  old_read v None c s e = (none_both (missing asked (name_of v) s) None e).0
  old_read v (Some o) c s e = (none_both (missing asked (name_of v) s) None e).0

  -- the old value of what is set where something is
  pub old_set : (names : InlineNames) (v : Var) (o : Option BinOp) (from : Rhs) (c : Option Expr) (s : Names)
      → first asked (assigning (lval.Var v ∷ []) o from c) s ≡ None → HasOld names (Known s) v c
  old_set names v o from None s e = tt
  old_set names v o from (Some c) s e =
      let a = none_both (first asked (reading_right from) s) _ e in
      let b = none_both (first asked (reading_condition (Some c)) (after asked (reading_right from) s)) _ a.1 in
      let d = none_both (first asked (reading_old o (Some c) (lval.Var v ∷ [])) (after asked (reading_condition (Some c)) (after asked (reading_right from) s))) _ b.1 in
      let same : after asked (reading_condition (Some c)) (after asked (reading_right from) s) ≡ s = idle_condition asked (Some c) (after asked (reading_right from) s) ∙ idle_right asked from s in
      subst (λ m. Known s m ≡ true) (var_named v) (none_missing v s (old_read v o c s (subst (λ t. first asked (reading_old o (Some c) (lval.Var v ∷ [])) t ≡ None) same d.0)))
