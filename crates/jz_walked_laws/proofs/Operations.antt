-- An operation that typing admits, of which nothing passes a limit, has what unrolling asks for; what is known behind it.
use Rattle.std.proofs.Common.{◌≡◌, ℕ, ℤ, List, [], ◌∷◌, ◌++◌, Option, Some, None, Bool, true, false, refl, ap, sym, ◌∙◌, subst, inl, inr, if◌then◌else◌}
use Rattle.std.specs.Prelude.{◌⊎◌, is_some}
use Rattle.std.proofs.lemmas.Bool.{false≢true}
use Rattle.jz_tree.specs.Span.{Span}
use Rattle.jz_tree.specs.declared.expr.BinOp.{BinOp}
use Rattle.jz_tree.specs.declared.expr.Expr.{Expr}
use Rattle.jz_tree.specs.declared.expr.Expr.TheViews.{out-Var}
use Rattle.jz_tree.specs.declared.expr.Var.{Var}
use Rattle.jz_tree.specs.declared.stmt.Lval.{Lval}
use Rattle.jz_tree.specs.declared.stmt.Lval.TheVariants as lval
use Rattle.jz_tree.specs.declared.program.Fun.{Fun}
use Rattle.jz_integers.specs.Integers.{KnownNumbers, inline_value, the_number}
use Rattle.jz_integers.specs.declared.constant.Constant.TheVariants as constant
use Rattle.jz_type_names.specs.Kinds.{is_inline}
use Rattle.jz_judgement.proofs.Nothing.{same_some}
use Rattle.jz_meaning.specs.Assignments.{last_left, whole_of}
use Rattle.jz_meaning.specs.Statements.{Operation, assign}
use Rattle.jz_meaning.specs.Values.{ref_of}
use Rattle.jz_limits.specs.declared.limit.Limit.TheVariants.{InlineWidth}
use Rattle.jz_limits.specs.declared.operands.Role.TheVariants as role
use Rattle.jz_limits.specs.Values.{inline_target, with_number, truth_of, holds_in, chosen, set_to, first_left, known_after}
use Rattle.jz_limits.specs.Asked.{told, no_value, asked_if, value_of, set_parts, assigned_parts, in_kinds, asked}
use Rattle.jz_unroll.specs.Unrolling.{ConditionIs}
use Rattle.jz_unrolling_values.specs.Parts.{IsInlineIf}
use Rattle.jz_inline_laws.specs.CalledBodies.{inlines_of, FitsOp, stays_so, sets_one}
use Rattle.jz_inline_laws.proofs.AskedValues.{no_cells}
use Rattle.jz_inline_laws.specs.InlineParts.{inline_in, NameSet, WithinAnd, IsInlineNumber, IsInlineTest, IsInlineVar, HasOld, SetsInline, sets_inline, assigns, instructs}
use Rattle.jz_inline_laws.proofs.ClearVars.{ints_same}
use Rattle.jz_walked_laws.proofs.Ones.{nothing_both}
use Rattle.jz_walked_laws.proofs.AskedParts.{no_limit, some_of, number_known, truth_known, no_target, assign_known, instruction_known}
use Rattle.jz_walked_laws.proofs.Knowing.{Knows, Keeps, keeps_same, keeps_number, knows_within, knows_number}

-- ---- the inline variable that is set

pub target_is : (f : Fun) (v : Var) → IsInlineVar (inline_in f) v → inline_target (lval.Var v ∷ []) ≡ Some v
target_is f v h = ap (λ b. if b then Some v else None) (sym (ints_same (ref_of v).kind) ∙ h.number.int)

module _ (f : Fun) (e : KnownNumbers) where
  -- what is asked of it
  pub target_asked : (v : Var) (o : Option BinOp) (x : Expr) (c : Option Expr) (at : Span) → IsInlineVar (inline_in f) v → asked e (assign (lval.Var v ∷ []) o x c at) ≡ []
      → ((set_parts e v o x).widths ≡ []) × ((asked_if e role.Test None c).widths ≡ [])
  target_asked v o x c at h t =
      let k : in_kinds (assigned_parts e (Some v) (lval.Var v ∷ []) o x c) ≡ [] = subst (λ w. in_kinds (assigned_parts e w (lval.Var v ∷ []) o x c) ≡ []) (target_is f v h) t in
      nothing_both (set_parts e v o x).widths (asked_if e role.Test None c).widths (nothing_both ((set_parts e v o x).widths ++ (asked_if e role.Test None c).widths) _ k).0

  -- its whole right side
  set_asked : (v : Var) (o : Option BinOp) (x y : Expr) → whole_of (Some (lval.Var v)) o x ≡ Some y → IsInlineNumber (inline_in f) y → (set_parts e v o x).widths ≡ [] → is_some (inline_value e y) ≡ true
  set_asked v None x y w h t = subst (λ z. IsInlineNumber (inline_in f) z → is_some (inline_value e z) ≡ true) (same_some x y w) (λ k. plain_asked x k t) h
    where
      plain_asked : (x : Expr) → IsInlineNumber (inline_in f) x → (told e x).widths None ≡ [] → is_some (inline_value e x) ≡ true
      plain_asked x k t = let n = number_known (inline_in f) e x k t in ap is_some n.1.1
  set_asked v (Some o) x y w h t = no_limit (is_some (inline_value e y)) (InlineWidth (out-Var v).span) (ap (λ z. no_value None (out-Var v).span (value_of e z)) (sym w) ∙ t)

  -- its condition
  record Conditioned (v : Var) (c : Option Expr) : Type 0 where
    value : Bool
    is : ConditionIs e v c value
    holds : holds_in e c ≡ Some value
    inline : IsInlineIf c
    -- where the old value stays, it is set
    old : value ≡ false → (s : NameSet) → HasOld (inline_in f) s v c → s (ref_of v).name ≡ true

  conditioned : (v : Var) (c : Option Expr) (s : NameSet) → IsInlineVar (inline_in f) v → IsInlineTest (inline_in f) c → HasOld (inline_in f) s v c → Knows f s e → (asked_if e role.Test None c).widths ≡ [] → Conditioned v c
  conditioned v None s h i o k t = record { value = true; is = refl; holds = refl; inline = tt; old = λ q. absurd (false≢true (sym q)) }
  conditioned v (Some c) s h i o k t =
      let b = truth_known (inline_in f) e c i t in
      record {
        value = b.0;
        is = (b.1, ap (λ d. is_some (e (ref_of v).name d)) h.copy ∙ k (ref_of v).name h.number.named o);
        holds = ap truth_of b.1.1;
        inline = i.inline;
        old = λ q s o. o;
      }

  -- what is known behind it
  pub record SetsOne (v : Var) (o : Option BinOp) (x : Expr) (c : Option Expr) (at : Span) (s behind : NameSet) : Type 0 where
    pub fits : FitsOp (inlines_of f) e (assign (lval.Var v ∷ []) o x c at)
    pub knows : Knows f behind (known_after e (assign (lval.Var v ∷ []) o x c at))
    pub keeps : Keeps e (known_after e (assign (lval.Var v ∷ []) o x c at))

  abbrev or_old : Bool → Var → ℤ → KnownNumbers
  or_old b v n = if b then with_number e v (Some n) else e

  behind_is : (v : Var) (o : Option BinOp) (x y : Expr) (c : Option Expr) (at : Span) (n : ℤ) (b : Bool) → IsInlineVar (inline_in f) v → whole_of (Some (lval.Var v)) o x ≡ Some y → inline_value e y ≡ Some (constant.Int n) → holds_in e c ≡ Some b
      → known_after e (assign (lval.Var v ∷ []) o x c at) ≡ or_old b v n
  behind_is v o x y c at n b h w i k =
      ap (λ z. set_to e z (whole_of (first_left z) o x) c) (target_is f v h)
      ∙ (ap (λ z. chosen e v z (holds_in e c)) w ∙ (ap (chosen e v (Some y)) k ∙ by_test b))
    where
      by_test : (b : Bool) → chosen e v (Some y) (Some b) ≡ or_old b v n
      by_test true = ap (λ m. with_number e v (the_number m)) i
      by_test false = refl

  keeps_old : (b : Bool) (v : Var) (n : ℤ) → Keeps e (or_old b v n)
  keeps_old true v n = keeps_number e v n
  keeps_old false v n = keeps_same e

  old_named : (s : NameSet) (v : Var) → Knows f s e → s (ref_of v).name ≡ true → (m : List ℕ) → inline_in f m 0 ≡ true → (s m ≡ true) ⊎ ((ref_of v).name ≡ m) → is_some (e m 0) ≡ true
  old_named s v k o m i (inl a) = k m i a
  old_named s v k o m i (inr a) = k m i (subst (λ t. s t ≡ true) a o)

  knows_old : (b : Bool) (v : Var) (n : ℤ) (s behind : NameSet) → (ref_of v).copy ≡ 0 → WithinAnd (inline_in f) behind s v → Knows f s e → (b ≡ false → s (ref_of v).name ≡ true) → Knows f behind (or_old b v n)
  knows_old true v n s behind z w k o = knows_number f behind s e v n z w k
  knows_old false v n s behind z w k o = λ m i j. old_named s v k (o refl) m i (w m i j)

  sets_fits : (v : Var) (o : Option BinOp) (x y : Expr) (c : Option Expr) (at : Span) (s behind : NameSet) → IsInlineVar (inline_in f) v → is_inline x ≡ true → whole_of (Some (lval.Var v)) o x ≡ Some y → IsInlineNumber (inline_in f) y → IsInlineTest (inline_in f) c
      → HasOld (inline_in f) s v c → WithinAnd (inline_in f) behind s v → Knows f s e → asked e (assign (lval.Var v ∷ []) o x c at) ≡ [] → SetsOne v o x c at s behind
  sets_fits v o x y c at s behind h i w n t old within k none =
      let a = target_asked v o x c at h none in
      let d = some_of (inline_value e y) (set_asked v o x y w n a.0) in
      let z = n.numeric e d.0 d.1 in
      let value : inline_value e y ≡ Some (constant.Int z.0) = d.1 ∙ ap Some z.1 in
      let q = conditioned v c s h t old k a.1 in
      let same = behind_is v o x y c at z.0 q.value h w value q.holds in
      record {
        fits = sets_one q.value h.number i q.inline w (no_cells (inline_in f) y n.inline n.named, value) q.is;
        knows = subst (Knows f behind) (sym same) (knows_old q.value v z.0 s behind h.copy within k (λ b. q.old b s old));
        keeps = subst (Keeps e) (sym same) (keeps_old q.value v z.0);
      }

  -- ---- an operation

  pub record Operated (o : Operation) (behind : NameSet) : Type 0 where
    pub fits : FitsOp (inlines_of f) e o
    pub knows : Knows f behind (known_after e o)
    pub keeps : Keeps e (known_after e o)

  same_known : (to : List Lval) (o : Option BinOp) (x : Expr) (c : Option Expr) (at : Span) → inline_target to ≡ None → known_after e (assign to o x c at) ≡ e
  same_known to o x c at h = ap (λ z. set_to e z (whole_of (first_left z) o x) c) h

  pub operated : (i : Bool) (s behind : NameSet) (o : Operation) → SetsInline (inline_in f) i s o behind → Knows f s e → asked e o ≡ [] → Operated o behind
  operated i s behind _ (sets_inline {v} {o} {x} {y} {c} {at} out h n w m t old within) k none =
      let r = sets_fits v o x y c at s behind h n w m t old within k none in record { fits = r.fits; knows = r.knows; keeps = r.keeps }
  operated i s behind _ (assigns {to} {o} {x} {c} {at} l n m p within) k none =
      let target = no_target (inline_in f) e to l in
      let same = same_known to o x c at target in
      record {
        fits = stays_so target (assign_known (inline_in f) e to o x c at (whole_of (last_left to) o x) l n m p none);
        knows = subst (Knows f behind) (sym same) (knows_within f behind s e within k);
        keeps = subst (Keeps e) (sym same) (keeps_same e);
      }
  operated i s behind _ (instructs {to} {n} {args} {at} l h within) k none =
      record {
        fits = stays_so tt (instruction_known (inline_in f) e to n args at l h none);
        knows = knows_within f behind s e within k;
        keeps = keeps_same e;
      }
