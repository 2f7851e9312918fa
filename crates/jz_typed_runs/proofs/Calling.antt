-- The arguments of a call, and what stands in the left sides of its results, leak as their text says.
use Rattle.std.proofs.Common.{◌≡◌, ℕ, Bool, true, false, not, ◌&&◌, List, [], Option, Some, map, flat_map, refl, sym, ap, ◌∙◌, subst, inl, inr}
use Rattle.std.specs.Prelude.{All, option_map}
use Rattle.std.specs.List.{zip}
use Rattle.std.proofs.lemmas.Bool.{and_parts, false≢true}
use Rattle.std.proofs.lemmas.List.Elements.{All-nil, All-cons, All-head, All-tail, All-append}
use Rattle.jz_tree.specs.Size.{Size}
use Rattle.jz_tree.specs.Span.{Span}
use Rattle.jz_tree.specs.declared.expr.Storage.{Storage}
use Rattle.jz_tree.specs.declared.expr.Storage.TheVariants as storage
use Rattle.jz_tree.specs.declared.expr.Expr.{Expr}
use Rattle.jz_tree.specs.declared.expr.Expr.TheVariants as expr
use Rattle.jz_tree.specs.declared.expr.Ty.{Ty}
use Rattle.jz_tree.specs.declared.expr.Access.{Access}
use Rattle.jz_tree.specs.declared.expr.Decl.{Decl}
use Rattle.jz_tree.specs.declared.expr.Var.{Var}
use Rattle.jz_tree.specs.declared.expr.Expr.TheOpen.{Expr-F, Var-F}
use Rattle.jz_tree.specs.declared.expr.Expr.TheViews.{out-Expr, out-Var, out-roll-Expr, out-roll-Var}
use Rattle.jz_tree.specs.declared.stmt.Lval.{Lval}
use Rattle.jz_tree.specs.declared.stmt.Lval.TheVariants as lval
use Rattle.jz_tree.specs.declared.program.Param.{Param}
use Rattle.jz_tree.specs.declared.program.Ret.{Ret}
use Rattle.jz_type_names.specs.declared.kinds.Kind as known
use Rattle.jz_type_names.specs.declared.kinds.Kind.TheVariants as scope
use Rattle.jz_type_names.specs.Kinds as names
use Rattle.jz_type_names.specs.Kinds.{declared_of, known_of, kind_of, same_storage, same_kind, is_word_kind, is_word, whole_array, written_length}
use Rattle.jz_type_names.specs.Parts.{left_exprs, is_skip}
use Rattle.jz_type_names.proofs.Empty.{passed}
use Rattle.jz_type_sizes.specs.Calls.{same_length, agrees}
use Rattle.jz_type_storage.specs.Declarations.{may_keep, may_pass, may_return, is_passed, is_returned, unkept_by, unkept_param, unkept_ret}
use Rattle.jz_types.specs.Callees.{of_callee, entered_by, left_by}
use Rattle.jz_types.specs.Matching.{word_layer, is_word_value}
use Rattle.jz_judgement.specs.WellTyped.{InPairs, none, next, PassedAs, PassedBy, Passed, GivenAs, Given, Returned}
use Rattle.jz_judgement.proofs.Nothing.{none_not}
use Rattle.jz_types.specs.Carried.{vars_in}
use Rattle.jz_types.specs.Guarantees.{Enters, Leaves}
use Rattle.jz_run_laws.specs.Kinds.{sorts_of}
use Rattle.jz_run_laws.specs.DeclaredKinds.{kinds_of}
use Rattle.jz_meaning.specs.Shapes.{Sorts}
use Rattle.jz_row_laws.specs.Numbers.{IsFixed}
use Rattle.jz_row_laws.proofs.Fixed.{FixedLayer, fixed_out}
use Rattle.jz_row_laws.proofs.Copied.{copied_fixed, copied_place}
use Rattle.jz_row_laws.proofs.Assigned.{fine_class, left_fixed}
use Rattle.jz_texts.proofs.Lists.{parted}
use Rattle.jz_typed_runs.proofs.Declaring.{IsKept, var_layer}
use Rattle.jz_typed_runs.proofs.Inline.{whole}

-- ---- words that are copied
known_copy : (v : Var) → known_of (of_callee v) ≡ known_of v
known_copy v = ap (λ (y : Var-F Expr Ty Access Decl Var). option_map declared_of y.decl) (out-roll-Var (record (out-Var v) { copy = 1 }))

var_out : (v : Var) → out-Expr (expr.Var v) ≡ Expr-F.Var v
var_out v = ap out-Expr (sym (expr.rolls-Var v)) ∙ out-roll-Expr (Expr-F.Var v)

apart : (s : Storage) (z : Size) → may_keep s (scope.Word z) ≡ true → not (same_storage s storage.Inline) ≡ true
apart storage.Reg z h = refl
apart storage.Stack z h = refl
apart storage.Inline z h = absurd (false≢true h)

passed_apart : (s : Storage) (z : Size) → may_pass s (scope.Word z) ≡ true → not (same_storage s storage.Inline) ≡ true
passed_apart s z h = apart s z h

returned_apart : (s : Storage) (z : Size) → may_return s (scope.Word z) ≡ true → not (same_storage s storage.Inline) ≡ true
returned_apart storage.Reg z h = refl
returned_apart storage.Stack z h = refl
returned_apart storage.Inline z h = absurd (false≢true h)

pub no_truth_returned : (s : Storage) → may_return s scope.Truth ≡ true → ⊥
no_truth_returned storage.Reg h = false≢true h
no_truth_returned storage.Stack h = false≢true h
no_truth_returned storage.Inline h = false≢true h

pub no_int_returned : (s : Storage) → may_return s scope.Int ≡ true → ⊥
no_int_returned storage.Reg h = false≢true h
no_int_returned storage.Stack h = false≢true h
no_int_returned storage.Inline h = false≢true h

still_apart : (s t : Storage) → same_storage s t ≡ true → not (same_storage s storage.Inline) ≡ true → not (same_storage t storage.Inline) ≡ true
still_apart storage.Reg storage.Reg e h = refl
still_apart storage.Stack storage.Stack e h = refl
still_apart storage.Inline storage.Inline e h = absurd (false≢true h)
still_apart storage.Reg storage.Stack e h = absurd (false≢true e)
still_apart storage.Reg storage.Inline e h = absurd (false≢true e)
still_apart storage.Stack storage.Reg e h = absurd (false≢true e)
still_apart storage.Stack storage.Inline e h = absurd (false≢true e)
still_apart storage.Inline storage.Reg e h = absurd (false≢true e)
still_apart storage.Inline storage.Stack e h = absurd (false≢true e)

word_again : (z : Size) (k : known.Kind) → same_kind (scope.Word z) k ≡ true → is_word_kind k ≡ true
word_again z scope.Int h = absurd (false≢true h)
word_again z scope.Truth h = absurd (false≢true h)
word_again z (scope.Word y) h = refl
word_again z (scope.Array y) h = absurd (false≢true h)

and_so : (a b : Bool) → a ≡ true → b ≡ true → (a && b) ≡ true
and_so true b e f = f
and_so false b e f = e

is_a_word : (d : Decl) → not (same_storage d.storage storage.Inline) ≡ true → is_word_kind (kind_of d.ty) ≡ true → is_word (Some (declared_of d)) ≡ true
is_a_word d h k = and_so (not (same_storage d.storage storage.Inline)) (is_word_kind (kind_of d.ty)) h k

module _ (declared callee : List ℕ → Option Decl) where
  abbrev sorts : Sorts
  sorts = sorts_of (kinds_of declared)

  abbrev Fx : Expr → Type 0
  Fx e = IsFixed sorts e

  abbrev Kept : Var → Type 0
  Kept v = IsKept declared v

  -- ---- arguments
  array_fixed : (e : Expr) (v : Var) → names.array_of e ≡ Some v → Fx e
  array_fixed e v is = fixed_out sorts e (subst (FixedLayer sorts) (sym (var_layer declared (out-Expr e) v is)) refl)

  argument_by : (p : Param) (e : Expr) (d : Decl) (k : known.Kind) → known_of p.var ≡ Some (declared_of d) → kind_of d.ty ≡ k → may_pass d.storage k ≡ true → PassedAs k d e
      → Enters (entered_by p, e) → All Kept (vars_in e) → Fx e
  argument_by p e d scope.Int is k kept t row h = (whole declared t h).2
  argument_by p e d scope.Truth is k kept t row h = absurd (false≢true kept)
  argument_by p e d (scope.Word z) is k kept t row h =
      let r = row (ap is_word (known_copy p.var ∙ is) ∙ is_a_word d (passed_apart d.storage z kept) (ap is_word_kind k)) in
      copied_fixed sorts (entered_by p) e r.0 r.1
  argument_by p e d (scope.Array z) is k kept t row h = array_fixed e t.0 t.1

  argument_fixed : (p : Param) (e : Expr) (k : IsKept callee p.var) → unkept_param p ≡ [] → Passed p e → Enters (entered_by p, e) → All Kept (vars_in e) → Fx e
  argument_fixed p e k u t row h =
      let is = ap (option_map declared_of) k.some in
      let pass : is_passed (declared_of k.decl) ≡ true = passed (is_passed (declared_of k.decl)) (out-Var p.var).span (subst (λ o. unkept_by is_passed o (out-Var p.var).span ≡ []) is u) in
      argument_by p e k.decl (kind_of k.decl.ty) is refl pass (subst (λ o. PassedBy o e) k.some t) row h

  pub arguments_fixed : {ps : List Param} {es : List Expr} → InPairs Passed ps es → All (λ p. IsKept callee p.var) ps → All (λ p. unkept_param p ≡ []) ps
      → All Enters (zip (map entered_by ps) es) → All Kept (flat_map vars_in es) → All Fx es
  arguments_fixed none k u r h = All-nil Fx
  arguments_fixed (next {a = p} {b = e} {as' = ps} {bs = es} t ts) k u r h =
      let w = parted Kept (vars_in e) (flat_map vars_in es) h in
      All-cons Fx e es
      (argument_fixed p e (All-head (λ p. IsKept callee p.var) p ps k) (All-head (λ p. unkept_param p ≡ []) p ps u) t (All-head Enters (entered_by p, e) (zip (map entered_by ps) es) r) w.0)
      (arguments_fixed ts (All-tail (λ p. IsKept callee p.var) p ps k) (All-tail (λ p. unkept_param p ≡ []) p ps u) (All-tail Enters (entered_by p, e) (zip (map entered_by ps) es) r) w.1)

  -- ---- results
  returned_word : (r : Ret) (v : Var) (k : IsKept callee v) (z : Size) → kind_of r.decl.ty ≡ scope.Word z → may_return r.decl.storage (scope.Word z) ≡ true → Returned r v → is_word_value (left_by v) ≡ true
  returned_word r v k z e kept t =
      let same : (same_storage r.decl.storage k.decl.storage && (same_kind (kind_of r.decl.ty) (kind_of k.decl.ty) && same_length (written_length r.decl) (written_length k.decl))) ≡ true =
      subst (λ o. agrees r.decl o ≡ true) k.some t in
      let a = and_parts (same_storage r.decl.storage k.decl.storage) (same_kind (kind_of r.decl.ty) (kind_of k.decl.ty) && same_length (written_length r.decl) (written_length k.decl)) same in
      let b = and_parts (same_kind (kind_of r.decl.ty) (kind_of k.decl.ty)) (same_length (written_length r.decl) (written_length k.decl)) a.1 in
      let word = word_again z (kind_of k.decl.ty) (subst (λ x. same_kind x (kind_of k.decl.ty) ≡ true) e b.0) in
      ap word_layer (var_out (of_callee v)) ∙ ap is_word (known_copy v ∙ ap (option_map declared_of) k.some)
      ∙ is_a_word k.decl (still_apart r.decl.storage k.decl.storage a.0 (returned_apart r.decl.storage z kept)) word

  by_copy : (l : Lval) (v : Var) → is_skip l ≡ false → is_word_value (left_by v) ≡ true → Leaves (left_by v, l) → All Fx (left_exprs l)
  by_copy l v n w row = let r = row w n in left_fixed sorts l (fine_class _ (copied_place l (of_callee v) r.0 r.1))

  given_by : (r : Ret) (l : Lval) (v : Var) (q : IsKept callee v) (k : known.Kind) → kind_of r.decl.ty ≡ k → may_return r.decl.storage k ≡ true → GivenAs k r.decl l → Returned r v → Leaves (left_by v, l) → All Fx (left_exprs l)
  given_by r (lval.Skip at) v q k e kept t w row = All-nil Fx
  given_by r (lval.Var x) v q k e kept t w row = All-nil Fx
  given_by r l v q scope.Int e kept t w row = absurd (no_int_returned r.decl.storage kept)
  given_by r l v q scope.Truth e kept t w row = absurd (no_truth_returned r.decl.storage kept)
  given_by r (lval.Cell x i) v q (scope.Word z) e kept t w row = by_copy (lval.Cell x i) v refl (returned_word r v q z e kept w) row
  given_by r (lval.Store a) v q (scope.Word z) e kept t w row = by_copy (lval.Store a) v refl (returned_word r v q z e kept w) row
  given_by r (lval.Cell x i) v q (scope.Array z) e kept (inl t) w row = absurd t
  given_by r (lval.Cell x i) v q (scope.Array z) e kept (inr t) w row = absurd (none_not t.0 t.1)
  given_by r (lval.Store a) v q (scope.Array z) e kept (inl t) w row = absurd t
  given_by r (lval.Store a) v q (scope.Array z) e kept (inr t) w row = absurd (none_not t.0 t.1)

  pub results_fixed : (at : Span) {rs : List Ret} {ls : List Lval} {vs : List Var} → InPairs Given rs ls → InPairs Returned rs vs → All (IsKept callee) vs → All (λ r. unkept_ret at r ≡ []) rs
      → All Leaves (zip (map left_by vs) ls) → All Fx (flat_map left_exprs ls)
  results_fixed at none none k u r = All-nil Fx
  results_fixed at (next {a = x} {b = l} {as' = xs} {bs = ls} t ts) (next {b = v} {bs = vs} w ws) k u r =
      let kept : may_return x.decl.storage (kind_of x.decl.ty) ≡ true = passed (is_returned (declared_of x.decl)) at (All-head (λ r. unkept_ret at r ≡ []) x xs u) in
      All-append Fx (left_exprs l) (flat_map left_exprs ls)
      (given_by x l v (All-head (IsKept callee) v vs k) (kind_of x.decl.ty) refl kept t w (All-head Leaves (left_by v, l) (zip (map left_by vs) ls) r))
      (results_fixed at ts ws (All-tail (IsKept callee) v vs k) (All-tail (λ r. unkept_ret at r ≡ []) x xs u) (All-tail Leaves (left_by v, l) (zip (map left_by vs) ls) r))
