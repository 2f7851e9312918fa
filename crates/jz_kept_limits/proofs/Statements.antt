-- Statements stay within the limits.
use Rattle.std.proofs.Common.{◌≡◌, Bool, true, false, List, [], ◌∷◌, Option, Some, None, refl, sym, ap, ◌∙◌, subst, if◌then◌else◌}
use Rattle.std.specs.Prelude.{not, map, option_map}
use Rattle.std.specs.List.{list_all}
use Rattle.std.proofs.lemmas.Bool.{and_parts}
use Rattle.jz_tree.specs.declared.expr.Access.{Access}
use Rattle.jz_tree.specs.declared.expr.Decl.{Decl}
use Rattle.jz_tree.specs.declared.expr.Ty.{Ty}
use Rattle.jz_tree.specs.declared.expr.Expr.{Expr}
use Rattle.jz_tree.specs.declared.expr.Expr.TheOpen.{Access-F}
use Rattle.jz_tree.specs.declared.expr.Expr.TheViews.{out-Var, out-Access}
use Rattle.jz_tree.specs.declared.expr.Var.{Var}
use Rattle.jz_tree.specs.declared.stmt.Lval.{Lval}
use Rattle.jz_tree.specs.declared.stmt.Lval.TheVariants as lval
use Rattle.jz_integers.specs.Integers.{KnownNumbers}
use Rattle.jz_meaning.specs.Statements.{Operation, assign, instruction, unset, meaningless}
use Rattle.jz_meaning.specs.Values.{ref_of}
use Rattle.jz_unroll.specs.Values.{with_values, access_with_values, left_with_values, operation_with_values, InlineNames, is_inline_var, has_values, left_has_values, if_has_values, operation_has_values}
use Rattle.jz_unroll.specs.Unrolling.{KnowsLess}
use Rattle.jz_unroll.specs.ValueLaws.{KnowsInline}
use Rattle.jz_unroll.proofs.Parts.{not_true}
use Rattle.jz_arrays.specs.Cells.{size_at, cell_in, with_scalars, access_with_scalars, left_with_scalars}
use Rattle.jz_kept_types.specs.Operations.{operation_with_scalars}
use Rattle.jz_one_unrolling.proofs.Valuing.{values_grow, operation_grows}
use Rattle.jz_limits.specs.declared.looked.Asking.{Asking}
use Rattle.jz_limits.specs.declared.operands.Role.TheVariants as role
use Rattle.jz_limits.specs.Values.{no_numbers, is_int, only_int}
use Rattle.jz_limits.specs.Asked.{asked_as, asked, asked_condition}
use Rattle.jz_limits.specs.InnerLooked.{look_of}
use Rattle.jz_kept_limits.specs.Passing.{Passes}
use Rattle.jz_kept_limits.specs.Laws.{OperationsStayWithin, ConditionsStayWithin}
use Rattle.jz_kept_limits.proofs.Passed.{passes_then}
use Rattle.jz_kept_limits.proofs.ValuedParts.{IsValued, unknown, valued, access_valued}
use Rattle.jz_kept_limits.proofs.SizeLemmas.{values_access_out, scalars_access_out, values_access_size, scalars_access_size, values_own, scalars_own}
use Rattle.jz_kept_limits.proofs.Kept.{kept}
use Rattle.jz_kept_limits.proofs.Scalars.{scalars_pass}
use Rattle.jz_kept_limits.proofs.Compared.{values_compared, scalars_compared}
use Rattle.jz_kept_limits.proofs.Firsts.{clean_from, clean_to}
use Rattle.jz_kept_limits.proofs.Turned.{Turned, role_clean, LeftTurned, InStep}
use Rattle.jz_kept_limits.proofs.Lefts.{alike_itself, chosen_left, store_left}
use Rattle.jz_kept_limits.proofs.Operations.{IfTurned, assignment_within, instruction_within}

-- the variable that is set
int_is : (b : Bool) (w v : Var) → (if b then Some w else None) ≡ Some v → w ≡ v
int_is true w v q = cc
int_is false w v q = absurd cc

module _ (names : InlineNames) (k e : KnownNumbers) (less : KnowsLess k e) (only : KnowsInline names e) where
  -- with the numbers of the limits in place of those of the unrolling
  abbrev T : Expr → Expr
  T x = with_scalars (with_values e x)

  abbrev L : Lval → Lval
  L d = left_with_scalars (left_with_values e d)

  passes : (x : Expr) → IsValued e x → (q : Asking) → Passes (look_of e q x) (look_of no_numbers q (T x))
  passes x h q = passes_then (look_of e q x) (look_of no_numbers q (with_values e x)) (look_of no_numbers q (T x)) (kept e x h q) (scalars_pass (with_values e x) q)

  turned_by : (x : Expr) → IsValued e x → Turned e no_numbers x (T x)
  turned_by x h = record {
    passes = passes x h;
    own = scalars_own (with_values e x) ∙ values_own e x h;
    compared = λ n. scalars_compared (with_values e x) ∙ values_compared e x h n;
  }

  turned : (x : Expr) → has_values names k x ≡ true → Turned e no_numbers x (T x)
  turned x h = turned_by x (valued names k e less only x h)

  -- ---- left sides
  plain_left : (v : Var) → is_inline_var names v ≡ false → (w : Var) → only_int (lval.Var v) ≡ Some w → e (out-Var w).name (out-Var w).copy ≡ None
  plain_left v out w q = subst (λ u. e (out-Var u).name (out-Var u).copy ≡ None) (int_is (is_int (ref_of v).kind) v w q) (unknown names e only v out)

  left_turned : (d : Lval) → left_has_values names k d ≡ true → LeftTurned e no_numbers d (L d)
  left_turned (lval.Skip at) h = record { parts = λ c. c; size = refl; register = λ g. g; int = refl; unknown = λ w q. absurd cc }
  left_turned (lval.Var v) h =
      record { parts = λ c. c; size = refl; register = λ g. g; int = refl; unknown = plain_left v (not_true (is_inline_var names v) (and_parts (not (is_inline_var names v)) _ h).0) }
  left_turned (lval.Cell v i) h =
      chosen_left e no_numbers v v i (with_values e i) (alike_itself v) (passes i (valued names k e less only i (and_parts (not (is_inline_var names v)) _ h).1)) (size_at v) (cell_in v (with_values e i)) refl refl
  left_turned (lval.Store a) h =
      let m = access_with_values e a in
      store_left e no_numbers a (access_with_scalars m) (T (out-Access a).at)
      (ap (λ (x : Access-F Expr Ty Access Decl Var). x.span) (scalars_access_out m) ∙ ap (λ (x : Access-F Expr Ty Access Decl Var). x.span) (values_access_out e a))
      (ap (λ (x : Access-F Expr Ty Access Decl Var). x.at) (scalars_access_out m) ∙ ap (λ (x : Access-F Expr Ty Access Decl Var). with_scalars x.at) (values_access_out e a))
      (scalars_access_size m ∙ values_access_size e a) (passes (out-Access a).at (access_valued names k e less only a h))

  -- ---- lists
  lefts_turned : (ds : List Lval) → list_all (left_has_values names k) ds ≡ true → InStep (LeftTurned e no_numbers) ds (map left_with_scalars (map (left_with_values e) ds))
  lefts_turned [] h = tt
  lefts_turned (d ∷ ds) h = let p = and_parts (left_has_values names k d) _ h in (left_turned d p.0, lefts_turned ds p.1)

  all_turned : (xs : List Expr) → list_all (has_values names k) xs ≡ true → InStep (Turned e no_numbers) xs (map with_scalars (map (with_values e) xs))
  all_turned [] h = tt
  all_turned (x ∷ xs) h = let p = and_parts (has_values names k x) _ h in (turned x p.0, all_turned xs p.1)

  -- ---- operations
  condition_turned : (c : Option Expr) → if_has_values names k c ≡ true → IfTurned e no_numbers c (option_map with_scalars (option_map (with_values e) c))
  condition_turned None h = tt
  condition_turned (Some x) h = turned x h

  operation_within : (o : Operation) → operation_has_values names k o ≡ true → asked e o ≡ [] → asked no_numbers (operation_with_scalars (operation_with_values e o)) ≡ []
  operation_within (assign to o x c at) h p =
      let a = and_parts (list_all (left_has_values names k) to) _ h in
      let b = and_parts (has_values names k x) _ a.1 in
      let d = and_parts (if_has_values names k c) _ b.1 in
      assignment_within e no_numbers to (map left_with_scalars (map (left_with_values e) to)) (lefts_turned to a.0) x (T x) (turned x b.0) c (option_map with_scalars (option_map (with_values e) c))
      (condition_turned c d.0) o at at p
  operation_within (instruction to n xs at) h p =
      let a = and_parts (list_all (left_has_values names k) to) _ h in
      instruction_within e no_numbers to (map left_with_scalars (map (left_with_values e) to)) (lefts_turned to a.0) xs (map with_scalars (map (with_values e) xs)) (all_turned xs a.1) n at at p
  operation_within (unset vs) h p = refl
  operation_within (meaningless at) h p = refl

  test_within : (c : Expr) → has_values names k c ≡ true → asked_condition e c ≡ [] → asked_condition no_numbers (T c) ≡ []
  test_within c h p = clean_to (asked_as no_numbers role.Test None (T c)) (role_clean e no_numbers role.Test None c (T c) (turned c h) (clean_from (asked_as e role.Test None c) p))

pub operations : OperationsStayWithin
operations names k e o less only h p =
    subst (λ q. asked no_numbers (operation_with_scalars q) ≡ []) (sym (operation_grows names k e less o h)) (operation_within names k e less only o h p)

pub conditions : ConditionsStayWithin
conditions names k e c less only h p =
    subst (λ x. asked_condition no_numbers (with_scalars x) ≡ []) (sym (values_grow names k e less c h)) (test_within names k e less only c h p)
