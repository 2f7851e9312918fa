-- An operation of a body that passes no limit passes none where a copy of it is unrolled.
use Rattle.std.proofs.Common.{◌≡◌, ℕ, List, [], ◌∷◌, map, Option, Some, None, true, false, refl, ap, sym, ◌∙◌, subst}
use Rattle.std.specs.Prelude.{not, option_map, if◌then◌else◌}
use Rattle.std.specs.List.{list_all}
use Rattle.std.proofs.lemmas.Bool.{and_parts}
use Rattle.jz_tree.specs.declared.expr.Access.{Access}
use Rattle.jz_tree.specs.declared.expr.Decl.{Decl}
use Rattle.jz_tree.specs.declared.expr.Ty.{Ty}
use Rattle.jz_tree.specs.declared.expr.Expr.{Expr}
use Rattle.jz_tree.specs.declared.expr.Expr.TheOpen.{Access-F}
use Rattle.jz_tree.specs.declared.expr.Expr.TheViews.{out-Access, roll-out-Access}
use Rattle.jz_tree.specs.declared.expr.Var.{Var}
use Rattle.jz_tree.specs.declared.stmt.Lval.{Lval}
use Rattle.jz_tree.specs.declared.stmt.Lval.TheVariants as lval
use Rattle.jz_type_names.specs.Kinds.{is_register_word}
use Rattle.jz_integers.specs.Integers.{KnownNumbers}
use Rattle.jz_meaning.specs.Statements.{Operation, assign, instruction, unset, meaningless}
use Rattle.jz_meaning.specs.Values.{size_of, ref_of}
use Rattle.jz_inline.specs.Names.{Names, var_in, expr_in, access_in, lval_in, op_in}
use Rattle.jz_inline.proofs.Reading.{access_over_is}
use Rattle.jz_unroll.specs.Values.{with_values, access_with_values, left_with_values, operation_with_values, InlineNames, is_inline_var, has_values, access_has_values, left_has_values, if_has_values, operation_has_values}
use Rattle.jz_unroll.proofs.Parts.{not_true}
use Rattle.jz_unroll.proofs.Valued.{access_known_is}
use Rattle.jz_one_unrolling.proofs.Valuing.{values_grow}
use Rattle.jz_arrays.specs.Cells.{size_at, cell_in, with_scalars, access_with_scalars, left_with_scalars}
use Rattle.jz_kept_types.specs.Operations.{operation_with_scalars}
use Rattle.jz_limits.specs.declared.operands.Role.TheVariants as role
use Rattle.jz_limits.specs.Values.{no_numbers, is_int, only_int}
use Rattle.jz_limits.specs.Asked.{asked_as, asked, asked_condition}
use Rattle.jz_limits.specs.InnerLooked.{look_of}
use Rattle.jz_unrolling_laws.specs.AskedLaws.{of_text, any_array, is_text, is_access_text}
use Rattle.jz_unrolling_laws.specs.CalledBodies.{Inlines, in_source, IsTextIf, AreTexts, IsNamedLeft, AreNamedLefts, IsNamedOp}
use Rattle.jz_copied_values.proofs.CopiedOperations.{var_named, values_copied}
use Rattle.jz_kept_limits.proofs.Passed.{passes_then}
use Rattle.jz_kept_limits.proofs.ValuedParts.{valued}
use Rattle.jz_kept_limits.proofs.SizeLemmas.{values_access_out, scalars_access_out, values_access_size, scalars_access_size, values_own, scalars_own}
use Rattle.jz_kept_limits.proofs.Kept.{kept}
use Rattle.jz_kept_limits.proofs.Scalars.{scalars_pass}
use Rattle.jz_kept_limits.proofs.Compared.{values_compared, scalars_compared}
use Rattle.jz_kept_limits.proofs.Firsts.{clean_from, clean_to}
use Rattle.jz_kept_limits.proofs.Turned.{Turned, role_clean, LeftTurned, InStep}
use Rattle.jz_kept_limits.proofs.Lefts.{chosen_left, store_left}
use Rattle.jz_kept_limits.proofs.Operations.{IfTurned, assignment_within, instruction_within}
use Rattle.jz_expanded_limits.proofs.CopiedLooks.{alike_in, access_out, access_size, copied}
use Rattle.jz_expanded_limits.proofs.CopiedConstants.{pulled, values_commute}
use Rattle.jz_expanded_limits.proofs.Known.{only_inline, Knows, pulled_less}

none_some : (v : Var) → None ≡ Some v → ⊥
none_some v q = absurd cc

pub no_int : (v : Var) → is_int (ref_of v).kind ≡ false → only_int (lval.Var v) ≡ None
no_int v h = ap (λ b. if b then Some v else None) h

pub variable_left : (m : Names) (e : KnownNumbers) (v : Var) → is_int (ref_of v).kind ≡ false → LeftTurned e no_numbers (lval.Var v) (lval.Var (var_in m v))
variable_left m e v out =
    let a = alike_in m v in
    record {
      parts = λ c. c;
      size = ap size_of a.kind;
      register = λ r. ap is_register_word a.known ∙ r;
      int = no_int (var_in m v) (ap is_int a.kind ∙ out) ∙ sym (no_int v out);
      unknown = λ w q. absurd (none_some w (sym (no_int v out) ∙ q));
    }

module _ (names : InlineNames) (i : Inlines) (m : Names) (named : (n : List ℕ) → names (m n).0 (m n).1 ≡ i n) (e k : KnownNumbers) (h : Knows names i m e k) where
  -- what stands in the copy
  abbrev pub U : Expr → Expr
  U x = with_scalars (with_values k (expr_in m x))

  abbrev pub L : Lval → Lval
  L d = left_with_scalars (left_with_values k (lval_in m d))

  pub part_turned : (x : Expr) → is_text x ≡ true → has_values names k (expr_in m x) ≡ true → Turned e no_numbers x (U x)
  part_turned x t ok =
      let own : has_values (in_source i) (pulled m k) x ≡ true = sym (values_copied names i m named (pulled m k) k (λ n. refl) x t) ∙ ok in
      let less = pulled_less names i m e k h in
      let only = only_inline (in_source i) e h.inline in
      let v = valued (in_source i) (pulled m k) e less only x own in
      let y = with_values e x in
      let same : with_values k (expr_in m x) ≡ expr_in m (with_values e x) = values_commute m k x t ∙ ap (expr_in m) (values_grow (in_source i) (pulled m k) e less x own) in
      subst (λ w. Turned e no_numbers x (with_scalars w)) (sym same) (record {
        passes = λ q.
            passes_then (look_of e q x) (look_of no_numbers q y) (look_of no_numbers q (with_scalars (expr_in m y))) (kept e x v q)
            (passes_then (look_of no_numbers q y) (look_of no_numbers q (expr_in m y)) (look_of no_numbers q (with_scalars (expr_in m y))) ((copied m y).passes q) (scalars_pass (expr_in m y) q));
        own = scalars_own (expr_in m y) ∙ (copied m y).own ∙ values_own e x v;
        compared = λ n. scalars_compared (expr_in m y) ∙ (copied m y).compared ∙ values_compared e x v n;
      })

  -- ---- left sides
  access_text : (a : Access) → is_access_text a ≡ true → is_text (out-Access a).at ≡ true
  access_text a t = sym (access_over_is of_text any_array (out-Access a)) ∙ ap is_access_text (roll-out-Access a) ∙ t

  access_known : (a : Access) → access_has_values names k (access_in m a) ≡ true → has_values names k (expr_in m (out-Access a).at) ≡ true
  access_known a ok =
      let b = access_in m a in
      ap (λ (x : Access-F Expr Ty Access Decl Var). has_values names k x.at) (sym (access_out m a))
      ∙ sym (access_known_is names k (out-Access b)) ∙ ap (access_has_values names k) (roll-out-Access b) ∙ ok

  pub left_turned : (d : Lval) → IsNamedLeft i d → left_has_values names k (lval_in m d) ≡ true → LeftTurned e no_numbers d (L d)
  left_turned (lval.Skip at) n ok = record { parts = λ c. c; size = refl; register = λ r. r; int = refl; unknown = λ w q. absurd (none_some w q) }
  left_turned (lval.Var v) n ok =
      variable_left m e v (n.2 ∙ sym (var_named names i m named v) ∙ not_true (is_inline_var names (var_in m v)) (and_parts (not (is_inline_var names (var_in m v))) _ ok).0)
  left_turned (lval.Cell v x) n ok =
      let w = var_in m v in
      let y = with_values k (expr_in m x) in
      chosen_left e no_numbers v w x y (alike_in m v) (part_turned x n (and_parts (not (is_inline_var names w)) _ ok).1).passes (size_at w) (cell_in w y) refl refl
  left_turned (lval.Store a) n ok =
      let b = access_in m a in
      let c = access_with_values k b in
      store_left e no_numbers a (access_with_scalars c) (U (out-Access a).at)
      (ap (λ (x : Access-F Expr Ty Access Decl Var). x.span) (scalars_access_out c) ∙ ap (λ (x : Access-F Expr Ty Access Decl Var). x.span) (values_access_out k b)
      ∙ ap (λ (x : Access-F Expr Ty Access Decl Var). x.span) (access_out m a))
      (ap (λ (x : Access-F Expr Ty Access Decl Var). x.at) (scalars_access_out c) ∙ ap (λ (x : Access-F Expr Ty Access Decl Var). with_scalars x.at) (values_access_out k b)
      ∙ ap (λ (x : Access-F Expr Ty Access Decl Var). with_scalars (with_values k x.at)) (access_out m a))
      (scalars_access_size c ∙ values_access_size k b ∙ access_size m a) (part_turned (out-Access a).at (access_text a n) (access_known a ok)).passes

  lefts_turned : (ds : List Lval) → AreNamedLefts i ds → list_all (left_has_values names k) (map (lval_in m) ds) ≡ true
      → InStep (LeftTurned e no_numbers) ds (map left_with_scalars (map (left_with_values k) (map (lval_in m) ds)))
  lefts_turned [] n ok = tt
  lefts_turned (d ∷ ds) n ok = let p = and_parts (left_has_values names k (lval_in m d)) _ ok in (left_turned d n.0 p.0, lefts_turned ds n.1 p.1)

  parts_turned : (xs : List Expr) → AreTexts xs → list_all (has_values names k) (map (expr_in m) xs) ≡ true → InStep (Turned e no_numbers) xs (map with_scalars (map (with_values k) (map (expr_in m) xs)))
  parts_turned [] n ok = tt
  parts_turned (x ∷ xs) n ok = let p = and_parts (has_values names k (expr_in m x)) _ ok in (part_turned x n.0 p.0, parts_turned xs n.1 p.1)

  condition_turned : (c : Option Expr) → IsTextIf c → if_has_values names k (option_map (expr_in m) c) ≡ true → IfTurned e no_numbers c (option_map with_scalars (option_map (with_values k) (option_map (expr_in m) c)))
  condition_turned None n ok = tt
  condition_turned (Some x) n ok = part_turned x n ok

  -- ---- operations and tests
  pub operation_within : (o : Operation) → IsNamedOp i o → operation_has_values names k (op_in m o) ≡ true → asked e o ≡ [] → asked no_numbers (operation_with_scalars (operation_with_values k (op_in m o))) ≡ []
  operation_within (assign to o x c at) n ok p =
      let a = and_parts (list_all (left_has_values names k) (map (lval_in m) to)) _ ok in
      let b = and_parts (has_values names k (expr_in m x)) _ a.1 in
      let d = and_parts (if_has_values names k (option_map (expr_in m) c)) _ b.1 in
      assignment_within e no_numbers to (map left_with_scalars (map (left_with_values k) (map (lval_in m) to))) (lefts_turned to n.0 a.0) x (U x) (part_turned x n.1 b.0)
      c (option_map with_scalars (option_map (with_values k) (option_map (expr_in m) c))) (condition_turned c n.2 d.0) o at at p
  operation_within (instruction to s xs at) n ok p =
      let a = and_parts (list_all (left_has_values names k) (map (lval_in m) to)) _ ok in
      instruction_within e no_numbers to (map left_with_scalars (map (left_with_values k) (map (lval_in m) to))) (lefts_turned to n.0 a.0) xs (map with_scalars (map (with_values k) (map (expr_in m) xs)))
      (parts_turned xs n.1 a.1) s at at p
  operation_within (unset vs) n ok p = absurd n
  operation_within (meaningless at) n ok p = absurd n

  pub test_within : (c : Expr) → is_text c ≡ true → has_values names k (expr_in m c) ≡ true → asked_condition e c ≡ [] → asked_condition no_numbers (U c) ≡ []
  test_within c t ok p = clean_to (asked_as no_numbers role.Test None (U c)) (role_clean e no_numbers role.Test None c (U c) (part_turned c t ok) (clean_from (asked_as e role.Test None c) p))
