-- The copies of arguments and results of a call, where they are unrolled.
use Rattle.std.proofs.Common.{◌≡◌, ℕ, ◌+◌, ◌<◌, ◌≤◌, length, List, [], ◌∷◌, Option, Some, None, Bool, true, false, refl, ap, sym, ◌∙◌, subst, arith, bytes_eq}
use Rattle.std.specs.Prelude.{ℤ, ◌==◌, ◌&&◌, not, is_none, if◌then◌else◌}
use Rattle.std.specs.List.{list_all}
use Rattle.std.proofs.lemmas.Bool.{and_parts, true≢false}
use Rattle.std.specs.Option.{option_or}
use Rattle.jz_tree.specs.Size.{Size}
use Rattle.jz_tree.specs.Span.{Span}
use Rattle.jz_tree.specs.declared.expr.Expr.{Expr}
use Rattle.jz_tree.specs.declared.expr.Expr.TheVariants as expr
use Rattle.jz_tree.specs.declared.expr.Var.{Var}
use Rattle.jz_tree.specs.declared.expr.Expr.TheOpen.{Expr-F}
use Rattle.jz_tree.specs.declared.expr.Expr.TheViews.{out-Var}
use Rattle.jz_tree.specs.declared.stmt.Lval.{Lval}
use Rattle.jz_tree.specs.declared.stmt.Lval.TheVariants as lval
use Rattle.jz_tree.specs.declared.program.Param.{Param}
use Rattle.jz_integers.specs.Integers.{KnownNumbers, inline_value, number, the_number}
use Rattle.jz_integers.specs.declared.constant.Constant.TheVariants as constant
use Rattle.jz_type_names.specs.Kinds.{is_inline}
use Rattle.jz_runs.specs.Trees.{op}
use Rattle.jz_meaning.specs.Assignments.{left_sizes}
use Rattle.jz_meaning.specs.Statements.{Operation, assign, Block}
use Rattle.jz_meaning.specs.Values.{Ref, ref_of, own_size}
use Rattle.jz_change.specs.Changes.{Change}
use Rattle.jz_pass.specs.Operations.{in_turn}
use Rattle.jz_pass.specs.Unrolling.{Unrolls, u_op}
use Rattle.jz_bodies.specs.Calls.{is_array}
use Rattle.jz_inline.specs.Names.{Names, var_in, expr_in, lval_in}
use Rattle.jz_inline.specs.Calls.{set_one, argument_ops, result_op, result_ops}
use Rattle.jz_inline.proofs.Reading.{ref_so}
use Rattle.jz_inline.proofs.Renaming.{in_var}
use Rattle.jz_limits.specs.Values.{no_numbers, is_int, only_int, number_in}
use Rattle.jz_limits.specs.declared.operands.Role.TheVariants as role
use Rattle.jz_limits.specs.Asked.{in_kinds, beside, left_access, asked_as, asked_if, left_parts, value_as, value_parts, is_free, to_register, assigned_parts, asked}
use Rattle.jz_limits.specs.InnerLooked.{Seen, seen_as, no_part}
use Rattle.jz_limits.specs.Walks.{copied_to, one_argument, argument_limits, one_result, result_limits, with_argument, with_arguments}
use Rattle.jz_limits.proofs.Layers.{look_var}
use Rattle.jz_unroll.specs.Values.{with_values, left_with_values, operation_with_values, InlineNames, is_inline_var, has_values, left_has_values, operation_has_values}
use Rattle.jz_unroll.specs.Unrolling.{with_number, stays, vanishes, unrolling}
use Rattle.jz_unroll.proofs.InlineParts.{inline_var}
use Rattle.jz_unroll.proofs.Parts.{values_var}
use Rattle.jz_arrays.specs.Cells.{with_scalars, left_with_scalars}
use Rattle.jz_arrays.proofs.Reading.{in_is}
use Rattle.jz_unrolling_laws.specs.AskedLaws.{of_text, is_text}
use Rattle.jz_unrolling_laws.specs.CalledBodies.{in_source, Inlines, IsNamedVar, IsNamedLeft, IsNamedArgument, AreNamedArguments, IsPlainLeft, AreNamedResults}
use Rattle.jz_unrolling_laws.proofs.CopiedValues.{copied_inline}
use Rattle.jz_copied_values.proofs.CopiedOperations.{var_named}
use Rattle.jz_copied_values.proofs.CopiedNumbers.{copy_itself, text_copy, number_elsewhere, set_only, IsCopy, own_place, not_behind, own_copy}
use Rattle.jz_copied_values.proofs.CalledNames.{by_not}
use Rattle.jz_copied_values.proofs.CalledNumbers.{param_int, array_no_int}
use Rattle.jz_expansion.proofs.Ones.{nothing_both}
use Rattle.jz_kept_limits.proofs.Firsts.{AreClean, clean_none, clean_from, clean_to, clean_parts, clean_both, clean_without}
use Rattle.jz_kept_limits.proofs.Turned.{asking}
use Rattle.jz_kept_limits.proofs.Operations.{assignment_within}
use Rattle.jz_expanded_limits.proofs.Known.{KnowsOnly, Knows, value_back}
use Rattle.jz_expanded_limits.proofs.CopiedParts.{no_int, part_turned, variable_left, left_turned}
use Rattle.jz_meaning.specs.Lengths.{statements_in}
use Rattle.jz_expanded_limits.proofs.Costs.{at_most, one_more}
use Rattle.jz_expanded_limits.proofs.CopiedSets.{Good}

not_both : (t : Bool) → t ≡ true → not t ≡ true → ⊥
not_both true p q = absurd cc
not_both false p q = absurd cc

same_number : (a b : ℤ) → Some (constant.Int a) ≡ Some (constant.Int b) → a ≡ b
same_number a b q = cc

same_expr : (x y : Expr) → Some x ≡ Some y → x ≡ y
same_expr x y q = cc

-- ---- a variable that is read
variable_clean : (w : Var) (z : Option Size) → is_inline (expr.Var w) ≡ false → AreClean (asked_as no_numbers role.Operand z (expr.Var w))
variable_clean w z plain =
    let q = asking z in
    let seen = look_var no_numbers q w ∙ ap (λ b. seen_as b (number None) (out-Var w).span q no_part) (sym (inline_var w) ∙ plain) in
    record { width = ap (λ (s : Seen). s.width) seen; range = ap (λ (s : Seen). s.range) seen; field = ap (λ (s : Seen). s.operand) seen }

free_clean : (b : Bool) (w : Var) (z : Option Size) → is_inline (expr.Var w) ≡ false → AreClean (value_as no_numbers b role.Operand z (expr.Var w))
free_clean true w z plain = clean_without (asked_as no_numbers role.Operand z (expr.Var w)) (variable_clean w z plain)
free_clean false w z plain = variable_clean w z plain

variable_stays : (k : KnownNumbers) (w : Var) → is_inline (expr.Var w) ≡ false → with_scalars (with_values k (expr.Var w)) ≡ expr.Var w
variable_stays k w plain = ap with_scalars (values_var k w plain ∙ sym (expr.rolls-Var w)) ∙ in_is (Expr-F.Var w) ∙ expr.rolls-Var w

-- ---- the numbers with which a callee begins
argument_none : (i j : Inlines) (e g : KnownNumbers) (p : Var) (x : Expr) → IsNamedArgument i j p x → KnowsOnly (in_source j) g → KnowsOnly (in_source j) (with_argument e p x g)
argument_none i j e g p x named only = by_int (is_int (ref_of p).kind) refl
  where
    by_int : (b : Bool) → is_int (ref_of p).kind ≡ b → KnowsOnly (in_source j) (if b then with_number g p (number_in e x) else g)
    by_int true q = set_only p g (number_in e x) (in_source j) (sym (param_int i j p x named) ∙ q) only
    by_int false q = only

pub arguments_none : (i j : Inlines) (e g : KnownNumbers) (ps : List Param) (xs : List Expr) → AreNamedArguments i j ps xs → KnowsOnly (in_source j) g → KnowsOnly (in_source j) (with_arguments e ps xs g)
arguments_none i j e g [] [] named only = only
arguments_none i j e g [] (x ∷ xs) named only = absurd named
arguments_none i j e g (p ∷ ps) [] named only = absurd named
arguments_none i j e g (p ∷ ps) (x ∷ xs) named only = arguments_none i j e (with_argument e p.var x g) ps xs named.1 (argument_none i j e g p.var x named.0 only)

-- a call in a copy of i, whose callee has the inline variables j; place: that of the limits
module _ (names : InlineNames) (i j : Inlines) (m inner : Names) (c0 c : ℕ) (copy : IsCopy names i m c0) (below : IsCopy names j inner c) (up : c0 < c) (e : KnownNumbers) (place at : Span)
    (Post : KnownNumbers → Type 0) (R : Block) (last : KnownNumbers) where
  -- what is true behind, and what follows is within the limits where the end is, with n statements
  -- more at most
  abbrev Leads : ℕ → Block → Type 0
  Leads n u = Post last × (Good R → Good u) × (statements_in u ≤ n + statements_in R)

  loosen : (n l : ℕ) (u : Block) → n ≤ l → Leads n u → Leads l u
  loosen n l u h r = (r.0, r.1, at_most (statements_in u) n l (statements_in R) r.2 h)

  abbrev Made : Block → KnownNumbers → Block → Change → Type 0
  Made t k u h = Unrolls (unrolling names) t k R u last h

  abbrev Next : ℕ → Block → KnownNumbers → Type 0
  Next n t k = (u : Block) (h : Change) → Made t k u h → Leads n u

  -- a variable of the callee's copy is set
  later_knows : (v : Var) (k : KnownNumbers) (y : Option ℤ) → j (ref_of v).name ≡ true → Knows names i m e k → Knows names i m e (with_number k (var_in inner v) y)
  later_knows v k y inline h = record {
    less = λ n z q. h.less n z
        (sym (number_elsewhere (var_in inner v) k y (m n).0 (m n).1 (λ same. (let own = own_copy names j inner c below v inline in let lt = not_behind names i m c0 copy n c up in omega (arith, own, same, lt)))) ∙ q);
    only = set_only (var_in inner v) k y names (var_named names j inner below.named v ∙ inline) h.only;
    inline = h.inline;
  }

  -- ---- arguments
  abbrev argument : Param → Expr → Operation
  argument p x = set_one (lval.Var (var_in inner p.var)) (expr_in m x) at

  number_set : (k g : KnownNumbers) (p : Param) (x : Expr) (z : ℤ) → of_text (ref_of p.var) ≡ true → j (ref_of p.var).name ≡ true → is_int (ref_of p.var).kind ≡ true → inline_value e x ≡ Some (constant.Int z)
      → ((n : List ℕ) → k n c ≡ g n 0) → (n : List ℕ) → with_number k (var_in inner p.var) (Some z) n c ≡ with_argument e p.var x g n 0
  number_set k g p x z text inline int value known n =
      let own = own_place names j inner c below (ref_of p.var).name inline in
      let name : (ref_of (var_in inner p.var)).name ≡ (ref_of p.var).name = ap (λ (r : Ref). r.name) (ref_so inner p.var) ∙ ap (λ q. q.0) own in
      ap (λ w. if bytes_eq w n && (ref_of (var_in inner p.var)).copy == c then Some z else k n c) name
      ∙ ap (λ w. if bytes_eq (ref_of p.var).name n && w then Some z else k n c) (ap (λ a. a == c) (own_copy names j inner c below p.var inline) ∙ copy_itself c ∙ sym (text_copy (ref_of p.var) text))
      ∙ ap (λ w. if bytes_eq (ref_of p.var).name n && (ref_of p.var).copy == 0 then w else k n c) (sym (ap the_number value))
      ∙ ap (λ w. if bytes_eq (ref_of p.var).name n && (ref_of p.var).copy == 0 then number_in e x else w) (known n)
      ∙ sym (ap (λ b. (if b then with_number g p.var (number_in e x) else g) n 0) int)

  unset_so : (k g : KnownNumbers) (p : Param) (x : Expr) → is_int (ref_of p.var).kind ≡ false → ((n : List ℕ) → k n c ≡ g n 0) → (n : List ℕ) → k n c ≡ with_argument e p.var x g n 0
  unset_so k g p x q known n = known n ∙ sym (ap (λ b. (if b then with_number g p.var (number_in e x) else g) n 0) q)

  -- behind the first argument
  abbrev After : ℕ → Param → Expr → KnownNumbers → KnownNumbers → Block → Type 0
  After l p x g k t = (k2 : KnownNumbers) → Knows names i m e k2 → ((n : List ℕ) → k2 n c ≡ with_argument e p.var x g n 0) → ((n : List ℕ) (a : ℕ) → a < c → k2 n a ≡ k n a) → Next l t k2

  value_leads : (p : Param) (x : Expr) (k : KnownNumbers) → IsNamedVar j p.var → is_text x ≡ true → Knows names i m e k → asked e (copied_to (lval.Var p.var) x place) ≡ [] → j (ref_of p.var).name ≡ false → has_values names k (expr_in m x) ≡ true
      → asked no_numbers (assign (lval.Var (var_in inner p.var) ∷ []) None (with_scalars (with_values k (expr_in m x))) None at) ≡ []
  value_leads p x k named text h within out values =
      assignment_within e no_numbers (lval.Var p.var ∷ []) (lval.Var (var_in inner p.var) ∷ []) (variable_left inner e p.var (named.2 ∙ out), tt) x (with_scalars (with_values k (expr_in m x)))
      (part_turned names i m copy.named e k h x text values) None None tt None place at within

  argument_leads : (l : ℕ) (p : Param) (x : Expr) (g k : KnownNumbers) (t u : Block) (d : Change) → is_array (ref_of p.var).kind ≡ false → IsNamedArgument i j p.var x → asked e (copied_to (lval.Var p.var) x place) ≡ [] → Knows names i m e k
      → ((n : List ℕ) → k n c ≡ g n 0) → After l p x g k t → Made (op (argument p x) t) k u d → Leads (1 + l) u
  argument_leads l p x g k t u d plain named within h known after (u_op {u = u2} {k = d2} (stays ok) made) = by_name (j (ref_of p.var).name) refl
    where
      own : IsNamedVar j p.var × (is_none (ref_of p.var).cell ≡ true) × (is_text x ≡ true)
      own = by_not (is_array (ref_of p.var).kind) _ _ plain named

      parts : (left_has_values names k (lval.Var (var_in inner p.var)) ≡ true) × (has_values names k (expr_in m x) ≡ true)
      parts =
          let a = and_parts (list_all (left_has_values names k) (lval.Var (var_in inner p.var) ∷ [])) _ ok in
          ((and_parts (left_has_values names k (lval.Var (var_in inner p.var))) true a.0).0, (and_parts (has_values names k (expr_in m x)) _ a.1).0)

      by_name : (b : Bool) → j (ref_of p.var).name ≡ b → Leads (1 + l) (op (assign (lval.Var (var_in inner p.var) ∷ []) None (with_values k (expr_in m x)) None at) u2)
      by_name true q =
          absurd (not_both (is_inline_var names (var_in inner p.var)) (var_named names j inner below.named p.var ∙ q) (and_parts (not (is_inline_var names (var_in inner p.var))) _ parts.0).0)
      by_name false q =
          let rest = after k h (unset_so k g p x (own.0.2 ∙ q) known) (λ n a lt. refl) u2 d2 made in
          (rest.0, λ good. (value_leads p x k own.0 own.2 h within q parts.1, rest.1 good), one_more (statements_in u2) l (statements_in R) rest.2)
  argument_leads l p x g k t u d plain named within h known after (u_op {u = u2} {k = d2} (vanishes {y = y2} {i = z2} b int whole value cond) made) =
      let own = by_not (is_array (ref_of p.var).kind) _ _ plain named in
      let name : j (ref_of p.var).name ≡ true = sym (var_named names j inner below.named p.var) ∙ int.named in
      let number : inline_value e x ≡ Some (constant.Int z2) = value_back names i m e k h x (constant.Int z2) own.2 (ap (inline_value k) (same_expr (expr_in m x) y2 whole) ∙ value.1) in
      loosen l (1 + l) u2 (omega arith)
      (after (with_number k (var_in inner p.var) (Some z2)) (later_knows p.var k (Some z2) name h) (number_set k g p x z2 own.0.0 name (own.0.2 ∙ name) number known)
      (λ n a lt. number_elsewhere (var_in inner p.var) k (Some z2) n a (λ same. (let o = own_copy names j inner c below p.var name in omega (arith, o, same, lt))))
      u2 d2 (subst (λ w. Made t (if w then with_number k (var_in inner p.var) (Some z2) else k) u2 d2) cond made))

  -- g: what was known of the copy's own variables before it
  abbrev Given : ℕ → List Param → List Expr → KnownNumbers → KnownNumbers → Block → Type 0
  Given l ps xs g k t = (k2 : KnownNumbers) → Knows names i m e k2 → ((n : List ℕ) → k2 n c ≡ with_arguments e ps xs g n 0) → ((n : List ℕ) (a : ℕ) → a < c → k2 n a ≡ k n a) → Next l t k2

  first_leads : (l : ℕ) (p : Param) (x : Expr) (os : List Operation) (g k : KnownNumbers) (t u : Block) (d : Change) (b : Bool) → is_array (ref_of p.var).kind ≡ b → IsNamedArgument i j p.var x → (if b then [] else asked e (copied_to (lval.Var p.var) x place)) ≡ []
      → Knows names i m e k → ((n : List ℕ) → k n c ≡ g n 0) → After l p x g k (in_turn os t) → Made (in_turn (if b then os else (argument p x ∷ os)) t) k u d → Leads (1 + l) u
  first_leads l p x os g k t u d true q named within h known after made = loosen l (1 + l) u (omega arith) (after k h (unset_so k g p x (array_no_int (ref_of p.var).kind q) known) (λ n a lt. refl) u d made)
  first_leads l p x os g k t u d false q named within h known after made = argument_leads l p x g k (in_turn os t) u d q named within h known after made

  pub arguments_lead : (l : ℕ) (ps : List Param) (xs : List Expr) (g k : KnownNumbers) (t u : Block) (d : Change) → AreNamedArguments i j ps xs → argument_limits e place ps xs ≡ [] → Knows names i m e k → ((n : List ℕ) → k n c ≡ g n 0)
      → Given l ps xs g k t → Made (in_turn (argument_ops m inner at ps xs) t) k u d → Leads (length xs + l) u
  arguments_lead l [] [] g k t u d named within h known next made = loosen l (length {A = Expr} [] + l) u (omega arith) (next k h known (λ n a lt. refl) u d made)
  arguments_lead l [] (x ∷ xs) g k t u d named within h known next made = absurd named
  arguments_lead l (p ∷ ps) [] g k t u d named within h known next made = absurd named
  arguments_lead l (p ∷ ps) (x ∷ xs) g k t u d named within h known next made =
      let w = nothing_both (one_argument e place p.var x) (argument_limits e place ps xs) within in
      loosen (1 + (length xs + l)) (length (x ∷ xs) + l) u (omega arith)
      (first_leads (length xs + l) p x (argument_ops m inner at ps xs) g k t u d (is_array (ref_of p.var).kind) refl named.0 w.0 h known
      (λ k2 h2 s2 b2 u2 d2 made2. arguments_lead l ps xs (with_argument e p.var x g) k2 t u2 d2 named.1 w.1 h2 s2 (λ k3 h3 s3 b3. next k3 h3 s3 (λ n a lt. b3 n a lt ∙ b2 n a lt)) made2) made)

  -- ---- results
  abbrev result : Lval → Var → Operation
  result d v = set_one (lval_in m d) (expr.Var (var_in inner v)) at

  no_target : (d : Lval) → IsNamedLeft i d → IsPlainLeft i d → only_int d ≡ None
  no_target (lval.Skip s) n p = refl
  no_target (lval.Var v) n p = no_int v (n.2 ∙ p)
  no_target (lval.Cell v x) n p = refl
  no_target (lval.Store a) n p = refl

  module _ (k : KnownNumbers) (h : Knows names i m e k) where
    result_within : (d : Lval) (v : Var) → IsNamedLeft i d → IsPlainLeft i d → IsNamedVar j v → j (ref_of v).name ≡ false → asked e (copied_to d (expr.Var v) place) ≡ [] → left_has_values names k (lval_in m d) ≡ true
        → asked no_numbers (assign (left_with_scalars (left_with_values k (lval_in m d)) ∷ []) None (with_scalars (with_values k (expr.Var (var_in inner v)))) None at) ≡ []
    result_within d v left plain named out within ok =
        let w = var_in inner v in
        let f = left_with_scalars (left_with_values k (lval_in m d)) in
        let t = left_turned names i m copy.named e k h d left ok in
        let bare : is_inline (expr.Var w) ≡ false = ap is_inline (sym (in_var inner v)) ∙ copied_inline inner (expr.Var v) ∙ named.1 ∙ out in
        let none = no_target d left plain in
        let before = subst (λ o. in_kinds (assigned_parts e o (d ∷ []) None (expr.Var v) None) ≡ []) none within in
        let p = clean_parts (left_parts e (d ∷ [])) (beside (value_parts e (Some d) (left_sizes (d ∷ [])) None (expr.Var v)) (asked_if e role.Test None None)) (clean_from (assigned_parts e None (d ∷ []) None (expr.Var v) None) before) in
        let first = clean_parts (asked_if e role.Operand None (left_access d)) (left_parts e []) p.0 in
        let z = option_or (left_sizes (f ∷ [])) (own_size (expr.Var w)) in
        let made = clean_both (left_parts no_numbers (f ∷ [])) (beside (value_parts no_numbers (Some f) (left_sizes (f ∷ [])) None (expr.Var w)) (asked_if no_numbers role.Test None None))
        (clean_both (asked_if no_numbers role.Operand None (left_access f)) (left_parts no_numbers []) (t.parts first.0) clean_none)
        (clean_both (value_parts no_numbers (Some f) (left_sizes (f ∷ [])) None (expr.Var w)) (asked_if no_numbers role.Test None None) (free_clean (is_free (to_register (Some f)) None (expr.Var w)) w z bare) clean_none) in
        subst (λ x. asked no_numbers (assign (f ∷ []) None x None at) ≡ []) (sym (variable_stays k w bare))
        (subst (λ o. in_kinds (assigned_parts no_numbers o (f ∷ []) None (expr.Var w) None) ≡ []) (sym (t.int ∙ none)) (clean_to (assigned_parts no_numbers None (f ∷ []) None (expr.Var w) None) made))

    left_ok : (d : Lval) (v : Var) → operation_has_values names k (result d v) ≡ true → left_has_values names k (lval_in m d) ≡ true
    left_ok d v ok =
        let a = and_parts (list_all (left_has_values names k) (lval_in m d ∷ [])) _ ok in (and_parts (left_has_values names k (lval_in m d)) true a.0).0

    -- what stays
    stay_leads : (l : ℕ) (d : Lval) (v : Var) (t u : Block) (g : Change) → IsNamedLeft i d → IsPlainLeft i d → IsNamedVar j v → j (ref_of v).name ≡ false → asked e (copied_to d (expr.Var v) place) ≡ [] → operation_has_values names k (result d v) ≡ true
        → Next l t k → Made t k u g → Leads (1 + l) (op (operation_with_values k (result d v)) u)
    stay_leads l d v t u g left plain named out within ok next made =
        let rest = next u g made in (rest.0, λ good. (result_within d v left plain named out within (left_ok d v ok), rest.1 good), one_more (statements_in u) l (statements_in R) rest.2)

    result_leads : (l : ℕ) (d : Lval) (v : Var) (t u : Block) (g : Change) → IsNamedLeft i d → IsPlainLeft i d → IsNamedVar j v → j (ref_of v).name ≡ false → asked e (copied_to d (expr.Var v) place) ≡ [] → Next l t k
        → Made (op (result d v) t) k u g → Leads (1 + l) u
    result_leads l (lval.Skip s) v t u g left plain named out within next (u_op {u = u2} {k = g2} (stays ok) made) = stay_leads l (lval.Skip s) v t u2 g2 left plain named out within ok next made
    result_leads l (lval.Var w) v t u g left plain named out within next (u_op {u = u2} {k = g2} (stays ok) made) = stay_leads l (lval.Var w) v t u2 g2 left plain named out within ok next made
    result_leads l (lval.Var w) v t u g left plain named out within next (u_op {u = u2} {k = g2} (vanishes b int whole value cond) made) =
        absurd (true≢false (sym int.named ∙ (var_named names i m copy.named w ∙ plain)))
    result_leads l (lval.Cell w x) v t u g left plain named out within next (u_op {u = u2} {k = g2} (stays ok) made) = stay_leads l (lval.Cell w x) v t u2 g2 left plain named out within ok next made
    result_leads l (lval.Store a) v t u g left plain named out within next (u_op {u = u2} {k = g2} (stays ok) made) = stay_leads l (lval.Store a) v t u2 g2 left plain named out within ok next made

    given_leads : (l : ℕ) (d : Lval) (v : Var) (os : List Operation) (t u : Block) (g : Change) (b : Bool) → is_array (ref_of v).kind ≡ b → IsNamedLeft i d → IsPlainLeft i d → IsNamedVar j v → j (ref_of v).name ≡ false
        → (if b then [] else asked e (copied_to d (expr.Var v) place)) ≡ [] → Next l (in_turn os t) k → Made (in_turn (if b then os else (result d v ∷ os)) t) k u g → Leads (1 + l) u
    given_leads l d v os t u g true q left plain named out within next made = loosen l (1 + l) u (omega arith) (next u g made)
    given_leads l d v os t u g false q left plain named out within next made = result_leads l d v (in_turn os t) u g left plain named out within next made

    one_leads : (l : ℕ) (d : Lval) (v : Var) (os : List Operation) (t u : Block) (g : Change) → IsNamedLeft i d → IsPlainLeft i d → IsNamedVar j v → j (ref_of v).name ≡ false → one_result e place d v ≡ [] → Next l (in_turn os t) k
        → Made (in_turn (result_op m inner at d v os) t) k u g → Leads (1 + l) u
    one_leads l (lval.Skip s) v os t u g left plain named out within next made = loosen l (1 + l) u (omega arith) (next u g made)
    one_leads l (lval.Var w) v os t u g left plain named out within next made = given_leads l (lval.Var w) v os t u g (is_array (ref_of v).kind) refl left plain named out within next made
    one_leads l (lval.Cell w x) v os t u g left plain named out within next made = given_leads l (lval.Cell w x) v os t u g (is_array (ref_of v).kind) refl left plain named out within next made
    one_leads l (lval.Store a) v os t u g left plain named out within next made = given_leads l (lval.Store a) v os t u g (is_array (ref_of v).kind) refl left plain named out within next made

    pub results_lead : (l : ℕ) (ds : List Lval) (vs : List Var) (t u : Block) (g : Change) → AreNamedResults i j ds vs → result_limits e place ds vs ≡ [] → Next l t k → Made (in_turn (result_ops m inner at ds vs) t) k u g → Leads (length ds + l) u
    results_lead l [] [] t u g named within next made = loosen l (length {A = Lval} [] + l) u (omega arith) (next u g made)
    results_lead l [] (v ∷ vs) t u g named within next made = absurd named
    results_lead l (d ∷ ds) [] t u g named within next made = absurd named
    results_lead l (d ∷ ds) (v ∷ vs) t u g named within next made =
        let w = nothing_both (one_result e place d v) (result_limits e place ds vs) within in
        loosen (1 + (length ds + l)) (length (d ∷ ds) + l) u (omega arith)
        (one_leads (length ds + l) d v (result_ops m inner at ds vs) t u g named.0.0 named.0.1 named.0.2 named.0.3 w.0 (λ u2 g2 made2. results_lead l ds vs t u2 g2 named.1 w.1 next made2) made)
