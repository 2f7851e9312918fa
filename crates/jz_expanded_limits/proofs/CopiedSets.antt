-- What an operation of a copy becomes where it is unrolled.
use Rattle.std.proofs.Common.{◌≡◌, ℕ, ◌+◌, ◌≤◌, arith, List, [], ◌∷◌, map, Option, Some, None, Bool, true, false, refl, ap, sym, ◌∙◌, subst, inl, inr}
use Rattle.std.specs.Prelude.{ℤ, ◌⊎◌, not, if◌then◌else◌, option_map, ⊤}
use Rattle.std.specs.List.{list_all}
use Rattle.std.proofs.lemmas.Bool.{and_parts, true≢false}
use Rattle.jz_tree.specs.Span.{Span}
use Rattle.jz_tree.specs.declared.expr.Access.{Access}
use Rattle.jz_tree.specs.declared.expr.BinOp.{BinOp}
use Rattle.jz_tree.specs.declared.expr.Expr.{Expr}
use Rattle.jz_tree.specs.declared.expr.Var.{Var}
use Rattle.jz_tree.specs.declared.stmt.Lval.{Lval}
use Rattle.jz_tree.specs.declared.stmt.Lval.TheVariants as lval
use Rattle.jz_integers.specs.Integers.{KnownNumbers, inline_value, the_number}
use Rattle.jz_integers.specs.declared.constant.Constant.TheVariants as constant
use Rattle.jz_runs.specs.Trees.{done, op, quiet, choose, loop, each, call}
use Rattle.jz_meaning.specs.Assignments.{whole_of}
use Rattle.jz_meaning.specs.Statements.{Operation, assign, instruction, unset, meaningless, Block}
use Rattle.jz_meaning.specs.Values.{Ref, ref_of}
use Rattle.jz_change.specs.declared.change.Numbers.{Numbers}
use Rattle.jz_pass.specs.Operations.{in_turn}
use Rattle.jz_inline.specs.Names.{Names, var_in, expr_in, access_in, lval_in, op_in}
use Rattle.jz_inline.proofs.Reading.{ref_so}
use Rattle.jz_unroll.specs.Values.{operation_with_values, InlineNames, is_inline_var, left_has_values, operation_has_values}
use Rattle.jz_unroll.specs.Unrolling.{with_number, HasValue, ConditionIs, IsInlineInt, UnrollsOp, stays, vanishes}
use Rattle.jz_arrays.specs.Cells.{with_scalars}
use Rattle.jz_kept_types.specs.Operations.{operation_with_scalars}
use Rattle.jz_limits.specs.Values.{no_numbers, is_int, inline_target, truth_of, holds_in, chosen, set_to, first_left, known_after}
use Rattle.jz_limits.specs.Asked.{asked, asked_condition}
use Rattle.jz_unrolling_laws.specs.AskedLaws.{of_text}
use Rattle.jz_unrolling_laws.specs.CalledBodies.{Inlines, in_source, IsTextIf, IsNamedOp, IsStillOp, FitsOp, stays_so, sets_one}
use Rattle.jz_copied_values.proofs.StillWalks.{still_op}
use Rattle.jz_copied_values.proofs.CopiedWholes.{whole_in, whole_text}
use Rattle.jz_copied_values.proofs.CopiedNumbers.{IsCopy, copied_int}
use Rattle.jz_meaning.specs.Lengths.{statements_in}
use Rattle.jz_expanded_limits.proofs.CopiedParts.{operation_within}
use Rattle.jz_expanded_limits.proofs.Known.{Knows, value_back, Ends, ends_here, set_ends}

-- ---- a tree of which each statement is within the limits, with words in place of cells
abbrev pub Good : Block → Type 0
Good done = ⊤
Good (op o r) = (asked no_numbers (operation_with_scalars o) ≡ []) × Good r
Good (quiet o r) = Good r
Good (choose c a b r) = (asked_condition no_numbers (with_scalars c.cond) ≡ []) × Good a × Good b × Good r
Good (loop h q c b r) = (asked_condition no_numbers (with_scalars c.cond) ≡ []) × Good q × Good b × Good r
Good (each f b r) = Good b × Good r
Good (call c b r) = ⊥

-- ---- by its rule, an operation stays or sets an inline variable
record Stays (names : InlineNames) (q : Operation) (k k1 : KnownNumbers) (os : List Operation) : Type 0 where
  pub values : operation_has_values names k q ≡ true
  pub made : os ≡ operation_with_values k q ∷ []
  pub same : k1 ≡ k

record Sets (names : InlineNames) (q : Operation) : Type 0 where
  pub var : Var
  pub operator : Option BinOp
  pub value : Expr
  pub condition : Option Expr
  pub at : Span
  pub is : q ≡ assign (lval.Var var ∷ []) operator value condition at
  pub int : IsInlineInt names var

by_rule : (names : InlineNames) (q : Operation) (k k1 : KnownNumbers) (os : List Operation) (is : List Numbers) → UnrollsOp names q k os is k1 → Stays names q k k1 os ⊎ Sets names q
by_rule names q k k1 os is (stays h) = inl (record { values = h; made = refl; same = refl })
by_rule names q k k1 os is (vanishes {v} {o} {x} {y} {c} {at} b int whole value cond) = inr (record { var = v; operator = o; value = x; condition = c; at = at; is = refl; int = int })

-- what stays sets none
none_some : (v : Var) → None ≡ Some v → ⊥
none_some v q = absurd cc

same_lefts : (fs gs : List Lval) (o p : Option BinOp) (x y : Expr) (c d : Option Expr) (at there : Span) → assign fs o x c at ≡ assign gs p y d there → fs ≡ gs
same_lefts fs gs o p x y c d at there q = cc

none_no : (w : Var) → [] ≡ lval.Var w ∷ [] → ⊥
none_no w q = absurd cc

two_no : (d f : Lval) (ds : List Lval) (w : Var) → d ∷ f ∷ ds ≡ lval.Var w ∷ [] → ⊥
two_no d f ds w q = absurd cc

skip_no : (at : Span) (w : Var) → lval.Skip at ∷ [] ≡ lval.Var w ∷ [] → ⊥
skip_no at w q = absurd cc

cell_no : (v : Var) (x : Expr) (w : Var) → lval.Cell v x ∷ [] ≡ lval.Var w ∷ [] → ⊥
cell_no v x w q = absurd cc

store_no : (a : Access) (w : Var) → lval.Store a ∷ [] ≡ lval.Var w ∷ [] → ⊥
store_no a w q = absurd cc

one_var : (v w : Var) → lval.Var v ∷ [] ≡ lval.Var w ∷ [] → v ≡ w
one_var v w q = cc

instruction_no : (to fs : List Lval) (n : List ℕ) (xs : List Expr) (o : Option BinOp) (x : Expr) (c : Option Expr) (at there : Span) → instruction to n xs at ≡ assign fs o x c there → ⊥
instruction_no to fs n xs o x c at there q = absurd cc

unset_no : (vs : List Var) (fs : List Lval) (o : Option BinOp) (x : Expr) (c : Option Expr) (there : Span) → unset vs ≡ assign fs o x c there → ⊥
unset_no vs fs o x c there q = absurd cc

meaningless_no : (at : Span) (fs : List Lval) (o : Option BinOp) (x : Expr) (c : Option Expr) (there : Span) → meaningless at ≡ assign fs o x c there → ⊥
meaningless_no at fs o x c there q = absurd cc

module _ (names : InlineNames) (m : Names) where
  lefts_are : (to : List Lval) (o : Option BinOp) (x : Expr) (c : Option Expr) (at : Span) → (s : Sets names (op_in m (assign to o x c at))) → map (lval_in m) to ≡ lval.Var s.var ∷ []
  lefts_are to o x c at s = same_lefts (map (lval_in m) to) (lval.Var s.var ∷ []) o s.operator (expr_in m x) s.value (option_map (expr_in m) c) s.condition at s.at s.is

  never_sets : (o : Operation) → IsStillOp o → Sets names (op_in m o) → ⊥
  never_sets (assign [] o x c at) still s = none_no s.var (lefts_are [] o x c at s)
  never_sets (assign (lval.Skip here ∷ []) o x c at) still s = skip_no here s.var (lefts_are (lval.Skip here ∷ []) o x c at s)
  never_sets (assign (lval.Var v ∷ []) o x c at) still s =
      let same = one_var (var_in m v) s.var (lefts_are (lval.Var v ∷ []) o x c at s) in
      let int : is_int (ref_of v).kind ≡ true = sym (ap (λ (r : Ref). is_int r.kind) (ref_so m v)) ∙ ap (λ w. is_int (ref_of w).kind) same ∙ s.int.int in
      none_some v (sym still ∙ ap (λ b. if b then Some v else None) int)
  never_sets (assign (lval.Cell v i ∷ []) o x c at) still s = cell_no (var_in m v) (expr_in m i) s.var (lefts_are (lval.Cell v i ∷ []) o x c at s)
  never_sets (assign (lval.Store a ∷ []) o x c at) still s = store_no (access_in m a) s.var (lefts_are (lval.Store a ∷ []) o x c at s)
  never_sets (assign (d ∷ f ∷ ds) o x c at) still s = two_no (lval_in m d) (lval_in m f) (map (lval_in m) ds) s.var (lefts_are (d ∷ f ∷ ds) o x c at s)
  never_sets (instruction to n xs at) still s = instruction_no (map (lval_in m) to) (lval.Var s.var ∷ []) n (map (expr_in m) xs) s.operator s.value s.condition at s.at s.is
  never_sets (unset vs) still s = unset_no (map (var_in m) vs) (lval.Var s.var ∷ []) s.operator s.value s.condition s.at s.is
  never_sets (meaningless at) still s = meaningless_no at (lval.Var s.var ∷ []) s.operator s.value s.condition s.at s.is

as_many : (n : ℕ) → n ≤ n
as_many n = omega arith

one_less : (n : ℕ) → n ≤ 1 + n
one_less n = omega arith

-- ---- operations
-- what is known behind one that sets an inline variable
set_known : (e : KnownNumbers) (v : Var) (o : Option BinOp) (x y : Expr) (c : Option Expr) (z : ℤ) (b : Bool) → is_int (ref_of v).kind ≡ true → whole_of (Some (lval.Var v)) o x ≡ Some y → HasValue e y (constant.Int z) → ConditionIs e v c b
    → set_to e (inline_target (lval.Var v ∷ [])) (whole_of (first_left (inline_target (lval.Var v ∷ []))) o x) c ≡ (if b then with_number e v (Some z) else e)
set_known e v o x y c z b int whole value cond =
    ap (λ t. set_to e (if t then Some v else None) (whole_of (first_left (if t then Some v else None)) o x) c) int
    ∙ ap (λ w. chosen e v w (holds_in e c)) whole ∙ ap (chosen e v (Some y)) (holds c cond) ∙ by_answer b
  where
    holds : (c : Option Expr) → ConditionIs e v c b → holds_in e c ≡ Some b
    holds None h = ap Some (sym h)
    holds (Some d) h = ap truth_of h.0.1

    by_answer : (b : Bool) → chosen e v (Some y) (Some b) ≡ (if b then with_number e v (Some z) else e)
    by_answer true = ap (λ w. with_number e v (the_number w)) value.1
    by_answer false = refl

same_number : (a b : ℤ) → Some (constant.Int a) ≡ Some (constant.Int b) → a ≡ b
same_number a b q = cc

same_truth : (a b : Bool) → Some (constant.Bool a) ≡ Some (constant.Bool b) → a ≡ b
same_truth a b q = cc

same_some : (x y : Expr) → Some x ≡ Some y → x ≡ y
same_some x y q = cc

module _ (names : InlineNames) (i : Inlines) (m : Names) (c0 : ℕ) (copy : IsCopy names i m c0) (e k : KnownNumbers) (h : Knows names i m e k) where
  -- what is known behind, and what follows is preceded by what is within the limits
  pub record Done (e1 k1 : KnownNumbers) (os : List Operation) : Type 0 where
    pub ends : Ends names i m c0 e1 k k1
    pub good : (u : Block) → Good u → Good (in_turn os u)
    pub count : (u : Block) → statements_in (in_turn os u) ≤ 1 + statements_in u

  stay_done : (o : Operation) (k1 : KnownNumbers) (os : List Operation) → IsNamedOp i o → IsStillOp o → asked e o ≡ [] → Stays names (op_in m o) k k1 os → Done (known_after e o) k1 os
  stay_done o k1 os named still within s = record {
    ends = subst (λ w. Ends names i m c0 w k k1) (sym (still_op o e still)) (subst (Ends names i m c0 e k) (sym s.same) (ends_here names i m c0 e k h));
    good = λ u g. subst (λ w. Good (in_turn w u)) (sym s.made) (operation_within names i m copy.named e k h o named s.values within, g);
    count = λ u. subst (λ w. statements_in (in_turn w u) ≤ 1 + statements_in u) (sym s.made) (as_many (1 + statements_in u));
  }

  condition_same : (v : Var) (c : Option Expr) (a b : Bool) → IsTextIf c → ConditionIs k (var_in m v) (option_map (expr_in m) c) a → ConditionIs e v c b → a ≡ b
  condition_same v None a b t p q = p ∙ sym q
  condition_same v (Some d) a b t p q = same_truth a b (sym (value_back names i m e k h d (constant.Bool a) t p.0.1) ∙ q.0.1)

  set_by : (v : Var) (a b : Bool) (y z : ℤ) → of_text (ref_of v) ≡ true → i (ref_of v).name ≡ true → a ≡ b → y ≡ z → Ends names i m c0 (if b then with_number e v (Some z) else e) k (if a then with_number k (var_in m v) (Some y) else k)
  set_by v true true y z t n p q = set_ends names i m c0 copy e k h v (Some y) (Some z) t n (λ j r. sym (ap (λ (w : ℤ). Some w) q) ∙ r)
  set_by v true false y z t n p q = absurd (true≢false p)
  set_by v false true y z t n p q = absurd (true≢false (sym p))
  set_by v false false y z t n p q = ends_here names i m c0 e k h

  sets_done : (v : Var) (o : Option BinOp) (x y : Expr) (c : Option Expr) (at : Span) (z : ℤ) (b : Bool) (k1 : KnownNumbers) (os : List Operation) (is : List Numbers) → IsNamedOp i (assign (lval.Var v ∷ []) o x c at) → IsInlineInt (in_source i) v
      → whole_of (Some (lval.Var v)) o x ≡ Some y → HasValue e y (constant.Int z) → ConditionIs e v c b → UnrollsOp names (op_in m (assign (lval.Var v ∷ []) o x c at)) k os is k1
      → Done (known_after e (assign (lval.Var v ∷ []) o x c at)) k1 os
  sets_done v o x y c at z b k1 os is named int whole value cond (stays ok) =
      let w = var_in m v in
      let p = and_parts (list_all (left_has_values names k) (lval.Var w ∷ [])) _ ok in
      let q = and_parts (left_has_values names k (lval.Var w)) true p.0 in
      absurd (not_both (is_inline_var names w) (copied_int names i m c0 copy v int).named (and_parts (not (is_inline_var names w)) _ q.0).0)
    where
      not_both : (t : Bool) → t ≡ true → not t ≡ true → ⊥
      not_both true p q = absurd cc
      not_both false p q = absurd cc
  sets_done v o x y c at z b k1 os is named int whole value cond (vanishes {y = y2} {i = z2} b2 int2 whole2 value2 cond2) =
      let text = whole_text v o x y named.0.0.0 named.1 whole in
      let there : expr_in m y ≡ y2 = same_some (expr_in m y) y2 (sym (whole_in m (Some (lval.Var v)) o x ∙ ap (option_map (expr_in m)) whole) ∙ whole2) in
      let number : inline_value e y ≡ Some (constant.Int z2) = value_back names i m e k h y (constant.Int z2) text (ap (inline_value k) there ∙ value2.1) in
      let made = set_by v b2 b z2 z named.0.0.0 int.named (condition_same v c b2 b named.2 cond2 cond) (same_number z2 z (sym number ∙ value.1)) in
      record {
        ends = subst (λ w. Ends names i m c0 w k (if b2 then with_number k (var_in m v) (Some z2) else k)) (sym (set_known e v o x y c z b int.int whole value cond)) made;
        good = λ u g. g;
        count = λ u. one_less (statements_in u);
      }

  by_stay : (o : Operation) (k1 : KnownNumbers) (os : List Operation) → IsNamedOp i o → IsStillOp o → asked e o ≡ [] → Stays names (op_in m o) k k1 os ⊎ Sets names (op_in m o) → Done (known_after e o) k1 os
  by_stay o k1 os named still within (inl s) = stay_done o k1 os named still within s
  by_stay o k1 os named still within (inr s) = absurd (never_sets names m o still s)

  pub operation_done : (o : Operation) (k1 : KnownNumbers) (os : List Operation) (is : List Numbers) → IsNamedOp i o → FitsOp i e o → asked e o ≡ [] → UnrollsOp names (op_in m o) k os is k1 → Done (known_after e o) k1 os
  operation_done o k1 os is named (stays_so still ok) within rule = by_stay o k1 os named still within (by_rule names (op_in m o) k k1 os is rule)
  operation_done _ k1 os is named (sets_one {v} {o} {x} {y} {c} {at} {n = z} b int inline inline_c whole value cond) within rule =
      sets_done v o x y c at z b k1 os is named int whole value cond rule
