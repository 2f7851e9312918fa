-- Rounds and values: what is over variables is clear where inline parts are their values.
use Rattle.std.proofs.Common.{◌≡◌, ℤ, List, [], ◌∷◌, Option, Some, None, map, Bool, true, false, not, ◌&&◌, if◌then◌else◌}
use Rattle.std.specs.Prelude.{All, option_map}
use Rattle.std.specs.List.{list_all}
use Rattle.std.proofs.lemmas.Bool.{and_parts}
use Rattle.std.proofs.lemmas.List.Elements.{All-nil, All-cons, All-head, All-tail}
use Rattle.jz_tree.specs.declared.expr.Expr.{Expr}
use Rattle.jz_tree.specs.declared.expr.Var.{Var}
use Rattle.jz_tree.specs.declared.stmt.Lval.{Lval}
use Rattle.jz_type_names.specs.Parts.{span_of}
use Rattle.jz_integers.specs.Integers.{KnownNumbers}
use Rattle.jz_runs.specs.Trees.{done, op, quiet, choose, loop, each, call}
use Rattle.jz_meaning.specs.Assignments.{last_left, whole_of}
use Rattle.jz_meaning.specs.States.{Key}
use Rattle.jz_meaning.specs.Statements.{Operation, assign, instruction, unset, meaningless, Counter, Block}
use Rattle.jz_change.specs.Changes.{Change, Changes}
use Rattle.jz_pass.specs.Unrolling.{u_done, u_op, u_quiet, u_if, u_arm, u_while, u_once, u_for, u_none, u_more, Unrolls, UnrollsEach}
use Rattle.jz_unroll.specs.Values.{with_values, left_with_values, operation_with_values, InlineNames, is_inline_var, has_values, left_has_values, if_has_values, is_split, operation_has_values}
use Rattle.jz_unroll.specs.Unrolling.{stays, vanishes, marked_vars, marked, tested, loops, always, unrolling}
use Rattle.jz_standing.specs.Typing.{AreMarks}
use Rattle.jz_copied_variables.specs.Variables.{IsOver, IfOver, LeftOver, OverOperation, IsMarked, OverBody}
use Rattle.jz_plain_expansions.proofs.Clear.{IsClear, IfClear, LeftClear, truth_clear, cleared, left_cleared}

module _ (P : Var → Type 0) (frame : Key → Bool) where
  abbrev pub ClearOperation : Operation → Type 0
  ClearOperation (assign to o e c at) = All (LeftClear P) to × IsClear P e × IfClear P c
  ClearOperation (instruction to n args at) = All (LeftClear P) to × All (IsClear P) args
  ClearOperation (unset vs) = ⊥
  ClearOperation (meaningless at) = ⊥

  abbrev pub ClearBody : Block → Type 0
  ClearBody done = Unit {0}
  ClearBody (op o r) = ClearOperation o × ClearBody r
  ClearBody (quiet o r) = IsMarked P frame o × ClearBody r
  ClearBody (choose t a b r) = IsClear P t.cond × ClearBody a × ClearBody b × ClearBody r
  ClearBody (loop w q t b r) = IsClear P t.cond × ClearBody q × ClearBody b × ClearBody r
  ClearBody (each i b r) = ⊥
  ClearBody (call c b r) = ⊥

  -- ---- one statement
  module _ (names : InlineNames) (k : KnownNumbers) where
    lefts_cleared : (ds : List Lval) → All (LeftOver P) ds → list_all (left_has_values names k) ds ≡ true → All (LeftClear P) (map (left_with_values k) ds)
    lefts_cleared [] h v = All-nil (LeftClear P)
    lefts_cleared (d ∷ ds) h v =
        let s = and_parts (left_has_values names k d) (list_all (left_has_values names k) ds) v in
        All-cons (LeftClear P) (left_with_values k d) (map (left_with_values k) ds) (left_cleared names k P d (All-head (LeftOver P) d ds h) s.0) (lefts_cleared ds (All-tail (LeftOver P) d ds h) s.1)

    all_cleared : (es : List Expr) → All (IsOver P) es → list_all (has_values names k) es ≡ true → All (IsClear P) (map (with_values k) es)
    all_cleared [] h v = All-nil (IsClear P)
    all_cleared (e ∷ es) h v =
        let s = and_parts (has_values names k e) (list_all (has_values names k) es) v in
        All-cons (IsClear P) (with_values k e) (map (with_values k) es) (cleared names k P (All-head (IsOver P) e es h) s.0).is (all_cleared es (All-tail (IsOver P) e es h) s.1)

    if_cleared : (c : Option Expr) → IfOver P c → if_has_values names k c ≡ true → IfClear P (option_map (with_values k) c)
    if_cleared None h v = tt
    if_cleared (Some e) h v = (cleared names k P h v).is

    operation_cleared : (o : Operation) → OverOperation P frame o → operation_has_values names k o ≡ true → ClearOperation (operation_with_values k o)
    operation_cleared (assign to o x c at) h v =
        let a = and_parts (list_all (left_has_values names k) to) (has_values names k x && (if_has_values names k c && is_split to (whole_of (last_left to) o x))) v in
        let b = and_parts (has_values names k x) (if_has_values names k c && is_split to (whole_of (last_left to) o x)) a.1 in
        let d = and_parts (if_has_values names k c) (is_split to (whole_of (last_left to) o x)) b.1 in
        (lefts_cleared to h.0 a.0, (cleared names k P h.1 b.0).is, if_cleared c h.2 d.0)
    operation_cleared (instruction to n args at) h v =
        let a = and_parts (list_all (left_has_values names k) to) (list_all (has_values names k) args) v in
        (lefts_cleared to h.0 a.0, all_cleared args h.1 a.1)
    operation_cleared (unset vs) h v = absurd h
    operation_cleared (meaningless at) h v = absurd h

  -- ---- bodies
  module _ (names : InlineNames) where
    some_marks : (vs : List Var) → AreMarks frame vs → AreMarks frame (marked_vars names vs)
    some_marks [] h = tt
    some_marks (v ∷ vs) h = by_test (not (is_inline_var names v)) (some_marks vs h.1)
      where
        by_test : (b : Bool) → AreMarks frame (marked_vars names vs) → AreMarks frame (if b then v ∷ marked_vars names vs else marked_vars names vs)
        by_test true r = (h.0, r)
        by_test false r = r

    arm_over : (z : Bool) (a b : Block) → OverBody P frame a → OverBody P frame b → OverBody P frame (if z then a else b)
    arm_over true a b f g = f
    arm_over false a b f g = g

    mutual
      unrolled_clear : {t rest u : Block} {e e1 : KnownNumbers} {k : Change} → Unrolls (unrolling names) t e rest u e1 k → OverBody P frame t → ClearBody rest → ClearBody u
      unrolled_clear u_done f r = r
      unrolled_clear (u_op {o} {e = e} (stays h) x) f r = (operation_cleared names e o f.0 h, unrolled_clear x f.1 r)
      unrolled_clear (u_op (vanishes b i w v c) x) f r = unrolled_clear x f.1 r
      unrolled_clear (u_quiet (marked {vs = vs}) x) f r = (some_marks vs f.0, unrolled_clear x f.1 r)
      unrolled_clear (u_if {p} {e = e} (tested i h) a b l m x) f r =
          ((cleared names e P f.0 h).is, unrolled_clear a f.1 tt, unrolled_clear b f.2 tt, unrolled_clear x f.3 r)
      unrolled_clear (u_arm {a} {b} {z = z} c y x) f r = unrolled_clear y (arm_over z a b f.1 f.2) (unrolled_clear x f.3 r)
      unrolled_clear (u_while {p} {eq = eq} l (loops i h) q b m n x) f r =
          ((cleared names eq P f.0 h).is, unrolled_clear q f.1 tt, unrolled_clear b f.2 tt, unrolled_clear x f.3 r)
      unrolled_clear (u_while {p} l (always i h) q b m n x) f r =
          (truth_clear P true (span_of p.cond), unrolled_clear q f.1 tt, unrolled_clear b f.2 tt, unrolled_clear x f.3 r)
      unrolled_clear (u_once q c x) f r = unrolled_clear q f.1 (unrolled_clear x f.3 r)
      unrolled_clear (u_for v es x) f r = rounds_clear es f.0 (unrolled_clear x f.1 r)

      rounds_clear : {i : Counter} {b rest u : Block} {is : List ℤ} {e e1 : KnownNumbers} {ts : Changes} → UnrollsEach (unrolling names) i b is e rest u e1 ts → OverBody P frame b → ClearBody rest → ClearBody u
      rounds_clear u_none f r = r
      rounds_clear (u_more y x) f r = unrolled_clear y f (rounds_clear x f r)

    pub rounds_are_clear : {t u : Block} {e e1 : KnownNumbers} {k : Change} → Unrolls (unrolling names) t e done u e1 k → OverBody P frame t → ClearBody u
    rounds_are_clear x f = unrolled_clear x f tt
