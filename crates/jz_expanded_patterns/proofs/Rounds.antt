-- Rounds and values: each assignment that is left has a row.
use Rattle.std.proofs.Common.{◌≡◌, ℤ, List, [], ◌∷◌, Some, None, Bool, true, false, not, ◌&&◌, refl, sym, ap, ◌∙◌, if◌then◌else◌}
use Rattle.std.specs.Prelude.{All}
use Rattle.std.specs.List.{list_all}
use Rattle.std.proofs.lemmas.Bool.{and_parts}
use Rattle.std.proofs.lemmas.List.Elements.{All-nil, All-cons, All-head, All-tail}
use Rattle.jz_tree.specs.declared.expr.Expr.{Expr}
use Rattle.jz_tree.specs.declared.expr.Expr.TheVariants as expr
use Rattle.jz_tree.specs.declared.expr.Var.{Var}
use Rattle.jz_tree.specs.declared.stmt.Lval.{Lval}
use Rattle.jz_tree.specs.declared.stmt.Lval.TheVariants as lval
use Rattle.jz_type_names.specs.Kinds.{Known, is_inline}
use Rattle.jz_type_rows.specs.Matching.{is_set_inline, may_be_inline}
use Rattle.jz_integers.specs.Integers.{KnownNumbers}
use Rattle.jz_select.specs.Trees.{Named}
use Rattle.jz_runs.specs.Trees.{done}
use Rattle.jz_meaning.specs.Assignments.{last_left, whole_of}
use Rattle.jz_meaning.specs.States.{Key}
use Rattle.jz_meaning.specs.Statements.{Operation, assign, instruction, unset, meaningless, Counter, Block}
use Rattle.jz_change.specs.Changes.{Change, Changes}
use Rattle.jz_pass.specs.Unrolling.{u_done, u_op, u_quiet, u_if, u_arm, u_while, u_once, u_for, u_none, u_more, Unrolls, UnrollsEach}
use Rattle.jz_unroll.specs.Values.{InlineNames, is_inline_var, has_values, left_has_values, if_has_values, is_split, operation_with_values, operation_has_values}
use Rattle.jz_unroll.specs.Unrolling.{stays, vanishes, marked, tested, loops, always, unrolling}
use Rattle.jz_unroll.proofs.InlineParts.{inline_var}
use Rattle.jz_unroll.proofs.Parts.{not_true}
use Rattle.jz_copied_variables.specs.Variables.{IsOver, LeftOver, OverOperation, OverBody}
use Rattle.jz_kept_patterns.specs.KeptPatterns.{AreTold}
use Rattle.jz_kept_patterns.proofs.Whole.{value_always, value_pair, value_instruction}
use Rattle.jz_expanded_patterns.proofs.Bodies.{IfRow, IfRows, HasRow, HaveRows}

module _ (names : InlineNames) (P : Var → Type 0) (frame : Key → Bool) (known : Named → Known) (told : AreTold P known) where
  -- ---- one statement
  module _ (k : KnownNumbers) where
    set_none : (d : Lval) → left_has_values names k d ≡ true → is_set_inline d ≡ false
    set_none (lval.Skip at) h = refl
    set_none (lval.Var v) h = sym (inline_var v) ∙ not_true (is_inline (expr.Var v)) (and_parts (not (is_inline_var names v)) _ h).1
    set_none (lval.Cell v i) h = refl
    set_none (lval.Store a) h = refl

    abbrev Valued : Lval → Type 0
    Valued d = LeftOver P d × (left_has_values names k d ≡ true)

    abbrev Given : Expr → Type 0
    Given e = IsOver P e × (has_values names k e ≡ true)

    lefts_valued : (to : List Lval) → All (LeftOver P) to → list_all (left_has_values names k) to ≡ true → All Valued to
    lefts_valued [] h v = All-nil Valued
    lefts_valued (d ∷ ds) h v =
        let a = and_parts (left_has_values names k d) (list_all (left_has_values names k) ds) v in
        All-cons Valued d ds (All-head (LeftOver P) d ds h, a.0) (lefts_valued ds (All-tail (LeftOver P) d ds h) a.1)

    args_valued : (es : List Expr) → All (IsOver P) es → list_all (has_values names k) es ≡ true → All Given es
    args_valued [] h v = All-nil Given
    args_valued (e ∷ es) h v =
        let a = and_parts (has_values names k e) (list_all (has_values names k) es) v in
        All-cons Given e es (All-head (IsOver P) e es h, a.0) (args_valued es (All-tail (IsOver P) e es h) a.1)

    row_valued : (o : Operation) → OverOperation P frame o → IfRow o → operation_has_values names k o ≡ true → HasRow (operation_with_values k o)
    row_valued (assign [] o e c at) h r v = tt
    row_valued (assign (d ∷ []) o e c at) h r v =
        let a = and_parts (list_all (left_has_values names k) (d ∷ [])) (has_values names k e && (if_has_values names k c && is_split (d ∷ []) (whole_of (last_left (d ∷ [])) o e))) v in
        let l = (and_parts (left_has_values names k d) true a.0).0 in
        let b = and_parts (has_values names k e) (if_has_values names k c && is_split (d ∷ []) (whole_of (last_left (d ∷ [])) o e)) a.1 in
        value_always names k P known told d o e c (All-head (LeftOver P) d [] h.0) h.1 l b.0 (r (ap (λ x. x && may_be_inline c) (set_none d l)))
    row_valued (assign (f ∷ d ∷ []) o e None at) h r v =
        let a = and_parts (list_all (left_has_values names k) (f ∷ d ∷ [])) (has_values names k e && (if_has_values names k None && is_split (f ∷ d ∷ []) (whole_of (last_left (f ∷ d ∷ [])) o e))) v in
        let l = (and_parts (left_has_values names k d) true (and_parts (left_has_values names k f) (left_has_values names k d && true) a.0).1).0 in
        let b = and_parts (has_values names k e) (if_has_values names k None && is_split (f ∷ d ∷ []) (whole_of (last_left (f ∷ d ∷ [])) o e)) a.1 in
        value_pair names k P known told f d o e (All-head (LeftOver P) d [] (All-tail (LeftOver P) f (d ∷ []) h.0)) h.1 l b.0 r
    row_valued (assign (f ∷ d ∷ []) o e (Some c) at) h r v = tt
    row_valued (assign (f ∷ d ∷ b ∷ ds) o e c at) h r v = tt
    row_valued (instruction to n args at) h r v =
        let a = and_parts (list_all (left_has_values names k) to) (list_all (has_values names k) args) v in
        value_instruction names k P known told to n args (lefts_valued to h.0 a.0) (args_valued args h.1 a.1) r
    row_valued (unset vs) h r v = tt
    row_valued (meaningless at) h r v = tt

  -- ---- bodies
  arm_over : (z : Bool) (a b : Block) → OverBody P frame a → OverBody P frame b → OverBody P frame (if z then a else b)
  arm_over true a b f g = f
  arm_over false a b f g = g

  arm_rows : (z : Bool) (a b : Block) → IfRows a → IfRows b → IfRows (if z then a else b)
  arm_rows true a b f g = f
  arm_rows false a b f g = g

  mutual
    unrolled_rows : {t rest u : Block} {e e1 : KnownNumbers} {k : Change} → Unrolls (unrolling names) t e rest u e1 k → OverBody P frame t → IfRows t → HaveRows rest → HaveRows u
    unrolled_rows u_done f i r = r
    unrolled_rows (u_op {o} {e = e} (stays h) x) f i r = (row_valued e o f.0 i.0 h, unrolled_rows x f.1 i.1 r)
    unrolled_rows (u_op (vanishes b n w v c) x) f i r = unrolled_rows x f.1 i.1 r
    unrolled_rows (u_quiet marked x) f i r = unrolled_rows x f.1 i r
    unrolled_rows (u_if (tested n h) a b l m x) f i r =
        (unrolled_rows a f.1 i.0 tt, unrolled_rows b f.2 i.1 tt, unrolled_rows x f.3 i.2 r)
    unrolled_rows (u_arm {a} {b} {z = z} c y x) f i r = unrolled_rows y (arm_over z a b f.1 f.2) (arm_rows z a b i.0 i.1) (unrolled_rows x f.3 i.2 r)
    unrolled_rows (u_while l (loops n h) q b m j x) f i r =
        (unrolled_rows q f.1 i.0 tt, unrolled_rows b f.2 i.1 tt, unrolled_rows x f.3 i.2 r)
    unrolled_rows (u_while l (always n h) q b m j x) f i r =
        (unrolled_rows q f.1 i.0 tt, unrolled_rows b f.2 i.1 tt, unrolled_rows x f.3 i.2 r)
    unrolled_rows (u_once q c x) f i r = unrolled_rows q f.1 i.0 (unrolled_rows x f.3 i.2 r)
    unrolled_rows (u_for v es x) f i r = rounds_rows es f.0 i.0 (unrolled_rows x f.1 i.1 r)

    rounds_rows : {i : Counter} {b rest u : Block} {is : List ℤ} {e e1 : KnownNumbers} {ts : Changes} → UnrollsEach (unrolling names) i b is e rest u e1 ts → OverBody P frame b → IfRows b → HaveRows rest → HaveRows u
    rounds_rows u_none f i r = r
    rounds_rows (u_more y x) f i r = unrolled_rows y f i (rounds_rows x f i r)

  pub rounds_have_rows : {t u : Block} {e e1 : KnownNumbers} {k : Change} → Unrolls (unrolling names) t e done u e1 k → OverBody P frame t → IfRows t → HaveRows u
  rounds_have_rows x f i = unrolled_rows x f i tt
