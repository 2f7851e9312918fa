-- Assignments: the right side, and then the left sides from left to right, each written before the
-- next is evaluated.
use Rattle.std.specs.Prelude.{ℕ, ◌*◌, ◌/◌, ◌%◌, Bool, true, false, ◌&&◌, List, [], ◌∷◌, Option, Some, None, Result, Ok, Err, if◌then◌else◌}
use Rattle.std.specs.Option.{option_or}
use Rattle.jz_tree.specs.Span.{Span}
use Rattle.x64_insn.specs.Size.{Size}
use Rattle.x64_insn.specs.Size.TheVariants.{S64}
use Rattle.x64_insn.specs.Sizes.{modulus}
use Rattle.x64_insn.specs.Words.{sum_of, carry_of, difference_of, borrow_of}
pub use Rattle.jz_tree.specs.Operators.{carries}
use Rattle.jz_tree.specs.declared.expr.BinOp.{BinOp}
use Rattle.jz_tree.specs.declared.expr.BinOp.TheVariants as o
use Rattle.jz_tree.specs.declared.expr.Expr.{Expr}
use Rattle.jz_tree.specs.declared.expr.Expr.TheVariants as expr
use Rattle.jz_tree.specs.declared.expr.Expr.TheOpen.{Expr-F}
use Rattle.jz_tree.specs.declared.expr.Expr.TheViews.{out-Expr}
use Rattle.jz_tree.specs.declared.expr.Access.{Access}
use Rattle.jz_tree.specs.declared.expr.Decl.{Decl}
use Rattle.jz_tree.specs.declared.expr.Ty.{Ty}
use Rattle.jz_tree.specs.declared.expr.Var.{Var}
use Rattle.jz_tree.specs.declared.stmt.Lval.{Lval}
use Rattle.jz_tree.specs.declared.stmt.Lval.TheVariants as lval
use Rattle.jz_runs.specs.Rules.{stuck, went}
use Rattle.jz_meaning.specs.declared.access.Kind.{Kind}
use Rattle.jz_meaning.specs.declared.access.Kind.TheVariants as kind
use Rattle.jz_meaning.specs.declared.value.Why.TheVariants.{Init}
use Rattle.jz_meaning.specs.declared.value.Stuck.{Stuck}
use Rattle.jz_meaning.specs.Attempts.{Evaluation, stuck_at, and_then, defined}
use Rattle.jz_meaning.specs.States.{Value, word, boolean, integer, Key, State, put}
use Rattle.jz_meaning.specs.Operators.{word_at}
use Rattle.jz_meaning.specs.Values.{size_of, Ref, key_of, cell_key, index_at, ref_of, access_of, own_size, evaluated, store_at}

-- ---- left sides

-- the size of a left side, where it has one by itself; of several, that of the first that has one:
-- a flag and `_` have none
abbrev pub left_size : Lval → Option Size
left_size (lval.Skip at) = None
left_size (lval.Var x) = size_of (ref_of x).kind
left_size (lval.Cell x i) = size_of (ref_of x).kind
left_size (lval.Store a) = (access_of a).size

abbrev pub left_sizes : List Lval → Option Size
left_sizes [] = None
left_sizes (d ∷ ds) = option_or (left_size d) (left_sizes ds)

-- what a variable of this declaration holds of a value: in the place of a word it is a word of that
-- size
abbrev pub word_value : Span → Size → Value → Evaluation Value
word_value at s v = and_then (word_at at s v) (λ a. went [] (word s a))

abbrev pub held : Span → Kind → Value → Evaluation Value
held at (kind.Word s) v = word_value at s v
held at kind.Int (integer i) = went [] (integer i)
held at kind.Bool (boolean c) = went [] (boolean c)
held at _ v = stuck_at at Init

-- a flag may be unset
abbrev pub held_or_unset : Span → Kind → Option Value → Evaluation (Option Value)
held_or_unset at k None = went [] None
held_or_unset at k (Some v) = and_then (held at k v) (λ h. went [] (Some h))

abbrev pub with_value : State → Key → Option Value → State
with_value s k v = record s { store = put s.store k v }

-- the cell of an array gets a word of the cells' size
abbrev pub in_cell : Ref → ℕ → Option Size → Option Value → State → Evaluation State
in_cell x i (Some z) (Some v) s = and_then (word_value x.span z v) (λ w. went [] (with_value s (cell_key x i) (Some w)))
in_cell x i _ _ s = stuck_at x.span Init

-- a value is written to a left side, where the other side has this size; an index or address is
-- evaluated first
abbrev pub written : Option Size → Lval → Option Value → State → Evaluation State
written z (lval.Skip at) v s = went [] s
written z (lval.Var x) v s = and_then (held_or_unset (ref_of x).span (ref_of x).kind v) (λ h. went [] (with_value s (key_of (ref_of x)) h))
written z (lval.Cell x i) v s =
    and_then (evaluated i (Some S64) s) (λ j. and_then (index_at (ref_of x) j) (λ n. in_cell (ref_of x) n (left_size (lval.Cell x i)) v s))
written z (lval.Store a) v s =
    and_then ((access_of a).at s) (λ n. and_then (store_at (access_of a) z n v s.memory) (λ m. went [] (record s { memory = m })))

-- what the left sides get, in their order
abbrev pub Results : Type 0
Results = List (Option Value)

abbrev pub all_written : Span → Option Size → List Lval → Results → State → Evaluation State
all_written at z [] [] s = went [] s
all_written at z (d ∷ ds) (v ∷ vs) s = and_then (written z d v s) (λ t. all_written at z ds vs t)
all_written at z _ _ s = stuck_at at Init

-- ---- right sides

-- a left side where it is read
abbrev pub as_expr : Lval → Option Expr
as_expr (lval.Skip at) = None
as_expr (lval.Var x) = Some (expr.Var x)
as_expr (lval.Cell x i) = Some (expr.Cell x i)
as_expr (lval.Store a) = Some (expr.Load a)

abbrev pub left_span : Lval → Span
left_span (lval.Skip at) = at
left_span (lval.Var x) = (ref_of x).span
left_span (lval.Cell x i) = (ref_of x).span
left_span (lval.Store a) = (access_of a).span

abbrev pub Layer : Type 0
Layer = Expr-F Expr Ty Access Decl Var

-- a bool variable
abbrev pub is_bool : Kind → Bool
is_bool kind.Bool = true
is_bool _ = false

abbrev pub is_flag_layer : Layer → Bool
is_flag_layer (Expr-F.Var x) = is_bool (ref_of x).kind
is_flag_layer _ = false

abbrev pub is_flag : Expr → Bool
is_flag e = is_flag_layer (out-Expr e)

-- `d op= e` is `d = d op e`; `d += e + c` and `d -= e - c` with a bool c are `d + e + c` and
-- `d - e - c`
abbrev pub updated_layer : BinOp → Expr → Expr → Span → Layer → Expr
updated_layer op d e at (Expr-F.Bin p a c inner) =
    if carries op p && is_flag c then expr.Bin p (expr.Bin op d a at) c at else expr.Bin op d e at
updated_layer op d e at _ = expr.Bin op d e at

abbrev pub updated : Option Expr → BinOp → Expr → Span → Option Expr
updated None op e at = None
updated (Some d) op e at = Some (updated_layer op d e at (out-Expr e))

-- the left side that an operation reads: the last one
abbrev pub last_left : List Lval → Option Lval
last_left [] = None
last_left (d ∷ []) = Some d
last_left (d ∷ ds) = last_left ds

abbrev pub whole_of : Option Lval → Option BinOp → Expr → Option Expr
whole_of d None e = Some e
whole_of None (Some op) e = None
whole_of (Some d) (Some op) e = updated (as_expr d) op e (left_span d)

-- ---- two results: a carry before a sum, a borrow before a difference, the high word of a product
-- before the low one
abbrev pub two_results : BinOp → Span → Size → ℕ → ℕ → Bool → Evaluation Results
two_results o.Add at s a b c = went [] (Some (boolean (carry_of s a b c)) ∷ Some (word s (sum_of s a b c)) ∷ [])
two_results o.Sub at s a b c = went [] (Some (boolean (borrow_of a b c)) ∷ Some (word s (difference_of s a b c)) ∷ [])
two_results o.Mul at s a b c = went [] (Some (word s (a * b / modulus s)) ∷ Some (word s (a * b % modulus s)) ∷ [])
two_results _ at s a b c = stuck_at at Init

abbrev pub word_in : Span → Size → Expr → State → Evaluation ℕ
word_in at s e st = and_then (evaluated e (Some s) st) (word_at at s)

abbrev pub truth : Span → Value → Evaluation Bool
truth at (boolean c) = went [] c
truth at _ = stuck_at at Init

abbrev pub bool_in : Span → Expr → State → Evaluation Bool
bool_in at e st = and_then (evaluated e None st) (truth at)

abbrev pub with_two : BinOp → Expr → Expr → Span → Size → State → Evaluation Results
with_two op a b at s st = and_then (word_in at s a st) (λ x. and_then (word_in at s b st) (λ y. two_results op at s x y false))

-- the operands of `a + b + c` and `a - b - c` with a bool c
abbrev pub with_three : BinOp → Layer → Expr → Expr → Span → Size → State → Evaluation Results
with_three op (Expr-F.Bin p a b inner) l c at s st =
    if carries op p then and_then (word_in at s a st) (λ x. and_then (word_in at s b st) (λ y. and_then (bool_in at c st) (two_results op at s x y)))
    else stuck_at at Init
with_three op _ l c at s st = stuck_at at Init

abbrev pub two_of : Layer → Span → Option Size → State → Evaluation Results
two_of (Expr-F.Bin op a b inner) at (Some s) st = if is_flag b then with_three op (out-Expr a) a b inner s st else with_two op a b inner s st
two_of _ at _ st = stuck_at at Init

-- ---- the right side, by the number of left sides
abbrev pub results_of : List Lval → Expr → Span → Option Size → State → Evaluation Results
results_of (d ∷ []) e at z s = and_then (evaluated e z s) (λ v. went [] (Some v ∷ []))
results_of (f ∷ d ∷ []) e at z s = two_of (out-Expr e) at z s
results_of _ e at z s = stuck_at at Init

-- a condition is read behind the operand, and then the old value, whatever the condition is
abbrev pub old_value : List Lval → Span → State → Evaluation Value
old_value (d ∷ []) at s = and_then (defined at (as_expr d)) (λ e. evaluated e (left_size d) s)
old_value _ at s = stuck_at at Init

abbrev pub chosen : Bool → Results → Value → Results
chosen c vs old = if c then vs else Some old ∷ []

abbrev pub conditioned : List Lval → Option Expr → Span → Results → State → Evaluation Results
conditioned to None at vs s = went [] vs
conditioned to (Some e) at vs s = and_then (bool_in at e s) (λ c. and_then (old_value to at s) (λ old. went [] (chosen c vs old)))

-- the size of an assignment: that of its left sides, or else of its right side
abbrev pub assigned_whole : List Lval → Option Expr → Option Expr → Span → State → Evaluation State
assigned_whole to None cond at s = stuck_at at Init
assigned_whole to (Some e) cond at s =
    let z = option_or (left_sizes to) (own_size e) in
    and_then (results_of to e at z s) (λ vs. and_then (conditioned to cond at vs s) (λ ws. all_written at z to ws s))

abbrev pub assigned : List Lval → Option BinOp → Expr → Option Expr → Span → State → Evaluation State
assigned to op e cond at s = assigned_whole to (whole_of (last_left to) op e) cond at s
