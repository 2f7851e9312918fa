-- What the parts of statements do: assignments and instructions, tests, counters of `for`, and
-- calls. An argument is evaluated in the caller's state; each call has fresh variables, and its
-- array parameters are the caller's arrays.
use Rattle.std.specs.Prelude.{ℕ, zero, suc, Bool, List, [], ◌∷◌, Option, Some, None, if◌then◌else◌, ℤ, pos, negsuc, ◌+ℤ◌, ◌-ℤ◌}
use Rattle.jz_tree.specs.Span.{Span}
use Rattle.jz_tree.specs.declared.expr.BinOp.{BinOp}
use Rattle.jz_tree.specs.declared.expr.Expr.{Expr}
use Rattle.jz_tree.specs.declared.expr.Expr.TheOpen.{Expr-F}
use Rattle.jz_tree.specs.declared.expr.Expr.TheViews.{out-Expr}
use Rattle.jz_tree.specs.declared.expr.Var.{Var}
use Rattle.jz_tree.specs.declared.stmt.Lval.{Lval}
use Rattle.jz_tree.specs.declared.stmt.Lval.TheVariants as lval
use Rattle.jz_tree.specs.declared.program.Fun.{Fun}
use Rattle.jz_tree.specs.declared.program.Param.{Param}
use Rattle.jz_tree.specs.Spellings.{spelled}
use Rattle.jz_runs.specs.Trees.{Tree}
use Rattle.jz_runs.specs.Rules.{went, Parts}
use Rattle.jz_meaning.specs.declared.access.Kind.{Kind}
use Rattle.jz_meaning.specs.declared.access.Kind.TheVariants as kind
use Rattle.jz_meaning.specs.declared.value.Why.TheVariants.{Init}
use Rattle.jz_meaning.specs.declared.value.Stuck.{Stuck}
use Rattle.jz_meaning.specs.Attempts.{Evaluation, stuck_at, and_then}
use Rattle.jz_meaning.specs.States.{Value, integer, Store, empty_store, put, State}
use Rattle.jz_meaning.specs.Values.{size_of, Ref, key_of, cell_key, variable_value, ref_of, evaluated}
use Rattle.jz_meaning.specs.Assignments.{held, with_value, written, bool_in, assigned}
use Rattle.jz_meaning.specs.Intrinsics.{instruction_done}

-- ---- what stands at the nodes of a tree

pub data Operation : Type 0 where
  -- left sides, the operation of `op=`, the right side, the condition
  assign : List Lval → Option BinOp → Expr → Option Expr → Span → Operation
  -- left sides, the name, the operands, the place of the name
  instruction : List Lval → List ℕ → List Expr → Span → Operation
  -- the head of a copied body
  unset : List Var → Operation
  -- what typing excludes
  meaningless : Span → Operation

pub record Condition : Type 0 where
  pub cond : Expr
  pub at : Span

-- `for` with its bounds
pub record Counter : Type 0 where
  pub counter : Var
  pub from : Expr
  pub down : Bool
  pub to : Expr
  pub at : Span

pub record Call : Type 0 where
  pub to : List Lval
  pub callee : Fun
  pub args : List Expr
  pub at : Span

abbrev pub Block : Type 0
Block = Tree Operation Condition Counter Call

-- ---- operations and tests

abbrev pub does : Operation → State → Evaluation State
does (assign to o e c at) s = assigned to o e c at s
does (instruction to n args at) s = instruction_done (spelled n) to args at s
does (unset xs) s = went [] s
does (meaningless at) s = stuck_at at Init

-- the first n cells of an array without a value
abbrev pub no_cells : ℕ → Ref → Store → Store
no_cells zero x store = store
no_cells (suc n) x store = put (no_cells n x store) (cell_key x n) None

abbrev pub without : Kind → Ref → Store → Store
without (kind.Array z n) x store = no_cells n x store
without k x store = put store (key_of x) None

abbrev pub all_unset : List Var → Store → Store
all_unset [] store = store
all_unset (x ∷ xs) store = all_unset xs (without (ref_of x).kind (ref_of x) store)

abbrev pub quiets : Operation → State → State
quiets (unset xs) s = record s { store = all_unset xs s.store }
quiets _ s = s

abbrev pub tests : Condition → State → Evaluation Bool
tests c s = bool_in c.at c.cond s

-- ---- `for`

abbrev pub number_at : Span → Value → Evaluation ℤ
number_at at (integer i) = went [] i
number_at at _ = stuck_at at Init

abbrev pub number_in : Span → Expr → State → Evaluation ℤ
number_in at e s = and_then (evaluated e None s) (number_at at)

-- so many numbers from this one on, upwards or downwards
abbrev pub rising : ℕ → ℤ → List ℤ
rising zero i = []
rising (suc k) i = i ∷ rising k (i +ℤ pos 1)

abbrev pub falling : ℕ → ℤ → List ℤ
falling zero i = []
falling (suc k) i = i ∷ falling k (i -ℤ pos 1)

abbrev pub from_zero : ℤ → ℕ
from_zero (pos n) = n
from_zero (negsuc n) = 0

-- `for i = a to b` is of a, .., b - 1, and `for i = a downto b` of a, .., b + 1
abbrev pub values_between : Bool → ℤ → ℤ → List ℤ
values_between down a b = if down then falling (from_zero (a -ℤ b)) a else rising (from_zero (b -ℤ a)) a

abbrev pub counts : Counter → State → Evaluation (List ℤ)
counts f s = and_then (number_in f.at f.from s) (λ a. and_then (number_in f.at f.to s) (λ b. went [] (values_between f.down a b)))

abbrev pub begins : Counter → ℤ → State → State
begins f i s = with_value s (key_of (ref_of f.counter)) (Some (integer i))

-- afterwards the counter is what it was before the loop
abbrev pub restores : Counter → State → State → State
restores f before s = with_value s (key_of (ref_of f.counter)) (before.store (key_of (ref_of f.counter)))

-- ---- calls

-- the cells of an array below n become those of another one, also where they have no value
abbrev pub copied : ℕ → Ref → Ref → Store → Store → Store
copied zero to from source store = store
copied (suc n) to from source store = put (copied n to from source store) (cell_key to n) (source (cell_key from n))

-- an argument that is an array stands for the variable itself
abbrev pub array_layer : {A B C D : Type 0} → Expr-F A B C D Var → Option Ref
array_layer (Expr-F.Var x) = Some (ref_of x)
array_layer _ = None

abbrev pub array_of : Expr → Option Ref
array_of e = array_layer (out-Expr e)

abbrev pub array_passed : Span → ℕ → Ref → Option Ref → Store → Store → Evaluation Store
array_passed at n p None outer inner = stuck_at at Init
array_passed at n p (Some x) outer inner = went [] (copied n p x outer inner)

-- an argument is evaluated in the caller's state, and its parameter set among the callee's
-- variables
abbrev pub passed : Span → Kind → Ref → Expr → State → Store → Evaluation Store
passed at (kind.Array z n) p e s inner = array_passed at n p (array_of e) s.store inner
passed at k p e s inner = and_then (evaluated e (size_of k) s) (λ v. and_then (held p.span k v) (λ h. went [] (put inner (key_of p) (Some h))))

abbrev pub all_passed : Span → List Param → List Expr → State → Store → Evaluation Store
all_passed at [] [] s inner = went [] inner
all_passed at (p ∷ ps) (e ∷ es) s inner = and_then (passed at (ref_of p.var).kind (ref_of p.var) e s inner) (all_passed at ps es s)
all_passed at _ _ s inner = stuck_at at Init

-- no other variable of the callee has a value
abbrev pub enters : Call → State → Evaluation State
enters c s = and_then (all_passed c.at c.callee.params c.args s empty_store) (λ inner. went [] (record { store = inner; memory = s.memory }))

-- an array that was passed is the caller's: what its cells are at the end they are there
abbrev pub array_back : Kind → Ref → Option Ref → Store → Store → Store
array_back (kind.Array z n) p (Some x) inner outer = copied n x p inner outer
array_back _ p x inner outer = outer

abbrev pub arrays_back : List Param → List Expr → Store → Store → Store
arrays_back (p ∷ ps) (e ∷ es) inner outer = arrays_back ps es inner (array_back (ref_of p.var).kind (ref_of p.var) (array_of e) inner outer)
arrays_back _ _ inner outer = outer

-- each result is read just before its left side; one that is dropped is not read, and one that is
-- an array is the caller's already
abbrev pub given : Kind → Ref → Lval → Store → State → Evaluation State
given k x (lval.Skip at) inner s = went [] s
given (kind.Array z n) x d inner s = went [] s
given k x d inner s = and_then (variable_value x inner) (λ v. written (size_of k) d (Some v) s)

abbrev pub all_given : Span → List Lval → List Var → Store → State → Evaluation State
all_given at [] [] inner s = went [] s
all_given at (d ∷ ds) (x ∷ xs) inner s = and_then (given (ref_of x).kind (ref_of x) d inner s) (all_given at ds xs inner)
all_given at _ _ inner s = stuck_at at Init

-- of the caller's state before, and the callee's at its end
abbrev pub leaves : Call → State → State → Evaluation State
leaves c s t =
    all_given c.at c.to c.callee.result t.store (record { store = arrays_back c.callee.params c.args t.store s.store; memory = t.memory })

abbrev pub source : Parts Operation Condition Counter Call State Stuck
source = record { does = does; quiets = quiets; tests = tests; settled = λ c s. s; counts = counts; begins = begins; restores = restores; enters = enters; leaves = leaves }
