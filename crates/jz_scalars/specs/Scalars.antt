-- What statements become where the cells of register arrays are scalars, and what that makes of a
-- leak. Each keeps its annotations and its place.
use Rattle.std.specs.Prelude.{Bool, List, [], ◌∷◌, ◌++◌, map, Option, Some, None, option_map}
use Rattle.jz_tree.specs.Spellings.{spelled}
use Rattle.jz_tree.specs.declared.expr.BinOp.{BinOp}
use Rattle.jz_tree.specs.declared.expr.Expr.{Expr}
use Rattle.jz_tree.specs.declared.expr.Var.{Var}
use Rattle.jz_tree.specs.declared.stmt.Lval.{Lval}
use Rattle.jz_tree.specs.declared.stmt.Rhs.{Rhs}
use Rattle.jz_tree.specs.declared.stmt.Rhs.TheVariants as rhs
use Rattle.jz_tree.specs.declared.stmt.Stmt.{Stmt}
use Rattle.jz_tree.specs.declared.stmt.StmtKind.{StmtKind}
use Rattle.jz_tree.specs.declared.stmt.StmtKind.TheVariants as kind
use Rattle.jz_tree.specs.declared.stmt.StmtKind.TheOpen.{StmtKind-F, Stmt-F}
use Rattle.jz_tree.specs.declared.stmt.StmtKind.TheViews.{roll-Stmt}
use Rattle.jz_tree.specs.declared.stmt.StmtKind.TheFolds.{fold-Stmt, fold-StmtKind}
use Rattle.jz_change.specs.declared.change.Step.{Step}
use Rattle.jz_change.specs.declared.change.Step.TheVariants as step
use Rattle.jz_meaning.specs.Shapes.{Sort}
use Rattle.jz_inline.specs.Widths.{declared_shape}
use Rattle.jz_inline.specs.Statements.{all_steps}
use Rattle.jz_arrays.specs.Arrays.{numbers_left}
use Rattle.jz_arrays.specs.Cells.{with_scalars, left_with_scalars, Mask, mask_of, assign_mask, instruction_mask}
use Rattle.jz_scalars.specs.declared.made.MadeKind.{MadeKind}
use Rattle.jz_scalars.specs.declared.made.MadeOne.{MadeOne}
use Rattle.jz_scalars.specs.declared.made.Made.{Made}

-- ---- assignments

-- what an expression is by what its variables are declared to hold
abbrev pub declared_sort : Expr → Sort
declared_sort e = (declared_shape e).sort

abbrev pub right_with_scalars : Rhs → Rhs
right_with_scalars (rhs.Value e) = rhs.Value (with_scalars e)
right_with_scalars (rhs.Call n args at) = rhs.Call n (map with_scalars args) at
right_with_scalars (rhs.Intrinsic n args at) = rhs.Intrinsic n (map with_scalars args) at

-- which of the numbers of an assignment are left. No call is left where this is used
abbrev pub right_mask : List Lval → Option BinOp → Rhs → Option Expr → Mask
right_mask to o (rhs.Value e) c = assign_mask declared_sort to o e c
right_mask to o (rhs.Call n args at) c = instruction_mask declared_sort None to args
right_mask to o (rhs.Intrinsic n args at) c =
    instruction_mask declared_sort (spelled n) to args

abbrev pub assign_steps : List Lval → Option BinOp → Rhs → Option Expr → List Step
assign_steps to o r c = step.Ops (numbers_left (right_mask to o r c) ∷ []) ∷ []

abbrev pub made_assign : List Lval → Option BinOp → Rhs → Option Expr → MadeKind
made_assign to o r c =
    record {
      kind =
          kind.Assign (map left_with_scalars to) o (right_with_scalars r)
          (option_map with_scalars c);
      steps = assign_steps to o r c;
    }

-- ---- statements with bodies

abbrev pub made_if : Expr → Made → Made → MadeKind
made_if c a b =
    record {
      kind = kind.If (with_scalars c) a.stmts b.stmts;
      steps =
          step.If [] (numbers_left (mask_of declared_sort c)) (all_steps a.steps)
          (all_steps b.steps) ∷ [];
    }

abbrev pub made_until : Made → Expr → MadeKind
made_until p c =
    record {
      kind = kind.While p.stmts (with_scalars c) None;
      steps =
          step.While (all_steps p.steps) [] (numbers_left (mask_of declared_sort c))
          (all_steps []) ∷ [];
    }

abbrev pub made_turns : Made → Expr → Made → MadeKind
made_turns p c b =
    record {
      kind = kind.While p.stmts (with_scalars c) (Some b.stmts);
      steps =
          step.While (all_steps p.steps) [] (numbers_left (mask_of declared_sort c))
          (all_steps b.steps) ∷ [];
    }

abbrev pub made_for : Var → Expr → Bool → Expr → Made → MadeKind
made_for i from down to b =
    record {
      kind = kind.For i (with_scalars from) down (with_scalars to) b.stmts;
      steps = step.For (all_steps b.steps) ∷ [];
    }

-- it leaks nothing
abbrev pub made_mark : List Var → MadeKind
made_mark xs = record { kind = kind.Mark xs; steps = [] }

-- ---- statements

-- statements in their order
abbrev pub all_made : List MadeOne → Made
all_made [] = record { stmts = []; steps = [] }
all_made (m ∷ ms) =
    record { stmts = m.stmt ∷ (all_made ms).stmts; steps = m.steps ++ (all_made ms).steps }

abbrev pub made_layer : StmtKind-F MadeKind MadeOne → MadeKind
made_layer (StmtKind-F.Assign to o r c) = made_assign to o r c
made_layer (StmtKind-F.If c a b) = made_if c (all_made a) (all_made b)
made_layer (StmtKind-F.While p c None) = made_until (all_made p) c
made_layer (StmtKind-F.While p c (Some b)) = made_turns (all_made p) c (all_made b)
made_layer (StmtKind-F.For i from down to b) = made_for i from down to (all_made b)
made_layer (StmtKind-F.Mark xs) = made_mark xs

abbrev pub one_made : Stmt-F MadeKind MadeOne → MadeOne
one_made s =
    record {
      stmt = roll-Stmt (record { notes = s.notes; span = s.span; kind = s.kind.kind });
      steps = s.kind.steps;
    }

abbrev pub kind_made : StmtKind → MadeKind
kind_made = fold-StmtKind MadeKind MadeOne made_layer one_made

abbrev pub statement_made : Stmt → MadeOne
statement_made = fold-Stmt MadeKind MadeOne made_layer one_made

abbrev pub block_made : List Stmt → Made
block_made ss = all_made (map statement_made ss)
