-- What the code makes of parts of statements.
use Rattle.std.specs.Prelude.{◌≡◌, Bool, List, [], ◌∷◌, ◌++◌, Option, Some, None, Result, Ok, Err}
use Rattle.jz_tree.specs.Span.{Span}
use Rattle.jz_tree.specs.declared.expr.Expr.{Expr}
use Rattle.jz_tree.specs.declared.stmt.StmtKind.{StmtKind}
use Rattle.jz_tree.specs.declared.stmt.StmtKind.TheFolds.{fold-StmtKind}
use Rattle.jz_meaning.specs.Runs.{kind_tree}
use Rattle.jz_meaning.specs.Statements.{Block}
use Rattle.jz_operations.specs.declared.operation.Condition.TheVariants as condition
use Rattle.jz_change.specs.declared.change.Numbers.TheVariants.{These}
use Rattle.jz_change.specs.declared.change.Step.TheVariants as step
use Rattle.jz_place.specs.declared.tree.Node.{Node}
use Rattle.jz_place.specs.declared.tree.Node.TheVariants as node
use Rattle.jz_place.specs.declared.tree.Test.TheVariants as test
use Rattle.jz_place.specs.Bodies.{asked_of}
use Rattle.jz_homes.specs.Homes.{Homes}
use Rattle.jz_row_operations.specs.Codes.{plain}
use Rattle.jz_row_operations.specs.Lowering.{condition_shown}
use Rattle.jz_every_row.specs.Statements.{MakesTest, MakesLoopTest}
use Rattle.jz_total_flags.specs.Ready.{HasTest, HasLoopTest}
use Rattle.jz_operands.specs.TableHomes.{leaks_of}
use Rattle.jz_rows.specs.declared.row.Act.{Act}
use Rattle.jz_rows.specs.declared.row.Row.{Row}
use Rattle.jz_rows.specs.declared.comparing.Comparison.{Comparison}
use Rattle.jz_rows.specs.Rows.{items_of}
use Rattle.jz_pinned_rows.specs.declared.row.PinnedRow.{PinnedRow}
use Rattle.jz_pinned_rows.specs.declared.choosing.FlagTest.{FlagTest}
use Rattle.jz_pinned_rows.specs.Rows.{items_of as pinned_items}
use Rattle.jz_lowering.specs.declared.parts.Asking.{Asking}
use Rattle.jz_lowering.specs.declared.parts.Lowered.{Lowered}
use Rattle.jz_lowering.specs.Becoming.{no_callees}

-- a statement without its annotations, at a place
abbrev pub kind_piece : StmtKind → Span → Block → Block
kind_piece = fold-StmtKind _ _ (kind_tree no_callees) (λ s. s.kind s.span)

-- ---- operations
abbrev pub nodes_in : Span → Option Act → List Node
nodes_in at None = []
nodes_in at (Some a) = node.Do (plain at a.action) ∷ []

abbrev pub row_lowered : Span → Row → Lowered
row_lowered at r = record {
  nodes = nodes_in at r.before ++ (node.Do (plain at r.last.action) ∷ []);
  steps = step.Ops (items_of r) ∷ [];
}

-- with flags that become variables
abbrev pub pinned_lowered : Span → PinnedRow → Lowered
pinned_lowered at r = record {
  nodes =
      nodes_in at r.acts.before ++ (nodes_in at r.acts.between
      ++ (node.Do (record { span = at; action = r.acts.last.action; flags = r.flags }) ∷ []));
  steps = step.Ops (pinned_items r.acts) ∷ [];
}

-- ---- tests
abbrev pub asking_of : Span → Comparison → Asking
asking_of at c = record {
  test = test.If (Some (plain at c.action)) (condition.Cc c.cond);
  item = condition_shown (leaks_of c.first) (leaks_of c.second) 0;
}

abbrev pub flag_asking : FlagTest → Asking
flag_asking t = record {
  test = test.If None (condition.Flag t.variable t.denied);
  item = These [];
}

abbrev pub always_asking : Asking
always_asking = record { test = test.Always; item = These [] }

abbrev pub IsTest : Homes → Span → Expr → Asking → Type 0
IsTest home at e a = MakesTest home (record { cond = e; at = at }) (asked_of a.test) a.item

abbrev pub IsLoopTest : Homes → Span → Expr → Asking → Type 0
IsLoopTest home at e a =
    MakesLoopTest home (record { cond = e; at = at }) (asked_of a.test) a.item

-- the test, or it is refused where its statement stands
abbrev pub TestOr : Homes → Span → Expr → Result Asking Span → Type 0
TestOr home at e (Ok a) = IsTest home at e a
TestOr home at e (Err s) = (s ≡ at) × (HasTest home (record { cond = e; at = at }) → ⊥)

abbrev pub LoopTestOr : Homes → Span → Expr → Result Asking Span → Type 0
LoopTestOr home at e (Ok a) = IsLoopTest home at e a
LoopTestOr home at e (Err s) = (s ≡ at) × (HasLoopTest home (record { cond = e; at = at }) → ⊥)

-- ---- branches and loops
abbrev pub branch_lowered : Asking → Lowered → Lowered → Lowered
branch_lowered a x y = record {
  nodes = node.If a.test x.nodes y.nodes ∷ [];
  steps = step.If [] a.item (record { steps = x.steps }) (record { steps = y.steps }) ∷ [];
}

abbrev pub loop_lowered : Bool → Lowered → Asking → Lowered → Lowered
loop_lowered bare x a y = record {
  nodes = node.While bare x.nodes a.test y.nodes ∷ [];
  steps = step.While (record { steps = x.steps }) [] a.item (record { steps = y.steps }) ∷ [];
}
