-- Rows as values: their actions, and the numbers that each of them shows.
use Rattle.std.specs.Prelude.{ℕ, List, [], ◌∷◌, ◌++◌, map, Option, Some, None}
use Rattle.jz_tree.specs.Span.{Span}
use Rattle.x64_insn.specs.declared.types.Cond.{Cond}
use Rattle.jz_tree.specs.declared.expr.BinOp.{BinOp}
use Rattle.jz_tree.specs.declared.expr.Expr.{Expr}
use Rattle.jz_tree.specs.declared.stmt.Lval.{Lval}
use Rattle.jz_meaning.specs.Statements.{assign}
use Rattle.jz_operations.specs.declared.operation.Action.{Action}
use Rattle.jz_operations.specs.declared.operation.Operation.{Operation}
use Rattle.jz_change.specs.declared.change.Number.{Number}
use Rattle.jz_change.specs.declared.change.Number.TheVariants.{Nth}
use Rattle.jz_change.specs.declared.change.Numbers.{Numbers}
use Rattle.jz_change.specs.declared.change.Numbers.TheVariants.{These}
use Rattle.jz_homes.specs.Homes.{Homes}
use Rattle.jz_homes.specs.Operands.{Leaks}
use Rattle.jz_row_operations.specs.Codes.{plain}
use Rattle.jz_row_operations.specs.Lowering.{IsCompared, Lowers}
use Rattle.jz_operands.specs.TableHomes.{leaks_of}
use Rattle.jz_rows.specs.declared.comparing.Comparison.{Comparison}
use Rattle.jz_rows.specs.declared.row.Shown.{Shown}
use Rattle.jz_rows.specs.declared.row.Act.{Act}
use Rattle.jz_rows.specs.declared.row.Row.{Row}

abbrev pub nth_of : Option ℕ → List Number
nth_of None = []
nth_of (Some i) = Nth i ∷ []

abbrev pub item_of : Shown → Numbers
item_of s = These (nth_of s.first ++ nth_of s.second)

abbrev pub actions_in : Option Act → List Action
actions_in None = []
actions_in (Some a) = a.action ∷ []

abbrev pub items_in : Option Act → List Numbers
items_in None = []
items_in (Some a) = item_of a.shown ∷ []

abbrev pub acts_of : Row → List Action
acts_of r = actions_in r.before ++ (r.last.action ∷ [])

abbrev pub items_of : Row → List Numbers
items_of r = items_in r.before ++ (item_of r.last.shown ∷ [])

-- each at this span
abbrev pub operations_at : Span → Row → List Operation
operations_at at r = map (plain at) (acts_of r)

-- ---- comparisons
-- the comparison behind which a condition holds where the expression is true
abbrev pub Compares : Homes → Expr → Comparison → Type 0
Compares home e c =
    (at : Span) → IsCompared home at e (plain at c.action) c.cond (leaks_of c.first)
    (leaks_of c.second)

-- ---- statements
-- the row of an assignment, wherever it stands
abbrev pub IsRowOf : Homes → List Lval → Option BinOp → Expr → Option Expr → Row → Type 0
IsRowOf home to o e c r =
    (at : Span) → Lowers home (assign to o e c at) (operations_at at r) (items_of r)

-- ---- what has no row
abbrev pub NeverCompares : Homes → Expr → Type 0
NeverCompares home e =
    (at : Span) (o : Operation) (c : Cond) (p q : Leaks) → IsCompared home at e o c p q → ⊥

abbrev pub NeverLowers : Homes → List Lval → Option BinOp → Expr → Option Expr → Type 0
NeverLowers home to o e c =
    (at : Span) (os : List Operation) (is : List Numbers)
    → Lowers home (assign to o e c at) os is → ⊥
