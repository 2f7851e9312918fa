-- The rows of assignments of one left side, and how a first operand comes to its destination.
use Rattle.std.specs.Prelude.{◌≡◌, Bool, List, [], ◌∷◌, ◌++◌, All, Some}
use Rattle.jz_words.specs.declared.size.Size.{Size}
use Rattle.jz_tree.specs.declared.expr.Expr.{Expr}
use Rattle.jz_tree.specs.declared.stmt.Lval.{Lval}
use Rattle.jz_operations.specs.declared.operation.Arg.{Arg}
use Rattle.jz_operations.specs.declared.operation.Action.{Action}
use Rattle.jz_encodable.specs.Encodable.{CanEncode}
use Rattle.jz_change.specs.declared.change.Numbers.{Numbers}
use Rattle.jz_homes.specs.Homes.{Homes}
use Rattle.jz_row_operations.specs.Table.{brought}
use Rattle.jz_row_operations.specs.Lowering.{two_shown, HasRow, moves, sums, carries, signs, times, times_by, shifts, shifts_by, extends, lowest}
use Rattle.jz_operands.specs.declared.operands.Operand.{Operand}
use Rattle.jz_operands.specs.TableHomes.{homes_of, leaks_of}
use Rattle.jz_rows.specs.declared.bringing.Brought.{Brought}
use Rattle.jz_rows.specs.declared.row.Row.{Row}
use Rattle.jz_rows.specs.declared.targets.Target.{Target}
use Rattle.jz_rows.specs.Rows.{actions_in, items_in, item_of, acts_of, items_of}

-- the row of an assignment of this right side
abbrev pub IsRow : Target → Expr → Row → Type 0
IsRow t e r = HasRow (homes_of t.homes.now) t.size t.to.now e (acts_of r) (items_of r)

-- the copy before an action, and the action's second operand and numbers
pub record IsBrought (swaps : Bool) (z : Size) (d : Arg) (x y : Operand) (b : Brought) :
    Type 0 where
  pub actions : brought swaps z d x.arg y.arg ≡ Some (actions_in b.before, b.second)
  pub items :
      items_in b.before ++ (item_of b.shown ∷ [])
      ≡ two_shown swaps d x.arg y.arg (leaks_of x.leaks) (leaks_of y.leaks)

-- ---- which row it is
pub data Rule : Type 0 where
  Moves : Rule
  Sums : Rule
  Carries : Rule
  Signs : Rule
  Times : Rule
  TimesBy : Rule
  Shifts : Rule
  ShiftsBy : Rule
  Extends : Rule
  Lowest : Rule

abbrev pub rule_of : (home : Homes) (z : Size) (d : Lval) (e : Expr) (acts : List Action)
    (items : List Numbers) → HasRow home z d e acts items → Rule
rule_of home z d e acts items (moves ia id) = Moves
rule_of home z d e acts items (sums at s ia ic id ni code) = Sums
rule_of home z d e acts items (carries f k inner at s ia ic id ni flag span code) = Carries
rule_of home z d e acts items (signs s ia id ni code) = Signs
rule_of home z d e acts items (times at wide ia ic id ni code) = Times
rule_of home z d e acts items (times_by at wide ia ic id ni) = TimesBy
rule_of home z d e acts items (shifts n there at s less ia id ni code) = Shifts
rule_of home z d e acts items (shifts_by v k there inner at s flag span ia id code) = ShiftsBy
rule_of home z d e acts items (extends sign at own less ia ni id) = Extends
rule_of home z d e acts items (lowest at own less ia id) = Lowest

-- an assignment of this right side has no row of this kind whose actions can be encoded
abbrev pub NeverBy : Rule → Target → Expr → Type 0
NeverBy r t e =
    (acts : List Action) (items : List Numbers)
    (row : HasRow (homes_of t.homes.now) t.size t.to.now e acts items)
    → rule_of (homes_of t.homes.now) t.size t.to.now e acts items row ≡ r
    → All CanEncode acts → ⊥

-- nor of any other kind
abbrev pub NeverRow : Target → Expr → Type 0
NeverRow t e =
    (acts : List Action) (items : List Numbers)
    → HasRow (homes_of t.homes.now) t.size t.to.now e acts items → All CanEncode acts → ⊥
