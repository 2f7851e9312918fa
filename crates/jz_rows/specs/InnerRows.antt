-- What the code that finds rows keeps.
use Rattle.std.specs.Prelude.{◌≡◌, List, All, Option, Some}
use Rattle.std.specs.Option.{option_or}
use Rattle.jz_words.specs.declared.size.Size.{Size}
use Rattle.jz_tree.specs.declared.expr.Expr.{Expr}
use Rattle.jz_tree.specs.declared.stmt.Lval.{Lval}
use Rattle.jz_meaning.specs.Values.{own_size}
use Rattle.jz_operations.specs.declared.operation.Action.{Action}
use Rattle.jz_encodable.specs.Encodable.{CanEncode}
use Rattle.jz_change.specs.declared.change.Numbers.{Numbers}
use Rattle.jz_homes.specs.Homes.{Homes}
use Rattle.jz_row_operations.specs.Lowering.{HasRow}
use Rattle.jz_rows.specs.declared.row.Row.{Row}
use Rattle.jz_rows.specs.Rows.{acts_of, items_of}

-- the row of an assignment, where the left sides have this size; each action can be encoded
pub record IsSet (home : Homes) (left : Option Size) (d : Lval) (w : Expr) (r : Row) : Type 0 where
  pub size : Size
  pub is_size : option_or left (own_size w) ≡ Some size
  pub row : HasRow home size d w (acts_of r) (items_of r)
  pub can : All CanEncode (acts_of r)

-- and there is none of this size
abbrev pub NeverSet : Homes → Option Size → Lval → Expr → Type 0
NeverSet home left d w =
    (z : Size) (acts : List Action) (items : List Numbers)
    → option_or left (own_size w) ≡ Some z → HasRow home z d w acts items
    → All CanEncode acts → ⊥
