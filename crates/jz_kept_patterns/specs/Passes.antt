-- What the passes of an expansion make of trees.
use Rattle.std.specs.Prelude.{◌&&◌, ℕ, Bool, true, false, Option, Some, None, if◌then◌else◌}
use Rattle.jz_integers.specs.declared.constant.Constant.{Constant}
use Rattle.jz_integers.specs.declared.constant.Constant.TheVariants as constant
use Rattle.jz_integers.specs.Integers.{KnownNumbers}
use Rattle.jz_select.specs.Trees.{Named, Tree, Number, Truth, Name, CellOf, Loaded, Minus, Opposite, CastTo, Both}
use Rattle.jz_inline.specs.Names.{Names}
use Rattle.jz_meetings.specs.Meetings.{tree_value}
use Rattle.jz_meetings.specs.Turns.{Turn}

-- ---- copies
abbrev pub name_in : Names → Named → Named
name_in names v =
    record { name = (names v.name).0; copy = (names v.name).1; cell = v.cell }

abbrev pub renaming : (Named → Named) → Turn
renaming n = record { whole = λ s. None; name = n; cells = λ v i. false }

-- ---- values
-- built of numbers, truths and inline variables
abbrev pub inline_tree : (Named → Bool) → Tree → Bool
inline_tree i (Number n) = true
inline_tree i (Truth b) = true
inline_tree i (Name v) = i v
inline_tree i (CellOf v j) = false
inline_tree i (Loaded a) = false
inline_tree i (Minus a) = inline_tree i a
inline_tree i (Opposite a) = inline_tree i a
inline_tree i (CastTo z signed a) = false
inline_tree i (Both o a b) = inline_tree i a && inline_tree i b

abbrev pub constant_tree : Option Constant → Option Tree
constant_tree None = None
constant_tree (Some (constant.Int i)) = Some (Number i)
constant_tree (Some (constant.Bool b)) = Some (Truth b)

abbrev pub valuing : (Named → Bool) → KnownNumbers → Turn
valuing i k = record {
  whole = λ s. if inline_tree i s then constant_tree (tree_value k s) else None;
  name = λ v. v;
  cells = λ v n. false;
}

-- ---- words of cells
abbrev pub wording : (Named → ℕ → Bool) → Turn
wording c = record { whole = λ s. None; name = λ v. v; cells = c }
