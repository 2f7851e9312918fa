-- How a destination and an operand meet, by their trees alone.
use Rattle.std.specs.Prelude.{◌&&◌, ◌||◌, Bool, false, Option, Some, None, if◌then◌else◌}
use Rattle.jz_tree.specs.declared.expr.Expr.TheViews.{out-Access}
use Rattle.jz_tree.specs.declared.stmt.Lval.{Lval}
use Rattle.jz_tree.specs.declared.stmt.Lval.TheVariants as lval
use Rattle.jz_integers.specs.declared.constant.Constant.{Constant}
use Rattle.jz_integers.specs.Integers.{KnownNumbers, number, truth, joined, minus, opposite, the_number}
use Rattle.jz_select.specs.declared.class.Meeting.{Meeting}
use Rattle.jz_select.specs.declared.class.Meeting.TheVariants as meeting
use Rattle.jz_select.specs.Trees.{Named, named_variable, names_eq, Tree, Number, Truth, Name, CellOf, Loaded, Minus, Opposite, CastTo, Both, tree_of, numbered_tree, tree_eq}
use Rattle.jz_select.specs.Places.{Answers, one_cell, same_index, elsewhere, one_or_apart}

-- ---- values and indexes
-- the value of an inline tree, with these numbers
abbrev pub tree_value : KnownNumbers → Tree → Option Constant
tree_value k (Number n) = number (Some n)
tree_value k (Truth b) = truth b
tree_value k (Name v) = number (k v.name v.copy)
tree_value k (CellOf v j) = None
tree_value k (Loaded t) = None
tree_value k (Minus t) = minus (tree_value k t)
tree_value k (Opposite t) = opposite (tree_value k t)
tree_value k (CastTo z signed t) = None
tree_value k (Both o a b) = joined o (tree_value k a) (tree_value k b)

abbrev pub no_values : KnownNumbers
no_values = λ name copy. None

-- an index: its value, where it is built of numbers alone and has one, else the tree
abbrev pub index_tree : Tree → Tree
index_tree t = numbered_tree (the_number (tree_value no_values t)) t

-- ---- where a variable, or its cell with that index, stands in a tree
abbrev pub stands : Answers → Named → Option Tree → Tree → Bool
stands answers d i (Number n) = false
stands answers d i (Truth b) = false
stands answers d i (Name v) = names_eq v d
stands answers d i (CellOf v j) =
    (names_eq v d && same_index answers i (index_tree j)) || stands answers d i j
stands answers d i (Loaded t) = stands answers d i t
stands answers d i (Minus t) = stands answers d i t
stands answers d i (Opposite t) = stands answers d i t
stands answers d i (CastTo z signed t) = stands answers d i t
stands answers d i (Both o a b) = stands answers d i b || stands answers d i a

-- ---- destinations
-- nothing, a variable, a cell of an array at an index, or an access at an address
pub data Place : Type 0 where
  Nothing : Place
  Whole : Named → Place
  CellAt : Named → Tree → Place
  AtMemory : Tree → Place

abbrev pub place_of : Lval → Place
place_of (lval.Skip at) = Nothing
place_of (lval.Var v) = Whole (named_variable v)
place_of (lval.Cell v i) = CellAt (named_variable v) (tree_of i)
place_of (lval.Store a) = AtMemory (tree_of (out-Access a).at)

-- equal variables, one cell of an array and accesses with equal address trees are one place
abbrev pub meets : Answers → Place → Tree → Meeting
meets answers Nothing t = meeting.Apart
meets answers (Whole d) (Name v) = one_or_apart (names_eq v d)
meets answers (Whole d) t = elsewhere (stands answers d None t)
meets answers (CellAt d k) (CellOf v j) =
    if names_eq v d then one_or_apart (one_cell answers (index_tree k) (index_tree j))
    else elsewhere (stands answers d (Some (index_tree k)) (CellOf v j))
meets answers (CellAt d k) t = elsewhere (stands answers d (Some (index_tree k)) t)
meets answers (AtMemory k) (Loaded t) = one_or_apart (tree_eq k t)
meets answers (AtMemory k) t = meeting.Apart
