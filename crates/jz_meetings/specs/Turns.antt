-- What a pass makes of trees: copies have other names, inline parts are their values, and cells of
-- arrays in registers are words.
use Rattle.std.specs.Prelude.{◌≡◌, ℕ, ℤ, pos, Bool, true, Option, Some, None, if◌then◌else◌}
use Rattle.jz_integers.specs.declared.constant.Constant.{Constant}
use Rattle.jz_select.specs.Trees.{Named, Tree, Number, Truth, Name, CellOf, Loaded, Minus, Opposite, CastTo, Both}
use Rattle.jz_meetings.specs.Meetings.{tree_value, no_values, Place, Nothing, Whole, CellAt, AtMemory}

pub record Turn : Type 0 where
  -- the constant that a tree becomes, if it becomes one
  pub whole : Tree → Option Tree
  -- the name of a variable
  pub name : Named → Named
  -- whether the cell of an array with that number becomes a word
  pub cells : Named → ℕ → Bool

-- the cell of an array as a variable
abbrev pub word_name : Named → ℕ → Named
word_name v n = record { name = v.name; copy = v.copy; cell = Some n }

-- the word that a cell becomes, if it becomes one
abbrev pub word_of : Turn → Named → Tree → Option Named
word_of t v (Number (pos n)) = if t.cells v n then Some (word_name v n) else None
word_of t v _ = None

abbrev pub or_tree : Option Tree → Tree → Tree
or_tree None t = t
or_tree (Some c) t = c

abbrev pub cell_or : Named → Tree → Option Named → Tree
cell_or v j None = CellOf v j
cell_or v j (Some w) = Name w

abbrev pub turned : Turn → Tree → Tree
turned t (Number n) = Number n
turned t (Truth b) = Truth b
turned t (Name v) = or_tree (t.whole (Name v)) (Name (t.name v))
turned t (CellOf v j) = cell_or (t.name v) (turned t j) (word_of t v j)
turned t (Loaded a) = Loaded (turned t a)
turned t (Minus a) = or_tree (t.whole (Minus a)) (Minus (turned t a))
turned t (Opposite a) = or_tree (t.whole (Opposite a)) (Opposite (turned t a))
turned t (CastTo z signed a) = CastTo z signed (turned t a)
turned t (Both o a b) = or_tree (t.whole (Both o a b)) (Both o (turned t a) (turned t b))

abbrev pub place_or : Named → Tree → Option Named → Place
place_or d k None = CellAt d k
place_or d k (Some w) = Whole w

abbrev pub turned_place : Turn → Place → Place
turned_place t Nothing = Nothing
turned_place t (Whole d) = Whole (t.name d)
turned_place t (CellAt d k) = place_or (t.name d) (turned t k) (word_of t d k)
turned_place t (AtMemory k) = AtMemory (turned t k)

-- ---- which passes
abbrev pub IsConstant : Tree → Type 0
IsConstant (Number n) = Unit {0}
IsConstant (Truth b) = Unit {0}
IsConstant _ = ⊥

-- what becomes a constant has that value, where it has one by itself
pub record IsTurn (t : Turn) : Type 0 where
  pub constant : (s c : Tree) → t.whole s ≡ Some c → IsConstant c
  pub written :
      (s c : Tree) (v : Constant) → t.whole s ≡ Some c → tree_value no_values s ≡ Some v
      → tree_value no_values c ≡ Some v

-- ---- over variables
abbrev pub IsNumeral : Tree → Type 0
IsNumeral t = (n : ℤ) × (t ≡ Number n)

-- P of each variable; those that are arrays in registers stand before a number
module _ (P : Named → Type 0) (registers : Named → Bool) where
  abbrev pub Indexed : Named → Tree → Type 0
  Indexed v j = registers v ≡ true → IsNumeral j

  abbrev pub OverTree : Tree → Type 0
  OverTree (Number n) = Unit {0}
  OverTree (Truth b) = Unit {0}
  OverTree (Name v) = P v
  OverTree (CellOf v j) = P v × Indexed v j × OverTree j
  OverTree (Loaded a) = OverTree a
  OverTree (Minus a) = OverTree a
  OverTree (Opposite a) = OverTree a
  OverTree (CastTo z signed a) = OverTree a
  OverTree (Both o a b) = OverTree a × OverTree b
