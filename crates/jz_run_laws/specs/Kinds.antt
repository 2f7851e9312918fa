-- What a state holds where each variable has nothing or a value of its declared kind.
use Rattle.std.specs.Prelude.{◌≡◌, ◌<◌, ℕ, nat_lt, List, Option, Some, None, if◌then◌else◌}
use Rattle.std.specs.FinMap.{get}
use Rattle.jz_tree.specs.Sizes.{modulus}
use Rattle.jz_tree.specs.Memory.{Memory}
use Rattle.jz_meaning.specs.declared.access.Kind.{Kind}
use Rattle.jz_meaning.specs.declared.access.Kind.TheVariants as kind
use Rattle.jz_meaning.specs.States.{Value, word, boolean, integer, Key, Store, State}
use Rattle.jz_meaning.specs.Shapes.{Sort, words, flags, integers, Sorts}

-- what each variable of a function is declared to be, by its name and its copy
abbrev pub Kinds : Type 0
Kinds = List ℕ → ℕ → Kind

-- what a cell of a variable is; only an array has cells
abbrev pub cell_of : Kind → ℕ → Kind
cell_of (kind.Array z n) i = if nat_lt i n then kind.Word z else kind.Undeclared
cell_of _ i = kind.Undeclared

abbrev pub part_of : Kind → Option ℕ → Kind
part_of k None = k
part_of k (Some i) = cell_of k i

-- what a variable, or one cell of it, is
abbrev pub kind_at : Kinds → Key → Kind
kind_at kinds k = part_of (kinds k.name k.copy) k.cell

-- a word of a size is below the number of words of that size
abbrev pub FitsSize : Value → Type 0
FitsSize (word z a) = a < modulus z
FitsSize (boolean c) = Unit {0}
FitsSize (integer i) = Unit {0}

-- a value of a kind; an array has no value, its cells have
abbrev pub IsOfKind : Kind → Value → Type 0
IsOfKind (kind.Word z) (word y a) = (y ≡ z) × (a < modulus z)
IsOfKind kind.Bool (boolean c) = Unit {0}
IsOfKind kind.Int (integer i) = Unit {0}
IsOfKind _ _ = ⊥

-- each variable, and each cell of an array, has nothing or a value of its kind
abbrev pub HoldsKinds : Kinds → Store → Type 0
HoldsKinds kinds store = (k : Key) (v : Value) → store k ≡ Some v → IsOfKind (kind_at kinds k) v

-- what stands at a valid address is a byte
abbrev pub HoldsBytes : Memory → Type 0
HoldsBytes m = (a b : ℕ) → get m a ≡ Some b → b < 256

pub record IsOfKinds (kinds : Kinds) (s : State) : Type 0 where
  pub variables : HoldsKinds kinds s.store
  pub bytes : HoldsBytes s.memory

-- the sort of what a variable of a kind may hold, itself or in a cell
abbrev pub sort_of_kind : Kind → Sort
sort_of_kind kind.Undeclared = words
sort_of_kind kind.Int = integers
sort_of_kind kind.Bool = flags
sort_of_kind (kind.Word z) = words
sort_of_kind (kind.Array z n) = words

abbrev pub sorts_of : Kinds → Sorts
sorts_of kinds name copy = sort_of_kind (kinds name copy)
