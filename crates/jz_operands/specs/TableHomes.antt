-- The homes that a table of variables says.
use Rattle.std.specs.Prelude.{◌≡◌, ◌<◌, ℕ, ◌==◌, nat_lt, nat_le, Bool, ◌&&◌, List, Option, Some, None, if◌then◌else◌}
use Rattle.std.specs.Option.{option_or}
use Rattle.std.specs.Str.{bytes_eq}
use Rattle.jz_words.specs.declared.size.Size.{Size}
use Rattle.jz_tree.specs.declared.expr.Access.{Access}
use Rattle.jz_tree.specs.declared.expr.Var.{Var}
use Rattle.indexmap.specs.IndexMap.{IndexMap, get}
use Rattle.jz_type_names.specs.Kinds.{same_size}
use Rattle.jz_meaning.specs.States.{Key, same_cell, same_key}
use Rattle.jz_homes.specs.Homes as homes
use Rattle.jz_homes.specs.Homes.{in_register, in_flag, in_cell}
use Rattle.jz_homes.specs.Operands as operands
use Rattle.jz_meaning.specs.declared.access.Kind.TheVariants as kind
use Rattle.jz_meaning.specs.Values.{cell_key, ref_of}
use Rattle.jz_operands.specs.declared.operands.Leaks.{Leaks}
use Rattle.jz_operands.specs.declared.operands.Leaks.TheVariants.{Silent, Hidden, Told}
use Rattle.jz_operands.specs.declared.homes.Home.{Home}
use Rattle.jz_operands.specs.declared.homes.Home.TheVariants.{Word, Flag, Slot, Cells}
use Rattle.jz_operands.specs.declared.homes.Place.{Place}
use Rattle.jz_operands.specs.declared.homes.Homes as code

abbrev pub same_place : Place → Place → Bool
same_place a b = a.copy == b.copy && same_cell a.cell b.cell

-- what a table of one name has at a place
abbrev pub entry_in : {S : Type 0} → Place → Option (IndexMap Place Home S) → Option Home
entry_in p None = None
entry_in p (Some m) = get same_place m p

abbrev pub entry_at : code.Homes → List ℕ → ℕ → Option ℕ → Option Home
entry_at t n copy cell = entry_in (record { copy = copy; cell = cell }) (get bytes_eq t.names n)

-- what it has at each key, and with one entry more
abbrev pub entries_of : code.Homes → Key → Option Home
entries_of t k = entry_at t k.name k.copy k.cell

abbrev pub no_entries : Key → Option Home
no_entries k = None

abbrev pub with_entry : (Key → Option Home) → Key → Option Home → Key → Option Home
with_entry entries k h q = if same_key k q then h else entries q

abbrev pub key_at : List ℕ → Place → Key
key_at n p = record { name = n; copy = p.copy; cell = p.cell }

-- the home of what is no cell of a stack array
abbrev pub scalar_home : Option Home → Option homes.Home
scalar_home (Some (Word n z)) = Some (in_register n z)
scalar_home (Some (Flag n)) = Some (in_flag n)
scalar_home (Some (Slot w z)) = Some (in_cell w 0 z)
scalar_home _ = None

-- a cell of a stack array is one of its stack variable
abbrev pub home_within : Option ℕ → Option Home → Option Home → Option homes.Home
home_within (Some i) (Some (Cells w z n)) e = if nat_lt i n then Some (in_cell w i z) else None
home_within _ _ e = scalar_home e

-- the first of the cells of a stack array, as a scalar
abbrev pub first_cell : ℕ → ℕ → Size → ℕ → Option Home
first_cell i w z n = if (i == 0) && nat_lt 0 n then Some (Slot w z) else None

abbrev pub homes_by : (Key → Option Home) → homes.Homes
homes_by entries k = home_within k.cell (entries (record k { cell = None })) (entries k)

abbrev pub homes_of : code.Homes → homes.Homes
homes_of t = homes_by (entries_of t)

-- the stack variable of a cell that is where a scalar is
abbrev pub one_cell : Option Home → Option (ℕ × Size × ℕ)
one_cell (Some (Slot w z)) = Some (w, z, 1)
one_cell _ = None

-- the cells of a variable are these, and no others
pub record IsStackOf (home : homes.Homes) (x : Var) (w : ℕ) (z : Size) (n : ℕ) : Type 0 where
  pub all : (i : ℕ) → i < n → home (cell_key (ref_of x) i) ≡ Some (in_cell w i z)
  pub only : (v i : ℕ) (y : Size)
      → home (cell_key (ref_of x) i) ≡ Some (in_cell v i y) → (v ≡ w) × (y ≡ z) × (i < n)

abbrev pub HasNoCell : homes.Homes → Var → Type 0
HasNoCell home x =
    (v i : ℕ) (y : Size) → home (cell_key (ref_of x) i) ≡ Some (in_cell v i y) → ⊥

-- an array of so many cells has some, which a stack variable has, and both are of this size
abbrev pub have_cells : Size → Size → ℕ → Size → ℕ → Bool
have_cells z own count y many =
    same_size own z && (same_size y z && (nat_lt 0 count && nat_le count many))

-- an array has cells, which are those of a stack variable
abbrev pub IsArrayAt : homes.Homes → Var → Size → ℕ → Type 0
IsArrayAt home x z w =
    (n : ℕ) × ((ref_of x).kind ≡ kind.Array z n) × (0 < n)
    × ((i : ℕ) → i < n → home (cell_key (ref_of x) i) ≡ Some (in_cell w i z))

-- an access that has no size has that of the other side
abbrev pub HasSize : Access → Size → Type 0
HasSize a z = option_or a.size (Some z) ≡ Some z

-- ---- what the code says of leaks
abbrev pub leaks_of : Leaks → operands.Leaks
leaks_of Silent = operands.silent
leaks_of Hidden = operands.hidden
leaks_of Told = operands.told
