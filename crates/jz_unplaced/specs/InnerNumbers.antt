-- The variable of a number, found by going through declarations.
use Rattle.std.specs.Prelude.{◌≡◌, ◌+◌, ℕ, List, length, Option, Some, None, slice_get}
use Rattle.jz_tree.specs.declared.expr.Storage.TheVariants as storage
use Rattle.jz_tree.specs.declared.expr.Var.{Var}
use Rattle.jz_meaning.specs.declared.access.Kind.{Kind}
use Rattle.jz_meaning.specs.declared.access.Kind.TheVariants as kind
use Rattle.jz_meaning.specs.Values.{ref_of}
use Rattle.jz_declared.specs.Declared.{Held, held_as}
use Rattle.jz_unplaced.specs.declared.unplaced.Named.{Named}
use Rattle.jz_unplaced.specs.declared.numbers.Found.{Found}
use Rattle.jz_unplaced.specs.declared.numbers.Found.TheVariants.{Here, Past}
use Rattle.jz_unplaced.specs.Names.{named_by}

-- what a variable in registers stands for
abbrev pub held_in_registers : Var → List Held
held_in_registers v = held_as storage.Reg (ref_of v).kind (ref_of v)

-- which cell the variable of this number is
abbrev pub cell_by : Kind → ℕ → Option ℕ
cell_by (kind.Array z n) k = Some k
cell_by m k = None

-- the variable of this number has this name
pub record IsHere (hs : List Held) (n : ℕ) (x : Named) : Type 0 where
  pub held : Held
  pub there : slice_get hs n ≡ Some held
  pub named : x ≡ named_by held.key

-- it is there, or the number is so far behind the last
abbrev pub Finds : List Held → ℕ → Found → Type 0
Finds hs n (Here x) = IsHere hs n x
Finds hs n (Past rest) = n ≡ length hs + rest
