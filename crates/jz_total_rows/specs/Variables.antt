-- Variables of a function, as its statements name them, and their homes.
use Rattle.std.specs.Prelude.{◌≡◌, ◌<◌, ℕ, Some, None, slice_get}
use Rattle.jz_words.specs.declared.size.Size.{Size}
use Rattle.jz_tree.specs.declared.expr.Storage.TheVariants as storage
use Rattle.jz_tree.specs.declared.expr.Var.{Var}
use Rattle.jz_tree.specs.declared.program.Fun.{Fun}
use Rattle.jz_type_names.specs.declared.kinds.Kind.TheVariants as scope
use Rattle.jz_type_names.specs.Kinds.{known_of}
use Rattle.jz_type_names.specs.Scopes.{variables_of}
use Rattle.jz_meaning.specs.declared.access.Kind.TheVariants as kind
use Rattle.jz_meaning.specs.Values.{ref_of}
use Rattle.jz_homes.specs.Homes.{Homes}
use Rattle.jz_declared.specs.Declared.{AreDeclared, held_of, kept_of}
use Rattle.jz_total_rows.specs.Expanded.{IsDeclared, HasHome}

-- it is a word or a bool in a register, a word of the stack, or an array there that has cells
pub data IsPlaced (v : Var) : Type 0 where
  a_word :
      (z : Size) → IsDeclared v storage.Reg (scope.Word z) → (ref_of v).kind ≡ kind.Word z
      → IsPlaced v
  a_flag : IsDeclared v storage.Reg scope.Truth → (ref_of v).kind ≡ kind.Bool → IsPlaced v
  a_scalar :
      (z : Size) → IsDeclared v storage.Stack (scope.Word z) → (ref_of v).kind ≡ kind.Word z
      → IsPlaced v
  an_array :
      (z : Size) (n : ℕ) → IsDeclared v storage.Stack (scope.Array z)
      → (ref_of v).kind ≡ kind.Array z n → 0 < n → IsPlaced v

abbrev pub AreOneName : Var → Var → Type 0
AreOneName x v = ((ref_of v).name ≡ (ref_of x).name) × ((ref_of v).copy ≡ (ref_of x).copy)

-- what stands for a declared variable: the variable itself, declared alike (an array that is lent
-- has the declaration of the parameter), or a cell of a register array, which the expansion makes a
-- word of its own
pub data Names (x v : Var) : Type 0 where
  itself :
      AreOneName x v → (ref_of v).cell ≡ None → known_of v ≡ known_of x
      → (ref_of v).kind ≡ (ref_of x).kind → IsPlaced v → Names x v
  a_cell :
      (z : Size) (n i : ℕ)
      → AreOneName x v → (ref_of v).cell ≡ Some i → i < n
      → IsDeclared x storage.Reg (scope.Array z) → (ref_of x).kind ≡ kind.Array z n
      → IsDeclared v storage.Reg (scope.Word z) → (ref_of v).kind ≡ kind.Word z → Names x v

-- it has the home that its declaration gives it
abbrev pub VariablesHaveHomes : Type 0
VariablesHaveHomes =
    (f : Fun) (home : Homes) (n : ℕ) (x v : Var)
    → AreDeclared (held_of f) (kept_of f) home → slice_get (variables_of f) n ≡ Some x
    → Names x v → HasHome home v
