-- Where the values of a source run are in a run over variables.
use Rattle.std.specs.Prelude.{◌≡◌, ◌<◌, ◌⊎◌, ℕ, Bool, true, false, Option, Some, ⊤}
use Rattle.std.specs.FinMap.{get}
use Rattle.jz_words.specs.declared.size.Size.{Size}
use Rattle.jz_words.specs.Sizes.{modulus}
use Rattle.jz_meaning.specs.States as source
use Rattle.jz_meaning.specs.States.{Key, same_key}
use Rattle.jz_operations.specs.Values as over
use Rattle.jz_operations.specs.Rows.{Frame, has_cell}

-- a word in a variable, a flag in a variable, or a cell of a stack variable: its number, the cell's
pub data Home : Type 0 where
  in_register : ℕ → Size → Home
  in_flag : ℕ → Home
  in_cell : ℕ → ℕ → Size → Home

-- two homes are other variables, or other cells
abbrev pub AreApart : Home → Home → Type 0
AreApart (in_cell v i z) (in_cell w j y) = (v ≡ w → ⊥) ⊎ (i ≡ j → ⊥)
AreApart (in_cell v i z) y = ⊤
AreApart (in_register m z) (in_cell v i y) = ⊤
AreApart (in_register m z) (in_register n y) = m ≡ n → ⊥
AreApart (in_register m z) (in_flag n) = m ≡ n → ⊥
AreApart (in_flag m) (in_cell v i y) = ⊤
AreApart (in_flag m) (in_register n y) = m ≡ n → ⊥
AreApart (in_flag m) (in_flag n) = m ≡ n → ⊥

-- the home of what can have a value
abbrev pub Homes : Type 0
Homes = Key → Option Home

-- each has a home of its own, and a cell lies in its stack variable
pub record IsHoming (frame : Frame) (home : Homes) : Type 0 where
  pub same : (j k : Key) → same_key j k ≡ true → home j ≡ home k
  pub apart : (j k : Key) (x y : Home)
      → same_key j k ≡ false → home j ≡ Some x → home k ≡ Some y → AreApart x y
  pub framed : (k : Key) (v i : ℕ) (z : Size)
      → home k ≡ Some (in_cell v i z) → has_cell (frame v) z i ≡ true

-- the value is there
abbrev pub Holds : over.State → Home → source.Value → Type 0
Holds σ (in_register n z) v =
    (a : ℕ) × (v ≡ source.word z a) × (a < modulus z) × (σ.vars n ≡ Some (over.word z a))
Holds σ (in_flag n) v =
    (b : Bool) × (v ≡ source.boolean b) × (σ.vars n ≡ Some (over.boolean b))
Holds σ (in_cell w i z) v =
    (a : ℕ) × (v ≡ source.word z a) × (a < modulus z) × (σ.cells w i ≡ Some a)

-- What has a value and a home has its value there; what has none in the source may have one in the
-- other run. Memory is the same, and each of its bytes is one.
pub record IsRelated (home : Homes) (s : source.State) (σ : over.State) : Type 0 where
  pub holds : (k : Key) (x : Home) (v : source.Value)
      → home k ≡ Some x → s.store k ≡ Some v → Holds σ x v
  pub memory : σ.memory ≡ s.memory
  pub bytes : (a b : ℕ) → get s.memory a ≡ Some b → b < 256
