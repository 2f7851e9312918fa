-- Calls between functions by their numbers: a function's number says how many stand above it.
use Rattle.std.specs.Prelude.{ℕ, suc, ◌<◌, if◌then◌else◌, List, [], ◌∷◌, length, option_map, Option, Some, None, slice_index_or}
use Rattle.std.specs.Str.{bytes_eq}
use Rattle.jz_tree.specs.declared.program.Fun.{Fun}

-- the number of the first function of that name
abbrev pub number_named : List ℕ → List Fun → Option ℕ
number_named n [] = None
number_named n (f ∷ fs) = if bytes_eq n f.name then Some 0 else option_map suc (number_named n fs)

-- each rank is below the limit
abbrev pub AreBelow : List ℕ → ℕ → Type 0
AreBelow ranks limit = (i : ℕ) → i < length ranks → slice_index_or ranks i 0 < limit
