-- What the table of the functions' numbers holds.
use Rattle.std.specs.Prelude.{◌≡◌, ℕ, List, Option}
use Rattle.std.specs.Str.{bytes_eq}
use Rattle.indexmap.specs.IndexMap.{get}
use Rattle.jz_tree.specs.declared.program.Fun.{Fun}
use Rattle.jz_type_storage.specs.declared.numbers.Numbers.{Numbers}
use Rattle.jz_type_storage.specs.Numbers.{number_named}

-- the number that a table has for a name
abbrev pub number_in : Numbers → List ℕ → Option ℕ
number_in t n = get bytes_eq t.numbers n

-- the table has the number of the first function of each name
pub record IsNumbers (t : Numbers) (fs : List Fun) : Type 0 where
  pub named : (n : List ℕ) → number_in t n ≡ number_named n fs
