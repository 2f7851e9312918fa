-- The text of a variable of an expansion.
use Rattle.std.specs.Prelude.{ℕ, List, ◌++◌, codes, decimal, Option, Some, None}

-- `NAME`, or `NAME[CELL]`
abbrev pub variable_text : List ℕ → Option ℕ → List ℕ
variable_text name None = name
variable_text name (Some k) = name ++ (codes "[" ++ (decimal k ++ codes "]"))
