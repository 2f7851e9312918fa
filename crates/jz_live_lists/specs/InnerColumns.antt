-- What private contracts alone say: lists of variables, each behind an operation.
use Rattle.std.specs.Prelude.{ℕ, List, Bool, map, reverse}
use Rattle.jz_ir.specs.Paths.{among}

-- whether each list has the variable, where the lists stand in the reverse order of the code
abbrev pub column : ℕ → List (List ℕ) → List Bool
column variable rows = map (λ row. among row variable) (reverse rows)
