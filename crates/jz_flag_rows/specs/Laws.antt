-- What holds of these rows beside the others.
use Rattle.std.specs.Prelude.{List}
use Rattle.jz_meaning.specs.Statements as source
use Rattle.jz_operations.specs.declared.operation.Operation.{Operation}
use Rattle.jz_row_operations.specs.Variables.{Asked}
use Rattle.jz_change.specs.declared.change.Numbers.{Numbers}
use Rattle.jz_homes.specs.Homes.{Homes}
use Rattle.jz_row_operations.specs.Lowering.{Lowers, LowersLoopTest}
use Rattle.jz_flag_rows.specs.Conditions.{LowersFlagTest}
use Rattle.jz_flag_rows.specs.Rows.{LowersFlags}

-- no statement has operations by both tables
abbrev pub StatementsAreApart : Type 0
StatementsAreApart =
    (home : Homes) (o : source.Operation) (os us : List Operation) (is js : List Numbers)
    → Lowers home o os is → LowersFlags home o us js → ⊥

abbrev pub TestsAreApart : Type 0
TestsAreApart =
    (home : Homes) (t : source.Condition) (a b : Asked) (i j : Numbers)
    → LowersLoopTest home t a i → LowersFlagTest home t b j → ⊥
