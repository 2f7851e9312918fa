-- What holds of the operations of one statement, and of one test.
use Rattle.std.specs.Prelude.{List}
use Rattle.jz_meaning.specs.Statements as source
use Rattle.jz_operations.specs.declared.operation.Operation.{Operation}
use Rattle.jz_placing.specs.Variables.{Asked}
use Rattle.jz_change.specs.declared.change.Numbers.{Numbers}
use Rattle.jz_pass.specs.Cases.{AsMany}
use Rattle.jz_homes.specs.Homes.{Homes}
use Rattle.jz_row_operations.specs.Lowering.{Lowers, LowersLoopTest}
use Rattle.jz_row_operations.specs.Keeping.{DoesAs, AnswersAs}

abbrev pub RowsKeepRuns : Type 0
RowsKeepRuns =
    (home : Homes) (o : source.Operation) (os : List Operation) (items : List Numbers)
    → Lowers home o os items → DoesAs home o os items

-- that of a `while`, and so that of an `if`
abbrev pub TestsKeepRuns : Type 0
TestsKeepRuns =
    (home : Homes) (t : source.Condition) (a : Asked) (i : Numbers)
    → LowersLoopTest home t a i → AnswersAs home t a i

-- an item for each operation
abbrev pub RowsHaveItems : Type 0
RowsHaveItems =
    (home : Homes) (o : source.Operation) (os : List Operation) (items : List Numbers)
    → Lowers home o os items → AsMany os items
