-- What is one of a statement and of a test of the table of flags, RAX, RDX and RCX.
use Rattle.std.specs.Prelude.{◌≡◌, List}
use Rattle.jz_meaning.specs.Statements as source
use Rattle.jz_operations.specs.declared.operation.Operation.{Operation}
use Rattle.jz_placing.specs.Variables.{Asked}
use Rattle.jz_change.specs.declared.change.Numbers.{Numbers}
use Rattle.jz_homes.specs.Homes.{Homes}
use Rattle.jz_flag_rows.specs.Conditions.{LowersFlagTest}
use Rattle.jz_flag_rows.specs.Rows.{LowersFlags}

abbrev pub OneFlagLowering : Type 0
OneFlagLowering =
    (home : Homes) (o : source.Operation) (os us : List Operation) (is js : List Numbers)
    → LowersFlags home o os is → LowersFlags home o us js → (os ≡ us) × (is ≡ js)

abbrev pub OneFlagTest : Type 0
OneFlagTest =
    (home : Homes) (t : source.Condition) (a b : Asked) (i j : Numbers)
    → LowersFlagTest home t a i → LowersFlagTest home t b j → (a ≡ b) × (i ≡ j)
