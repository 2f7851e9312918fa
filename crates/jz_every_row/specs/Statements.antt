-- Which operations each statement and each test has, by both tables: that of jz_row_operations, and
-- that of flags, RAX, RDX and RCX.
use Rattle.std.specs.Prelude.{List}
use Rattle.jz_meaning.specs.Statements.{Operation, Condition}
use Rattle.jz_operations.specs.declared.operation.Operation.{Operation as Made}
use Rattle.jz_placing.specs.Variables.{Asked}
use Rattle.jz_change.specs.declared.change.Numbers.{Numbers}
use Rattle.jz_homes.specs.Homes.{Homes}
use Rattle.jz_flag_runs.specs.Lowering.{Lowers, LowersTest, LowersLoopTest}
use Rattle.jz_flag_runs.specs.Conditions.{LowersFlagTest}
use Rattle.jz_flag_runs.specs.Rows.{LowersFlags}

-- a statement, with the numbers that each of its operations shows
pub data Makes (home : Homes) (o : Operation) (os : List Made) (items : List Numbers) : Type 0 where
  by_row : Lowers home o os items → Makes home o os items
  by_flags : LowersFlags home o os items → Makes home o os items

-- the test of an `if`: a comparison or a bool variable
pub data MakesTest (home : Homes) (t : Condition) (a : Asked) (i : Numbers) : Type 0 where
  by_comparison : LowersTest home t a i → MakesTest home t a i
  by_flag : LowersFlagTest home t a i → MakesTest home t a i

-- that of a `while`, which may be `true`
pub data MakesLoopTest (home : Homes) (t : Condition) (a : Asked) (i : Numbers) : Type 0 where
  by_loop_test : LowersLoopTest home t a i → MakesLoopTest home t a i
  by_loop_flag : LowersFlagTest home t a i → MakesLoopTest home t a i
