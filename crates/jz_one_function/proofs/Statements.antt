-- What a statement and a test become is one, by whichever table.
use Rattle.std.proofs.Common.{◌≡◌, List}
use Rattle.jz_meaning.specs.Statements as source
use Rattle.jz_operations.specs.declared.operation.Operation.{Operation}
use Rattle.jz_placing.specs.Variables.{Asked}
use Rattle.jz_change.specs.declared.change.Numbers.{Numbers}
use Rattle.jz_homes.specs.Homes.{Homes}
use Rattle.jz_row_operations.specs.Lowering.{tests_each}
use Rattle.jz_one_row.proofs.Statements.{one_lowers, one_test, one_loop_test}
use Rattle.jz_flag_rows.proofs.Apart.{statements_apart, tests_apart}
use Rattle.jz_one_flag_row.proofs.OneStatement.{one_flag_lowers, one_flag_test}
use Rattle.jz_every_row.specs.Statements.{Makes, by_row, by_flags, MakesTest, by_comparison, by_flag, MakesLoopTest, by_loop_test, by_loop_flag}

module _ (home : Homes) where
  pub one_made : (o : source.Operation) (os us : List Operation) (is js : List Numbers) → Makes home o os is → Makes home o us js → (os ≡ us) × (is ≡ js)
  one_made o os us is js (by_row f) (by_row g) = one_lowers home o os us is js f g
  one_made o os us is js (by_row f) (by_flags g) = absurd (statements_apart home o os us is js f g)
  one_made o os us is js (by_flags f) (by_row g) = absurd (statements_apart home o us os js is g f)
  one_made o os us is js (by_flags f) (by_flags g) = one_flag_lowers home o os us is js f g

  pub one_made_test : (t : source.Condition) (a b : Asked) (i j : Numbers) → MakesTest home t a i → MakesTest home t b j → (a ≡ b) × (i ≡ j)
  one_made_test t a b i j (by_comparison f) (by_comparison g) = one_test home t a b i j f g
  one_made_test t a b i j (by_comparison f) (by_flag g) = absurd (tests_apart home t a b i j (tests_each f) g)
  one_made_test t a b i j (by_flag f) (by_comparison g) = absurd (tests_apart home t b a j i (tests_each g) f)
  one_made_test t a b i j (by_flag f) (by_flag g) = one_flag_test home t a b i j f g

  pub one_made_loop_test : (t : source.Condition) (a b : Asked) (i j : Numbers) → MakesLoopTest home t a i → MakesLoopTest home t b j → (a ≡ b) × (i ≡ j)
  one_made_loop_test t a b i j (by_loop_test f) (by_loop_test g) = one_loop_test home t a b i j f g
  one_made_loop_test t a b i j (by_loop_test f) (by_loop_flag g) = absurd (tests_apart home t a b i j f g)
  one_made_loop_test t a b i j (by_loop_flag f) (by_loop_test g) = absurd (tests_apart home t b a j i g f)
  one_made_loop_test t a b i j (by_loop_flag f) (by_loop_flag g) = one_flag_test home t a b i j f g
