-- What is one of an expression, of a left side, of a statement and of a test.
use Rattle.std.specs.Prelude.{◌≡◌, ℕ, List, Option, ℤ}
use Rattle.jz_words.specs.declared.size.Size.{Size}
use Rattle.jz_tree.specs.declared.expr.Expr.{Expr}
use Rattle.jz_tree.specs.declared.stmt.Lval.{Lval}
use Rattle.jz_meaning.specs.Statements as source
use Rattle.jz_meaning.specs.Statements.{Condition}
use Rattle.jz_operations.specs.declared.operation.Address.{Address}
use Rattle.jz_operations.specs.declared.operation.Arg.{Arg}
use Rattle.jz_operations.specs.declared.operation.Operation.{Operation}
use Rattle.jz_row_operations.specs.Variables.{Asked}
use Rattle.jz_change.specs.declared.change.Numbers.{Numbers}
use Rattle.jz_homes.specs.Homes.{Homes}
use Rattle.jz_homes.specs.Sums.{Sum, IsSum, IsAddress, IsIndex}
use Rattle.jz_homes.specs.Operands.{Leaks, IsArg, IsDest}
use Rattle.jz_row_operations.specs.Lowering.{Lowers, LowersTest, LowersLoopTest}

abbrev pub OneAddress : Type 0
OneAddress =
    (home : Homes) (e : Expr) (t u : Sum) (m n : Address)
    → IsSum home e t → IsSum home e u → IsAddress t m → IsAddress u n → m ≡ n

abbrev pub OneIndex : Type 0
OneIndex =
    (home : Homes) (e : Expr) (t u : Sum) (b c : Option ℕ) (i j : ℤ)
    → IsSum home e t → IsSum home e u → IsIndex t b i → IsIndex u c j → (b ≡ c) × (i ≡ j)

abbrev pub OneArgument : Type 0
OneArgument =
    (home : Homes) (z : Size) (e : Expr) (a b : Arg) (p q : Leaks)
    → IsArg home z e a p → IsArg home z e b q → (a ≡ b) × (p ≡ q)

abbrev pub OneDestination : Type 0
OneDestination =
    (home : Homes) (z : Size) (d : Lval) (a b : Arg) (p q : Leaks)
    → IsDest home z d a p → IsDest home z d b q → (a ≡ b) × (p ≡ q)

abbrev pub OneLowering : Type 0
OneLowering =
    (home : Homes) (o : source.Operation) (os us : List Operation) (is js : List Numbers)
    → Lowers home o os is → Lowers home o us js → (os ≡ us) × (is ≡ js)

abbrev pub OneTest : Type 0
OneTest =
    (home : Homes) (t : Condition) (a b : Asked) (i j : Numbers)
    → LowersTest home t a i → LowersTest home t b j → (a ≡ b) × (i ≡ j)

abbrev pub OneLoopTest : Type 0
OneLoopTest =
    (home : Homes) (t : Condition) (a b : Asked) (i j : Numbers)
    → LowersLoopTest home t a i → LowersLoopTest home t b j → (a ≡ b) × (i ≡ j)
