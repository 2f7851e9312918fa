-- Sets of what is live after each operation, and variables with numbers below a bound. What private
-- contracts and proofs say besides stands in InnerLives.
use Rattle.std.specs.Prelude.{◌↔◌, ◌<◌, ℕ, List, [], IsTrue, Option, Some, None, slice_index_or}
use Rattle.jz_bits.specs.Has.{has}
use Rattle.jz_ir.specs.declared.code.Op.{Op}
use Rattle.jz_ir.specs.Tree.{Tree, done, op, choose, loop}
use Rattle.jz_ir.specs.Places.{Below}
pub use Rattle.jz_live.specs.InnerLives.{live_after_each, live_before, size, test_after, test_before, transfer}

-- of so many sets each has exactly the variables that are live after its operation
abbrev pub EachLives : ℕ → List (List ℕ) → (ℕ → ℕ → Type 0) → Type 0
EachLives count rows Live =
    (i : ℕ) → i < count → (v : ℕ) → IsTrue (has (slice_index_or rows i []) v) ↔ Live i v

-- the variables of each operation have numbers below n
abbrev pub TestBelow : ℕ → Option Op → Type 0
TestBelow n None = Unit {0}
TestBelow n (Some test) = Below n test

abbrev pub TreeBelow : ℕ → Tree → Type 0
TreeBelow n done = Unit {0}
TreeBelow n (op operation rest) = Below n operation × TreeBelow n rest
TreeBelow n (choose test then_part else_part rest) =
    Below n test × TreeBelow n then_part × TreeBelow n else_part × TreeBelow n rest
TreeBelow n (loop prologue test body rest) =
    TreeBelow n prologue × TestBelow n test × TreeBelow n body × TreeBelow n rest
