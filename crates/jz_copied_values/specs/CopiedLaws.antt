-- What copies of calls keep of a body with calls.
use Rattle.std.specs.Prelude.{ℕ, ◌≡◌, List}
use Rattle.jz_integers.specs.Integers.{KnownNumbers}
use Rattle.jz_runs.specs.Trees.{done}
use Rattle.jz_meaning.specs.Statements.{Block}
use Rattle.jz_pass.specs.Copying.{inlined}
use Rattle.jz_unrolling_laws.specs.Calls.{inline_calls}
use Rattle.jz_unrolling_laws.specs.Functions.{own_names}
use Rattle.jz_limits.specs.Values.{no_numbers}
use Rattle.jz_unroll.specs.Values.{InlineNames}
use Rattle.jz_unrolling.specs.Fits.{Fits}
use Rattle.jz_unrolling_laws.specs.CalledBodies.{Inlines, IsNamed, FitsCalled}
use Rattle.jz_copied_values.specs.CopiedNames.{HasNames}

-- a body that has values where a walk comes to it can be unrolled once its calls are copies of what
-- they call; i: its inline variables; names: those of the function without calls
abbrev pub CopiesFit : Type 0
CopiesFit =
    (names : InlineNames) (i : Inlines) (t : Block)
    → ((n : List ℕ) → names n 0 ≡ i n) → HasNames names 1 t
    → IsNamed i t → FitsCalled i t no_numbers
    → (behind : KnownNumbers)
    × Fits names (inlined inline_calls own_names 1 t done) no_numbers behind
