-- What goes together behind a pass of the expansion, in two runs, went together before it.
use Rattle.std.specs.Prelude.{ℕ}
use Rattle.jz_runs.specs.Trees.{done}
use Rattle.jz_meaning.specs.States.{State}
use Rattle.jz_meaning.specs.Statements.{Block, source}
use Rattle.jz_integers.specs.Integers.{KnownNumbers}
use Rattle.jz_run_laws.specs.Kinds.{Kinds, IsOfKinds}
use Rattle.jz_change.specs.Changes.{Change}
use Rattle.jz_pass.specs.Rewriting.{Rewrites}
use Rattle.jz_pass.specs.Unrolling.{Unrolls}
use Rattle.jz_arrays.specs.Arrays.{arrays}
use Rattle.jz_unroll.specs.Values.{InlineNames}
use Rattle.jz_unroll.specs.Unrolling.{unrolling}
use Rattle.jz_unroll.specs.ValueLaws.{StandsFor}
use Rattle.jz_two_runs.specs.Two.{GoTogether}

-- cells of register arrays that become scalars, from states of the declared kinds
abbrev pub ScalarsTell : Type 0
ScalarsTell =
    (kinds : Kinds) (b u : Block) (k : Change) (n : ℕ) (s t : State)
    → Rewrites (arrays kinds) b done u k → IsOfKinds kinds s → IsOfKinds kinds t
    → GoTogether source u n s t → GoTogether source b n s t

-- loops that become their rounds, from states that stand for each other
abbrev pub RoundsTell : Type 0
RoundsTell =
    (names : InlineNames) (e e1 : KnownNumbers) (b u : Block) (k : Change) (n : ℕ)
    (s t v w : State)
    → Unrolls (unrolling names) b e done u e1 k → StandsFor names e s v → StandsFor names e t w
    → GoTogether source u n v w → GoTogether source b n s t
