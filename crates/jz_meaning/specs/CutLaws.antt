-- A leak holds a cut exactly where its run was cut, at each depth: of bodies, and of functions.
use Rattle.std.specs.Prelude.{ℕ, List}
use Rattle.x64_insn.specs.Memory.{Memory}
use Rattle.jz_tree.specs.declared.program.Program.{Program}
use Rattle.jz_tree.specs.declared.program.Fun.{Fun}
use Rattle.jz_runs.specs.RunLeaks.{Leak}
use Rattle.jz_runs.specs.Cuts.{IsWhole, IsBroken}
use Rattle.jz_runs.specs.Rules.{Outcome, Goes}
use Rattle.jz_runs.specs.Laws.{HoldsCut}
use Rattle.jz_meaning.specs.declared.value.Stuck as code
use Rattle.jz_meaning.specs.States.{State, Value}
use Rattle.jz_meaning.specs.Statements.{Block, source}
use Rattle.jz_meaning.specs.Runs.{FunOutcome, IsRun}

-- an end has a leak no part of which is cut; a cut has one whose last part is, with all before it
-- whole
abbrev pub HoldsItsCut : {S : Type 0} → Outcome S code.Stuck Leak → Type 0
HoldsItsCut o = HoldsCut IsWhole IsBroken o

abbrev pub BodiesHoldCuts : Type 0
BodiesHoldCuts =
    (b : Block) (n : ℕ) (s : State) (o : Outcome State code.Stuck Leak)
    → Goes source b n s o → HoldsItsCut o

abbrev pub FunctionsHoldCuts : Type 0
FunctionsHoldCuts =
    (p : Program) (f : Fun) (words : List Value) (memory : Memory) (n : ℕ) (o : FunOutcome)
    → IsRun p f words memory n o → HoldsItsCut o
