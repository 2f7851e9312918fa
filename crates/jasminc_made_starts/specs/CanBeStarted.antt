-- What is made of a text has starts.
use Rattle.std.specs.Prelude.{ℕ, List, All}
use Rattle.jz_words.specs.Memory.{Memory}
use Rattle.jz_tree.specs.declared.program.Fun.{Fun}
use Rattle.jz_tree.specs.declared.program.Program.{Program}
use Rattle.jz_listing.specs.declared.compiled.Compiled.{Compiled}
use Rattle.x64_machine.specs.Steps.{Config}
use Rattle.jz_correct.specs.Starts.{MeetsPreconditions, IsStart, regions_for}
use Rattle.jasminc_compile.specs.Making.{IsMade}
use Rattle.jasminc_some_starts.specs.SomeStarts.{IsLow}

-- of whatever function it is made
abbrev pub CanBeStarted : Compiled → Type 0
CanBeStarted c =
    (p : Program) (f : Fun) (words : List ℕ) (memory : Memory)
    → IsMade p f c → MeetsPreconditions c words memory → All IsLow (regions_for c words)
    → (rsp0 base : ℕ) × (s : Config) × IsStart c words memory rsp0 base s
