-- What a compiled function does, by what is printed of it.
use Rattle.std.specs.Prelude.{ℕ, List}
use Rattle.jz_words.specs.Memory.{Memory}
use Rattle.jz_tree.specs.declared.program.Fun.{Fun}
use Rattle.jz_tree.specs.declared.program.Program.{Program}
use Rattle.jz_meaning.specs.Runs.{FunOutcome, IsRun}
use Rattle.jz_listing.specs.declared.compiled.Compiled.{Compiled}
use Rattle.x64_machine.specs.Steps.{Config}
use Rattle.jz_correct.specs.Starts.{MeetsPreconditions, IsStart}
use Rattle.jz_compiled.specs.Matching.{values_of, Matches}
use Rattle.jz_compiled.specs.Correct.{IsCompilation}

-- On each input that meets the printed preconditions, and for each n: the function of the text has
-- a run with n turns, which is not stuck; and from each start of the bytes on that input, where the
-- run ends, the bytes end without fault within the bound, with its results and memory outside the
-- frame, and show the printed transformer applied to what it leaked; where it is cut they are still
-- running after n steps, and show that as far as they have come.
abbrev pub RunsAsPrinted : Program → Fun → Compiled → Type 0
RunsAsPrinted p f c =
    (words : List ℕ) (memory : Memory) (n : ℕ) → MeetsPreconditions c words memory
    → (o : FunOutcome) × IsRun p f (values_of c.args words) memory n o
    × ((rsp0 base : ℕ) (s : Config) → IsStart c words memory rsp0 base s
    → Matches c words rsp0 base s n o)

abbrev pub CompilationsRunAsPrinted : Type 0
CompilationsRunAsPrinted =
    (p : Program) (f : Fun) (c : Compiled) → IsCompilation p f c → RunsAsPrinted p f c
