-- What the runs of an expansion do that is found to be safe, and those of the function of the text.
use Rattle.std.specs.Prelude.{ℕ, List}
use Rattle.jz_words.specs.Memory.{Memory}
use Rattle.jz_tree.specs.declared.program.Fun.{Fun}
use Rattle.jz_tree.specs.declared.program.Program.{Program}
use Rattle.jz_runs.specs.Rules.{Stuck}
use Rattle.jz_meaning.specs.declared.value.Stuck.{Stuck as Reason}
use Rattle.jz_meaning.specs.States.{Value}
use Rattle.jz_meaning.specs.Runs.{IsRun}
use Rattle.jz_preconditions.specs.Meeting.{MeetsPreconditions}
use Rattle.jz_inline.specs.Functions.{body_runs}
use Rattle.jz_function_runs.specs.FunctionRuns.{plain_body}
use Rattle.jz_listing.specs.declared.compiled.Compiled.{Compiled}
use Rattle.jz_correct.specs.Registers.{argument_registers}
use Rattle.jz_compiled.specs.Lines.{AreArgumentLines}
use Rattle.jz_safe_expansions.specs.Making.{IsNeverStuck}
use Rattle.jz_fact_entry.specs.Entry.{AreWords}
use Rattle.jz_safe.specs.Texts.{IsExpandedFrom}
use Rattle.jz_safe.specs.declared.certificate.Safe.{Safe}

-- no input that meets the preconditions is stuck in it
abbrev pub ExpandedRunsOn : Type 0
ExpandedRunsOn =
    (s : Safe) (p : Program) (f : Fun) (words : List ℕ) (values : List Value) (memory : Memory)
    (n : ℕ) (w : Reason) → IsExpandedFrom p f s.expanded
    → MeetsPreconditions f words memory → AreWords f.params words values
    → body_runs (plain_body s.expanded.fun) s.expanded.fun
    (record { words = values; memory = memory }) n (Stuck w) → ⊥

-- on the words of the lines of a compiled function, as compiling asks
abbrev pub SafeRunsOn : Type 0
SafeRunsOn =
    (s : Safe) (p : Program) (f : Fun) (c : Compiled) → IsExpandedFrom p f s.expanded
    → AreArgumentLines argument_registers f.params c.args → IsNeverStuck f s.expanded.fun c

-- nor in the function of the text
abbrev pub SourceRunsOn : Type 0
SourceRunsOn =
    (s : Safe) (p : Program) (f : Fun) (words : List ℕ) (values : List Value) (memory : Memory)
    (n : ℕ) (w : Reason) → IsExpandedFrom p f s.expanded
    → MeetsPreconditions f words memory → AreWords f.params words values
    → IsRun p f values memory n (Stuck w) → ⊥
