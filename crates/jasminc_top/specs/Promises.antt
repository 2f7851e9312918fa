-- What the program promises of each of its runs.
use Rattle.std.specs.Prelude.{◌≡◌, ◌≢◌, ◌⊎◌, []}
use Rattle.jz_io.specs.Causes.{Rose}
use Rattle.jasminc_top.specs.Refusals.{status_of}
use Rattle.jasminc_top.specs.Answers.{IsQuiet}
use Rattle.jasminc_top.specs.Runs.{Run, Runs, ComesOnly, Refuses, Completes, ReadsAll, IsFree}
use Rattle.jasminc_top.specs.Headline.{Compiles, Executes, ShowsLeaks, Interprets}
use Rattle.jasminc_top.specs.Headline.{IsStuck, IsCut, Disassembles, Checks, Judges}
use Rattle.jasminc_top.specs.Headline.{Generates, SumsUp}
use Rattle.jasminc_top.specs.declared.refusal.Refusal.{Refusal}
use Rattle.jasminc_top.specs.declared.refusal.Status.TheVariants as status

pub record KeepsPromises (run : Run) : Type 0 where
  -- The whole meaning: what was due, and that it was written.
  pub runs : Runs run
  -- What is printed at Ok is the listing of correct functions, one for each of the text.
  pub compiles : run.done.status ≡ status.Ok → Compiles run.wish run.source run.sink run.done.made
  -- What `exec` prints at Ok is the run of a correct function on the machine, from a start on the
  -- items.
  pub executes : run.done.status ≡ status.Ok → Executes run.wish run.source run.sink run.done.made
  -- What `leak` prints at Ok is the transformer of a correct function, applied to what its source
  -- leaks.
  pub leaks : run.done.status ≡ status.Ok → ShowsLeaks run.wish run.source run.sink run.done.made
  -- What `interp` prints at Ok is the end of the source run with as many turns as it may take; at
  -- Stuck it is where that run is stuck and why, and no other command ends so.
  pub interprets : run.done.status ≡ status.Ok → Interprets run.wish run.source run.sink
  pub stuck : run.done.status ≡ status.Stuck → IsStuck run.wish run.source run.sink
  -- What `exec` prints at OutOfFuel is a run up to as many steps as it may take, and it is still
  -- running there; `selfrun` prints that alone. What `interp` prints there is that the source run is
  -- cut at as many turns as it may take, and `leak` what it leaks up to there. No other command ends
  -- so.
  pub cut : run.done.status ≡ status.OutOfFuel → IsCut run.wish run.source run.sink run.done.made
  -- What `disasm` prints at Ok is the disassembly of its file.
  pub disassembles : run.done.status ≡ status.Ok → Disassembles run.wish run.source run.sink
  -- What `check` prints at Ok is that each export function of its file is safe.
  pub checks : run.done.status ≡ status.Ok → Checks run.wish run.source run.sink
  -- What `ct` prints at Ok is that each export function of its file is constant time.
  pub judges : run.done.status ≡ status.Ok → Judges run.wish run.source run.sink
  -- What `gen` prints at Ok is the program of its seed and its size.
  pub generates : run.done.status ≡ status.Ok → Generates run.wish run.sink
  -- What `selfrun` prints at Ok is the summary of the run of that program's bytes.
  pub sums_up : run.done.status ≡ status.Ok → SumsUp run.wish run.sink run.done.made
  -- The status of a refusal comes only with its cause, and that of a write fault with one.
  pub comes_only : (r : Refusal)
      → run.done.status ≡ status_of r → ComesOnly run.wish run.source run.done.status
  pub write_fault : run.done.status ≡ status.WriteFault → Rose run.sink.faults run.sink.faults_after
  -- Where a cause stands its answer comes, or an earlier one with its cause, or a fault or want of
  -- memory.
  pub refused : Refuses run.wish run.source run.done.status
  -- Where no cause stands the command gives what it promises, or a fault or want of memory comes.
  pub complete : Completes run.wish run.source run.done.status
  -- The file was read to its end.
  pub read : ReadsAll run.wish run.source run.done.status
  -- Where a count of faults rose, the status says so.
  pub source_quiet : IsFree run.done.status ⊎ IsQuiet run.source
  pub sink_quiet : (run.done.status ≡ status.WriteFault) ⊎ (run.sink.faults_after ≡ run.sink.faults)
  -- What was made is told at Ok and OutOfFuel alone.
  pub made : run.done.status ≢ status.Ok → run.done.status ≢ status.OutOfFuel → run.done.made ≡ []
