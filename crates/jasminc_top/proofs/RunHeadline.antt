-- What is printed of a call of a compiled function.
use Rattle.std.proofs.Common.{◌≡◌, ℕ, List, Option, Some, None, refl, sym, subst, inl, inr}
use Rattle.std.specs.Io.KnownBytes.{Appends}
use Rattle.jz_tree.specs.declared.program.Fun.{Fun}
use Rattle.jz_tree.specs.declared.program.Program.{Program}
use Rattle.jz_listing.specs.declared.compiled.Compiled.{Compiled}
use Rattle.jasminc_words.specs.Wanted.{Called, Wanted, compile, exec, interp, leak, disasm, check, ct, gen, selfrun}
use Rattle.jasminc_runs.specs.declared.telling.Ran.{Ran}
use Rattle.jasminc_runs.specs.declared.telling.Ran.TheVariants as ran
use Rattle.jasminc_selfrun.proofs.Showing.{matches_from}
use Rattle.jasminc_selfrun.specs.Answers as called
use Rattle.jasminc_top.specs.declared.refusal.Status.{Status}
use Rattle.jasminc_top.specs.declared.refusal.Status.TheVariants as status
use Rattle.jasminc_top.specs.declared.refusal.Refusal.TheVariants.{Exec}
use Rattle.jasminc_top.specs.Refusals.{all_stages}
use Rattle.jasminc_top.specs.Told.{SourceTold, SinkTold}
use Rattle.jasminc_top.specs.Answers.{HasFile, RunCause, Clear, IsDue, IsDone, IsResult, IsToldBy, Gives, GivesRun}
use Rattle.jasminc_top.specs.Runs.{Run, Runs}
use Rattle.jasminc_top.specs.Headline.{PrintsCall, PrintsRun, PrintsLeak, Executes, ShowsLeaks, IsStuck, IsCut}
use Rattle.jasminc_top.proofs.Rows.{never_refused, result_other}
use Rattle.jasminc_top.proofs.Headline.{same_command}
use Rattle.jasminc_top.proofs.InterpHeadline.{result_due, prints_outcome, result_given}
use Rattle.jasminc_top.proofs.ProgramHeadline.{prints_summary}

-- ---- what was written
call_printed : (Tells : Program → Fun → Compiled → Ran → Type 0) (call : Called) (told : SourceTold) (sink : SinkTold) (s : Status) (text output : List ℕ) (made : List Compiled)
    → HasFile call.file told.files text → Clear (RunCause call text) all_stages → GivesRun Tells text call s output made → Appends sink.bytes sink.bytes_after output → PrintsCall Tells call told sink s made
call_printed Tells call told sink s text output made has clear g wrote = record {
  text = text;
  has = has;
  ran = g.ran;
  gives = record { clear = λ r lt c. clear (Exec r) lt c; gives = g.gives };
  output = output;
  tells = g.told;
  wrote = wrote;
}

exec_printed : (call : Called) (told : SourceTold) (sink : SinkTold) (s : Status) (text output : List ℕ) (made : List Compiled) → HasFile call.file told.files text
    → IsDone (Some (exec call)) text s output made → Appends sink.bytes sink.bytes_after output → PrintsRun call told sink s made
exec_printed call told sink s text output made has x wrote =
    let g : GivesRun (called.Executes call.items call.fuel) text call s output made = subst (λ (w : Wanted). Gives w text s output made) (sym (same_command _ _ x.is)) x.gives in
    call_printed (called.Executes call.items call.fuel) call told sink s text output made has x.clear g wrote

-- and the bytes are correct for what the source leaks
leak_shown : (call : Called) (told : SourceTold) (sink : SinkTold) (s : Status) (made : List Compiled) → PrintsCall (called.Leaks call.items call.fuel) call told sink s made → PrintsLeak call told sink s made
leak_shown call told sink s made prints =
    let gives = prints.gives.gives in
    let named = gives.is_compiled in
    record {
      prints = prints;
      bytes = λ base start from. matches_from gives.program named.function gives.compiled call.items call.fuel prints.ran named.is_made.correct.compilation gives.tells base start from;
    }

leak_printed : (call : Called) (told : SourceTold) (sink : SinkTold) (s : Status) (text output : List ℕ) (made : List Compiled) → HasFile call.file told.files text
    → IsDone (Some (leak call)) text s output made → Appends sink.bytes sink.bytes_after output → PrintsLeak call told sink s made
leak_printed call told sink s text output made has x wrote =
    let g : GivesRun (called.Leaks call.items call.fuel) text call s output made = subst (λ (w : Wanted). Gives w text s output made) (sym (same_command _ _ x.is)) x.gives in
    leak_shown call told sink s made (call_printed (called.Leaks call.items call.fuel) call told sink s text output made has x.clear g wrote)

prints_run : (call : Called) (run : Run) (s : Status) → IsResult s → Runs run → run.wish ≡ Some (exec call) → run.done.status ≡ s → PrintsRun call run.source run.sink s run.done.made
prints_run call run s result r is at =
    let d = result_due run r s result at in
    let due = subst (λ (wish : Option Wanted). IsDue wish run.source s r.text r.made) is d.0 in
    let printed : PrintsRun call run.source run.sink s r.made = elim due.answers [
      | inl x ↦ absurd (never_refused x.refusal s (result_other s result) x.status)
      | inr x ↦ exec_printed call run.source run.sink s due.text r.text r.made due.has x d.1
    ] in
    subst (λ (made : List Compiled). PrintsRun call run.source run.sink s made) (sym d.2) printed

prints_leak : (call : Called) (run : Run) (s : Status) → IsResult s → Runs run → run.wish ≡ Some (leak call) → run.done.status ≡ s → PrintsLeak call run.source run.sink s run.done.made
prints_leak call run s result r is at =
    let d = result_due run r s result at in
    let due = subst (λ (wish : Option Wanted). IsDue wish run.source s r.text r.made) is d.0 in
    let printed : PrintsLeak call run.source run.sink s r.made = elim due.answers [
      | inl x ↦ absurd (never_refused x.refusal s (result_other s result) x.status)
      | inr x ↦ leak_printed call run.source run.sink s due.text r.text r.made due.has x d.1
    ] in
    subst (λ (made : List Compiled). PrintsLeak call run.source run.sink s made) (sym d.2) printed

-- ---- of each command
executes_wish : (wish : Option Wanted) (told : SourceTold) (sink : SinkTold) (made : List Compiled)
    → ((call : Called) → wish ≡ Some (exec call) → PrintsRun call told sink status.Ok made) → Executes wish told sink made
executes_wish None told sink made prints = tt
executes_wish (Some (compile file)) told sink made prints = tt
executes_wish (Some (exec call)) told sink made prints = prints call refl
executes_wish (Some (interp call)) told sink made prints = tt
executes_wish (Some (leak call)) told sink made prints = tt
executes_wish (Some (disasm file)) told sink made prints = tt
executes_wish (Some (check file)) told sink made prints = tt
executes_wish (Some (ct file)) told sink made prints = tt
executes_wish (Some (gen seed size)) told sink made prints = tt
executes_wish (Some (selfrun seed size fuel)) told sink made prints = tt

pub run_executes : (run : Run) → Runs run → run.done.status ≡ status.Ok → Executes run.wish run.source run.sink run.done.made
run_executes run r ok = executes_wish run.wish run.source run.sink run.done.made (λ call is. prints_run call run status.Ok tt r is ok)

leaks_wish : (wish : Option Wanted) (told : SourceTold) (sink : SinkTold) (made : List Compiled)
    → ((call : Called) → wish ≡ Some (leak call) → PrintsLeak call told sink status.Ok made) → ShowsLeaks wish told sink made
leaks_wish None told sink made prints = tt
leaks_wish (Some (compile file)) told sink made prints = tt
leaks_wish (Some (exec call)) told sink made prints = tt
leaks_wish (Some (interp call)) told sink made prints = tt
leaks_wish (Some (leak call)) told sink made prints = prints call refl
leaks_wish (Some (disasm file)) told sink made prints = tt
leaks_wish (Some (check file)) told sink made prints = tt
leaks_wish (Some (ct file)) told sink made prints = tt
leaks_wish (Some (gen seed size)) told sink made prints = tt
leaks_wish (Some (selfrun seed size fuel)) told sink made prints = tt

pub run_leaks : (run : Run) → Runs run → run.done.status ≡ status.Ok → ShowsLeaks run.wish run.source run.sink run.done.made
run_leaks run r ok = leaks_wish run.wish run.source run.sink run.done.made (λ call is. prints_leak call run status.Ok tt r is ok)

-- nothing but a run is cut
not_cut : status.OutOfFuel ≡ status.Ok → ⊥
not_cut e = cc

cut_by : (run : Run) (command : Wanted) (text output : List ℕ) (made : List Compiled) → Runs run → run.done.status ≡ status.OutOfFuel → run.wish ≡ Some command
    → Gives command text status.OutOfFuel output made → IsCut (Some command) run.source run.sink run.done.made
cut_by run (compile file) text output made r cut is g = absurd (not_cut g.ok)
cut_by run (exec call) text output made r cut is g = prints_run call run status.OutOfFuel tt r is cut
cut_by run (interp call) text output made r cut is g = prints_outcome call run status.OutOfFuel tt r is cut
cut_by run (leak call) text output made r cut is g = prints_leak call run status.OutOfFuel tt r is cut
cut_by run (disasm file) text output made r cut is g = absurd (not_cut g.ok)
cut_by run (check file) text output made r cut is g = absurd (not_cut g.ok)
cut_by run (ct file) text output made r cut is g = absurd (not_cut g.ok)
cut_by run (gen seed size) text output made r cut is g = absurd (not_cut g.ok)
cut_by run (selfrun seed size fuel) text output made r cut is g = prints_summary seed size fuel run status.OutOfFuel tt r is cut

pub run_cut : (run : Run) → Runs run → run.done.status ≡ status.OutOfFuel → IsCut run.wish run.source run.sink run.done.made
run_cut run r cut =
    let g = result_given run status.OutOfFuel tt r cut in
    subst (λ (wish : Option Wanted). IsCut wish run.source run.sink run.done.made) (sym g.is) (cut_by run g.command g.text g.output g.made r cut g.is g.gives)

-- and nothing but a run of the source is stuck
not_stuck : status.Stuck ≡ status.Ok → ⊥
not_stuck e = cc

not_stuck_run : (x : Ran) (output : List ℕ) → IsToldBy x status.Stuck output → ⊥
not_stuck_run (ran.Ended text) output t = let e : status.Stuck ≡ status.Ok = t.0 in cc
not_stuck_run (ran.Cut text) output t = let e : status.Stuck ≡ status.OutOfFuel = t.0 in cc

stuck_by : (run : Run) (command : Wanted) (text output : List ℕ) (made : List Compiled) → Runs run
    → run.done.status ≡ status.Stuck → run.wish ≡ Some command → Gives command text status.Stuck output made → IsStuck (Some command) run.source run.sink
stuck_by run (compile file) text output made r stuck is g = absurd (not_stuck g.ok)
stuck_by run (exec call) text output made r stuck is g = absurd (not_stuck_run g.ran output g.told)
stuck_by run (interp call) text output made r stuck is g = prints_outcome call run status.Stuck tt r is stuck
stuck_by run (leak call) text output made r stuck is g = absurd (not_stuck_run g.ran output g.told)
stuck_by run (disasm file) text output made r stuck is g = absurd (not_stuck g.ok)
stuck_by run (check file) text output made r stuck is g = absurd (not_stuck g.ok)
stuck_by run (ct file) text output made r stuck is g = absurd (not_stuck g.ok)
stuck_by run (gen seed size) text output made r stuck is g = absurd (not_stuck g.ok)
stuck_by run (selfrun seed size fuel) text output made r stuck is g = absurd (not_stuck_run g.ran output g.told)

pub run_stuck : (run : Run) → Runs run → run.done.status ≡ status.Stuck → IsStuck run.wish run.source run.sink
run_stuck run r stuck =
    let g = result_given run status.Stuck tt r stuck in
    subst (λ (wish : Option Wanted). IsStuck wish run.source run.sink) (sym g.is) (stuck_by run g.command g.text g.output g.made r stuck g.is g.gives)
