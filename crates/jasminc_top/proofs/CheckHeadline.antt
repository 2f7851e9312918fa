-- What is printed is that functions are safe of the file.
use Rattle.std.proofs.Common.{◌≡◌, ℕ, List, Option, Some, None, arith, refl, sym, subst, inl, inr}
use Rattle.std.specs.Io.KnownBytes.{Appends}
use Rattle.jz_listing.specs.declared.compiled.Compiled.{Compiled}
use Rattle.jasminc_words.specs.Wanted.{Wanted, compile, exec, interp, leak, disasm, check, ct, gen, selfrun}
use Rattle.jasminc_top.specs.declared.refusal.Status.TheVariants as status
use Rattle.jasminc_top.specs.declared.refusal.Refusal.TheVariants.{Check}
use Rattle.jasminc_top.specs.Told.{SourceTold, SinkTold}
use Rattle.jasminc_top.specs.Answers.{HasFile, IsDue, IsDone, Gives, GivesChecks}
use Rattle.jasminc_top.specs.Runs.{Run, Runs}
use Rattle.jasminc_top.specs.Headline.{PrintsChecks, Checks}
use Rattle.jasminc_top.proofs.Rows.{never_refused}
use Rattle.jasminc_top.proofs.Headline.{same_command}
use Rattle.jasminc_top.proofs.InterpHeadline.{result_due}

done_printed : (file : List ℕ) (told : SourceTold) (sink : SinkTold) (text output : List ℕ) (made : List Compiled) → HasFile file told.files text
    → IsDone (Some (check file)) text status.Ok output made → Appends sink.bytes sink.bytes_after output → PrintsChecks file told sink
done_printed file told sink text output made has x wrote =
    let g : GivesChecks text status.Ok output made = subst (λ (w : Wanted). Gives w text status.Ok output made) (sym (same_command _ _ x.is)) x.gives in
    record { text = text; has = has; output = output; done = record { clear = λ r lt c. x.clear (Check r) (omega (arith, lt)) c; gives = g.gives }; wrote = wrote }

printed : (file : List ℕ) (run : Run) → Runs run → run.wish ≡ Some (check file) → run.done.status ≡ status.Ok → PrintsChecks file run.source run.sink
printed file run r is ok =
    let d = result_due run r status.Ok tt ok in
    let due = subst (λ (wish : Option Wanted). IsDue wish run.source status.Ok r.text r.made) is d.0 in
    elim due.answers [
      | inl x ↦ absurd (never_refused x.refusal status.Ok tt x.status)
      | inr x ↦ done_printed file run.source run.sink due.text r.text r.made due.has x d.1
    ]

checks_wish : (wish : Option Wanted) (told : SourceTold) (sink : SinkTold) → ((file : List ℕ) → wish ≡ Some (check file) → PrintsChecks file told sink)
    → Checks wish told sink
checks_wish None told sink prints = tt
checks_wish (Some (compile file)) told sink prints = tt
checks_wish (Some (exec call)) told sink prints = tt
checks_wish (Some (interp call)) told sink prints = tt
checks_wish (Some (leak call)) told sink prints = tt
checks_wish (Some (disasm file)) told sink prints = tt
checks_wish (Some (check file)) told sink prints = prints file refl
checks_wish (Some (ct file)) told sink prints = tt
checks_wish (Some (gen seed size)) told sink prints = tt
checks_wish (Some (selfrun seed size fuel)) told sink prints = tt

pub run_checks : (run : Run) → Runs run → run.done.status ≡ status.Ok → Checks run.wish run.source run.sink
run_checks run r ok = checks_wish run.wish run.source run.sink (λ file is. printed file run r is ok)
