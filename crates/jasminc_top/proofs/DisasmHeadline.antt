-- What is printed is the disassembly of the file.
use Rattle.std.proofs.Common.{◌≡◌, ℕ, List, Option, Some, None, refl, sym, subst, inl, inr}
use Rattle.std.specs.Io.KnownBytes.{Appends}
use Rattle.jz_listing.specs.declared.compiled.Compiled.{Compiled}
use Rattle.jasminc_words.specs.Wanted.{Wanted, compile, exec, interp, leak, disasm, check, ct, gen, selfrun}
use Rattle.jasminc_top.specs.declared.refusal.Status.TheVariants as status
use Rattle.jasminc_top.specs.Told.{SourceTold, SinkTold}
use Rattle.jasminc_top.specs.Answers.{HasFile, IsDue, IsDone, Gives, GivesDisassembly}
use Rattle.jasminc_top.specs.Runs.{Run, Runs}
use Rattle.jasminc_top.specs.Headline.{PrintsDisassembly, Disassembles}
use Rattle.jasminc_top.proofs.Rows.{never_refused}
use Rattle.jasminc_top.proofs.Headline.{same_command}
use Rattle.jasminc_top.proofs.InterpHeadline.{result_due}

done_printed : (file : List ℕ) (told : SourceTold) (sink : SinkTold) (text output : List ℕ) (made : List Compiled) → HasFile file told.files text
    → IsDone (Some (disasm file)) text status.Ok output made → Appends sink.bytes sink.bytes_after output → PrintsDisassembly file told sink
done_printed file told sink text output made has x wrote =
    let g : GivesDisassembly text status.Ok output made = subst (λ (w : Wanted). Gives w text status.Ok output made) (sym (same_command _ _ x.is)) x.gives in
    record { text = text; has = has; output = output; shows = g.shows; wrote = wrote }

prints_disassembly : (file : List ℕ) (run : Run) → Runs run → run.wish ≡ Some (disasm file) → run.done.status ≡ status.Ok → PrintsDisassembly file run.source run.sink
prints_disassembly file run r is ok =
    let d = result_due run r status.Ok tt ok in
    let due = subst (λ (wish : Option Wanted). IsDue wish run.source status.Ok r.text r.made) is d.0 in
    elim due.answers [
      | inl x ↦ absurd (never_refused x.refusal status.Ok tt x.status)
      | inr x ↦ done_printed file run.source run.sink due.text r.text r.made due.has x d.1
    ]

disassembles_wish : (wish : Option Wanted) (told : SourceTold) (sink : SinkTold) → ((file : List ℕ) → wish ≡ Some (disasm file) → PrintsDisassembly file told sink)
    → Disassembles wish told sink
disassembles_wish None told sink prints = tt
disassembles_wish (Some (compile file)) told sink prints = tt
disassembles_wish (Some (exec call)) told sink prints = tt
disassembles_wish (Some (interp call)) told sink prints = tt
disassembles_wish (Some (leak call)) told sink prints = tt
disassembles_wish (Some (disasm file)) told sink prints = prints file refl
disassembles_wish (Some (check file)) told sink prints = tt
disassembles_wish (Some (ct file)) told sink prints = tt
disassembles_wish (Some (gen seed size)) told sink prints = tt
disassembles_wish (Some (selfrun seed size fuel)) told sink prints = tt

pub run_disassembles : (run : Run) → Runs run → run.done.status ≡ status.Ok → Disassembles run.wish run.source run.sink
run_disassembles run r ok = disassembles_wish run.wish run.source run.sink (λ file is. prints_disassembly file run r is ok)
