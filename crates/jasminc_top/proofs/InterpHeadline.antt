-- What is printed of a run of the source.
use Rattle.std.proofs.Common.{◌≡◌, ◌∙◌, ℕ, List, Option, Some, None, refl, sym, subst, inl, inr}
use Rattle.std.specs.Io.KnownBytes.{Appends}
use Rattle.jz_listing.specs.declared.compiled.Compiled.{Compiled}
use Rattle.jasminc_words.specs.Wanted.{Called, Wanted, compile, exec, interp, leak, disasm, check, ct, gen, selfrun}
use Rattle.jasminc_top.specs.declared.refusal.Status.{Status}
use Rattle.jasminc_top.specs.declared.refusal.Status.TheVariants as status
use Rattle.jasminc_top.specs.declared.refusal.Refusal.TheVariants.{Interp}
use Rattle.jasminc_top.specs.Told.{SourceTold, SinkTold}
use Rattle.jasminc_top.specs.Answers.{HasFile, IsDue, IsDone, IsResult, Gives, GivesOutcome}
use Rattle.jasminc_top.specs.Runs.{Run, Due, Runs}
use Rattle.jasminc_top.specs.Headline.{PrintsOutcome, Interprets}
use Rattle.jasminc_top.proofs.Rows.{never_refused, result_other}
use Rattle.jasminc_top.proofs.Headline.{same_command}

-- ---- what is due at the status of a result
pub result_is : (wish : Option Wanted) (told : SourceTold) (s : Status) (output : List ℕ) (made : List Compiled) → IsResult s → Due wish told s output made → IsDue wish told s output made
result_is wish told status.Ok output made r d = d.0
result_is wish told status.OutOfFuel output made r d = d.0
result_is wish told status.Stuck output made r d = d.0
result_is wish told s output made r d = absurd r

pub result_due : (run : Run) (r : Runs run) (s : Status) → IsResult s → run.done.status ≡ s → IsDue run.wish run.source s r.text r.made
    × Appends run.sink.bytes run.sink.bytes_after r.text × (run.done.made ≡ r.made)
result_due run r s result is = elim r.wrote [
  | inl w ↦
      let at : r.due ≡ s = sym w.0 ∙ is in
      (result_is run.wish run.source s r.text r.made result (subst (λ (t : Status). Due run.wish run.source t r.text r.made) at r.is_due), w.2, w.1)
  | inr w ↦ let at : status.WriteFault ≡ s = sym w.0 ∙ is in absurd (subst IsResult (sym at) result)
]

-- ---- what is printed
done_printed : (call : Called) (told : SourceTold) (sink : SinkTold) (s : Status) (text output : List ℕ) (made : List Compiled) → HasFile call.file told.files text
    → IsDone (Some (interp call)) text s output made → Appends sink.bytes sink.bytes_after output → PrintsOutcome call told sink s
done_printed call told sink s text output made has x wrote =
    let g : GivesOutcome text call s output made = subst (λ (w : Wanted). Gives w text s output made) (sym (same_command _ _ x.is)) x.gives in
    record {
      text = text;
      has = has;
      ran = g.ran;
      gives = record { clear = λ r lt c. x.clear (Interp r) lt c; gives = g.gives };
      output = output;
      tells = g.told;
      wrote = wrote;
    }

pub prints_outcome : (call : Called) (run : Run) (s : Status) → IsResult s → Runs run → run.wish ≡ Some (interp call) → run.done.status ≡ s
    → PrintsOutcome call run.source run.sink s
prints_outcome call run s result r is at =
    let d = result_due run r s result at in
    let due = subst (λ (wish : Option Wanted). IsDue wish run.source s r.text r.made) is d.0 in
    elim due.answers [
      | inl x ↦ absurd (never_refused x.refusal s (result_other s result) x.status)
      | inr x ↦ done_printed call run.source run.sink s due.text r.text r.made due.has x d.1
    ]

-- ---- of each command
interprets_wish : (wish : Option Wanted) (told : SourceTold) (sink : SinkTold) → ((call : Called) → wish ≡ Some (interp call) → PrintsOutcome call told sink status.Ok)
    → Interprets wish told sink
interprets_wish None told sink prints = tt
interprets_wish (Some (compile file)) told sink prints = tt
interprets_wish (Some (exec call)) told sink prints = tt
interprets_wish (Some (interp call)) told sink prints = prints call refl
interprets_wish (Some (leak call)) told sink prints = tt
interprets_wish (Some (disasm file)) told sink prints = tt
interprets_wish (Some (check file)) told sink prints = tt
interprets_wish (Some (ct file)) told sink prints = tt
interprets_wish (Some (gen seed size)) told sink prints = tt
interprets_wish (Some (selfrun seed size fuel)) told sink prints = tt

pub run_interprets : (run : Run) → Runs run → run.done.status ≡ status.Ok → Interprets run.wish run.source run.sink
run_interprets run r ok = interprets_wish run.wish run.source run.sink (λ call is. prints_outcome call run status.Ok tt r is ok)

-- the command that gives the result
pub record Given (run : Run) (s : Status) : Type 0 where
  pub command : Wanted
  pub is : run.wish ≡ Some command
  pub text : List ℕ
  pub output : List ℕ
  pub made : List Compiled
  pub gives : Gives command text s output made

pub result_given : (run : Run) (s : Status) → IsResult s → Runs run → run.done.status ≡ s → Given run s
result_given run s result r at =
    let d = result_due run r s result at in
    elim d.0.answers [
      | inl x ↦ absurd (never_refused x.refusal s (result_other s result) x.status)
      | inr x ↦ record { command = x.command; is = x.is; text = d.0.text; output = r.text; made = r.made; gives = x.gives }
    ]
