-- A listing that is printed is that of correct functions.
use Rattle.std.proofs.Common.{◌≡◌, ◌∙◌, ℕ, List, Option, Some, None, refl, sym, subst, inl, inr}
use Rattle.std.specs.Io.KnownBytes.{Appends}
use Rattle.jz_listing.specs.declared.compiled.Compiled.{Compiled}
use Rattle.jasminc_words.specs.Wanted.{Wanted, compile, exec, interp, leak, disasm, check, ct, gen, selfrun}
use Rattle.jasminc_top.specs.declared.refusal.Status.{Status}
use Rattle.jasminc_top.specs.declared.refusal.Status.TheVariants as status
use Rattle.jasminc_top.specs.Told.{SourceTold, SinkTold}
use Rattle.jasminc_top.specs.Answers.{IsDue, IsDone, Gives, GivesListing}
use Rattle.jasminc_top.specs.Runs.{Run, Due, Runs}
use Rattle.jasminc_top.specs.Headline.{PrintsCorrect, Compiles}
use Rattle.jasminc_top.proofs.Rows.{never_refused}
use Rattle.jasminc_selfrun.proofs.Coming.{made_correct, made_shows}

pub same_command : (a b : Wanted) → Some a ≡ Some b → a ≡ b
same_command a b e = cc

listing_of : (file text output : List ℕ) (made : List Compiled) → IsDone (Some (compile file)) text status.Ok output made → GivesListing text status.Ok output made
listing_of file text output made x = subst (λ (w : Wanted). Gives w text status.Ok output made) (sym (same_command _ _ x.is)) x.gives

printed : (file : List ℕ) (told : SourceTold) (sink : SinkTold) (output : List ℕ) (made : List Compiled)
    → IsDue (Some (compile file)) told status.Ok output made → Appends sink.bytes sink.bytes_after output → PrintsCorrect file told sink made
printed file told sink output made d wrote = elim d.answers [
  | inl x ↦ absurd (never_refused x.refusal status.Ok tt x.status)
  | inr x ↦
      let g = listing_of file d.text output made x in
      record {
        text = d.text;
        has = d.has;
        program = g.gives.program;
        types = g.gives.types;
        correct = made_correct g.gives.program made g.gives.are_made;
        secrets = made_shows g.gives.program made g.gives.are_made;
        wrote = subst (λ (o : List ℕ). Appends sink.bytes sink.bytes_after o) g.gives.listed wrote;
      }
]

due_printed : (file : List ℕ) (told : SourceTold) (sink : SinkTold) (s : Status) (output : List ℕ) (made : List Compiled)
    → status.Ok ≡ s → Due (Some (compile file)) told s output made → Appends sink.bytes sink.bytes_after output → PrintsCorrect file told sink made
due_printed file told sink s output made e d wrote =
    let due = subst (λ (t : Status). Due (Some (compile file)) told t output made) (sym e) d in
    printed file told sink output made due.0 wrote

prints_file : (file : List ℕ) (run : Run) → Runs run → run.wish ≡ Some (compile file) → run.done.status ≡ status.Ok
    → PrintsCorrect file run.source run.sink run.done.made
prints_file file run r is ok = elim r.wrote [
  | inl w ↦
      let due = subst (λ (wish : Option Wanted). Due wish run.source r.due r.text r.made) is r.is_due in
      subst (λ (k : List Compiled). PrintsCorrect file run.source run.sink k) (sym w.1)
      (due_printed file run.source run.sink r.due r.text r.made (sym ok ∙ w.0) due w.2)
  | inr w ↦ let e : status.Ok ≡ status.WriteFault = sym ok ∙ w.0 in cc
]

compiles_wish : (wish : Option Wanted) (told : SourceTold) (sink : SinkTold) (made : List Compiled)
    → ((file : List ℕ) → wish ≡ Some (compile file) → PrintsCorrect file told sink made) → Compiles wish told sink made
compiles_wish None told sink made prints = tt
compiles_wish (Some (compile file)) told sink made prints = prints file refl
compiles_wish (Some (exec call)) told sink made prints = tt
compiles_wish (Some (interp call)) told sink made prints = tt
compiles_wish (Some (leak call)) told sink made prints = tt
compiles_wish (Some (disasm file)) told sink made prints = tt
compiles_wish (Some (check file)) told sink made prints = tt
compiles_wish (Some (ct file)) told sink made prints = tt
compiles_wish (Some (gen seed size)) told sink made prints = tt
compiles_wish (Some (selfrun seed size fuel)) told sink made prints = tt

pub run_compiles : (run : Run) → Runs run → run.done.status ≡ status.Ok → Compiles run.wish run.source run.sink run.done.made
run_compiles run r ok = compiles_wish run.wish run.source run.sink run.done.made (λ file is. prints_file file run r is ok)
