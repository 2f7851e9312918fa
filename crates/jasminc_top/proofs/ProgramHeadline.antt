-- What is printed of a program from a number, and of its run.
use Rattle.std.proofs.Common.{◌≡◌, ◌∙◌, ℕ, List, Option, Some, None, refl, sym, subst, inl, inr}
use Rattle.std.specs.Io.KnownBytes.{Appends}
use Rattle.jz_gen.specs.Programs.{program}
use Rattle.jz_listing.specs.declared.compiled.Compiled.{Compiled}
use Rattle.jasminc_words.specs.Wanted.{Wanted, compile, exec, interp, leak, disasm, check, ct, gen, selfrun}
use Rattle.jasminc_selfrun.specs.Answers as called
use Rattle.jasminc_selfrun.specs.Calling.{main_name, main_items, SumsUpProgram}
use Rattle.jasminc_top.specs.declared.refusal.Status.{Status}
use Rattle.jasminc_top.specs.declared.refusal.Status.TheVariants as status
use Rattle.jasminc_top.specs.declared.refusal.Refusal.TheVariants.{Exec}
use Rattle.jasminc_top.specs.Told.{SinkTold}
use Rattle.jasminc_top.specs.Answers.{IsDue, IsDone, IsResult, Gives, GivesText, GivesSummary}
use Rattle.jasminc_top.specs.Runs.{Run, Runs}
use Rattle.jasminc_top.specs.Headline.{PrintsSummary, Generates, SumsUp}
use Rattle.jasminc_top.proofs.Rows.{never_refused, result_other}
use Rattle.jasminc_top.proofs.Headline.{same_command}
use Rattle.jasminc_top.proofs.InterpHeadline.{result_due}

-- ---- a program
gen_printed : (seed size : ℕ) (sink : SinkTold) (text output : List ℕ) (made : List Compiled) → text ≡ program seed size → IsDone (Some (gen seed size)) text status.Ok output made
    → Appends sink.bytes sink.bytes_after output → Appends sink.bytes sink.bytes_after (program seed size)
gen_printed seed size sink text output made has x wrote =
    let g : GivesText text status.Ok output made = subst (λ (w : Wanted). Gives w text status.Ok output made) (sym (same_command _ _ x.is)) x.gives in
    subst (λ (o : List ℕ). Appends sink.bytes sink.bytes_after o) (g.text_is ∙ has) wrote

prints_program : (seed size : ℕ) (run : Run) → Runs run → run.wish ≡ Some (gen seed size) → run.done.status ≡ status.Ok
    → Appends run.sink.bytes run.sink.bytes_after (program seed size)
prints_program seed size run r is at =
    let d = result_due run r status.Ok tt at in
    let due = subst (λ (wish : Option Wanted). IsDue wish run.source status.Ok r.text r.made) is d.0 in
    elim due.answers [
      | inl x ↦ absurd (never_refused x.refusal status.Ok tt x.status)
      | inr x ↦ gen_printed seed size run.sink due.text r.text r.made due.has x d.1
    ]

-- ---- its run
summary_printed : (seed size fuel : ℕ) (sink : SinkTold) (s : Status) (text output : List ℕ) (made : List Compiled) → text ≡ program seed size → IsDone (Some (selfrun seed size fuel)) text s output made
    → Appends sink.bytes sink.bytes_after output → PrintsSummary seed size fuel sink s made
summary_printed seed size fuel sink s text output made has x wrote =
    let g : GivesSummary text seed size fuel s output made = subst (λ (w : Wanted). Gives w text s output made) (sym (same_command _ _ x.is)) x.gives in
    let done : called.IsDone (SumsUpProgram seed size main_items fuel) text main_name main_items (record { ran = g.ran; functions = made }) =
    record { clear = λ r lt c. x.clear (Exec r) lt c; gives = g.gives } in
    record {
      ran = g.ran;
      gives = subst (λ (t : List ℕ). called.IsDone (SumsUpProgram seed size main_items fuel) t main_name main_items (record { ran = g.ran; functions = made })) has done;
      output = output;
      tells = g.told;
      wrote = wrote;
    }

pub prints_summary : (seed size fuel : ℕ) (run : Run) (s : Status) → IsResult s → Runs run → run.wish ≡ Some (selfrun seed size fuel) → run.done.status ≡ s
    → PrintsSummary seed size fuel run.sink s run.done.made
prints_summary seed size fuel run s result r is at =
    let d = result_due run r s result at in
    let due = subst (λ (wish : Option Wanted). IsDue wish run.source s r.text r.made) is d.0 in
    let printed : PrintsSummary seed size fuel run.sink s r.made = elim due.answers [
      | inl x ↦ absurd (never_refused x.refusal s (result_other s result) x.status)
      | inr x ↦ summary_printed seed size fuel run.sink s due.text r.text r.made due.has x d.1
    ] in
    subst (λ (made : List Compiled). PrintsSummary seed size fuel run.sink s made) (sym d.2) printed

-- ---- of each command
generates_wish : (wish : Option Wanted) (sink : SinkTold) → ((seed size : ℕ) → wish ≡ Some (gen seed size) → Appends sink.bytes sink.bytes_after (program seed size)) → Generates wish sink
generates_wish None sink prints = tt
generates_wish (Some (compile file)) sink prints = tt
generates_wish (Some (exec call)) sink prints = tt
generates_wish (Some (interp call)) sink prints = tt
generates_wish (Some (leak call)) sink prints = tt
generates_wish (Some (disasm file)) sink prints = tt
generates_wish (Some (check file)) sink prints = tt
generates_wish (Some (ct file)) sink prints = tt
generates_wish (Some (gen seed size)) sink prints = prints seed size refl
generates_wish (Some (selfrun seed size fuel)) sink prints = tt

pub run_generates : (run : Run) → Runs run → run.done.status ≡ status.Ok → Generates run.wish run.sink
run_generates run r ok = generates_wish run.wish run.sink (λ seed size is. prints_program seed size run r is ok)

sums_wish : (wish : Option Wanted) (sink : SinkTold) (made : List Compiled) → ((seed size fuel : ℕ) → wish ≡ Some (selfrun seed size fuel) → PrintsSummary seed size fuel sink status.Ok made)
    → SumsUp wish sink made
sums_wish None sink made prints = tt
sums_wish (Some (compile file)) sink made prints = tt
sums_wish (Some (exec call)) sink made prints = tt
sums_wish (Some (interp call)) sink made prints = tt
sums_wish (Some (leak call)) sink made prints = tt
sums_wish (Some (disasm file)) sink made prints = tt
sums_wish (Some (check file)) sink made prints = tt
sums_wish (Some (ct file)) sink made prints = tt
sums_wish (Some (gen seed size)) sink made prints = tt
sums_wish (Some (selfrun seed size fuel)) sink made prints = prints seed size fuel refl

pub run_sums : (run : Run) → Runs run → run.done.status ≡ status.Ok → SumsUp run.wish run.sink run.done.made
run_sums run r ok = sums_wish run.wish run.sink run.done.made (λ seed size fuel is. prints_summary seed size fuel run status.Ok tt r is ok)
