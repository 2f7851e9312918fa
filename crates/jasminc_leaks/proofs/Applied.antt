-- The events of what a run leaked, as they are told.
use Rattle.std.proofs.Common.{◌≡◌, ℕ, List, ap, ◌∙◌, subst}
use Rattle.jz_tree.specs.Word as code_word
use Rattle.jz_words.specs.Memory.{Memory}
use Rattle.jz_leak.specs.declared.event.Event.{Event}
use Rattle.jz_leak.specs.declared.leak.Leak as shown
use Rattle.jz_leak.specs.declared.transformer.Transformer.{Transformer}
use Rattle.jz_leak.specs.Shown.{AreEventsOf}
use Rattle.jz_runs.specs.Rules.{End, Cut, Stuck}
use Rattle.jz_meaning.specs.Runs.{FunOutcome}
use Rattle.jz_interp.specs.declared.outcome.Outcome.{Outcome}
use Rattle.jz_interp.specs.declared.outcome.Outcome.TheVariants as outcome
use Rattle.jz_interp.specs.Outcomes.{Shows}
use Rattle.jasminc_steps.specs.Starting.{return_slot}
use Rattle.jasminc_steps.specs.Telling.{cut_text}
use Rattle.jasminc_runs.specs.declared.telling.Ran.TheVariants as ran
use Rattle.jasminc_leaks.specs.Leaking.{end_text, FitsOutcome, Tells}

module _ (tr : Transformer) (n : ℕ) (o : Outcome) (text : List ℕ) (events : List Event) where
  end_of : (words : List code_word.Word) (memory : Memory) (leak : shown.Leak) → AreEventsOf tr leak return_slot events → text ≡ end_text events → (out : FunOutcome)
      → Shows out (outcome.End words memory leak) → FitsOutcome tr out → Tells tr n out (ran.Ended text)
  end_of words memory leak are is (End r k l) sh fit = is ∙ ap end_text (are l sh.2 fit)
  end_of words memory leak are is (Cut l) sh fit = absurd sh
  end_of words memory leak are is (Stuck w) sh fit = absurd sh

  cut_of : (leak : shown.Leak) → AreEventsOf tr leak return_slot events → text ≡ cut_text events n → (out : FunOutcome)
      → Shows out (outcome.Cut leak) → FitsOutcome tr out → Tells tr n out (ran.Cut text)
  cut_of leak are is (End r k l) sh fit = absurd sh
  cut_of leak are is (Cut l) sh fit = is ∙ ap (λ es. cut_text es n) (are l sh fit)
  cut_of leak are is (Stuck w) sh fit = absurd sh

  pub told_end : (words : List code_word.Word) (memory : Memory) (leak : shown.Leak) → o ≡ outcome.End words memory leak → AreEventsOf tr leak return_slot events → text ≡ end_text events
      → (out : FunOutcome) → Shows out o → FitsOutcome tr out → Tells tr n out (ran.Ended text)
  told_end words memory leak e are is out sh = end_of words memory leak are is out (subst (Shows out) e sh)

  pub told_cut : (leak : shown.Leak) → o ≡ outcome.Cut leak → AreEventsOf tr leak return_slot events → text ≡ cut_text events n
      → (out : FunOutcome) → Shows out o → FitsOutcome tr out → Tells tr n out (ran.Cut text)
  told_cut leak e are is out sh = cut_of leak are is out (subst (Shows out) e sh)
