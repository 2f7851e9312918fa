-- What is told of outcomes.
use Rattle.std.proofs.Common.{◌≡◌, ℕ, List, ◌∙◌, ap, ap₂, sym, Option, Some, subst}
use Rattle.std.specs.Prelude.{slice_get}
use Rattle.std.specs.FinMap.{get}
use Rattle.jz_tree.specs.Word as code_word
use Rattle.jz_tree.specs.Memory.{Memory}
use Rattle.jz_tree.specs.declared.program.Fun.{Fun}
use Rattle.jz_tree.specs.declared.program.Program.{Program}
use Rattle.jz_leak.specs.declared.leak.Leak as shown
use Rattle.jz_meaning.specs.Rules.{End, Cut, Stuck}
use Rattle.jz_meaning.specs.States.{Value}
use Rattle.jz_meaning.specs.Runs.{FunOutcome, IsRun}
use Rattle.jz_meaning.specs.declared.value.Stuck as code
use Rattle.jz_interp.specs.declared.outcome.Outcome.{Outcome}
use Rattle.jz_interp.specs.declared.outcome.Outcome.TheVariants as outcome
use Rattle.jz_interp.specs.Outcomes.{values_of, Shows, Interprets}
use Rattle.jasminc_lines.specs.Lines.{cut_line}
use Rattle.jasminc_interp.specs.declared.telling.Ran.{Ran}
use Rattle.jasminc_interp.specs.declared.telling.Ran.TheVariants as ran
use Rattle.jasminc_interp.specs.Telling.{stuck_line, end_text, Tells}
use Rattle.jz_items.specs.declared.item.Item.{Item}
use Rattle.jz_items.specs.Items.{words_of}
use Rattle.jz_preconditions.specs.Meeting.{MeetsPreconditions}
use Rattle.jz_inputs.specs.Held.{byte_at}
use Rattle.jasminc_calls.specs.Calls.{argument_values, argument_words}
use Rattle.jasminc_interp.specs.InnerRuns.{RunsAt}

module _ (f : Fun) (args : List ℕ) (n : ℕ) (o : Outcome) (text : List ℕ) where
  end_of : (words : List code_word.Word) (memory : Memory) (leak : shown.Leak) → text ≡ end_text f args (values_of words) memory → (out : FunOutcome) → Shows out (outcome.End words memory leak)
      → Tells f args n out (ran.Ended text)
  end_of words memory leak is (End r k l) h = is ∙ ap₂ (end_text f args) (sym h.0) (sym h.1)
  end_of words memory leak is (Cut l) h = absurd h
  end_of words memory leak is (Stuck w) h = absurd h

  cut_of : (leak : shown.Leak) → text ≡ cut_line n → (out : FunOutcome) → Shows out (outcome.Cut leak) → Tells f args n out (ran.Cut text)
  cut_of leak is (End r k l) h = absurd h
  cut_of leak is (Cut l) h = is
  cut_of leak is (Stuck w) h = absurd h

  stuck_of : (stuck : code.Stuck) → text ≡ stuck_line stuck → (out : FunOutcome) → Shows out (outcome.Stuck stuck) → Tells f args n out (ran.Stuck text)
  stuck_of stuck is (End r k l) h = absurd h
  stuck_of stuck is (Cut l) h = absurd h
  stuck_of stuck is (Stuck w) h = is ∙ ap stuck_line (sym h)

  pub told_end : (words : List code_word.Word) (memory : Memory) (leak : shown.Leak) → o ≡ outcome.End words memory leak → text ≡ end_text f args (values_of words) memory
      → (out : FunOutcome) → Shows out o → Tells f args n out (ran.Ended text)
  told_end words memory leak e is out h = end_of words memory leak is out (subst (Shows out) e h)

  pub told_cut : (leak : shown.Leak) → o ≡ outcome.Cut leak → text ≡ cut_line n → (out : FunOutcome) → Shows out o → Tells f args n out (ran.Cut text)
  told_cut leak e is out h = cut_of leak is out (subst (Shows out) e h)

  pub told_stuck : (stuck : code.Stuck) → o ≡ outcome.Stuck stuck → text ≡ stuck_line stuck → (out : FunOutcome) → Shows out o → Tells f args n out (ran.Stuck text)
  told_stuck stuck e is out h = stuck_of stuck is out (subst (Shows out) e h)

-- ---- the run at a place
pub same_fun : (f g : Fun) (o : Option Fun) → o ≡ Some f → o ≡ Some g → f ≡ g
same_fun f g o p q = cc

pub told_run : (p : Program) (place : ℕ) (items : List Item) (words : List code_word.Word) (memory : Memory) (n : ℕ) (o : Outcome) (x : Ran) (f : Fun)
    → slice_get p.funs place ≡ Some f → values_of words ≡ argument_values f.params (words_of items) → MeetsPreconditions f (argument_words f items) memory
    → ((q b : ℕ) → get memory q ≡ Some b → byte_at items q ≡ Some b) → Interprets p place words memory n o
    → ((out : FunOutcome) → Shows out o → Tells f (argument_words f items) n out x) → RunsAt p place items n x
told_run p place items words memory n o x f there given meets bytes run told =
    let same = same_fun run.function f (slice_get p.funs place) run.there there in
    let at_f = subst (λ (g : Fun). IsRun p g (values_of words) memory n run.out) same run.run in
    record {
      function = f;
      there = there;
      runs = record {
        memory = memory;
        meets = meets;
        given = bytes;
        out = run.out;
        run = subst (λ (vs : List Value). IsRun p f vs memory n run.out) given at_f;
        told = told run.out run.shows;
      };
    }
