-- What a source that is compiled leaks fits the transformer.
use Rattle.std.proofs.Common.{◌≡◌, ℕ, ◌<◌, ◌^◌, List, length, sym, subst, arith}
use Rattle.std.specs.Prelude.{Option, Some, Err, slice_get}
use Rattle.jz_words.specs.Memory.{Memory}
use Rattle.jz_tree.specs.Failure.{Failure}
use Rattle.jz_tree.specs.Failure.TheVariants as failure
use Rattle.jz_tree.specs.Failures.{IfAnswered}
use Rattle.jz_tree.specs.declared.program.Fun.{Fun}
use Rattle.jz_tree.specs.declared.program.Program.{Program}
use Rattle.jz_preconditions.specs.Stating.{preconditions_of}
use Rattle.jz_items.specs.declared.item.Item.{Item}
use Rattle.jz_items.specs.Items.{words_of, AreItems}
use Rattle.jz_items.proofs.Fitting.{items_fit}
use Rattle.jz_inputs.specs.Inputs.{HoldsRegions}
use Rattle.jz_runs.specs.Rules.{End, Cut, Stuck}
use Rattle.jz_meaning.specs.States.{Value}
use Rattle.jz_meaning.specs.Runs.{FunOutcome, IsRun}
use Rattle.jz_interp.specs.declared.outcome.Outcome.{Outcome}
use Rattle.jz_interp.specs.declared.outcome.Outcome.TheVariants as outcome
use Rattle.jz_interp.specs.Outcomes as interp
use Rattle.jz_interp.specs.Outcomes.{Shows, Interprets}
use Rattle.jz_listing.specs.declared.compiled.Compiled.{Compiled}
use Rattle.x64_machine.specs.Steps.{Config}
use Rattle.jz_correct.specs.Starts.{IsStart}
use Rattle.jz_compiled.specs.Correct.{IsCompilation}
use Rattle.jz_compiled.specs.Matching.{Matches, values_of}
use Rattle.jasminc_calls.specs.declared.calls.Called.{Called}
use Rattle.jasminc_calls.specs.declared.fitting.Unfit.{Unfit}
use Rattle.jasminc_calls.specs.Calls.{argument_values, argument_words}
use Rattle.jasminc_calls.specs.Fitting.{Suits, CallAnswers}
use Rattle.jasminc_calls.proofs.Suiting.{holds_so, meets_so}
use Rattle.jasminc_steps.specs.Starting.{code_base, return_slot, exec_start}
use Rattle.jasminc_runs.specs.declared.telling.Ran.{Ran}
use Rattle.jasminc_runs.specs.Calling.{IsRunnable}
use Rattle.jasminc_starts.proofs.Apart.{stand_apart}
use Rattle.jasminc_starts.proofs.Arguments.{low_bits_of}
use Rattle.jasminc_starts.proofs.Existing.{start_exists}
use Rattle.jasminc_starts.proofs.Starts.{starts}
use Rattle.jasminc_leaks.specs.Leaking.{FitsOutcome, Tells, LeaksOn, LeaksAt, IsRunnableAt, LeakAnswers}
use Rattle.jasminc_leaks.specs.InnerLeaking.{LeaksFitting, IsReady}

-- ---- outcomes
fits_out : (c : Compiled) (words : List ℕ) (rsp0 base : ℕ) (s : Config) (n : ℕ) (out : FunOutcome) → Matches c words rsp0 base s n out → FitsOutcome c.tr out
fits_out c words rsp0 base s n (End r k l) h = h.fits
fits_out c words rsp0 base s n (Cut l) h = h.fits
fits_out c words rsp0 base s n (Stuck w) h = tt

shows_fitting : (c : Compiled) (words : List ℕ) (rsp0 base : ℕ) (s : Config) (n : ℕ) (out : FunOutcome) (o : Outcome) → Matches c words rsp0 base s n out → Shows out o → LeaksFitting c.tr o
shows_fitting c words rsp0 base s n (End r k l) (outcome.End ws m leak) h sh = (l, sh.2, h.fits)
shows_fitting c words rsp0 base s n (End r k l) (outcome.Cut leak) h sh = absurd sh
shows_fitting c words rsp0 base s n (End r k l) (outcome.Stuck w) h sh = absurd sh
shows_fitting c words rsp0 base s n (Cut l) (outcome.End ws m leak) h sh = absurd sh
shows_fitting c words rsp0 base s n (Cut l) (outcome.Cut leak) h sh = (l, sh, h.fits)
shows_fitting c words rsp0 base s n (Cut l) (outcome.Stuck w) h sh = absurd sh
shows_fitting c words rsp0 base s n (Stuck w) o h sh = absurd h

-- ---- from a start
-- the arguments as values, by the lines of the listing
module _ (p : Program) (f : Fun) (c : Compiled) (h : IsCompilation p f c) (items : List Item) (many : length items ≡ length f.params) where
  same_arguments : values_of c.args (argument_words f items) ≡ argument_values f.params (words_of items)
  same_arguments = (low_bits_of f c items h.args many).1

  run_so : (memory : Memory) (n : ℕ) (out : FunOutcome) → IsRun p f (argument_values f.params (words_of items)) memory n out → IsRun p f (values_of c.args (argument_words f items)) memory n out
  run_so memory n out r = subst (λ (vs : List Value). IsRun p f vs memory n out) (sym same_arguments) r

pub matches_from : (p : Program) (f : Fun) (c : Compiled) (items : List Item) (fuel : ℕ) (ran : Ran) → IsCompilation p f c → (l : LeaksOn p f c items fuel ran) → (base : ℕ) (s : Config)
    → IsStart c (argument_words f items) l.memory return_slot base s → Matches c (argument_words f items) return_slot base s fuel l.out
matches_from p f c items fuel ran h l base s start =
    h.carries.matches (argument_words f items) l.memory fuel l.out l.meets (run_so p f c h items l.many l.memory fuel l.out l.run) return_slot base s start

-- ---- the function at a place
same_fun : (f g : Fun) (o : Option Fun) → o ≡ Some f → o ≡ Some g → f ≡ g
same_fun f g o p q = cc

module _ (p : Program) (place : ℕ) (c : Compiled) (items : List Item) (d : Called) (r : IsReady p place c items d) (f : Fun) (there : slice_get p.funs place ≡ Some f) where
  same : r.at.function ≡ f
  same = same_fun r.at.function f (slice_get p.funs place) r.at.there there

  pub runnable : IsRunnable p f c
  runnable = subst (λ (g : Fun). IsRunnable p g c) same r.at.runnable

  pub suits_so : Suits f items d
  suits_so = subst (λ (g : Fun). Suits g items d) same r.suits

  -- a run of it on a memory of its regions is matched by the bytes
  matched : (m : Memory) (n : ℕ) (out : FunOutcome) → HoldsRegions f (argument_words f items) items (preconditions_of f) m → IsRun p f (argument_values f.params (words_of items)) m n out
      → (s : Config) × Matches c (argument_words f items) return_slot code_base s n out
  matched m n out holds run =
      let small = runnable.small in
      let short = r.short in
      let more = start_exists c.frame f (argument_words f items) items m holds small in
      let fit = items_fit r.given.0 items r.given.1 in
      let low = (low_bits_of f c items runnable.compilation.args suits_so.many).0 in
      let start = exec_start (words_of items) more.0 in (
        start,
        runnable.compilation.carries.matches (argument_words f items) m n out (meets_so f items d suits_so p runnable.is_export m holds)
            (run_so p f c runnable.compilation items suits_so.many m n out run) return_slot code_base start
            (subst (λ input. IsStart c (argument_words f items) input return_slot code_base start) more.2
            (starts f c (argument_words f items) items more.0 runnable.compilation.args runnable.compilation.pre fit low (stand_apart items r.given) small (omega (arith, short)) more.1)),
      )

  module _ (m : Memory) (holds : HoldsRegions f d.bits items d.pres m) (n : ℕ) (o : Outcome) (run : Interprets p place d.words m n o) where
    at_f : IsRun p f (argument_values f.params (words_of items)) m n run.out
    at_f =
        subst (λ (vs : List Value). IsRun p f vs m n run.out) suits_so.call.words
        (subst (λ (g : Fun). IsRun p g (interp.values_of d.words) m n run.out) (same_fun run.function f (slice_get p.funs place) run.there there) run.run)

    pub fitting : LeaksFitting c.tr o
    fitting =
        let k = matched m n run.out (holds_so f items d suits_so m holds) at_f in
        shows_fitting c (argument_words f items) return_slot code_base k.0 n run.out o k.1 run.shows

    pub leaks_at : (x : Ran) → ((out : FunOutcome) → Shows out o → FitsOutcome c.tr out → Tells c.tr n out x) → LeaksAt p place c items n x
    leaks_at x told =
        let made = holds_so f items d suits_so m holds in
        let k = matched m n run.out made at_f in
        record {
          function = f;
          there = there;
          leaks = record {
            many = suits_so.many;
            held = suits_so.held;
            memory = m;
            meets = meets_so f items d suits_so p runnable.is_export m made;
            given = made.given;
            out = run.out;
            run = at_f;
            told = told run.out run.shows (fits_out c (argument_words f items) return_slot code_base k.0 n run.out k.1);
          };
        }

-- ---- refusals
pub refused_too : (p : Program) (place : ℕ) (c : Compiled) (items : List Item) (fuel : ℕ) (f : Fun) → slice_get p.funs place ≡ Some f → (e : Failure Unfit) → IfAnswered {A = Called} (Err e) (CallAnswers f items)
    → IfAnswered {A = Ran} (Err e) (LeakAnswers p place c items fuel)
refused_too p place c items fuel f there (failure.Refused u) h = record { function = f; there = there; unfit = h }
refused_too p place c items fuel f there failure.OutOfMemory h = tt

-- ---- what is ready
pub runnable_at : (p : Program) (place : ℕ) (c : Compiled) → (h : IsRunnableAt p place c) → (f : Fun) → slice_get p.funs place ≡ Some f → IsRunnable p f c
runnable_at p place c h f there = subst (λ (g : Fun). IsRunnable p g c) (same_fun h.function f (slice_get p.funs place) h.there there) h.runnable

pub ready : (p : Program) (place : ℕ) (c : Compiled) (items : List Item) (d : Called) (h : IsRunnableAt p place c) (f : Fun) → slice_get p.funs place ≡ Some f → AreItems items → length c.code < 2 ^ 63
    → Suits f items d → IsReady p place c items d
ready p place c items d h f there given short s = record {
  at = h;
  given = given;
  short = short;
  suits = subst (λ (g : Fun). Suits g items d) (sym (same_fun h.function f (slice_get p.funs place) h.there there)) s;
}
