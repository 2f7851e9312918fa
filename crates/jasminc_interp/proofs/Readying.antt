-- What a function is run on: arguments, memory, and preconditions that hold.
use Rattle.std.proofs.Common.{◌≡◌, ℕ, true, List, [], Some, Err, sym, subst}
use Rattle.std.specs.Prelude.{All, Contains, slice_get}
use Rattle.std.proofs.lemmas.List.Elements.{Contains-get_or}
use Rattle.std.proofs.lemmas.Option.{slice_get_within, get_or_from_slice_get}
use Rattle.jz_tree.specs.Memory.{Memory}
use Rattle.jz_tree.specs.Failure.{Failure}
use Rattle.jz_tree.specs.Failure.TheVariants as failure
use Rattle.jz_tree.specs.Failures.{IfAnswered}
use Rattle.jz_tree.specs.declared.program.Fun.{Fun}
use Rattle.jz_tree.specs.declared.program.Program.{Program}
use Rattle.jz_type_rows.specs.Exports.{is_exported}
use Rattle.jz_preconditions.specs.Stating.{preconditions_of}
use Rattle.jz_preconditions.specs.Refusals.{refused_places}
use Rattle.jz_preconditions.specs.Meeting.{IsBelowEnd, regions_for}
use Rattle.jz_items.specs.declared.item.Item.{Item}
use Rattle.jz_inputs.specs.Held.{IsHeld}
use Rattle.jz_inputs.specs.Inputs.{HoldsRegions}
use Rattle.jz_interp.specs.Outcomes.{Takes, Interprets, Shows}
use Rattle.jz_interp.specs.declared.outcome.Outcome.{Outcome}
use Rattle.jz_meaning.specs.Runs.{FunOutcome}
use Rattle.jasminc_calls.specs.declared.calls.Called.{Called}
use Rattle.jasminc_calls.specs.declared.fitting.Unfit.{Unfit}
use Rattle.jasminc_calls.specs.declared.fitting.Unfit.TheVariants as unfit
use Rattle.jasminc_calls.specs.Calls.{IsTypedExport}
use Rattle.jasminc_calls.specs.Fitting.{Suits, CallAnswers}
use Rattle.jasminc_calls.proofs.Parameters.{none_refused}
use Rattle.jasminc_calls.proofs.Suiting as suiting
use Rattle.jasminc_interp.specs.declared.telling.Ran.{Ran}
use Rattle.jasminc_interp.specs.Telling.{Tells}
use Rattle.jasminc_interp.specs.Runs.{RunsOn, refusal_of}
use Rattle.jasminc_interp.specs.InnerRuns.{IsExportAt, IsReady, RunsAt, IsRunAt, FunctionAnswers}
use Rattle.jasminc_interp.proofs.Told.{same_fun, told_run}

-- ---- the function at the place
contained : (fs : List Fun) (place : ℕ) (f : Fun) → slice_get fs place ≡ Some f → Contains fs f
contained fs place f e = subst (Contains fs) (get_or_from_slice_get fs place f f e) (Contains-get_or fs place f (slice_get_within fs place f e))

module _ (p : Program) (place : ℕ) (h : IsExportAt p place) (f : Fun) (there : slice_get p.funs place ≡ Some f) where
  same : h.function ≡ f
  same = same_fun h.function f (slice_get p.funs place) h.there there

  is_export : IsTypedExport p f
  is_export = record {
    typed = h.typed;
    among = contained p.funs place f there;
    exported = subst (λ (g : Fun). is_exported g.kind ≡ true) same h.exported;
  }

  pub asks_well : refused_places f ≡ []
  asks_well = none_refused p f is_export

  module _ (items : List Item) where
    -- ---- before the run
    pub unfit_at : (fuel : ℕ) (e : Failure Unfit) → IfAnswered {A = Called} (Err e) (CallAnswers f items) → IfAnswered {A = Ran} (Err (refusal_of e)) (FunctionAnswers p place items fuel)
    unfit_at fuel (failure.Refused unfit.Items) d = record { function = f; there = there; differ = d }
    unfit_at fuel (failure.Refused (unfit.Unmet pre)) d = record { function = f; there = there; many = d.0; breaks = d.1 }
    unfit_at fuel failure.OutOfMemory d = tt

    pub ready : (c : Called) → Suits f items c → IsReady p place items c
    ready c s = record { at = h; suits = subst (λ (g : Fun). Suits g items c) (sym same) s }

    pub ran_at : (c : Called) (fuel : ℕ) (x : Ran) → Suits f items c → RunsAt p place items fuel x → IsRunAt p place items fuel x
    ran_at c fuel x s r =
        let one = same_fun r.function f (slice_get p.funs place) r.there there in
        record {
          function = f;
          there = there;
          many = s.many;
          held = s.held;
          runs = subst (λ (g : Fun). RunsOn p g items fuel x) one r.runs;
        }

-- ---- the run
module _ (p : Program) (place : ℕ) (items : List Item) (c : Called) (r : IsReady p place items c) (f : Fun) (there : slice_get p.funs place ≡ Some f) where
  suits_so : Suits f items c
  suits_so = subst (λ (g : Fun). Suits g items c) (same p place r.at f there) r.suits

  known : IsTypedExport p f
  known = is_export p place r.at f there

  pub all_held : All (IsHeld f c.bits items) c.pres
  all_held = suiting.all_held f items c suits_so

  pub below_end : All IsBelowEnd (regions_for f c.bits)
  below_end = suiting.below_end f items c suits_so

  pub pres_so : c.pres ≡ preconditions_of f
  pres_so = suits_so.call.pres

  pub takes : Takes p place c.words
  takes = suiting.takes_so f items c suits_so p known place there

  pub run_told : (m : Memory) (fuel : ℕ) (o : Outcome) (x : Ran) → HoldsRegions f c.bits items c.pres m → Interprets p place c.words m fuel o
      → ((out : FunOutcome) → Shows out o → Tells f c.bits fuel out x) → RunsAt p place items fuel x
  run_told m fuel o x holds run told =
      let made = suiting.holds_so f items c suits_so m holds in
      told_run p place items c.words m fuel o x f there suits_so.call.words (suiting.meets_so f items c suits_so p known m made) made.given run
      (subst (λ ws. (out : FunOutcome) → Shows out o → Tells f ws fuel out x) suits_so.call.bits told)
