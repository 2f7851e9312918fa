-- A run, one step after another.
use Rattle.std.proofs.Common.{◌≡◌, ℕ, zero, suc, ◌+◌, ◌<◌, List, [], ◌++◌, Bool, true, false, refl, sym, ap, ◌∙◌, arith, append_assoc, add-one, ◌⊎◌, ⊎_elim, subst}
use Rattle.std.specs.Prelude.{Result, Ok, Err}
use Rattle.std.proofs.lemmas.List.{append-nil}
use Rattle.x64_insn.specs.Rows.{After}
use Rattle.x64_insn.specs.declared.types.FaultKind.{FaultKind}
use Rattle.jz_leak.specs.declared.event.Event.{Event}
use Rattle.x64_decode.specs.declared.Decoded.{Decoded}
use Rattle.x64_decode.specs.declared.Decoded.TheVariants as decoded
use Rattle.x64_machine.specs.declared.step.Step.TheVariants.{Running, Ended}
use Rattle.x64_machine.specs.Steps.{Config, Moved, insn_at, moved, by_insn, step_of, steps_of, events_of}
use Rattle.x64_machine.proofs.MachineRunning.{last_made, none_made}

moved_goes : (c : Config) (ends : Bool) (r : Result After FaultKind) → (moved c ends r).answer ≡ Running → (moved c ends r).after.ended ≡ false
moved_goes c true (Ok a) h = cc
moved_goes c false (Ok a) h = refl
moved_goes c ends (Err f) h = cc

insn_goes : (c : Config) (d : Decoded) → (by_insn c d).answer ≡ Running → (by_insn c d).after.ended ≡ false
insn_goes c decoded.Unknown h = cc
insn_goes c decoded.Truncated h = cc
insn_goes c (decoded.Insn i len) h = moved_goes c _ _ h

moved_ends : (c : Config) (ends : Bool) (r : Result After FaultKind) → (moved c ends r).answer ≡ Ended → (moved c ends r).after.ended ≡ true
moved_ends c true (Ok a) h = refl
moved_ends c false (Ok a) h = cc
moved_ends c ends (Err f) h = cc

insn_ends : (c : Config) (d : Decoded) → (by_insn c d).answer ≡ Ended → (by_insn c d).after.ended ≡ true
insn_ends c decoded.Unknown h = cc
insn_ends c decoded.Truncated h = cc
insn_ends c (decoded.Insn i len) h = moved_ends c _ _ h

module _ (code : List ℕ) (base : ℕ) where
  open_step : (c : Config) → c.ended ≡ false → step_of code base c ≡ by_insn c (insn_at code base c.state.rip)
  unfolding step_of
  open_step c h = rw h refl

  -- a run that goes on has not ended
  pub goes : (c : Config) → c.ended ≡ false → (step_of code base c).answer ≡ Running → (step_of code base c).after.ended ≡ false
  goes c h a =
      let e = open_step c h in
      ap (λ (m : Moved). m.after.ended) e ∙ insn_goes c (insn_at code base c.state.rip) (ap (λ (m : Moved). m.answer) (sym e) ∙ a)

  -- a step that ends it
  pub ends : (c : Config) → c.ended ≡ false → (step_of code base c).answer ≡ Ended → (step_of code base c).after.ended ≡ true
  ends c h a =
      let e = open_step c h in
      ap (λ (m : Moved). m.after.ended) e ∙ insn_ends c (insn_at code base c.state.rip) (ap (λ (m : Moved). m.answer) (sym e) ∙ a)

  -- the events of one step more
  last_events : (k : ℕ) (c : Config) → (steps_of code base c (suc k)).events
      ≡ (steps_of code base c k).events ++ events_of (step_of code base (steps_of code base c k).after).leak
  unfolding steps_of
  last_events zero c = append-nil (events_of (step_of code base c).leak)
  last_events (suc k) c =
      let m = step_of code base c in
      ap (λ es. events_of m.leak ++ es) (last_events k m.after) ∙ sym (append_assoc (events_of m.leak) _ _)

  -- where a run stands after k steps, one step on
  pub step_on : (k : ℕ) (c d : Config) → d ≡ (steps_of code base c k).after
      → (step_of code base d).after ≡ (steps_of code base c (k + 1)).after
  step_on k c d h = rw add-one (ap (λ x. (step_of code base x).after) h ∙ sym (last_made code base k c))

  pub events_on : (k : ℕ) (c d : Config) (es : List Event) → d ≡ (steps_of code base c k).after → es ≡ (steps_of code base c k).events
      → es ++ events_of (step_of code base d).leak ≡ (steps_of code base c (k + 1)).events
  events_on k c d es h e =
      rw add-one (ap (λ xs. xs ++ events_of (step_of code base d).leak) e
      ∙ ap (λ x. (steps_of code base c k).events ++ events_of (step_of code base x).leak) h ∙ sym (last_events k c))

  pub none_shown : (c : Config) → (steps_of code base c 0).events ≡ []
  unfolding steps_of
  none_shown c = refl

  -- before its first step a run has not ended
  pub open_first : (c : Config) → c.ended ≡ false → (j : ℕ) → j < 1 → (steps_of code base c j).after.ended ≡ false
  open_first c h j lt = let e : j ≡ 0 = omega arith in rw e (ap (λ (d : Config). d.ended) (none_made code base c) ∙ h)

-- what holds of each number below k, and of k, holds of each below k + 1
pub up_to : (P : ℕ → Type 0) (k : ℕ) → ((j : ℕ) → j < k → P j) → P k → (j : ℕ) → j < k + 1 → P j
up_to P k before here j h = by_order (order j k h)
  where
    order : (j k : ℕ) → j < k + 1 → (j < k) ⊎ (k ≡ j)
    order j k h = grind arith

    by_order : (j < k) ⊎ (k ≡ j) → P j
    by_order o = ⊎_elim (λ l. before j l) (λ e. subst P e here) o
