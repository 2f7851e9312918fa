-- How a run of at most so many steps ended.
use Rattle.std.specs.Prelude.{◌≡◌, ◌<◌, ◌≤◌, ℕ, false, List}
use Rattle.jasminc_steps.specs.declared.stepping.Finish.{Finish}
use Rattle.jasminc_steps.specs.declared.stepping.Finish.TheVariants as finish
use Rattle.jz_correct.specs.Ends.{EndsAfter}
use Rattle.x64_machine.specs.Steps.{Config, step_of, steps_of}
use Rattle.x64_machine.specs.declared.step.Step.TheVariants.{Fault}

-- it has not ended with any of so many steps
abbrev pub RunsStill : List ℕ → ℕ → Config → ℕ → Type 0
RunsStill code base c n = (j : ℕ) → j ≤ n → (steps_of code base c j).after.ended ≡ false

-- how a run of at most so many steps ended, and where it stands then
abbrev pub Finishes : List ℕ → ℕ → Config → ℕ → Config → Finish → Type 0
Finishes code base c limit now (finish.Ended k events) =
    (k ≤ limit) × EndsAfter code base c k × (events ≡ (steps_of code base c k).events)
    × (now ≡ (steps_of code base c k).after)
Finishes code base c limit now (finish.Cut events) =
    RunsStill code base c limit × (events ≡ (steps_of code base c limit).events)
Finishes code base c limit now (finish.Faulted f) =
    (j : ℕ) × (j < limit) × ((i : ℕ) → i ≤ j → (steps_of code base c i).after.ended ≡ false)
    × ((step_of code base (steps_of code base c j).after).answer ≡ Fault f)
