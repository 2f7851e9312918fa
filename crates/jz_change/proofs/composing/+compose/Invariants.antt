use Rattle.std.proofs.Common.{◌≡◌, drop, map}
use Rattle.jz_change.specs.Composing.{join, join_every, join_rounds}
use Rattle.jz_change.specs.Views.{changes_before, change_of, changes_of, steps_of}
use Rattle.jz_change.specs.InnerSteps.{steps_before, rounds_before}
use Rattle.jz_change.proofs.composing.+compose.Given as goal

abbrev pub invariant-compose_steps-loop-step : goal.invariant-compose_steps-loop-step
invariant-compose_steps-loop-step l =
    join (change_of l.a) (steps_of (drop l.at l.steps)) ≡ steps_before l.out.items (join (steps_of (drop l.step-index l.step-items)) (steps_of (drop l.now l.steps)))

abbrev pub invariant-compose_every-loop-part : goal.invariant-compose_every-loop-part
invariant-compose_every-loop-part l =
    join_every (join (change_of l.body)) (changes_of l.parts) ≡ changes_before (map change_of l.all.items) (join_every (join (change_of l.body)) (changes_of (drop l.part-index l.parts)))

abbrev pub invariant-compose_unrolled-loop-part : goal.invariant-compose_unrolled-loop-part
invariant-compose_unrolled-loop-part l =
    join_rounds (changes_of l.parts) (steps_of (drop l.at l.steps)) ≡ rounds_before l.all.items (join_rounds (changes_of (drop l.part-index l.part-items)) (steps_of (drop l.now l.steps)))
