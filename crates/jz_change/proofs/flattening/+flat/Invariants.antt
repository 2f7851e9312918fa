use Rattle.std.proofs.Common.{◌≡◌, drop, take, map}
use Rattle.jz_change.specs.Flattening.{tr_of, flat, flat_rounds}
use Rattle.jz_change.specs.Views.{change_of, changes_of, steps_of}
use Rattle.jz_change.specs.InnerSteps.{cases_before, trees_before}
use Rattle.jz_change.proofs.flattening.+flat.Given as goal

abbrev pub invariant-flat_steps-loop-step : goal.invariant-flat_steps-loop-step
invariant-flat_steps-loop-step l =
    flat (change_of l.a) (drop l.at l.cases) ≡ cases_before l.out.items (flat (steps_of (drop l.step-index l.step-items)) (drop l.now l.cases))

abbrev pub invariant-flat_trees-loop-tr : goal.invariant-flat_trees-loop-tr
invariant-flat_trees-loop-tr l = l.out.items ≡ map (λ t. tr_of (flat (change_of l.body) t.cases).cases) (take l.tr-index l.tr-items)

abbrev pub invariant-flat_unrolled-loop-part : goal.invariant-flat_unrolled-loop-part
invariant-flat_unrolled-loop-part l =
    flat_rounds (changes_of l.parts) (drop l.at l.cases) ≡ trees_before l.trs.items (flat_rounds (changes_of (drop l.part-index l.part-items)) (drop l.now l.cases))
