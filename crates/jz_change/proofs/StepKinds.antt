-- Which kind a step is of.
use Rattle.std.proofs.Common.{◌≡◌, List, sym, ap, ◌∙◌}
use Rattle.jz_change.specs.declared.change.Numbers.{Numbers}
use Rattle.jz_change.specs.declared.change.Change.{Change}
use Rattle.jz_change.specs.declared.change.Step.{Step}
use Rattle.jz_change.specs.declared.change.Step.TheVariants as step
use Rattle.jz_change.specs.declared.change.Step.TheOpen.{Step-F}
use Rattle.jz_change.specs.declared.change.Step.TheViews.{out-Step, out-roll-Step}
use Rattle.jz_change.specs.InnerSteps.{keeps_if, KeepsIf, keeps_while, KeepsWhile}

pub if_kept : (s : Step) (before : List Numbers) (test : Numbers) (x y : Change) → s ≡ step.If before test x y → KeepsIf s
if_kept s before test x y e = ap keeps_if (ap out-Step (e ∙ sym (step.rolls-If before test x y)) ∙ out-roll-Step (Step-F.If before test x y))

pub while_kept : (s : Step) (p : Change) (before : List Numbers) (test : Numbers) (y : Change) → s ≡ step.While p before test y → KeepsWhile s
while_kept s p before test y e = ap keeps_while (ap out-Step (e ∙ sym (step.rolls-While p before test y)) ∙ out-roll-Step (Step-F.While p before test y))
