use Rattle.std.proofs.Common.{ap, ◌∙◌, Option, ℕ}
use Rattle.jz_layers.specs.Spots.{or_below, spot_of}
use Rattle.jz_drawn_labels.specs.Kept.{standing}
use Rattle.jz_drawn_arms.proofs.arms.Arm.node.Goals as goal

pub returns-in-None : goal.returns-in-None
returns-in-None c = λ f e.
    let a = c.args.self.now in
    c.above.ensures ∙ ap (standing a.floor) (e ∙ ap (λ (o : Option ℕ). or_below o (f (spot_of c.args.named))) c.in-None.ensures.value)

pub returns-in-Some : goal.returns-in-Some
returns-in-Some c = λ f e.
    let a = c.args.self.now in
    c.above-in-Some.ensures ∙ ap (λ (o : Option ℕ). standing a.floor (or_below o (f (spot_of c.args.named)))) c.in-Some.ensures.value
