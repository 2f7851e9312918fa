use Rattle.std.proofs.Common.{drop, ◌∙◌}
use Rattle.jz_change.specs.Flattening.{first_outs}
use Rattle.jz_change.proofs.StepCases.{ops_gives}
use Rattle.jz_change.proofs.StepViews.{begun}
use Rattle.jz_change.proofs.flattening.flat_ops.Goals as goal

pub returns : goal.returns
returns c =
    let b = drop c.args.at c.args.cases.now in
    ops_gives c.args.items.now b c.from_vec.result (drop c.in_ok-to.to c.args.cases.now)
    (c.from_vec.ensures ∙ begun _ _ (first_outs c.args.items.now b).outs c.in_ok-to.ensures.outs c.new-outs.ensures.items) c.in_ok-to.ensures.rest
