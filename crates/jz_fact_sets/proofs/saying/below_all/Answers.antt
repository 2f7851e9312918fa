use Rattle.std.proofs.Common.{◌∙◌}
use Rattle.jz_fact_sets.proofs.Named.{below_next, below_end}
use Rattle.jz_fact_sets.proofs.saying.below_all.Goals as goal

pub loop-param-preserved : goal.loop-param-preserved
loop-param-preserved c =
    below_next c.args.params.now c.args.bits c.args.params.now c.loop-param.param-index c.param-item.result c.loop-param.least c.one_below-least.result c.loop-param-test.true c.param-item.is c.one_below-least.ensures
    ∙ c.loop-param.invariant

pub returns : goal.returns
returns c =
    below_end c.args.params.now c.args.bits c.args.params.now c.loop-param.param-index c.loop-param.least c.loop-param-test.false
    ∙ c.loop-param.invariant
