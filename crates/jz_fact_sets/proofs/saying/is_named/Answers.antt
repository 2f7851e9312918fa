use Rattle.std.proofs.Common.{sym, ◌∙◌}
use Rattle.jz_layers.specs.Spots.{variable_key}
use Rattle.jz_fact_sets.proofs.Named.{named_yes, named_no, named_end}
use Rattle.jz_fact_sets.proofs.saying.is_named.Goals as goal

pub returns-then-is_first : goal.returns-then-is_first
returns-then-is_first c =
    named_yes c.args.params.now c.loop-param.param-index c.param-item.result c.loop-param-test.true c.param-item.is c.loop-param.rest (variable_key c.args.var.now) (sym c.is_first.ensures ∙ c.if-is_first.true)
    ∙ c.loop-param.invariant

pub loop-param-preserved : goal.loop-param-preserved
loop-param-preserved c =
    named_no c.args.params.now c.loop-param.param-index c.param-item.result c.loop-param-test.true c.param-item.is c.loop-param.rest (variable_key c.args.var.now) (sym c.is_first.ensures ∙ c.if-is_first.false)
    ∙ c.loop-param.invariant

pub returns : goal.returns
returns c =
    named_end c.args.params.now c.loop-param.param-index c.loop-param.rest (variable_key c.args.var.now) c.loop-param-test.false
    ∙ c.loop-param.invariant
