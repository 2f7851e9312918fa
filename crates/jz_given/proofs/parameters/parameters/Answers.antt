use Rattle.std.proofs.Common.{map}
use Rattle.jz_given.specs.Giving.{param_of}
use Rattle.jz_given.proofs.Mapping.{mapped_more}
use Rattle.jz_given.proofs.parameters.parameters.Goals as goal

pub loop-param-preserved : goal.loop-param-preserved
loop-param-preserved c =
    let f = param_of c.args.pres.now in
    let xs = c.as_slice-param-items.result.now in
    mapped_more f xs c.loop-param.param-index c.param-item.result c.in_ok-parameter.field-0 c.loop-param.list.items c.push.new.self.items (map f xs) c.loop-param-test.true c.param-item.is c.in_ok-push.ensures.items c.in_ok-parameter.ensures c.loop-param.invariant
