-- Each turn puts one byte at the end.
use Rattle.std.proofs.Common.{◌∙◌}
use Rattle.x64_encode.proofs.PushedBytes.{one_more, one_longer}
use Rattle.x64_encode.proofs.code.Code15.push_number.Goals as goal

pub loop-preserved : goal.loop-preserved
loop-preserved c = (
  one_more c.args.count c.loop.counter c.loop.rest c.loop.self c.push.new.self c.push.ensures c.loop-test.true ∙ c.loop.invariant.0,
  one_longer c.args.count c.loop.counter _ c.loop.self c.push.new.self c.push.ensures c.loop-test.true c.loop.invariant.1,
)
