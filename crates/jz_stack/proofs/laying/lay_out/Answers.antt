use Rattle.std.proofs.Common.{rules}
use Rattle.jz_stack.proofs.NodeFrames.{past_limit}
use Rattle.jz_stack.proofs.laying.lay_out.Goals as goal

pub returns-then-end-gt-MOST_BYTES-clause-limit : goal.returns-then-end-gt-MOST_BYTES-clause-limit
returns-then-end-gt-MOST_BYTES-clause-limit c =
    past_limit c.args.variables.now c.loop-variable.variable-index _ (search rules) (search rules) c.loop-variable.end c.rounded_up-offset.result c.length.result c.loop-variable.offsets c.loop-variable.invariant
    c.rounded_up-offset.ensures.is c.length.ensures.is c.if-end-gt-MOST_BYTES.true
