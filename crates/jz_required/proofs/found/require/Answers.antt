use Rattle.std.proofs.Common.{rules}
use Rattle.jz_required.specs.Kept.{demands_of}
use Rattle.jz_required.proofs.Pushing.{one_demand}
use Rattle.jz_required.proofs.found.require.Goals as goal

pub loop-part-preserved : goal.loop-part-preserved
loop-part-preserved c =
    one_demand c.args.parts.now c.loop-part.part-index c.part-item.result c.args.span c.args.why (demands_of c.args.required.now) c.loop-part.required c.push.new.self
    (search rules) (search rules) c.in_ok-push.ensures.ok c.loop-part.invariant
