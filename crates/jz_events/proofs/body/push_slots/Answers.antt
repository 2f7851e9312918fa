use Rattle.std.proofs.Common.{rules}
use Rattle.jz_events.proofs.Slots.{slots_on}
use Rattle.jz_events.proofs.body.push_slots.Goals as goal

pub loop-i-preserved : goal.loop-i-preserved
loop-i-preserved c =
    slots_on c.args.frame.now.size c.args.frame.now.saved.now c.args.frame.now.first c.loop-i.i _ c.args.outs.now c.loop-i.outs c.push.new.self c.slot_access.result
    (search rules) c.loop-i.invariant (search rules) c.slot_access.ensures c.in_ok-push.ensures.ok
