use Rattle.jz_events.proofs.Slots.{AreSlots}
use Rattle.jz_events.proofs.body.push_slots.Given as goal

abbrev pub invariant-loop-i : goal.invariant-loop-i
invariant-loop-i l = AreSlots l.frame.size l.frame.saved.now l.frame.first l.i l.initial.outs l.outs
