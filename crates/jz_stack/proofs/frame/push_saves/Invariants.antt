use Rattle.jz_stack.specs.InnerFrames.{save_nodes}
use Rattle.jz_stack.proofs.NodeFrames.{AreSlots}
use Rattle.jz_stack.proofs.frame.push_saves.Given as goal

abbrev pub invariant-loop-reg : goal.invariant-loop-reg
invariant-loop-reg l = AreSlots save_nodes l.saved l.first l.reg-index l.offset l.initial.nodes l.nodes
