use Rattle.jz_stack.proofs.NodeFrames.{IsLaidOut}
use Rattle.jz_stack.proofs.laying.lay_out.Given as goal

abbrev pub invariant-loop-variable : goal.invariant-loop-variable
invariant-loop-variable l = IsLaidOut l.variables l.variable-index l.end l.offsets
