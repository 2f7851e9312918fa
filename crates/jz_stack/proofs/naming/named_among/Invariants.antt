use Rattle.jz_place.specs.Codes.{code_in}
use Rattle.jz_stack.proofs.NodeFrames.{any_names, IsFound}
use Rattle.jz_stack.proofs.naming.named_among.Given as goal

abbrev pub invariant-loop-reg : goal.invariant-loop-reg
invariant-loop-reg l = IsFound (λ r. any_names r (code_in l.nodes)) l.registers l.reg-index l.found
