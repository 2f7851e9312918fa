use Rattle.std.proofs.Common.{map, take}
use Rattle.jz_operands.specs.TableHomes.{homes_of}
use Rattle.jz_lowering.proofs.PassingLemmas.{Passing}
use Rattle.jz_lowering.proofs.passing.pass_params.Given as goal

abbrev pub invariant-loop-param : goal.invariant-loop-param
invariant-loop-param l = Passing (homes_of l.homes) l.regs (map (λ p. p.var) (take l.param-index l.params)) l.passed
