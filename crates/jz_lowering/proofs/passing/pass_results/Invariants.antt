use Rattle.std.proofs.Common.{take}
use Rattle.jz_operands.specs.TableHomes.{homes_of}
use Rattle.jz_lowering.proofs.PassingLemmas.{Passing}
use Rattle.jz_lowering.proofs.passing.pass_results.Given as goal

abbrev pub invariant-loop-var : goal.invariant-loop-var
invariant-loop-var l = Passing (homes_of l.homes) l.regs (take l.var-index l.vars) l.passed
