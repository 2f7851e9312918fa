use Rattle.std.proofs.Common.{arith}
use Rattle.jz_correct.specs.Registers.{result_registers}
use Rattle.jz_lines.proofs.LineLemmas.{as_many}
use Rattle.jz_lines.proofs.lines.result_lines.Goals as goal

pub returns-then-len-clause-refused : goal.returns-then-len-clause-refused
returns-then-len-clause-refused c = λ lines h. absurd (omega (arith, c.if-len.true, c.len.ensures, c.len-2.ensures, as_many result_registers c.args.vars.now c.args.rets.now lines h))
