use Rattle.std.proofs.Common.{take}
use Rattle.jz_lines.proofs.LineLemmas.{LinedParams}
use Rattle.jz_lines.proofs.lines.params_in.Given as goal

abbrev pub invariant-loop-param : goal.invariant-loop-param
invariant-loop-param l = LinedParams l.regs (take l.param-index l.params) l.lines
