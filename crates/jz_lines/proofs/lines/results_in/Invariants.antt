use Rattle.std.proofs.Common.{take}
use Rattle.jz_lines.proofs.LineLemmas.{LinedResults}
use Rattle.jz_lines.proofs.lines.results_in.Given as goal

abbrev pub invariant-loop-var : goal.invariant-loop-var
invariant-loop-var l = LinedResults l.regs (take l.var-index l.vars) (take l.var-index l.rets) l.lines
