use Rattle.std.proofs.Common.{◌≡◌, ◌+◌, length, drop}
use Rattle.jz_linear.specs.LineRuns.{instructions_in}
use Rattle.jz_code.proofs.code.instructions.Given as goal

abbrev pub invariant-loop-line : goal.invariant-loop-line
invariant-loop-line l = l.count + length (instructions_in (drop l.line-index l.lines)) ≡ length (instructions_in l.lines)
