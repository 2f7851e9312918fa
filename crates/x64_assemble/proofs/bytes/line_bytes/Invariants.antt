use Rattle.x64_assemble.proofs.CodeFound.{ArePut}
use Rattle.x64_assemble.proofs.bytes.line_bytes.Given as goal

abbrev pub invariant-loop-line : goal.invariant-loop-line
invariant-loop-line l = ArePut l.table l.lines l.line-index l.bytes.items
