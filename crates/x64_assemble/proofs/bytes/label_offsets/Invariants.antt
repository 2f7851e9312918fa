use Rattle.x64_assemble.proofs.CodeFound.{IsTabled}
use Rattle.x64_assemble.proofs.bytes.label_offsets.Given as goal

abbrev pub invariant-loop-line : goal.invariant-loop-line
invariant-loop-line l = IsTabled l.lines l.line-index l.at l.offsets.items
