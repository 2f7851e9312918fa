use Rattle.jz_scalars.proofs.Loops.{IsLeft}
use Rattle.jz_scalars.proofs.statements.+made.Given as goal

abbrev pub invariant-made_block-loop-stmt : goal.invariant-made_block-loop-stmt
invariant-made_block-loop-stmt l = IsLeft l.stmts l.stmt-index l.made l.steps
