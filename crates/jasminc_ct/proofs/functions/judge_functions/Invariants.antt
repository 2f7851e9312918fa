use Rattle.jasminc_ct.proofs.Lines.{IsSoFar}
use Rattle.jasminc_ct.proofs.functions.judge_functions.Given as goal

abbrev pub invariant-loop-place : goal.invariant-loop-place
invariant-loop-place l = IsSoFar l.typed.program l.place l.out.items
