use Rattle.jasminc_check.proofs.Lines.{IsSoFar}
use Rattle.jasminc_check.proofs.functions.check_functions.Given as goal

abbrev pub invariant-loop-place : goal.invariant-loop-place
invariant-loop-place l = IsSoFar l.typed.program l.place l.out.items
