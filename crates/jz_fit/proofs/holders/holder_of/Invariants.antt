use Rattle.jz_fit.specs.Branches.{LiveAt}
use Rattle.jz_fit.proofs.HolderLemmas.{NoneBefore}
use Rattle.jz_fit.proofs.holders.holder_of.Given as goal

abbrev pub invariant-loop-i : goal.invariant-loop-i
invariant-loop-i l = NoneBefore l.table.ops (LiveAt l.table.code.now) l.places l.variable l.place l.i
