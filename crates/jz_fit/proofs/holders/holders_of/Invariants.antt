use Rattle.jz_ir.specs.Places.{meets}
use Rattle.jz_alloc.specs.Answers.{HoldsEach}
use Rattle.jz_fit.specs.Branches.{LiveAt}
use Rattle.jz_fit.proofs.holders.holders_of.Given as goal

abbrev pub invariant-loop-place : goal.invariant-loop-place
invariant-loop-place l =
    HoldsEach l.table.ops (LiveAt l.table.code.now) l.places l.variable (meets l.table.code.now.kinds l.table.code.now.in_use l.table.ops l.variable) l.place l.holders.items
