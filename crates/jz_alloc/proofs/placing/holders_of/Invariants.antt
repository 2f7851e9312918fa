use Rattle.jz_alloc.specs.Tables.{row_has}
use Rattle.jz_alloc.specs.InnerHolding.{LiveIn}
use Rattle.jz_alloc.specs.Answers.{HoldsEach}
use Rattle.jz_alloc.proofs.placing.holders_of.Given as goal

abbrev pub invariant-loop-place : goal.invariant-loop-place
invariant-loop-place l = HoldsEach l.ops (LiveIn l.after) l.places l.variable (λ q. row_has l.meets q l.variable) l.place l.holders.items
