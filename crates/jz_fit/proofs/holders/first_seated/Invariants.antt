use Rattle.std.proofs.Common.{take}
use Rattle.jz_fit.specs.InnerHolding.{IsFirstSeated}
use Rattle.jz_fit.proofs.holders.first_seated.Given as goal

abbrev pub invariant-loop-variable : goal.invariant-loop-variable
invariant-loop-variable l = IsFirstSeated (take l.variable-index l.variable-items) l.places l.place l.first
