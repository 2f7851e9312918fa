use Rattle.jz_alloc.proofs.Fitting.{Placing}
use Rattle.jz_alloc.proofs.fit.place_all.Given as goal

abbrev pub invariant-loop-variable : goal.invariant-loop-variable
invariant-loop-variable l = Placing l.meets l.fn.taken.items l.rows l.order l.variable-index l.places.items l.busy.items l.holders.items
