use Rattle.std.proofs.Common.{sym, subst}
use Rattle.jz_operations.specs.Insns.{places_in, slots_in}
use Rattle.jz_place.specs.Laws.{KeepsRuns, HasNoOtherRuns}
use Rattle.jz_place.proofs.OneRun.{keeps_runs, no_others}
use Rattle.jz_place.proofs.placing.place.Goals as goal

pub returns-clause-runs : goal.returns-clause-runs
returns-clause-runs c = λ good.
    subst (KeepsRuns c.args.ir.now (places_in c.args.places.now) (slots_in c.args.places.now)) (sym c.in_ok-placed.ensures)
    (keeps_runs c.args.ir.now c.args.places.now good)

pub returns-clause-only : goal.returns-clause-only
returns-clause-only c = λ good.
    subst (HasNoOtherRuns c.args.ir.now (places_in c.args.places.now) (slots_in c.args.places.now)) (sym c.in_ok-placed.ensures)
    (no_others c.args.ir.now c.args.places.now good)
