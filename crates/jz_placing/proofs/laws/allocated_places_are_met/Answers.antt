use Rattle.jz_placing.proofs.Allocated.{placing_met}
use Rattle.jz_placing.proofs.laws.allocated_places_are_met.Goals as goal

pub returns : goal.returns
returns c = λ list entry back t code within same p suits.
    placing_met list entry back t code within same p suits
