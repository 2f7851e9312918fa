use Rattle.std.proofs.Common.{◌∙◌, sym, None}
use Rattle.jz_alloc.proofs.Seating.{seat_below}
use Rattle.jz_fit.proofs.placing.seats.Goals as goal

pub place_of-requires : goal.place_of-requires
place_of-requires c = seat_below _ _ c.in-Some.is (c.requires c.loop-number.number-index None c.loop-number-test.true)

pub unreachable-requires : goal.unreachable-requires
unreachable-requires c =
    let z = c.requires c.loop-number.number-index None c.loop-number-test.true in
    let e = sym c.in-None.is ∙ z.1 in
    cc
