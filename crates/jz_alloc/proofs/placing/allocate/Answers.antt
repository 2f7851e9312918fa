use Rattle.std.proofs.Common.{◌∙◌, sym, subst, length}
use Rattle.std.specs.List.{All}
use Rattle.jz_ir.specs.Straight.{LiveIn}
use Rattle.jz_alloc.specs.Fit.{IsSeat}
use Rattle.jz_alloc.proofs.Seating.{within_moved, fit_moved, fit_seats, live_below, placing}
use Rattle.jz_alloc.proofs.placing.allocate.Goals as goal

pub allocate_straight-requires-clause-below : goal.allocate_straight-requires-clause-below
allocate_straight-requires-clause-below c = within_moved c.as_slice-ops.ensures c.as_slice.ensures c.requires.within

pub seats-requires : goal.seats-requires
seats-requires c =
    let f = rw c.in-Places.is at c.in_ok-numbers.ensures in
    subst (All IsSeat) (sym c.as_slice-in-Places.ensures.value) (fit_seats _ _ _ _ c.in-Places.numbers.items f)

pub returns-in_ok-seats-in-Places-clause-rule : goal.returns-in_ok-seats-in-Places-clause-rule
returns-in_ok-seats-in-Places-clause-rule c =
    let f = rw c.in-Places.is at c.in_ok-numbers.ensures in
    let e = sym (c.in_ok-seats-in-Places.ensures ∙ c.as_slice-in-Places.ensures.value) in
    placing c.args.code.now (LiveIn c.args.code.now.ops) c.in_ok-seats-in-Places.field-0 c.requires.within
    (λ i v l. live_below c.args.code.now.ops (length c.args.code.now.kinds) i v c.requires.within l)
    (fit_moved c.as_slice-ops.ensures c.as_slice.ensures c.as_slice-2.ensures e f)
