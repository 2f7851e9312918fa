use Rattle.jz_fit.specs.Branches.{LiveAt}
use Rattle.jz_fit.proofs.Seating.{ended}
use Rattle.jz_fit.proofs.fit.place_all.Goals as goal

pub returns : goal.returns
returns c =
    let t = c.args.table.now in
    ended t.ops t.code.now.kinds t.code.now.in_use (LiveAt t.code.now) c.args.order.now c.loop-from.from c.loop-from.seats.places.items c.loop-from.seats.written.items c.loop-from.seats.live.items c.loop-from.invariant.1 c.loop-from-test.false
