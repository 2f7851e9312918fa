use Rattle.std.proofs.Common.{◌≡◌, ◌<◌, ◌+◌, ℕ, length, get_or, sym, subst, arith}
use Rattle.std.specs.List.{All}
use Rattle.std.proofs.lemmas.List.{get_or_default}
use Rattle.jz_fit.specs.Branches.{LiveAt}
use Rattle.jz_fit.specs.InnerSpots.{list_at}
use Rattle.jz_fit.specs.InnerSeats.{Seating}
use Rattle.jz_fit.proofs.Seating.{left_over, put}
use Rattle.jz_fit.proofs.Counting.{writes_below, lives_below}
use Rattle.jz_fit.proofs.fit.place_batch.Goals as goal

pub returns-in-None : goal.returns-in-None
returns-in-None c =
    let t = c.args.table.now in
    let s = c.args.spots.now in
    let v : ℕ = get_or c.args.order.now c.loop-k.k 0 in
    let lt : c.loop-k.k < length c.args.order.now = omega (arith, c.loop-k-test.true, c.requires.to) in
    left_over t.ops t.code.now.kinds t.code.now.in_use (LiveAt t.code.now) c.args.order.now c.loop-k.k c.loop-k.seats.places.items c.loop-k.seats.written.items c.loop-k.seats.live.items c.loop-k.invariant.2
    t.fixed.items c.requires.table.fixed_are (list_at s.writes.items v) (list_at s.lives.items v) (list_at s.crosses.items v) v lt (get_or_default c.args.order.now c.loop-k.k 0 v lt)
    (c.requires.counts c.loop-k.k c.loop-k.invariant.0 c.loop-k-test.true) c.in-None.ensures

pub take_seat-requires-clause-writes : goal.take_seat-requires-clause-writes
take_seat-requires-clause-writes c =
    let t = c.args.table.now in
    let s = c.args.spots.now in
    let v : ℕ = get_or c.args.order.now c.loop-k.k 0 in
    subst (λ n. All (λ i. i < n) (list_at s.writes.items v)) (sym c.len.ensures)
    (writes_below t.ops (LiveAt t.code.now) (list_at s.writes.items v) (list_at s.lives.items v) (list_at s.crosses.items v) v (c.requires.counts c.loop-k.k c.loop-k.invariant.0 c.loop-k-test.true))

pub take_seat-requires-clause-lives : goal.take_seat-requires-clause-lives
take_seat-requires-clause-lives c =
    let t = c.args.table.now in
    let s = c.args.spots.now in
    let v : ℕ = get_or c.args.order.now c.loop-k.k 0 in
    subst (λ n. All (λ i. i < n) (list_at s.lives.items v)) (sym c.len.ensures)
    (lives_below t.ops (LiveAt t.code.now) (list_at s.writes.items v) (list_at s.lives.items v) (list_at s.crosses.items v) v (c.requires.counts c.loop-k.k c.loop-k.invariant.0 c.loop-k-test.true))

pub loop-k-preserved : goal.loop-k-preserved
loop-k-preserved c =
    let t = c.args.table.now in
    let s = c.args.spots.now in
    let v : ℕ = get_or c.args.order.now c.loop-k.k 0 in
    let lt : c.loop-k.k < length c.args.order.now = omega (arith, c.loop-k-test.true, c.requires.to) in
    let o = c.in-Some.ensures in
    let next = put t.ops t.code.now.kinds t.code.now.in_use (LiveAt t.code.now) c.args.order.now c.loop-k.k c.loop-k.seats.places.items c.loop-k.seats.written.items c.loop-k.seats.live.items c.loop-k.invariant.2
    t.fixed.items c.requires.table.fixed_are (list_at s.writes.items v) (list_at s.lives.items v) (list_at s.crosses.items v) v lt (get_or_default c.args.order.now c.loop-k.k 0 v lt)
    (c.requires.counts c.loop-k.k c.loop-k.invariant.0 c.loop-k-test.true)
    c.in-Some.place c.take_seat.new.seats.written.items c.take_seat.new.seats.live.items c.requires.distinct (c.requires.order c.loop-k.k 0 lt) o.0 o.1 o.2 c.take_seat.ensures.written c.take_seat.ensures.live in (
      omega (arith, c.loop-k.invariant.0),
      omega (arith, c.loop-k-test.true),
      subst (λ ps. Seating t.ops t.code.now.kinds t.code.now.in_use (LiveAt t.code.now) c.args.order.now (c.loop-k.k + 1) ps c.take_seat.new.seats.written.items c.take_seat.new.seats.live.items) (sym c.take_seat.ensures.places) next,
    )
