use Rattle.std.proofs.Common.{sym, subst, arith, ◌<◌, length}
use Rattle.std.specs.List.{All}
use Rattle.jz_fit.proofs.Elements.{part_below}
use Rattle.jz_fit.proofs.spots.cross_lists.Goals as goal

pub add_spot-requires : goal.add_spot-requires
add_spot-requires c =
    let lt : c.loop-i.i < length c.args.after.now = omega (arith, c.requires.rows, c.loop-i-test.true) in
    λ k d l. omega (arith, part_below c.in_ok-across.field-0 _ c.index-after-i.result c.args.count c.in_ok-across.ensures (subst (λ x. All (λ v. v < c.args.count) x) (sym c.index-after-i.is) (c.requires.below c.loop-i.i c.index-after-i.result lt)) k d l, c.loop-i.invariant.0)
