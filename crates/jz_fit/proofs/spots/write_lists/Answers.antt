use Rattle.std.proofs.Common.{arith}
use Rattle.jz_fit.proofs.spots.write_lists.Goals as goal

pub add_spot-requires : goal.add_spot-requires
add_spot-requires c = λ k d lt. omega (arith, (c.requires c.loop-i.i c.index-ops-i.result c.loop-i-test.true).writes k d lt, c.loop-i.invariant.0)
