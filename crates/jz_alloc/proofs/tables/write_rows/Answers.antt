use Rattle.std.proofs.Common.{arith}
use Rattle.std.proofs.lemmas.List.Elements.{All-get_or}
use Rattle.jz_ir.specs.Places.{Below}
use Rattle.jz_alloc.proofs.tables.write_rows.Goals as goal

pub add_rows-requires-clause-below : goal.add_rows-requires-clause-below
add_rows-requires-clause-below c =
    let b = All-get_or (Below c.args.count) c.args.ops.now c.loop-i.i c.index-ops-i.result c.loop-i-test.true c.requires.below in
    λ k d l. let e = b.writes k d l in omega (arith, e, c.loop-i.invariant.0)
