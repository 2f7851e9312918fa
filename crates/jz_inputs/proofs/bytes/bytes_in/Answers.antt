use Rattle.std.proofs.Common.{◌+◌, ◌<◌, ◌≤◌, arith, rules}
use Rattle.jz_inputs.proofs.Pieces.{from_more, from_end}
use Rattle.jz_inputs.proofs.bytes.bytes_in.Goals as goal

pub loop-at-preserved : goal.loop-at-preserved
loop-at-preserved c =
    let end = c.args.region.from + c.args.region.count in
    let lt : c.loop-at.at < end = search rules in (
      omega (arith, lt),
      from_more c.args.memory.now c.loop-at.at end c.loop-at.bytes.items c.push_some.new.bytes.items _ lt (search rules) c.loop-at.invariant.1,
    )

pub returns : goal.returns
returns c =
    let end = c.args.region.from + c.args.region.count in
    let le : end ≤ c.loop-at.at = search rules in
    from_end c.args.memory.now c.loop-at.at end c.loop-at.bytes.items _ le c.loop-at.invariant.1
