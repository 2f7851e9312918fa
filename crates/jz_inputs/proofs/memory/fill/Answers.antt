use Rattle.std.proofs.Common.{◌<◌, ◌≤◌, arith, rules}
use Rattle.jz_leak.specs.MemoryMap.{AddsBytes}
use Rattle.jz_inputs.specs.InnerFilled.{IsPiece}
use Rattle.jz_inputs.proofs.Filling.{put}
use Rattle.jz_inputs.proofs.memory.fill.Goals as goal

pub loop-at-preserved : goal.loop-at-preserved
loop-at-preserved c =
    let at = c.loop-at.at in
    let stop = c.end_of_free-stop.result in
    let low = c.loop-at.invariant.0 in
    let behind : at < stop = search rules in
    let within : stop ≤ c.args.end = c.end_of_free-stop.ensures.within in
    let piece : IsPiece c.args.items.now at stop c.in_ok-bytes.bytes.items = search rules in
    let add : AddsBytes c.loop-at.memory c.add.new.self at c.in_ok-bytes.bytes.items = search rules in (
      omega (arith, low, behind),
      within,
      put c.args.items.now c.args.from at stop c.args.end c.args.memory.now c.loop-at.memory c.add.new.self c.in_ok-bytes.bytes.items low behind within
          c.requires.below c.requires.given piece add c.loop-at.invariant.2,
    )
