use Rattle.std.proofs.Common.{◌≡◌, drop}
use Rattle.jz_leak.specs.InnerSegments.{index_of}
use Rattle.jz_leak.proofs.segment.index_of.Given as goal

abbrev pub invariant-loop-index : goal.invariant-loop-index
invariant-loop-index l = index_of (drop l.index l.segments) l.addr l.index ≡ index_of l.segments l.addr 0
