use Rattle.std.proofs.Common.{◌≡◌, drop}
use Rattle.jz_leak.specs.InnerSegments.{read_at}
use Rattle.jz_leak.proofs.segment.read_at.Given as goal

abbrev pub invariant-loop-segment : goal.invariant-loop-segment
invariant-loop-segment l = read_at (drop l.segment-index l.segments) l.addr ≡ read_at l.segments l.addr
