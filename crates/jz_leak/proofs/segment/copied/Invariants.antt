use Rattle.std.proofs.Common.{◌≡◌, take}
use Rattle.jz_leak.proofs.segment.copied.Given as goal

abbrev pub invariant-loop-segment : goal.invariant-loop-segment
invariant-loop-segment l = l.copies.items ≡ take l.segment-index l.fn.segments
