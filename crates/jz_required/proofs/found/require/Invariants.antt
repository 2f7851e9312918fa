use Rattle.std.proofs.Common.{◌≡◌, ◌++◌, take}
use Rattle.jz_required.specs.Readings.{demands_at}
use Rattle.jz_required.specs.Kept.{origins_of, demands_of, reason_of}
use Rattle.jz_required.proofs.found.require.Given as goal

abbrev pub invariant-loop-part : goal.invariant-loop-part
invariant-loop-part l =
    demands_of l.required ≡ demands_of l.fn.required ++ demands_at l.span (reason_of l.why) (origins_of (take l.part-index l.parts))
