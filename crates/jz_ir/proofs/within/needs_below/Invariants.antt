use Rattle.std.proofs.Common.{◌<◌, take}
use Rattle.std.specs.List.{All}
use Rattle.jz_ir.proofs.within.needs_below.Given as goal

abbrev pub invariant-loop-need : goal.invariant-loop-need
invariant-loop-need l = All (λ k. k.variable < l.count) (take l.need-index l.needs)
