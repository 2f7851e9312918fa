use Rattle.std.proofs.Common.{◌≡◌, ◌++◌, take}
use Rattle.jz_leak.specs.Applying.{events_for}
use Rattle.jz_leak.proofs.walk.emit.Given as goal

abbrev pub invariant-loop-out : goal.invariant-loop-out
invariant-loop-out l = l.events.items ≡ l.initial.events.items ++ events_for l.numbers l.rsp (take l.out-index l.out-items)
