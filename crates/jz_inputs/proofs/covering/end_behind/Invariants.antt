use Rattle.std.proofs.Common.{◌≡◌, drop}
use Rattle.jz_preconditions.specs.Bounds.{first_of}
use Rattle.jz_inputs.specs.Held.{byte_in}
use Rattle.jz_inputs.proofs.covering.end_behind.Given as goal

abbrev pub invariant-loop-item : goal.invariant-loop-item
invariant-loop-item l =
    first_of (byte_in l.address) (drop l.item-index l.item-items) ≡ first_of (byte_in l.address) l.item-items
