use Rattle.std.proofs.Common.{◌≡◌, ◌++◌, map, take}
use Rattle.std.specs.List.{concat}
use Rattle.jz_listing.specs.Listing.{pre_line}
use Rattle.jz_listing.proofs.lines.write_preconditions.Given as goal

abbrev pub invariant-loop-one : goal.invariant-loop-one
invariant-loop-one l = l.text.items ≡ l.initial.text.items ++ concat (map pre_line (take l.one-index l.pre))
