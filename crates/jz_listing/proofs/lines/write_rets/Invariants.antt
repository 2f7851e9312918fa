use Rattle.std.proofs.Common.{◌≡◌, ◌++◌, map, take}
use Rattle.std.specs.List.{concat}
use Rattle.jz_listing.specs.Listing.{ret_line}
use Rattle.jz_listing.proofs.lines.write_rets.Given as goal

abbrev pub invariant-loop-ret : goal.invariant-loop-ret
invariant-loop-ret l = l.text.items ≡ l.initial.text.items ++ concat (map ret_line (take l.ret-index l.rets))
