use Rattle.std.proofs.Common.{◌≡◌, ◌++◌, map, take}
use Rattle.std.specs.List.{concat}
use Rattle.jz_listing.specs.Listing.{saved_reg_text}
use Rattle.jz_listing.proofs.lines.write_saved.Given as goal

abbrev pub invariant-loop-reg : goal.invariant-loop-reg
invariant-loop-reg l = l.text.items ≡ l.initial.text.items ++ concat (map saved_reg_text (take l.reg-index l.saved))
