use Rattle.std.proofs.Common.{◌≡◌, ◌++◌, map, take}
use Rattle.std.specs.Prelude.{codes}
use Rattle.std.specs.List.{concat}
use Rattle.jz_listing.specs.Listing.{compiled_text}
use Rattle.jz_listing.proofs.lines.listing.Given as goal

abbrev pub invariant-loop-fun : goal.invariant-loop-fun
invariant-loop-fun l = l.text.items ≡ codes "jasmin-listing 1\n" ++ concat (map compiled_text (take l.fun-index l.funs))
