use Rattle.std.proofs.Common.{◌≡◌, ◌++◌, map, take}
use Rattle.std.specs.List.{concat}
use Rattle.jz_listing.specs.Listing.{arg_line}
use Rattle.jz_listing.proofs.lines.write_args.Given as goal

abbrev pub invariant-loop-arg : goal.invariant-loop-arg
invariant-loop-arg l = l.text.items ≡ l.initial.text.items ++ concat (map arg_line (take l.arg-index l.args))
