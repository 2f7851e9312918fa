use Rattle.std.proofs.Common.{◌≡◌, ◌++◌, map, take}
use Rattle.jz_listing.specs.Transformers.{out_text, spaced_pieces}
use Rattle.jz_listing.proofs.transformers.write_outs.Given as goal

abbrev pub invariant-loop-i : goal.invariant-loop-i
invariant-loop-i l = l.text.items ≡ l.initial.text.items ++ spaced_pieces (map out_text (take l.i l.outs))
