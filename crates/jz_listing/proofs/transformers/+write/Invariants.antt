use Rattle.std.proofs.Common.{◌≡◌, ◌++◌, map, take}
use Rattle.jz_listing.specs.Transformers.{case_text, tr_text, spaced_pieces}
use Rattle.jz_listing.proofs.transformers.+write.Given as goal

abbrev pub invariant-write_tr-loop-i : goal.invariant-write_tr-loop-i
invariant-write_tr-loop-i l = l.text.items ≡ l.initial.text.items ++ spaced_pieces (map case_text (take l.i l.tr.cases))

abbrev pub invariant-write_for-loop-i : goal.invariant-write_for-loop-i
invariant-write_for-loop-i l = l.text.items ≡ l.initial.text.items ++ spaced_pieces (map tr_text (take l.i l.trs))
