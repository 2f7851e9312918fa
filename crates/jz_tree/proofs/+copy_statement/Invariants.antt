use Rattle.std.proofs.Common.{◌≡◌, take}
use Rattle.jz_tree.proofs.+copy_statement.Given as goal

abbrev pub invariant-copying_statements::copy_block-loop-s : goal.invariant-copying_statements::copy_block-loop-s
invariant-copying_statements::copy_block-loop-s l = l.copies ≡ take l.s-index l.s-items
