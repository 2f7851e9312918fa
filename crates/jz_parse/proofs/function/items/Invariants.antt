use Rattle.std.proofs.Common.{◌≡◌, [], length}
use Rattle.jz_parse.specs.InnerReaders.{items_more}
use Rattle.jz_parse.proofs.function.items.Given as goal

abbrev pub invariant-loop-alloc : goal.invariant-loop-alloc
invariant-loop-alloc l = items_more l.fn.depth l.vars l.stmts l.c ≡ items_more l.fn.depth [] [] l.fn.c

abbrev pub decreases-loop-alloc : goal.decreases-loop-alloc
decreases-loop-alloc l = length l.c
