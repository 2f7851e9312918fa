use Rattle.std.proofs.Common.{◌≡◌, length}
use Rattle.jz_parse.specs.StmtReaders.{args_more}
use Rattle.jz_parse.proofs.assigning.args_more.Given as goal

abbrev pub invariant-loop-alloc : goal.invariant-loop-alloc
invariant-loop-alloc l = args_more l.depth l.out l.c ≡ args_more l.fn.depth l.fn.first l.fn.c

abbrev pub decreases-loop-alloc : goal.decreases-loop-alloc
decreases-loop-alloc l = length l.c
