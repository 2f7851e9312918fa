use Rattle.std.proofs.Common.{◌≡◌, length}
use Rattle.jz_parse.specs.InnerReaders.{groups_more}
use Rattle.jz_parse.proofs.declare.groups_more.Given as goal

abbrev pub invariant-loop-alloc : goal.invariant-loop-alloc
invariant-loop-alloc l = groups_more l.fn.depth l.out l.c ≡ groups_more l.fn.depth l.fn.first l.fn.c

abbrev pub decreases-loop-alloc : goal.decreases-loop-alloc
decreases-loop-alloc l = length l.c
