use Rattle.std.proofs.Common.{◌≡◌, length}
use Rattle.jz_parse.specs.InnerReaders.{names_more}
use Rattle.jz_parse.proofs.declare.names_more.Given as goal

abbrev pub invariant-loop-alloc : goal.invariant-loop-alloc
invariant-loop-alloc l = names_more l.out l.c ≡ names_more l.fn.first l.fn.c

abbrev pub decreases-loop-alloc : goal.decreases-loop-alloc
decreases-loop-alloc l = length l.c
