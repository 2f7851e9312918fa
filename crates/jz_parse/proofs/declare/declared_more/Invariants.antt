use Rattle.std.proofs.Common.{◌≡◌, length}
use Rattle.jz_parse.specs.InnerReaders.{declared_more}
use Rattle.jz_parse.proofs.declare.declared_more.Given as goal

abbrev pub invariant-loop-alloc : goal.invariant-loop-alloc
invariant-loop-alloc l = declared_more l.out l.c ≡ declared_more l.fn.first l.fn.c

abbrev pub decreases-loop-alloc : goal.decreases-loop-alloc
decreases-loop-alloc l = length l.c
