use Rattle.std.proofs.Common.{◌≡◌, [], length}
use Rattle.jz_parse.specs.InnerReaders.{parts_more}
use Rattle.jz_parse.proofs.program.parts.Given as goal

abbrev pub invariant-loop-alloc : goal.invariant-loop-alloc
invariant-loop-alloc l = parts_more l.fn.depth l.consts l.funs l.c ≡ parts_more l.fn.depth [] [] l.fn.c

abbrev pub decreases-loop-alloc : goal.decreases-loop-alloc
decreases-loop-alloc l = length l.c
