use Rattle.std.proofs.Common.{◌≡◌, length}
use Rattle.jz_parse.specs.NotesReaders.{entries_more}
use Rattle.jz_parse.proofs.annotations.entries_more.Given as goal

abbrev pub invariant-loop-alloc : goal.invariant-loop-alloc
invariant-loop-alloc l = entries_more l.fn.span l.out l.c ≡ entries_more l.fn.span l.fn.first l.fn.c

abbrev pub decreases-loop-alloc : goal.decreases-loop-alloc
decreases-loop-alloc l = length l.c
