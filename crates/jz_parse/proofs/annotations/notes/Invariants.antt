use Rattle.std.proofs.Common.{◌≡◌, [], length}
use Rattle.jz_parse.specs.NotesReaders.{notes_more}
use Rattle.jz_parse.proofs.annotations.notes.Given as goal

abbrev pub invariant-loop-alloc : goal.invariant-loop-alloc
invariant-loop-alloc l = notes_more l.fn.depth l.out l.c ≡ notes_more l.fn.depth [] l.fn.c

abbrev pub decreases-loop-alloc : goal.decreases-loop-alloc
decreases-loop-alloc l = length l.c
