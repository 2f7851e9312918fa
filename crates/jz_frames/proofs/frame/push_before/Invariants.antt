use Rattle.jz_inline.specs.CopiedNames.{names_of}
use Rattle.jz_frames.proofs.Pushing.{AreAhead}
use Rattle.jz_frames.proofs.frame.push_before.Given as goal

abbrev pub invariant-loop-at : goal.invariant-loop-at
invariant-loop-at l = AreAhead (names_of l.names) l.place l.vars l.from l.initial.out l.at l.out
