use Rattle.jz_bits.proofs.One.{Halfway}
use Rattle.jz_bits.proofs.Bits.union.Given as goal

abbrev pub invariant-loop-i : goal.invariant-loop-i
invariant-loop-i l = Halfway l.initial.self-inside.words.items l.other-inside.words.items l.self-inside.words.items l.i
