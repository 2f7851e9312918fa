use Rattle.std.proofs.Common.{◌≡◌, map, drop}
use Rattle.jz_lex.specs.InnerFront.{first_of}
use Rattle.jz_lex.proofs.table.first_length.Given as goal

abbrev pub invariant-loop-word : goal.invariant-loop-word
invariant-loop-word l = first_of l.apart (map (λ w. w.now) (drop l.word-index l.words)) l.text ≡ first_of l.fn.apart (map (λ w. w.now) l.fn.words) l.fn.text
