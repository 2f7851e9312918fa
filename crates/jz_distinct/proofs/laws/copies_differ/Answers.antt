use Rattle.jz_texts.proofs.Declaring.{declarations_law}
use Rattle.jz_distinct.proofs.Differing.{differ_part}
use Rattle.jz_distinct.proofs.Framed.{typed_differ}
use Rattle.jz_distinct.proofs.laws.copies_differ.Goals as goal

pub returns-clause-whole : goal.returns-clause-whole
returns-clause-whole c = λ p f typed text there. typed_differ p f (declarations_law p typed text) text there

pub returns-clause-parts : goal.returns-clause-parts
returns-clause-parts c = λ keep xs ys h. differ_part keep xs ys h
