use Rattle.std.proofs.Common.{ap, sym, ◌∙◌}
use Rattle.jz_terms.specs.Terms.{term_of}
use Rattle.jz_fact_sets.specs.Kept.{given_of, facts_of}
use Rattle.jz_fact_sets.specs.Renewing.{own}
use Rattle.jz_test_facts.specs.Comparing.{right_told}
use Rattle.jz_test_facts.proofs.KnownFacts.{none_is}
use Rattle.jz_test_facts.proofs.telling.right_told.Goals as goal

pub returns-in-Lt : goal.returns-in-Lt
returns-in-Lt c = c.above.ensures ∙ sym (ap (λ p. right_told (given_of c.args.given.now) (facts_of c.args.given.now c.args.set.now) c.args.size p (term_of c.args.left.now)) c.in-Lt.is)

pub returns-in-Le : goal.returns-in-Le
returns-in-Le c = c.above-in-Le.ensures ∙ sym (ap (λ p. right_told (given_of c.args.given.now) (facts_of c.args.given.now c.args.set.now) c.args.size p (term_of c.args.left.now)) c.in-Le.is)

pub returns-in-Gt : goal.returns-in-Gt
returns-in-Gt c = c.below.ensures ∙ sym (ap (λ p. right_told (given_of c.args.given.now) (facts_of c.args.given.now c.args.set.now) c.args.size p (term_of c.args.left.now)) c.in-Gt.is)

pub returns-in-Ge : goal.returns-in-Ge
returns-in-Ge c = c.below-in-Ge.ensures ∙ sym (ap (λ p. right_told (given_of c.args.given.now) (facts_of c.args.given.now c.args.set.now) c.args.size p (term_of c.args.left.now)) c.in-Ge.is)

pub returns-in-Eq : goal.returns-in-Eq
returns-in-Eq c = c.equal.ensures ∙ sym (ap (λ p. right_told (given_of c.args.given.now) (facts_of c.args.given.now c.args.set.now) c.args.size p (term_of c.args.left.now)) c.in-Eq.is)

pub returns-in-Ne : goal.returns-in-Ne
returns-in-Ne c = ap (own c.args.given.now) c.nothing.ensures ∙ none_is c.args.given.now ∙ sym (ap (λ p. right_told (given_of c.args.given.now) (facts_of c.args.given.now c.args.set.now) c.args.size p (term_of c.args.left.now)) c.in-Ne.is)

pub returns-in-OrElse : goal.returns-in-OrElse
returns-in-OrElse c = ap (own c.args.given.now) c.nothing-in-OrElse.ensures ∙ none_is c.args.given.now ∙ sym (ap (λ p. right_told (given_of c.args.given.now) (facts_of c.args.given.now c.args.set.now) c.args.size p (term_of c.args.left.now)) c.in-OrElse.is)

pub returns-in-AndThen : goal.returns-in-AndThen
returns-in-AndThen c = ap (own c.args.given.now) c.nothing-in-AndThen.ensures ∙ none_is c.args.given.now ∙ sym (ap (λ p. right_told (given_of c.args.given.now) (facts_of c.args.given.now c.args.set.now) c.args.size p (term_of c.args.left.now)) c.in-AndThen.is)

pub returns-in-Or : goal.returns-in-Or
returns-in-Or c = ap (own c.args.given.now) c.nothing-in-Or.ensures ∙ none_is c.args.given.now ∙ sym (ap (λ p. right_told (given_of c.args.given.now) (facts_of c.args.given.now c.args.set.now) c.args.size p (term_of c.args.left.now)) c.in-Or.is)

pub returns-in-Xor : goal.returns-in-Xor
returns-in-Xor c = ap (own c.args.given.now) c.nothing-in-Xor.ensures ∙ none_is c.args.given.now ∙ sym (ap (λ p. right_told (given_of c.args.given.now) (facts_of c.args.given.now c.args.set.now) c.args.size p (term_of c.args.left.now)) c.in-Xor.is)

pub returns-in-And : goal.returns-in-And
returns-in-And c = ap (own c.args.given.now) c.nothing-in-And.ensures ∙ none_is c.args.given.now ∙ sym (ap (λ p. right_told (given_of c.args.given.now) (facts_of c.args.given.now c.args.set.now) c.args.size p (term_of c.args.left.now)) c.in-And.is)

pub returns-in-LtS : goal.returns-in-LtS
returns-in-LtS c = ap (own c.args.given.now) c.nothing-in-LtS.ensures ∙ none_is c.args.given.now ∙ sym (ap (λ p. right_told (given_of c.args.given.now) (facts_of c.args.given.now c.args.set.now) c.args.size p (term_of c.args.left.now)) c.in-LtS.is)

pub returns-in-LeS : goal.returns-in-LeS
returns-in-LeS c = ap (own c.args.given.now) c.nothing-in-LeS.ensures ∙ none_is c.args.given.now ∙ sym (ap (λ p. right_told (given_of c.args.given.now) (facts_of c.args.given.now c.args.set.now) c.args.size p (term_of c.args.left.now)) c.in-LeS.is)

pub returns-in-GtS : goal.returns-in-GtS
returns-in-GtS c = ap (own c.args.given.now) c.nothing-in-GtS.ensures ∙ none_is c.args.given.now ∙ sym (ap (λ p. right_told (given_of c.args.given.now) (facts_of c.args.given.now c.args.set.now) c.args.size p (term_of c.args.left.now)) c.in-GtS.is)

pub returns-in-GeS : goal.returns-in-GeS
returns-in-GeS c = ap (own c.args.given.now) c.nothing-in-GeS.ensures ∙ none_is c.args.given.now ∙ sym (ap (λ p. right_told (given_of c.args.given.now) (facts_of c.args.given.now c.args.set.now) c.args.size p (term_of c.args.left.now)) c.in-GeS.is)

pub returns-in-Shl : goal.returns-in-Shl
returns-in-Shl c = ap (own c.args.given.now) c.nothing-in-Shl.ensures ∙ none_is c.args.given.now ∙ sym (ap (λ p. right_told (given_of c.args.given.now) (facts_of c.args.given.now c.args.set.now) c.args.size p (term_of c.args.left.now)) c.in-Shl.is)

pub returns-in-Shr : goal.returns-in-Shr
returns-in-Shr c = ap (own c.args.given.now) c.nothing-in-Shr.ensures ∙ none_is c.args.given.now ∙ sym (ap (λ p. right_told (given_of c.args.given.now) (facts_of c.args.given.now c.args.set.now) c.args.size p (term_of c.args.left.now)) c.in-Shr.is)

pub returns-in-Sar : goal.returns-in-Sar
returns-in-Sar c = ap (own c.args.given.now) c.nothing-in-Sar.ensures ∙ none_is c.args.given.now ∙ sym (ap (λ p. right_told (given_of c.args.given.now) (facts_of c.args.given.now c.args.set.now) c.args.size p (term_of c.args.left.now)) c.in-Sar.is)

pub returns-in-Rol : goal.returns-in-Rol
returns-in-Rol c = ap (own c.args.given.now) c.nothing-in-Rol.ensures ∙ none_is c.args.given.now ∙ sym (ap (λ p. right_told (given_of c.args.given.now) (facts_of c.args.given.now c.args.set.now) c.args.size p (term_of c.args.left.now)) c.in-Rol.is)

pub returns-in-Ror : goal.returns-in-Ror
returns-in-Ror c = ap (own c.args.given.now) c.nothing-in-Ror.ensures ∙ none_is c.args.given.now ∙ sym (ap (λ p. right_told (given_of c.args.given.now) (facts_of c.args.given.now c.args.set.now) c.args.size p (term_of c.args.left.now)) c.in-Ror.is)

pub returns-in-Add : goal.returns-in-Add
returns-in-Add c = ap (own c.args.given.now) c.nothing-in-Add.ensures ∙ none_is c.args.given.now ∙ sym (ap (λ p. right_told (given_of c.args.given.now) (facts_of c.args.given.now c.args.set.now) c.args.size p (term_of c.args.left.now)) c.in-Add.is)

pub returns-in-Sub : goal.returns-in-Sub
returns-in-Sub c = ap (own c.args.given.now) c.nothing-in-Sub.ensures ∙ none_is c.args.given.now ∙ sym (ap (λ p. right_told (given_of c.args.given.now) (facts_of c.args.given.now c.args.set.now) c.args.size p (term_of c.args.left.now)) c.in-Sub.is)

pub returns-in-Mul : goal.returns-in-Mul
returns-in-Mul c = ap (own c.args.given.now) c.nothing-in-Mul.ensures ∙ none_is c.args.given.now ∙ sym (ap (λ p. right_told (given_of c.args.given.now) (facts_of c.args.given.now c.args.set.now) c.args.size p (term_of c.args.left.now)) c.in-Mul.is)

pub returns-in-Div : goal.returns-in-Div
returns-in-Div c = ap (own c.args.given.now) c.nothing-in-Div.ensures ∙ none_is c.args.given.now ∙ sym (ap (λ p. right_told (given_of c.args.given.now) (facts_of c.args.given.now c.args.set.now) c.args.size p (term_of c.args.left.now)) c.in-Div.is)

pub returns-in-Rem : goal.returns-in-Rem
returns-in-Rem c = ap (own c.args.given.now) c.nothing-in-Rem.ensures ∙ none_is c.args.given.now ∙ sym (ap (λ p. right_told (given_of c.args.given.now) (facts_of c.args.given.now c.args.set.now) c.args.size p (term_of c.args.left.now)) c.in-Rem.is)

pub returns-in-DivS : goal.returns-in-DivS
returns-in-DivS c = ap (own c.args.given.now) c.nothing-in-DivS.ensures ∙ none_is c.args.given.now ∙ sym (ap (λ p. right_told (given_of c.args.given.now) (facts_of c.args.given.now c.args.set.now) c.args.size p (term_of c.args.left.now)) c.in-DivS.is)

pub returns-in-RemS : goal.returns-in-RemS
returns-in-RemS c = ap (own c.args.given.now) c.nothing-in-RemS.ensures ∙ none_is c.args.given.now ∙ sym (ap (λ p. right_told (given_of c.args.given.now) (facts_of c.args.given.now c.args.set.now) c.args.size p (term_of c.args.left.now)) c.in-RemS.is)
