use Rattle.jz_types.proofs.laws.no_fault_of_a_typed.Goals as goal

pub returns : goal.returns
returns c = λ p f t h. t f.rule f.span h.fails
