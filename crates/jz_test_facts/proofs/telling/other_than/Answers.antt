use Rattle.std.specs.Int.{w128}
use Rattle.std.proofs.Common.{rules, ap, sym, ◌∙◌}
use Rattle.std.proofs.lemmas.Int.{to_z-of_z}
use Rattle.x64_insn.specs.Words.{residue}
use Rattle.jz_fact_sets.specs.Renewing.{own}
use Rattle.jz_test_facts.proofs.KnownFacts.{other_zero, other_nonzero}
use Rattle.jz_test_facts.proofs.telling.other_than.Goals as goal

pub returns-then-bits-eq0 : goal.returns-then-bits-eq0
returns-then-bits-eq0 c g at = other_zero g c.args.size c.args.n at (sym (c.bits.ensures.value ∙ c.residue.ensures.bits ∙ ap (residue c.args.size) (to_z-of_z w128 c.args.n (search rules))) ∙ c.if-bits-eq0.true)

pub returns : goal.returns
returns c g at = ap (own g) c.nothing.ensures ∙ other_nonzero g c.args.size c.args.n at (λ h. c.if-bits-eq0.false (c.bits.ensures.value ∙ c.residue.ensures.bits ∙ ap (residue c.args.size) (to_z-of_z w128 c.args.n (search rules)) ∙ h))
