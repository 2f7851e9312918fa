use Rattle.jz_pass_tests.specs.Rules.{stays, halving}
use Rattle.jz_pass_tests.proofs.Choices.{keeps_test}
use Rattle.jz_pass_tests.proofs.halves.HalvesLocal.choice.Goals as goal

pub returns-clause-made : goal.returns-clause-made
returns-clause-made c = keeps_test halving (λ p. stays) c.args.s.now c.args.first c.args.second _ _ _ c.in_ok-same_choice.ensures
