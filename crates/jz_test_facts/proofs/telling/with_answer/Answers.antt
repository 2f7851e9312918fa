use Rattle.std.proofs.Common.{ap, sym, ◌∙◌}
use Rattle.std.specs.Prelude.{if◌then◌else◌}
use Rattle.jz_facts.specs.Tests.{opposite}
use Rattle.jz_test_facts.proofs.telling.with_answer.Goals as goal

pub returns-else-answer : goal.returns-else-answer
returns-else-answer c g = c.opposite.ensures g ∙ sym (ap (λ b. if b then c.args.op else opposite g c.args.op) c.if-answer.false)
