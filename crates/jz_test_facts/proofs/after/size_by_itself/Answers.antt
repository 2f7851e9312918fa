use Rattle.std.proofs.Common.{ap, ◌∙◌}
use Rattle.jz_terms.proofs.Bridge.{term_so}
use Rattle.jz_test_facts.proofs.after.size_by_itself.Goals as goal

pub returns : goal.returns
returns c = c.own_size.ensures ∙ ap (λ d. d.size) (term_so c.args.e.now)
