use Rattle.jz_instructions.proofs.TestLemmas.{comparison_held}
use Rattle.jz_instructions.proofs.testing.comparison_held.Goals as goal

pub returns : goal.returns
returns c = λ home e h. comparison_held home e c.args.found c.shown_of.result c.count.result c.count-2.result h c.shown_of.ensures c.count.ensures.is c.count-2.ensures.is
