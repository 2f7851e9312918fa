use Rattle.jz_inputs.proofs.Multiples.{multiple_so}
use Rattle.jz_inputs.proofs.holding.is_multiple.Goals as goal

pub returns-else-multiple-eq0 : goal.returns-else-multiple-eq0
returns-else-multiple-eq0 c = multiple_so c.args.word c.in-Some.word c.args.multiple c.in-Some.is
