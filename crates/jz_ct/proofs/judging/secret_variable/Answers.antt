use Rattle.std.proofs.Common.{sym}
use Rattle.jz_ct.proofs.Judged.{variable_told}
use Rattle.jz_ct.proofs.judging.secret_variable.Goals as goal

pub returns : goal.returns
returns c = variable_told c.args.var.now c.in_ok-name.name (sym c.in_ok-name.ensures.cases)
