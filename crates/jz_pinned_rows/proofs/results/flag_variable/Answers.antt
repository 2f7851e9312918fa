use Rattle.std.proofs.Common.{rules}
use Rattle.jz_operands.specs.TableHomes.{homes_of}
use Rattle.jz_pinned_rows.proofs.ResultLemmas.{no_flag_kind}
use Rattle.jz_pinned_rows.proofs.results.flag_variable.Goals as goal

pub returns-in-Undeclared : goal.returns-in-Undeclared
returns-in-Undeclared c = no_flag_kind (homes_of c.args.homes.now) c.args.var.now (search rules)

pub returns-in-Int : goal.returns-in-Int
returns-in-Int c = no_flag_kind (homes_of c.args.homes.now) c.args.var.now (search rules)

pub returns-in-Word : goal.returns-in-Word
returns-in-Word c = no_flag_kind (homes_of c.args.homes.now) c.args.var.now (search rules)

pub returns-in-Array : goal.returns-in-Array
returns-in-Array c = no_flag_kind (homes_of c.args.homes.now) c.args.var.now (search rules)
