use Rattle.jz_resolve.proofs.Spans.{functions_named, functions_placed}
use Rattle.jz_resolve.proofs.laws.functions_stay.Goals as goal

pub returns-clause-names : goal.returns-clause-names
returns-clause-names c = functions_named c.args.program.now

pub returns-clause-statements : goal.returns-clause-statements
returns-clause-statements c = functions_placed c.args.program.now
