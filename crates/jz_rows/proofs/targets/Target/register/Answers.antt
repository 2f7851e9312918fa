use Rattle.jz_rows.proofs.FoundRows.{register_found}
use Rattle.jz_rows.proofs.targets.Target.register.Goals as goal

pub returns-in-Some : goal.returns-in-Some
returns-in-Some c = register_found c.args.self.now c.in-Some.found c.variable_in.result c.in-Some.ensures c.variable_in.ensures
