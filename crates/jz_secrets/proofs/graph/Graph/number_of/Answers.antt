use Rattle.jz_secrets.proofs.Graphing.{stays_fine}
use Rattle.jz_secrets.proofs.graph.Graph.number_of.Goals as goal

pub returns-in-Secret-clause-grows : goal.returns-in-Secret-clause-grows
returns-in-Secret-clause-grows c = stays_fine c.args.self.now

pub returns-in-Drawn-clause-grows : goal.returns-in-Drawn-clause-grows
returns-in-Drawn-clause-grows c = stays_fine c.args.self.now
