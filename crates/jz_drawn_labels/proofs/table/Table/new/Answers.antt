use Rattle.std.proofs.Common.{ℕ, Option, ap}
use Rattle.jz_layers.specs.Spots.{Spot}
use Rattle.jz_drawn_labels.specs.Kept.{nodes_by}
use Rattle.jz_drawn_labels.proofs.table.Table.new.Goals as goal

pub returns-clause-nodes : goal.returns-clause-nodes
returns-clause-nodes c = λ k. ap (λ (f : Spot → Option ℕ). nodes_by 0 f k) c.new.ensures
