use Rattle.std.proofs.Common.{ap, ◌∙◌}
use Rattle.jz_layers.specs.Layered.{seen}
use Rattle.jz_drawn_labels.specs.Kept.{standing}
use Rattle.jz_drawn_labels.proofs.table.Table.node.Goals as goal

pub returns : goal.returns
returns c = c.above.ensures ∙ ap (standing c.args.self.now.floor) (c.get.ensures ∙ ap (seen c.args.self.now.layers) c.of.ensures)
