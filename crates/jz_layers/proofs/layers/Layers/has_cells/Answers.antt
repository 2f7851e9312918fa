use Rattle.std.proofs.Common.{ap, sym, ◌∙◌}
use Rattle.jz_layers.specs.Spots.{spot_of, entry_in}
use Rattle.jz_layers.proofs.Holding.{no_cell}
use Rattle.jz_layers.proofs.layers.Layers.has_cells.Goals as goal

pub returns-in-None : goal.returns-in-None
returns-in-None g c = λ e i.
    let s = c.args.self.now in
    no_cell s.noted s.arrays s.top s.below.items s.listed s.held (spot_of c.args.named)
    (ap (λ k. entry_in s.arrays k) (sym c.whole.ensures) ∙ sym c.in-None.ensures.value) i
