use Rattle.std.proofs.Common.{◌<◌, length, ap, sym, ◌∙◌, arith, Option}
use Rattle.jz_layers.specs.Spots.{Spot, nowhere, over, seen_in}
use Rattle.jz_layers.proofs.TableLemmas.{take_next}
use Rattle.jz_layers.proofs.layers.Layers.copy.Goals as goal

pub loop-i-preserved : goal.loop-i-preserved
loop-i-preserved g c =
    let ms = c.args.self.now.below.items in
    let l : c.loop-i.i < length ms = omega (arith, c.loop-i-test.true, c.len-count.ensures) in (
      omega (arith, l),
      c.in_ok-pour.ensures.seen
          ∙ ap {B = Spot → Option g.row.V.Denot} (λ f. over c.index.result.now f) c.loop-i.invariant.1
          ∙ sym (take_next nowhere ms c.loop-i.i c.index.result.now l c.index.ensures),
    )
