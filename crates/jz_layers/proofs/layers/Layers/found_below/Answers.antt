use Rattle.std.proofs.Common.{◌-◌, get_or, ap, ◌∙◌, arith}
use Rattle.jz_layers.specs.Spots.{spot_of}
use Rattle.jz_layers.proofs.TableLemmas.{found_one, found_none}
use Rattle.jz_layers.proofs.layers.Layers.found_below.Goals as goal

pub returns-in-Some : goal.returns-in-Some
returns-in-Some g c =
    found_one c.args.self.now.below.items c.loop-i.i c.index-tables-i.result (spot_of c.args.named) c.in-Some.value.now c.loop-i-test.true c.loop-i.invariant.0 (c.index-tables-i.is ∙ ap (λ ms. get_or ms (c.loop-i.i - 1) c.index-tables-i.result) c.as_slice-tables.ensures.value) c.in-Some.ensures.value c.loop-i.invariant.1

pub loop-i-preserved : goal.loop-i-preserved
loop-i-preserved g c = (
  omega (arith, c.loop-i.invariant.0),
  found_none c.args.self.now.below.items c.loop-i.i c.index-tables-i.result (spot_of c.args.named) c.loop-i-test.true c.loop-i.invariant.0 (c.index-tables-i.is ∙ ap (λ ms. get_or ms (c.loop-i.i - 1) c.index-tables-i.result) c.as_slice-tables.ensures.value) c.in-None.ensures.value c.loop-i.invariant.1,
)
