use Rattle.std.proofs.Common.{rules, ◌∙◌, ap}
use Rattle.jz_change.specs.declared.change.Numbers.TheVariants.{These}
use Rattle.jz_arrays.specs.Arrays.{places}
use Rattle.jz_scalars.proofs.Loops.{last_place}
use Rattle.jz_scalars.proofs.numbers.numbers_left.Goals as goal

pub loop-place-preserved : goal.loop-place-preserved
loop-place-preserved c = c.in_ok-push_place.ensures ∙ c.loop-place.invariant

pub returns : goal.returns
returns c = ap These (last_place c.args.mask.now c.loop-place.place (places 0 c.args.mask.now) c.loop-place.numbers (search rules) c.loop-place.invariant)
