use Rattle.std.proofs.Common.{rules, ◌++◌, refl}
use Rattle.jz_arrays.specs.Cells.{left_mask, lefts_mask}
use Rattle.jz_scalars.specs.Scalars.{declared_sort}
use Rattle.jz_scalars.proofs.Loops.{next, last}
use Rattle.jz_scalars.proofs.numbers.push_lefts.Goals as goal

pub loop-left-preserved : goal.loop-left-preserved
loop-left-preserved c =
    next (left_mask declared_sort) (lefts_mask declared_sort) (λ d ds. refl) refl c.args.to.now c.loop-left.left-index c.left-item.result (c.args.out.now ++ lefts_mask declared_sort c.args.to.now) c.loop-left.out c.push_left.new.out
    (search rules) (search rules) c.loop-left.invariant c.in_ok-push_left.ensures

pub returns : goal.returns
returns c =
    last (left_mask declared_sort) (lefts_mask declared_sort) (λ d ds. refl) refl c.args.to.now c.loop-left.left-index (c.args.out.now ++ lefts_mask declared_sort c.args.to.now) c.loop-left.out (search rules) c.loop-left.invariant
