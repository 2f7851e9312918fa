use Rattle.std.proofs.Common.{rules, ◌++◌, refl}
use Rattle.jz_arrays.specs.Cells.{mask_of, args_mask}
use Rattle.jz_scalars.specs.Scalars.{declared_sort}
use Rattle.jz_scalars.proofs.Loops.{next, last}
use Rattle.jz_scalars.proofs.numbers.push_args.Goals as goal

pub loop-arg-preserved : goal.loop-arg-preserved
loop-arg-preserved c =
    next (mask_of declared_sort) (args_mask declared_sort) (λ e es. refl) refl c.args.args.now c.loop-arg.arg-index c.arg-item.result (c.args.out.now ++ args_mask declared_sort c.args.args.now) c.loop-arg.out c.push_mask.new.out
    (search rules) (search rules) c.loop-arg.invariant c.in_ok-push_mask.ensures

pub returns : goal.returns
returns c =
    last (mask_of declared_sort) (args_mask declared_sort) (λ e es. refl) refl c.args.args.now c.loop-arg.arg-index (c.args.out.now ++ args_mask declared_sort c.args.args.now) c.loop-arg.out (search rules) c.loop-arg.invariant
