use Rattle.std.proofs.Common.{◌≡◌, ◌++◌, drop}
use Rattle.jz_arrays.specs.Cells.{args_mask}
use Rattle.jz_scalars.specs.Scalars.{declared_sort}
use Rattle.jz_scalars.proofs.numbers.push_args.Given as goal

abbrev pub invariant-loop-arg : goal.invariant-loop-arg
invariant-loop-arg l =
    l.out ++ args_mask declared_sort (drop l.arg-index l.args)
    ≡ l.fn.out ++ args_mask declared_sort l.args
