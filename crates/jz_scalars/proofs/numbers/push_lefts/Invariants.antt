use Rattle.std.proofs.Common.{◌≡◌, ◌++◌, drop}
use Rattle.jz_arrays.specs.Cells.{lefts_mask}
use Rattle.jz_scalars.specs.Scalars.{declared_sort}
use Rattle.jz_scalars.proofs.numbers.push_lefts.Given as goal

abbrev pub invariant-loop-left : goal.invariant-loop-left
invariant-loop-left l =
    l.out ++ lefts_mask declared_sort (drop l.left-index l.to)
    ≡ l.fn.out ++ lefts_mask declared_sort l.to
