use Rattle.std.proofs.Common.{◌≡◌, ◌++◌, map}
use Rattle.std.specs.List.{zip}
use Rattle.std.specs.Iterator.Adapters.{zip_first, zip_second}
use Rattle.std.specs.Slice.Iter.{iter_rest}
use Rattle.jz_type_rows.specs.InnerPairs.{pair_of}
use Rattle.jz_type_rows.proofs.pairs.pairs.Given as goal

abbrev pub invariant-loop-left : goal.invariant-loop-left
invariant-loop-left g l =
    map pair_of l.pairs.items ++ zip (iter_rest (zip_first l.left-iterator)) (iter_rest (zip_second l.left-iterator)) ≡ zip l.fn.left l.fn.right
