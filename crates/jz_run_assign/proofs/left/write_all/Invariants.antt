use Rattle.std.proofs.Common.{◌≡◌, map, length}
use Rattle.std.specs.Prelude.{option_map}
use Rattle.std.specs.Iterator.Adapters.{zip_first, zip_second}
use Rattle.std.specs.Slice.Iter.{iter_rest}
use Rattle.jz_meaning.specs.Attempts.{numbers_first}
use Rattle.jz_meaning.specs.States.{as_value}
use Rattle.jz_meaning.specs.Stores.{state_of}
use Rattle.jz_meaning.specs.Assignments.{all_written}
use Rattle.jz_run_assign.proofs.Writing.{InStep}
use Rattle.jz_run_assign.proofs.left.write_all.Given as goal

abbrev pub invariant-loop-left : goal.invariant-loop-left
invariant-loop-left l =
    (numbers_first l.out (all_written l.span l.size (iter_rest (zip_first l.left-iterator)) (map (option_map as_value) (iter_rest (zip_second l.left-iterator))) (state_of l.state))
    ≡ numbers_first l.fn.out (all_written l.fn.span l.fn.size l.fn.to (map (option_map as_value) l.fn.values) (state_of l.fn.state)))
    × InStep (length l.fn.to) (length l.fn.values) (iter_rest (zip_first l.left-iterator)) (iter_rest (zip_second l.left-iterator))
