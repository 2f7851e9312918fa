use Rattle.std.proofs.Common.{◌≡◌, drop}
use Rattle.jz_meaning.specs.Stores.{store_of}
use Rattle.jz_meaning.specs.Statements.{arrays_back}
use Rattle.jz_run_assign.proofs.calling.give_arrays_back.Given as goal

abbrev pub invariant-loop-i : goal.invariant-loop-i
invariant-loop-i l = arrays_back (drop l.i l.params) (drop l.i l.args) (store_of l.inner) (store_of l.outer) ≡ arrays_back l.params l.args (store_of l.inner) (store_of l.fn.outer)
