use Rattle.std.proofs.Common.{◌≡◌, drop}
use Rattle.jz_meaning.specs.Stores.{store_of}
use Rattle.jz_meaning.specs.Runs.{with_arguments}
use Rattle.jz_interp.specs.Outcomes.{values_of}
use Rattle.jz_interp.proofs.functions.give_words.Given as goal

abbrev pub invariant-loop-i : goal.invariant-loop-i
invariant-loop-i l = with_arguments (drop l.i l.params) (values_of (drop l.i l.words)) (store_of l.store) ≡ with_arguments l.params (values_of l.words) (store_of l.fn.store)
