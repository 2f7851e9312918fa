use Rattle.std.proofs.Common.{◌≡◌, drop}
use Rattle.jz_meaning.specs.Stores.{store_of}
use Rattle.jz_meaning.specs.Runs.{result_words}
use Rattle.jz_interp.specs.Outcomes.{values_of}
use Rattle.jz_interp.specs.InnerAnswers.{values_first}
use Rattle.jz_interp.proofs.functions.result_words.Given as goal

abbrev pub invariant-loop-var : goal.invariant-loop-var
invariant-loop-var l = values_first (values_of l.words) (result_words (drop l.var-index l.vars) (store_of l.store)) ≡ result_words l.vars (store_of l.store)
