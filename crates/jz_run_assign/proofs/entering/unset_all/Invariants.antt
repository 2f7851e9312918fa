use Rattle.std.proofs.Common.{◌≡◌, drop}
use Rattle.jz_meaning.specs.Stores.{store_of}
use Rattle.jz_meaning.specs.Statements.{all_unset}
use Rattle.jz_run_assign.proofs.entering.unset_all.Given as goal

abbrev pub invariant-loop-var : goal.invariant-loop-var
invariant-loop-var l = all_unset (drop l.var-index l.var-items) (store_of l.store) ≡ all_unset l.vars (store_of l.fn.store)
