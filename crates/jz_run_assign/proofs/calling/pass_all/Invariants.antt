use Rattle.std.proofs.Common.{◌≡◌, drop}
use Rattle.jz_meaning.specs.Attempts.{numbers_first}
use Rattle.jz_meaning.specs.Stores.{state_of, store_of}
use Rattle.jz_meaning.specs.Statements.{all_passed}
use Rattle.jz_run_assign.proofs.calling.pass_all.Given as goal

abbrev pub invariant-loop-i : goal.invariant-loop-i
invariant-loop-i l =
    numbers_first l.out (all_passed l.span (drop l.i l.params) (drop l.i l.args) (state_of l.state) (store_of l.inner))
    ≡ numbers_first l.fn.out (all_passed l.span l.params l.args (state_of l.state) (store_of l.fn.inner))
