use Rattle.std.proofs.Common.{◌≡◌, drop}
use Rattle.jz_meaning.specs.Attempts.{numbers_first}
use Rattle.jz_meaning.specs.Stores.{state_of, store_of}
use Rattle.jz_meaning.specs.Statements.{all_given}
use Rattle.jz_run_assign.proofs.calling.give_all.Given as goal

abbrev pub invariant-loop-i : goal.invariant-loop-i
invariant-loop-i l =
    numbers_first l.out (all_given l.span (drop l.i l.to) (drop l.i l.results) (store_of l.inner) (state_of l.state))
    ≡ numbers_first l.fn.out (all_given l.span l.to l.results (store_of l.inner) (state_of l.fn.state))
