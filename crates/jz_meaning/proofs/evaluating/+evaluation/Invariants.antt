use Rattle.std.proofs.Common.{◌≡◌, ◌+◌, ◌*◌, length}
use Rattle.jz_tree.specs.declared.expr.Expr.{size-Expr}
use Rattle.jz_runs.specs.Rules.{went}
use Rattle.jz_meaning.specs.Attempts.{numbers_first}
use Rattle.jz_meaning.specs.States.{as_value}
use Rattle.jz_meaning.specs.Values.{evaluated}
use Rattle.jz_meaning.specs.Stores.{state_of}
use Rattle.jz_meaning.specs.InnerEvaluating.{gone_on, AllDetermined}
use Rattle.jz_meaning.proofs.LeftSideLemmas.{AllSmaller}
use Rattle.jz_meaning.proofs.evaluating.+evaluation.Given as goal

abbrev pub decreases-evaluate_settled : goal.decreases-evaluate_settled
decreases-evaluate_settled l = 3 * size-Expr l.e.now + 1

abbrev pub decreases-evaluate_single : goal.decreases-evaluate_single
decreases-evaluate_single l = 3 * size-Expr l.e.now

abbrev pub decreases-finish : goal.decreases-finish
decreases-finish l = 3 * size-Expr l.operation.right.now + 2

abbrev pub invariant-evaluate_settled-loop-operation : goal.invariant-evaluate_settled-loop-operation
invariant-evaluate_settled-loop-operation l =
    (gone_on l.waiting.items (state_of l.state) (went l.out (as_value l.value)) ≡ numbers_first l.fn.out (evaluated l.e l.fn.wanted (state_of l.state)))
    × AllSmaller (size-Expr l.e) l.waiting.items × AllDetermined l.waiting.items

abbrev pub decreases-evaluate_settled-loop-operation : goal.decreases-evaluate_settled-loop-operation
decreases-evaluate_settled-loop-operation l = length l.waiting.items
