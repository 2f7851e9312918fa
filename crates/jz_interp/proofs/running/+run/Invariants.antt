use Rattle.std.proofs.Common.{◌+◌, ◌*◌, drop, length}
use Rattle.jz_runs.specs.Views.{items_view}
use Rattle.jz_runs.specs.ShownRuns.{Passed, Turned}
use Rattle.jz_meaning.specs.Stores.{state_of}
use Rattle.jz_meaning.specs.Statements.{source}
use Rattle.jz_meaning.specs.Runs.{block, callees_of}
use Rattle.jz_interp.specs.InnerParts.{condition_of, inner_block, inner_body}
use Rattle.jz_interp.specs.InnerRounds.{values_left}
use Rattle.jz_interp.proofs.Rules.{CountedOf}
use Rattle.jz_interp.proofs.Weights.{weight, weights, body_weight, level}
use Rattle.jz_interp.proofs.running.+run.Given as goal

abbrev pub decreases-run_statement : goal.decreases-run_statement
decreases-run_statement l = 6 * (level l.code.now.funs.now l.depth + weight l.stmt.now)

abbrev pub decreases-run_block : goal.decreases-run_block
decreases-run_block l = 6 * (level l.code.now.funs.now l.depth + weights l.stmts.now) + 1

abbrev pub decreases-run_assign : goal.decreases-run_assign
decreases-run_assign l = 6 * level l.code.now.funs.now l.depth + 2

abbrev pub decreases-run_call : goal.decreases-run_call
decreases-run_call l = 6 * level l.code.now.funs.now l.depth + 1

abbrev pub decreases-run_callee : goal.decreases-run_callee
decreases-run_callee l = 6 * (level l.code.now.funs.now l.depth + weights l.call.callee.now.body) + 2

abbrev pub decreases-run_if : goal.decreases-run_if
decreases-run_if l = 6 * (level l.code.now.funs.now l.depth + weights l.holds.now + weights l.other.now) + 2

abbrev pub decreases-run_body : goal.decreases-run_body
decreases-run_body l = 6 * (level l.code.now.funs.now l.depth + body_weight l.body.now) + 2

abbrev pub decreases-run_test : goal.decreases-run_test
decreases-run_test l = 6 * (level l.code.now.funs.now l.depth + body_weight l.body.now) + 3

abbrev pub decreases-run_turn : goal.decreases-run_turn
decreases-run_turn l = 6 * (level l.code.now.funs.now l.depth + weights l.prologue.now + body_weight l.body.now) + 4

abbrev pub decreases-run_while : goal.decreases-run_while
decreases-run_while l = 6 * (level l.code.now.funs.now l.depth + weights l.prologue.now + body_weight l.body.now) + 5

abbrev pub decreases-run_rounds : goal.decreases-run_rounds
decreases-run_rounds l = 6 * (level l.code.now.funs.now l.depth + weights l.body.now) + 2

abbrev pub decreases-run_for : goal.decreases-run_for
decreases-run_for l = 6 * (level l.code.now.funs.now l.depth + weights l.body.now) + 3

abbrev pub invariant-run_block-loop-stmt : goal.invariant-run_block-loop-stmt
invariant-run_block-loop-stmt l =
    Passed items_view source (block (callees_of l.code.funs.now l.depth) l.stmts) (block (callees_of l.code.funs.now l.depth) (drop l.stmt-index l.stmts)) l.fuel (state_of l.fn.state) l.items l.left (state_of l.state)

abbrev pub invariant-run_while-loop-turns : goal.invariant-run_while-loop-turns
invariant-run_while-loop-turns l =
    Turned items_view source (inner_block (callees_of l.code.funs.now l.depth) l.prologue) (condition_of l.test) (inner_body (callees_of l.code.funs.now l.depth) l.body) l.fuel (state_of l.fn.state) l.turns l.left (state_of l.state)

abbrev pub decreases-run_while-loop-turns : goal.decreases-run_while-loop-turns
decreases-run_while-loop-turns l = l.left

abbrev pub invariant-run_rounds-loop-value : goal.invariant-run_rounds-loop-value
invariant-run_rounds-loop-value l = CountedOf l.counter (inner_block (callees_of l.code.funs.now l.depth) l.body) (values_left l.fn.values) l.fuel (state_of l.fn.state) l.leaks (values_left l.values) l.left (state_of l.state)

abbrev pub decreases-run_rounds-loop-value : goal.decreases-run_rounds-loop-value
decreases-run_rounds-loop-value l = length (values_left l.values)
