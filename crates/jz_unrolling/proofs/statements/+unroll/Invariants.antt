use Rattle.std.proofs.Common.{◌+◌, ◌*◌, take, length}
use Rattle.jz_meaning.specs.Runs.{block}
use Rattle.jz_meaning.specs.Statements.{values_between}
use Rattle.jz_interp.proofs.Weights.{weight, weights, body_weight}
use Rattle.jz_unrolling_values.specs.InlineNames.{names_in}
use Rattle.jz_unrolling.specs.Steps.{no_callees, Adds}
use Rattle.jz_unrolling.proofs.FormLemmas.{IsRounding}
use Rattle.jz_unrolling.proofs.statements.+unroll.Given as goal

abbrev pub decreases-unroll_all : goal.decreases-unroll_all
decreases-unroll_all l = 8 * weights l.stmts.now + 1

abbrev pub decreases-unroll_one : goal.decreases-unroll_one
decreases-unroll_one l = 8 * weight l.stmt.now

abbrev pub decreases-unroll_if : goal.decreases-unroll_if
decreases-unroll_if l = 8 * (weights l.branch.now.yes.now + weights l.branch.now.no.now) + 4

abbrev pub decreases-unroll_arms : goal.decreases-unroll_arms
decreases-unroll_arms l = 8 * (weights l.branch.now.yes.now + weights l.branch.now.no.now) + 3

abbrev pub decreases-unroll_apart : goal.decreases-unroll_apart
decreases-unroll_apart l = 8 * weights l.stmts.now + 2

abbrev pub decreases-unroll_while : goal.decreases-unroll_while
decreases-unroll_while l = 8 * (weights l.prologue.now + body_weight l.body.now) + 6

abbrev pub decreases-unroll_once : goal.decreases-unroll_once
decreases-unroll_once l = 8 * (weights l.turns.now.prologue.now + body_weight l.turns.now.body.now) + 2

abbrev pub decreases-unroll_turns : goal.decreases-unroll_turns
decreases-unroll_turns l = 8 * (weights l.turns.now.prologue.now + body_weight l.turns.now.body.now) + 5

abbrev pub decreases-unroll_loop : goal.decreases-unroll_loop
decreases-unroll_loop l = 8 * (weights l.turns.now.prologue.now + body_weight l.turns.now.body.now) + 4

abbrev pub decreases-unroll_turn : goal.decreases-unroll_turn
decreases-unroll_turn l = 8 * body_weight l.body.now + 3

abbrev pub decreases-unroll_rounds : goal.decreases-unroll_rounds
decreases-unroll_rounds l = 8 * weights l.body.now + 2

abbrev pub invariant-unroll_all-loop-stmt : goal.invariant-unroll_all-loop-stmt
invariant-unroll_all-loop-stmt l = Adds (names_in l.unroller.vars.now) (block no_callees (take l.stmt-index l.stmts)) l.initial.known l.known l.initial.out l.out l.steps

abbrev pub invariant-unroll_rounds-loop-next : goal.invariant-unroll_rounds-loop-next
invariant-unroll_rounds-loop-next l = IsRounding (names_in l.unroller.vars.now) l.rounds l.body l.initial.known l.known l.initial.out l.out l.changes l.at

abbrev pub decreases-unroll_rounds-loop-next : goal.decreases-unroll_rounds-loop-next
decreases-unroll_rounds-loop-next l = length (values_between l.rounds.down l.at l.rounds.bound)
