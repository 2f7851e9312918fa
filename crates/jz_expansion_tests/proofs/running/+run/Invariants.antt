use Rattle.std.proofs.Common.{◌+◌, ◌*◌}
use Rattle.jz_interp.proofs.Weights.{weight, weights, body_weight}
use Rattle.jz_expansion_tests.proofs.running.+run.Given as goal

abbrev pub decreases-run_block : goal.decreases-run_block
decreases-run_block l = 3 * weights l.stmts.now + 1

abbrev pub decreases-run_statement : goal.decreases-run_statement
decreases-run_statement l = 3 * weight l.stmt.now

abbrev pub decreases-run_while : goal.decreases-run_while
decreases-run_while l = 3 * (weights l.prologue.now + body_weight l.body.now) + 2

abbrev pub decreases-run_for : goal.decreases-run_for
decreases-run_for l = 3 * weights l.body.now + 2
