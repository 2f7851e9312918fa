use Rattle.std.proofs.Common.{◌+◌, ◌*◌}
use Rattle.jz_tree.specs.declared.expr.Expr.{size-Expr}
use Rattle.jz_fact_readings.proofs.walk.+interval.Given as goal

abbrev pub decreases-interval : goal.decreases-interval
decreases-interval g l = 8589934592 * size-Expr l.e.now + 4294967297

abbrev pub decreases-climb : goal.decreases-climb
decreases-climb g l = 8589934592 * size-Expr l.e.now + l.steps

abbrev pub decreases-one_up : goal.decreases-one_up
decreases-one_up g l = 8589934592 * size-Expr l.e.now

abbrev pub decreases-operation : goal.decreases-operation
decreases-operation g l = 8589934592 * size-Expr l.right.now + 4294967298

abbrev pub decreases-single : goal.decreases-single
decreases-single g l = 8589934592 * size-Expr l.e.now
