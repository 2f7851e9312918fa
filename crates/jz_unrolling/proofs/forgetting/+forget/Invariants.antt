use Rattle.std.proofs.Common.{◌≡◌, ◌+◌, ◌*◌}
use Rattle.jz_interp.proofs.Weights.{weight, weights, body_weight}
use Rattle.jz_unrolling_values.specs.InlineNames.{names_in}
use Rattle.jz_unrolling_values.specs.Numbers.{numbers_in, Went}
use Rattle.jz_unrolling.proofs.ForgetLemmas.{left_to_forget}
use Rattle.jz_unrolling.proofs.forgetting.+forget.Given as goal

abbrev pub decreases-forget_set : goal.decreases-forget_set
decreases-forget_set l = 3 * weights l.stmts.now + 1

abbrev pub decreases-forget_one : goal.decreases-forget_one
decreases-forget_one l = 3 * weight l.stmt.now

abbrev pub decreases-forget_body : goal.decreases-forget_body
decreases-forget_body l = 3 * body_weight l.body.now + 2

abbrev pub invariant-forget_set-loop-stmt : goal.invariant-forget_set-loop-stmt
invariant-forget_set-loop-stmt l =
    (left_to_forget (names_in l.vars) l.stmts l.stmt-index (numbers_in l.known) ≡ left_to_forget (names_in l.vars) l.stmts 0 (numbers_in l.initial.known))
    × Went l.initial.known l.known
