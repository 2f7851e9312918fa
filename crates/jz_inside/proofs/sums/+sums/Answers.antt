use Rattle.std.proofs.Common.{◌≡◌, Some, ap, sym, ◌∙◌, arith}
use Rattle.jz_tree.specs.declared.expr.Expr.{size-Expr}
use Rattle.jz_terms.specs.Terms.{term_of}
use Rattle.jz_alarms.specs.Conditions.{joined, sum_of}
use Rattle.jz_fact_readings.proofs.LeftSides.{operands_within}
use Rattle.jz_inside.specs.InnerSums.{seen, behind, if_sum, join_of}
use Rattle.jz_inside.proofs.Summing.{after_add, after_take, as_join, answer_there, more_left}
use Rattle.jz_inside.proofs.sums.+sums.Goals as goal

pub add_sum-returns-in-Some : goal.add_sum-returns-in-Some
add_sum-returns-in-Some t c =
    answer_there c.loop-rest.rest.now c.in-Bin.op _ _ _ c.get.result.now c.get-in-Bin.result.now c.in_ok-answer.answer (seen c.loop-rest.sum) (seen c.add_behind.new.sum) c.in-Bin.is c.get.ensures c.get-in-Bin.ensures c.in_ok-answer.ensures c.in-Some.settled c.in-Some.is
    ∙ c.loop-rest.invariant.0

pub add_sum-loop-rest-preserved : goal.add_sum-loop-rest-preserved
add_sum-loop-rest-preserved t c =
    let l = operands_within _ _ _ _ _ _ c.in-Bin.is c.get-rest.ensures in (
      more_left c.loop-rest.rest.now c.in-Bin.op _ _ _ c.get.result.now c.get-in-Bin.result.now c.in_ok-answer.answer (seen c.loop-rest.sum) (seen c.add_behind.new.sum) c.in-Bin.is c.get.ensures c.get-in-Bin.ensures c.in_ok-answer.ensures _ c.get-rest.ensures c.in-None.is
          ∙ c.loop-rest.invariant.0,
      omega (arith, l, c.loop-rest.invariant.1),
    )

pub add_behind-returns-in_ok-yes-in-Added : goal.add_behind-returns-in_ok-yes-in-Added
add_behind-returns-in_ok-yes-in-Added t c at =
    let a = term_of c.args.left.now in
    let b = term_of c.args.right.now in
    ap (λ x. behind x (sum_of a) (seen c.add_sum.new.sum)) c.unless_no.ensures
    ∙ after_add (sum_of a) (sum_of b) c.in_ok-yes-in-Added.yes (seen c.args.sum.now) (seen c.add_sum.new.sum) c.in_ok-yes-in-Added.ensures
    ∙ ap (λ x. joined x (Some (seen c.args.sum.now))) (sym (as_join c.args.op _ a b at (sym c.in-Added.is ∙ c.join_of.ensures)))

pub add_behind-returns-in_ok-yes-in-Taken : goal.add_behind-returns-in_ok-yes-in-Taken
add_behind-returns-in_ok-yes-in-Taken t c at =
    let a = term_of c.args.left.now in
    let b = term_of c.args.right.now in
    ap (λ x. behind x (sum_of a) (seen c.take_number.new.sum)) c.unless_no-in-Taken.ensures
    ∙ after_take (sum_of a) b c.in_ok-yes-in-Taken.yes (seen c.args.sum.now) (seen c.take_number.new.sum) c.in_ok-yes-in-Taken.ensures
    ∙ ap (λ x. joined x (Some (seen c.args.sum.now))) (sym (as_join c.args.op _ a b at (sym c.in-Taken.is ∙ c.join_of.ensures)))

pub add_behind-returns-in_ok-yes-in-Product : goal.add_behind-returns-in_ok-yes-in-Product
add_behind-returns-in_ok-yes-in-Product t c at =
    let a = term_of c.args.left.now in
    let b = term_of c.args.right.now in
    c.in_ok-yes-in-Product.ensures
    ∙ ap (λ x. joined x (Some (seen c.args.sum.now))) (sym (as_join c.args.op _ a b at (sym c.in-Product.is ∙ c.join_of.ensures)))

pub add_behind-returns-in-Nothing : goal.add_behind-returns-in-Nothing
add_behind-returns-in-Nothing t c at =
    let a = term_of c.args.left.now in
    let b = term_of c.args.right.now in
    ap (λ x. joined x (Some (seen c.args.sum.now))) (sym (as_join c.args.op _ a b at (sym c.in-Nothing.is ∙ c.join_of.ensures)))
