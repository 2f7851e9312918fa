use Rattle.std.specs.Prelude.{length, slice_index_or, false}
use Rattle.std.proofs.Common.{rules, arith, ◌+◌, ◌<◌, ◌≡◌, map, drop, refl, sym, ap, ◌∙◌, subst}
use Rattle.jz_change.specs.declared.change.Step.TheViews.{out-Step}
use Rattle.jz_change.specs.Composing.{first_ops, join_every, join, join_rounds}
use Rattle.jz_change.specs.Views.{change_of, changes_of, changes_before, steps_of}
use Rattle.jz_change.specs.InnerSteps.{steps_and, steps_before, rounds_before}
use Rattle.jz_change.proofs.StepKinds.{if_kept}
use Rattle.jz_change.proofs.StepViews.{begun}
use Rattle.jz_change.proofs.StepJoins.{arm_joins, once_joins, unrolled_joins, opened_joins, step_more, round_more, round_done, every_more, is_if, is_while, if_if_given, if_given_at, if_true_at, if_false_at, if_other_at, while_while_at, while_once_at, while_other_at}
use Rattle.jz_change.proofs.composing.+compose.Goals as goal

pub compose_arm-returns : goal.compose_arm-returns
compose_arm-returns t c =
    let b = steps_of (drop c.args.at c.args.steps.now) in
    arm_joins c.args.answer c.args.before.now c.args.part.now b c.from_vec.result (steps_of (drop c.in_ok-to.to c.args.steps.now)) c.in_ok-left.left.steps (steps_of (drop c.in_ok-left.left.at c.args.steps.now))
    (c.from_vec.ensures ∙ begun _ _ (first_ops c.args.before.now b).items c.in_ok-to.ensures.items c.new-out.ensures.items) c.in_ok-to.ensures.rest c.in_ok-left.ensures

pub compose_once-returns : goal.compose_once-returns
compose_once-returns t c =
    let b1 = steps_of (drop c.in_ok-part.part.at c.args.steps.now) in
    once_joins c.args.prologue.now c.args.before.now (steps_of (drop c.args.at c.args.steps.now)) c.in_ok-part.part.steps b1 c.from_vec.result (steps_of (drop c.in_ok-to.to c.args.steps.now))
    c.in_ok-part.ensures (c.from_vec.ensures ∙ begun _ _ (first_ops c.args.before.now b1).items c.in_ok-to.ensures.items c.new-out.ensures.items) c.in_ok-to.ensures.rest

pub compose_opened-returns : goal.compose_opened-returns
compose_opened-returns t c =
    let b = steps_of (drop c.args.at c.args.steps.now) in
    let b3 = steps_of (drop c.in_ok-part.part.at c.args.steps.now) in
    opened_joins c.args.arguments.now c.args.body.now c.args.results.now b c.from_vec.result (steps_of (drop c.in_ok-from.from c.args.steps.now)) c.in_ok-part.part.steps b3 c.from_vec-2.result (steps_of (drop c.in_ok-to.to c.args.steps.now))
    (c.from_vec.ensures ∙ begun _ _ (first_ops c.args.arguments.now b).items c.in_ok-from.ensures.items c.new-first.ensures.items) c.in_ok-from.ensures.rest c.in_ok-part.ensures
    (c.from_vec-2.ensures ∙ begun _ _ (first_ops c.args.results.now b3).items c.in_ok-to.ensures.items c.new-last.ensures.items) c.in_ok-to.ensures.rest

pub compose_both-returns-in_ok-else_left-in-If-second-clause-step : goal.compose_both-returns-in_ok-else_left-in-If-second-clause-step
compose_both-returns-in_ok-else_left-in-If-second-clause-step t c = λ kept kept_behind.
    let s = c.in-If in
    let p = c.in-If-second in
    if_if_given c.args.step.now c.args.second.now _ s.test s.then_part s.else_part c.args.before.items p.more p.numbers p.then_steps p.else_steps c.from_vec.result c.in_ok-both-in-If-second.both c.in_ok-then_left-in-If-second.then_left
    c.in_ok-else_left-in-If-second.else_left _ _ s.is p.is (c.from_vec.ensures ∙ c.in_ok-push_all-in-If-second.ensures) c.in_ok-both-in-If-second.ensures c.as_slice.ensures c.in_ok-then_left-in-If-second.ensures c.as_slice-in-If-second.ensures
    c.in_ok-else_left-in-If-second.ensures

pub compose_if-returns-in_ok-both-in-If-second : goal.compose_if-returns-in_ok-both-in-If-second
compose_if-returns-in_ok-both-in-If-second t c = λ kept.
    let s = c.in-If in
    let ss = c.args.steps.now in
    let both = c.in_ok-both-in-If-second.both in
    let within : c.in_ok-to.to < length ss = search (c.in-Some.ensures.lookup, rules) in
    let is : c.in-Some.second.now ≡ slice_index_or ss c.in_ok-to.to c.in-Some.second.now = search (c.in-Some.ensures.lookup, rules) in
    if_given_at c.args.step.now s.before s.test s.then_part s.else_part ss c.args.at c.in_ok-to.to both.at _ _ c.in-Some.second.now both.step s.is c.in_ok-to.ensures.items c.new-out.ensures.items c.in_ok-to.ensures.rest within is
    (c.in_ok-both-in-If-second.ensures.step kept (if_kept _ _ _ _ _ c.in-If-second.is)) (ap (λ n. steps_of (drop n ss)) c.in_ok-both-in-If-second.ensures.at ∙ c.next-to_next.ensures)

pub compose_if-returns-in_ok-left-in-Arm : goal.compose_if-returns-in_ok-left-in-Arm
compose_if-returns-in_ok-left-in-Arm t c = λ kept.
    let s = c.in-If in
    let ss = c.args.steps.now in
    let p = c.in-Arm in
    let within : c.in_ok-to.to < length ss = search (c.in-Some.ensures.lookup, rules) in
    let is : c.in-Some.second.now ≡ slice_index_or ss c.in_ok-to.to c.in-Some.second.now = search (c.in-Some.ensures.lookup, rules) in
    if_true_at c.args.step.now s.before s.test s.then_part s.else_part ss c.args.at c.in_ok-to.to c.arm_of.result.at _ _ _ c.in-Some.second.now p.answer p.more p.part c.in_ok-left-in-Arm.left c.as_slice.result.now _
    s.is c.in_ok-to.ensures.items c.new-out.ensures.items c.in_ok-to.ensures.rest within is p.is c.in_ok-push_all-in-Arm.ensures c.if-answer.true c.as_slice.ensures c.in_ok-left-in-Arm.ensures c.arm_of.ensures.step
    (ap (λ n. steps_of (drop n ss)) c.arm_of.ensures.at ∙ c.next-to_next.ensures)

pub compose_if-returns-in_ok-left-in-Arm-2 : goal.compose_if-returns-in_ok-left-in-Arm-2
compose_if-returns-in_ok-left-in-Arm-2 t c = λ kept.
    let s = c.in-If in
    let ss = c.args.steps.now in
    let p = c.in-Arm in
    let within : c.in_ok-to.to < length ss = search (c.in-Some.ensures.lookup, rules) in
    let is : c.in-Some.second.now ≡ slice_index_or ss c.in_ok-to.to c.in-Some.second.now = search (c.in-Some.ensures.lookup, rules) in
    if_false_at c.args.step.now s.before s.test s.then_part s.else_part ss c.args.at c.in_ok-to.to c.arm_of-else-answer.result.at _ _ _ c.in-Some.second.now p.answer p.more p.part c.in_ok-left-in-Arm-2.left c.as_slice-else-answer.result.now _
    s.is c.in_ok-to.ensures.items c.new-out.ensures.items c.in_ok-to.ensures.rest within is p.is c.in_ok-push_all-in-Arm.ensures c.if-answer.false c.as_slice-else-answer.ensures c.in_ok-left-in-Arm-2.ensures c.arm_of-else-answer.ensures.step
    (ap (λ n. steps_of (drop n ss)) c.arm_of-else-answer.ensures.at ∙ c.next-to_next.ensures)

pub compose_if-returns-in_default-second : goal.compose_if-returns-in_default-second
compose_if-returns-in_default-second t c = λ kept.
    let s = c.in-If in
    let ss = c.args.steps.now in
    let within : c.in_ok-to.to < length ss = search (c.in-Some.ensures.lookup, rules) in
    let is : c.in-Some.second.now ≡ slice_index_or ss c.in_ok-to.to c.in-Some.second.now = search (c.in-Some.ensures.lookup, rules) in
    let other : is_if (out-Step c.in-Some.second.now) ≡ false = search rules in
    if_other_at c.args.step.now s.before s.test s.then_part s.else_part ss c.args.at c.in_ok-to.to c.nothing-in_default-second.result.at _ _ c.in-Some.second.now _
    s.is c.in_ok-to.ensures.items c.new-out.ensures.items c.in_ok-to.ensures.rest within is other c.nothing-in_default-second.ensures.step (ap (λ n. steps_of (drop n ss)) c.nothing-in_default-second.ensures.at ∙ c.next-to_next.ensures)

pub compose_every-loop-part-preserved : goal.compose_every-loop-part-preserved
compose_every-loop-part-preserved t c =
    let a = change_of c.args.body.now in
    let ps = c.args.parts.now in
    let i = c.loop-part.part-index in
    every_more a c.loop-part.all.items ps i c.part-item.result c.in_ok-made.made c.loop-part-test.true c.part-item.is c.loop-part.invariant (c.in_ok-made.ensures ∙ ap (λ v. (join a (steps_of v)).change) c.as_slice.ensures)
    ∙ ap (λ o. changes_before (map change_of o) (join_every (join a) (changes_of (drop (i + 1) ps)))) (sym c.in_ok-push.ensures.items)

pub compose_steps-loop-step-preserved : goal.compose_steps-loop-step-preserved
compose_steps-loop-step-preserved t c =
    let ss = c.as_slice-step-items.result.now in
    let i = c.loop-step.step-index in
    let b = steps_of (drop c.loop-step.now c.args.steps.now) in
    let b2 = steps_of (drop c.in_ok-one.one.at c.args.steps.now) in
    step_more c.loop-step.out.items ss i c.step-item.result b c.in_ok-one.one.step b2 c.loop-step-test.true c.step-item.is c.loop-step.invariant c.in_ok-one.ensures
    ∙ ap (λ o. steps_before o (join (steps_of (drop (i + 1) ss)) b2)) (sym c.in_ok-push.ensures.items)

pub compose_unrolled-loop-part-preserved : goal.compose_unrolled-loop-part-preserved
compose_unrolled-loop-part-preserved t c =
    let ps = c.as_slice-part-items.result.now in
    let i = c.loop-part.part-index in
    let b = steps_of (drop c.loop-part.now c.args.steps.now) in
    let b2 = steps_of (drop c.in_ok-made.made.at c.args.steps.now) in
    round_more c.loop-part.all.items ps i c.part-item.result b c.in_ok-made.made.steps b2 c.loop-part-test.true c.part-item.is c.loop-part.invariant c.in_ok-made.ensures
    ∙ ap (λ o. rounds_before o (join_rounds (changes_of (drop (i + 1) ps)) b2)) (sym c.in_ok-push.ensures.items)

pub compose_unrolled-returns : goal.compose_unrolled-returns
compose_unrolled-returns t c =
    let ps = c.as_slice-part-items.result.now in
    let b = steps_of (drop c.args.at c.args.steps.now) in
    let b2 = steps_of (drop c.loop-part.now c.args.steps.now) in
    let d = round_done c.loop-part.all.items ps c.loop-part.part-index b2 (omega (arith, c.loop-part-test.false)) c.loop-part.invariant in
    unrolled_joins c.args.parts.now b c.from_vec.result b2 (ap changes_of c.from_vec.ensures ∙ d.0) d.1

pub compose_while-returns-in_ok-left-in-While-second : goal.compose_while-returns-in_ok-left-in-While-second
compose_while-returns-in_ok-left-in-While-second t c = λ kept.
    let s = c.in-While in
    let ss = c.args.steps.now in
    let p = c.in-While-second in
    let part = c.in_ok-part-in-While-second.part in
    let within : c.args.at < length ss = search (c.in-Some.ensures.lookup, rules) in
    let is : c.in-Some.second.now ≡ slice_index_or ss c.args.at c.in-Some.second.now = search (c.in-Some.ensures.lookup, rules) in
    while_while_at c.args.step.now s.prologue s.before s.test s.body ss c.args.at c.while_of.result.at c.in-Some.second.now p.inner p.more p.numbers p.body_steps p.inner.steps part.steps part.at c.in_ok-out-in-While-second.out
    c.in_ok-both-in-While-second.both c.in_ok-left-in-While-second.left c.as_slice-in-While-second.result.now _ s.is within is p.is refl
    (subst (λ v. join (change_of s.prologue) (steps_of v) ≡ steps_and part.steps (steps_of (drop part.at v))) c.as_slice.ensures c.in_ok-part-in-While-second.ensures)
    c.in_ok-out-in-While-second.ensures c.in_ok-both-in-While-second.ensures c.as_slice-in-While-second.ensures c.in_ok-left-in-While-second.ensures c.while_of.ensures.step
    (ap (λ n. steps_of (drop n ss)) c.while_of.ensures.at ∙ c.next-to_next.ensures)

pub compose_while-returns-in_ok-out-in-Once : goal.compose_while-returns-in_ok-out-in-Once
compose_while-returns-in_ok-out-in-Once t c = λ kept.
    let s = c.in-While in
    let ss = c.args.steps.now in
    let p = c.in-Once in
    let part = c.in_ok-part-in-Once.part in
    let within : c.args.at < length ss = search (c.in-Some.ensures.lookup, rules) in
    let is : c.in-Some.second.now ≡ slice_index_or ss c.args.at c.in-Some.second.now = search (c.in-Some.ensures.lookup, rules) in
    while_once_at c.args.step.now s.prologue s.before s.test s.body ss c.args.at c.once_of.result.at c.in-Some.second.now p.inner p.more p.inner.steps part.steps part.at c.in_ok-out-in-Once.out _ s.is within is p.is refl
    (subst (λ v. join (change_of s.prologue) (steps_of v) ≡ steps_and part.steps (steps_of (drop part.at v))) c.as_slice-in-Once.ensures c.in_ok-part-in-Once.ensures)
    c.in_ok-out-in-Once.ensures c.once_of.ensures.step (ap (λ n. steps_of (drop n ss)) c.once_of.ensures.at ∙ c.next-to_next.ensures)

pub compose_while-returns-in_default-second : goal.compose_while-returns-in_default-second
compose_while-returns-in_default-second t c = λ kept.
    let s = c.in-While in
    let ss = c.args.steps.now in
    let within : c.args.at < length ss = search (c.in-Some.ensures.lookup, rules) in
    let is : c.in-Some.second.now ≡ slice_index_or ss c.args.at c.in-Some.second.now = search (c.in-Some.ensures.lookup, rules) in
    let other : is_while (out-Step c.in-Some.second.now) ≡ false = search rules in
    while_other_at c.args.step.now s.prologue s.before s.test s.body ss c.args.at c.nothing-in_default-second.result.at c.in-Some.second.now _ s.is within is other
    c.nothing-in_default-second.ensures.step (ap (λ n. steps_of (drop n ss)) c.nothing-in_default-second.ensures.at ∙ c.next-to_next.ensures)
