use Rattle.std.specs.Prelude.{length, nat_lt, slice_index_or, false}
use Rattle.std.proofs.Common.{rules, ◌<◌, ◌≡◌, [], drop, sym, ap, ◌∙◌}
use Rattle.jz_leak.specs.declared.transformer.Case.TheVariants as case
use Rattle.jz_leak.specs.declared.transformer.Case.TheViews.{out-Case}
use Rattle.jz_change.specs.Flattening.{flat_if, flat_while, flat}
use Rattle.jz_change.specs.Views.{change_of}
use Rattle.jz_change.proofs.StepCases.{if_some, if_none, while_some, if_made, while_made}
use Rattle.jz_change.proofs.flattening.+flat.Goals as goal

pub flat_if-returns-in-None : goal.flat_if-returns-in-None
flat_if-returns-in-None t c = λ kept.
    let s = c.in-If in
    let cs = c.args.cases.now in
    let none : nat_lt c.in_ok-to.to (length cs) ≡ false = search (c.in-None.ensures.lookup, rules) in
    if_none c.args.step.now s.before s.test s.then_part s.else_part cs c.args.at c.in_ok-to.to c.nothing-in-None.result.at _ _ _ s.is c.in_ok-to.ensures.outs c.new-outs.ensures.items c.in_ok-to.ensures.rest none
    c.nothing-in-None.ensures.case (ap (λ n. drop n cs) c.nothing-in-None.ensures.at ∙ c.next-to_next.ensures)

pub flat_if-returns-in_ok-else_left-in-If-case : goal.flat_if-returns-in_ok-else_left-in-If-case
flat_if-returns-in_ok-else_left-in-If-case t c = λ kept.
    let s = c.in-If in
    let cs = c.args.cases.now in
    let p = c.in-If-case in
    let within : c.in_ok-to.to < length cs = search (c.in-Some.ensures.lookup, rules) in
    let is : c.in-Some.case.now ≡ slice_index_or cs c.in_ok-to.to c.in-Some.case.now = search (c.in-Some.ensures.lookup, rules) in
    if_some c.args.step.now s.before s.test s.then_part s.else_part cs c.args.at c.in_ok-to.to c.if_of.result.at _ _ c.in-Some.case.now _ s.is c.in_ok-to.ensures.outs c.new-outs.ensures.items c.in_ok-to.ensures.rest within is
    (c.if_of.ensures.case
    ∙ if_made s.test s.then_part s.else_part c.in-Some.case.now p.test_outs p.then_outs p.then_tr p.else_outs p.else_tr _ _ _ _ _ _ p.is c.in_ok-push_outs-in-If-case.ensures c.in_ok-then_shown-in-If-case.ensures
    c.in_ok-then_left-in-If-case.ensures c.in_ok-else_shown-in-If-case.ensures c.in_ok-else_left-in-If-case.ensures)
    (ap (λ n. drop n cs) c.if_of.ensures.at ∙ c.next-to_next.ensures)

pub flat_if-returns-in_default-case : goal.flat_if-returns-in_default-case
flat_if-returns-in_default-case t c = λ kept.
    let s = c.in-If in
    let cs = c.args.cases.now in
    let within : c.in_ok-to.to < length cs = search (c.in-Some.ensures.lookup, rules) in
    let is : c.in-Some.case.now ≡ slice_index_or cs c.in_ok-to.to c.in-Some.case.now = search (c.in-Some.ensures.lookup, rules) in
    let other : flat_if c.take.new.outs.items s.test (flat (change_of s.then_part)) (flat (change_of s.else_part)) (out-Case c.in-Some.case.now) ≡ case.Op [] = search rules in
    if_some c.args.step.now s.before s.test s.then_part s.else_part cs c.args.at c.in_ok-to.to c.nothing-in_default-case.result.at _ _ c.in-Some.case.now _ s.is c.in_ok-to.ensures.outs c.new-outs.ensures.items c.in_ok-to.ensures.rest within is
    (c.nothing-in_default-case.ensures.case ∙ sym other) (ap (λ n. drop n cs) c.nothing-in_default-case.ensures.at ∙ c.next-to_next.ensures)

pub flat_while-returns-in_ok-left-in-While-case : goal.flat_while-returns-in_ok-left-in-While-case
flat_while-returns-in_ok-left-in-While-case t c = λ kept.
    let s = c.in-While in
    let cs = c.args.cases.now in
    let p = c.in-While-case in
    let part = c.in_ok-part-in-While-case.part in
    let within : c.args.at < length cs = search (c.in-Some.ensures.lookup, rules) in
    let is : c.in-Some.case.now ≡ slice_index_or cs c.args.at c.in-Some.case.now = search (c.in-Some.ensures.lookup, rules) in
    while_some c.args.step.now s.prologue s.before s.test s.body cs c.args.at c.while_of.result.at c.in-Some.case.now _ s.is within is
    (c.while_of.ensures.case
    ∙ while_made s.prologue s.before s.test s.body c.in-Some.case.now p.inner p.test_outs p.more_outs p.body_tr p.leave_outs part.cases (drop part.at p.inner.cases) _ _ _ _ p.is
    (ap (flat (change_of s.prologue)) (sym c.as_slice.ensures) ∙ c.in_ok-part-in-While-case.ensures ∙ ap (λ b. record { cases = part.cases; rest = drop part.at b }) c.as_slice.ensures)
    c.in_ok-outs-in-While-case.ensures c.in_ok-more_shown-in-While-case.ensures c.in_ok-left-in-While-case.ensures c.in_ok-leave_shown-in-While-case.ensures)
    (ap (λ n. drop n cs) c.while_of.ensures.at ∙ c.next-to_next.ensures)

pub flat_while-returns-in_default-case : goal.flat_while-returns-in_default-case
flat_while-returns-in_default-case t c = λ kept.
    let s = c.in-While in
    let cs = c.args.cases.now in
    let within : c.args.at < length cs = search (c.in-Some.ensures.lookup, rules) in
    let is : c.in-Some.case.now ≡ slice_index_or cs c.args.at c.in-Some.case.now = search (c.in-Some.ensures.lookup, rules) in
    let other : flat_while s.before s.test (flat (change_of s.prologue)) (flat (change_of s.body)) (out-Case c.in-Some.case.now) ≡ case.Op [] = search rules in
    while_some c.args.step.now s.prologue s.before s.test s.body cs c.args.at c.nothing-in_default-case.result.at c.in-Some.case.now _ s.is within is
    (c.nothing-in_default-case.ensures.case ∙ sym other) (ap (λ n. drop n cs) c.nothing-in_default-case.ensures.at ∙ c.next-to_next.ensures)
