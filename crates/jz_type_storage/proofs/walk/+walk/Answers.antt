use Rattle.std.proofs.Common.{rules, arith, drop, refl, sym, subst, ap, ◌∙◌, None}
use Rattle.std.proofs.lemmas.List.{drop_all}
use Rattle.jz_type_storage.specs.Paths.{flow_of, flow_of_all, reading_expr, Repeat, Then, Does, Sets}
use Rattle.jz_type_storage.specs.InnerWalks.{members, unset_read, Walks}
use Rattle.jz_type_names.specs.Order.{earlier}
use Rattle.jz_type_names.specs.Scopes.{name_of}
use Rattle.jz_type_names.proofs.Earliest.{earlier-assoc}
use Rattle.jz_type_storage.proofs.Flows.{if_flow, bare_flow, body_flow, for_flow, mark_flow}
use Rattle.jz_type_storage.proofs.Walking.{walks_skip, walks_test, walks_if, walks_no_body, walks_body, walking_ends}
use Rattle.jz_type_storage.proofs.walk.+walk.Goals as goal

pub walk_all-returns : goal.walk_all-returns
walk_all-returns t c =
    let a = members c.args.asked.now.keys in
    subst (λ xs. Walks a (flow_of_all xs) c.args.set.now.keys c.loop-stmt.best c.loop-stmt.set.keys) (search rules)
    (walking_ends a flow_of c.args.stmts.now (drop c.loop-stmt.stmt-index c.as_slice-stmt-items.result.now) c.args.set.now.keys c.loop-stmt.set.keys c.loop-stmt.best
    (drop_all c.loop-stmt.stmt-index c.as_slice-stmt-items.result.now (omega arith)) c.loop-stmt.invariant)

pub walk-returns-in_ok-rest-in-For : goal.walk-returns-in_ok-rest-in-For
walk-returns-in_ok-rest-in-For t c =
    let a = members c.args.asked.now.keys in
    let i = c.in-For in
    let old = c.args.set.now.keys in
    let end = c.turns.new.set.keys in
    let r = c.earlier_of-in-For.result in
    let from = unset_read c.args.asked.now.keys (reading_expr i.from) old in
    let to = unset_read c.args.asked.now.keys (reading_expr i.to) old in
    let g = Repeat (Then (Does (Sets (name_of i.counter).0)) (flow_of_all i.body)) in
    subst (λ h. Walks a h old r end) (sym (for_flow c.args.kind.now i.counter i.from i.down i.to i.body i.is))
    (walks_test a i.from (Then (reading_expr i.to) g) old end from (earlier to c.in_ok-rest-in-For.rest) r refl
    (walks_test a i.to g old end to c.in_ok-rest-in-For.rest (earlier to c.in_ok-rest-in-For.rest) refl c.in_ok-rest-in-For.ensures refl)
    (c.earlier_of-in-For.ensures.is ∙ ap (λ o. earlier o c.in_ok-rest-in-For.rest) c.in_ok-bounds-in-For.ensures ∙ earlier-assoc from to c.in_ok-rest-in-For.rest))

pub walk-returns-in-Mark : goal.walk-returns-in-Mark
walk-returns-in-Mark t c =
    let a = members c.args.asked.now.keys in
    subst (λ g. Walks a g c.args.set.now.keys None c.args.set.now.keys) (sym (mark_flow c.args.kind.now c.in-Mark.field-0 c.in-Mark.is)) (walks_skip a c.args.set.now.keys)

pub walk-returns-in_ok-join-in-If : goal.walk-returns-in_ok-join-in-If
walk-returns-in_ok-join-in-If t c =
    let a = members c.args.asked.now.keys in
    let i = c.in-If in
    let old = c.args.set.now.keys in
    let end = c.join.new.set.keys in
    let r = c.earlier_of-in-If.result in
    subst (λ g. Walks a g old r end) (sym (if_flow c.args.kind.now i.cond i.yes i.no i.is))
    (walks_if a i.cond (flow_of_all i.yes) (flow_of_all i.no) old c.in_ok-one-in-If.one.names.keys c.aside.new.set.keys c.walk_all.new.set.keys end c.len-start.result
    c.in_ok-test-in-If.test c.in_ok-one-in-If.one.first c.in_ok-two-in-If.two c.earlier_of.result r
    c.in_ok-test-in-If.ensures c.len-start.ensures.len c.in_ok-one-in-If.ensures.walks c.in_ok-one-in-If.ensures.kept c.in_ok-two-in-If.ensures c.in_ok-join-in-If.ensures
    c.earlier_of.ensures.is c.earlier_of-in-If.ensures.is)

pub walk-returns-in-None : goal.walk-returns-in-None
walk-returns-in-None t c =
    let a = members c.args.asked.now.keys in
    let i = c.in-While in
    let mid = c.walk_all-in-While.new.set.keys in
    let r = c.earlier_of-in-None.result in
    subst (λ g. Walks a g c.args.set.now.keys r mid) (sym (bare_flow c.args.kind.now i.prologue i.cond i.body i.is c.in-None.is))
    (walks_no_body a (flow_of_all i.prologue) i.cond c.args.set.now.keys mid c.in_ok-first-in-While.first c.in_ok-test-in-While.test r
    c.in_ok-first-in-While.ensures c.in_ok-test-in-While.ensures c.earlier_of-in-None.ensures.is)

pub walk-returns-in_ok-turn-in-Some : goal.walk-returns-in_ok-turn-in-Some
walk-returns-in_ok-turn-in-Some t c =
    let a = members c.args.asked.now.keys in
    let i = c.in-While in
    let mid = c.walk_all-in-While.new.set.keys in
    let turn = c.in_ok-turn-in-Some.turn in
    let first = c.in_ok-first-in-While.first in
    let r = c.earlier_of-in-Some-2.result in
    subst (λ g. Walks a g c.args.set.now.keys r c.aside-in-Some.new.set.keys) (sym (body_flow c.args.kind.now i.prologue i.cond i.body c.in-Some.body i.is c.in-Some.is))
    (walks_body a (flow_of_all i.prologue) i.cond (flow_of_all c.in-Some.body) c.args.set.now.keys mid turn.names.keys c.aside-in-Some.new.set.keys
    first c.in_ok-test-in-While.test turn.first r
    c.in_ok-first-in-While.ensures c.in_ok-test-in-While.ensures c.in_ok-turn-in-Some.ensures.walks c.in_ok-turn-in-Some.ensures.kept
    (c.earlier_of-in-Some-2.ensures.is ∙ ap (λ x. earlier first x) c.earlier_of-in-Some.ensures.is))
