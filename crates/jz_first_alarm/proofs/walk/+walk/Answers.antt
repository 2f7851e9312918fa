use Rattle.std.proofs.Common.{◌≡◌, ◌<◌, ◌≤◌, ◌+◌, length, get_or, true, false, refl, sym, ap, ◌∙◌, arith, rules}
use Rattle.std.specs.Prelude.{suc, not, is_some}
use Rattle.jz_runs.specs.Trees.{done, op, quiet, choose, loop}
use Rattle.jz_meaning.specs.Statements.{Condition, unset}
use Rattle.jz_meaning.specs.Runs.{block, statement_tree}
use Rattle.jz_flow.specs.Sets.{common}
use Rattle.jz_facts.specs.Tests.{leaves}
use Rattle.jz_fact_sets.specs.Kept.{given_of, facts_of, known_at}
use Rattle.jz_block_facts.specs.Heads.{no_callees, laid}
use Rattle.jz_block_facts.specs.Pieces.{body_piece, operation_of, answered}
use Rattle.jz_block_facts.proofs.LaidFacts.{returned, facts_seen, facts_as}
use Rattle.jz_block_facts.proofs.Splitting.{if_is, assign_is, mark_is, while_is}
use Rattle.jz_block_facts.proofs.Measures.{body_weight, weights_at, weight_if, weight_while}
use Rattle.jz_first_alarm.specs.InnerAsking.{turn_piece}
use Rattle.jz_asked.specs.Asked.{alarm_of}
use Rattle.jz_first_alarm.proofs.Stepping.{handed_on, op_goes, op_stops, quiet_goes, choose_goes, first_arm_stops, second_arm_stops, test_stops, prologue_stops, loop_test_stops, body_stops, loop_goes}
use Rattle.jz_first_alarm.proofs.Walking.{ready_as, ready_from, goes_as, goes_from, goes_at, stops_as, stops_from, nothing_goes, yes_ready, no_ready, head_there, head_is, prologue_ready, rest_ready, none_on, one_ready, one_on, one_stops, all_on}
use Rattle.jz_first_alarm.proofs.walk.+walk.Goals as goal

-- ---- statements in their order

pub ask_block-ask_statement-requires : goal.ask_block-ask_statement-requires
ask_block-ask_statement-requires t c =
    let ss = c.args.stmts.now in
    let lt : c.loop-stmt.stmt-index < length ss = search rules in
    let is : c.stmt-item.result ≡ get_or ss c.loop-stmt.stmt-index c.stmt-item.result = search rules in
    let fits = weights_at ss c.loop-stmt.stmt-index c.stmt-item.result lt is in
    (omega (arith, fits, c.decreases), one_ready c.args.known ss c.loop-stmt.stmt-index c.stmt-item.result _ _ _ _ lt is c.loop-stmt.invariant.1)

pub ask_block-loop-stmt-init : goal.ask_block-loop-stmt-init
ask_block-loop-stmt-init t c = (refl, none_on c.args.known c.args.stmts.now _ _ c.requires)

pub ask_block-loop-stmt-preserved : goal.ask_block-loop-stmt-preserved
ask_block-loop-stmt-preserved t c =
    let ss = c.args.stmts.now in
    let lt : c.loop-stmt.stmt-index < length ss = search rules in
    let is : c.stmt-item.result ≡ get_or ss c.loop-stmt.stmt-index c.stmt-item.result = search rules in (
      c.in_ok-next.ensures.below ∙ c.loop-stmt.invariant.0,
      one_on c.args.known ss c.loop-stmt.stmt-index c.stmt-item.result _ _ _ _ lt is c.loop-stmt.invariant.1 _ _ c.in_ok-next.ensures.goes,
    )

pub ask_block-returns-clause-goes : goal.ask_block-returns-clause-goes
ask_block-returns-clause-goes t c =
    let ss = c.args.stmts.now in
    let le : length ss ≤ c.loop-stmt.stmt-index = search rules in
    all_on c.args.known ss c.loop-stmt.stmt-index _ _ _ _ le c.loop-stmt.invariant.1

pub ask_block-returns-in_err-next-clause-stops : goal.ask_block-returns-in_err-next-clause-stops
ask_block-returns-in_err-next-clause-stops t c =
    let ss = c.args.stmts.now in
    let lt : c.loop-stmt.stmt-index < length ss = search rules in
    let is : c.stmt-item.result ≡ get_or ss c.loop-stmt.stmt-index c.stmt-item.result = search rules in
    handed_on c.from_residual.result c.in_err-next.field-0.0 _ _ c.from_residual.ensures.1
    (λ v h. one_stops c.args.known ss c.loop-stmt.stmt-index c.stmt-item.result _ _ _ _ lt is c.loop-stmt.invariant.1 (alarm_of v) h)
    c.in_err-next.ensures.stops

-- ---- one statement

pub ask_statement-returns-in_ok-ask_single-in-Assign-clause-goes : goal.ask_statement-returns-in_ok-ask_single-in-Assign-clause-goes
ask_statement-returns-in_ok-ask_single-in-Assign-clause-goes t c =
    let g = c.args.known.given.now in
    let s = c.args.stmt.now in
    let a = c.in-Assign in
    let o = operation_of a.to a.op a.rhs a.cond s.span in
    goes_as c.args.known (op o) (statement_tree no_callees s) _ _ _ _ (assign_is s a.to a.op a.rhs a.cond a.is)
    (op_goes g o c.args.at (facts_of g c.args.set.now) (facts_of g c.ask_single.new.set) (c.in_ok-ask_single-in-Assign.ensures.none s.span) (c.in_ok-ask_single-in-Assign.ensures.facts s.span))

pub ask_statement-returns-in_err-ask_single-in-Assign-clause-stops : goal.ask_statement-returns-in_err-ask_single-in-Assign-clause-stops
ask_statement-returns-in_err-ask_single-in-Assign-clause-stops t c =
    let g = c.args.known.given.now in
    let s = c.args.stmt.now in
    let a = c.in-Assign in
    let o = operation_of a.to a.op a.rhs a.cond s.span in
    handed_on c.from_residual.result c.in_err-ask_single-in-Assign.field-0.0 _ _ c.from_residual.ensures.1
    (λ v h. stops_as c.args.known (op o) (statement_tree no_callees s) (facts_of g c.args.set.now) (alarm_of v) (assign_is s a.to a.op a.rhs a.cond a.is) (op_stops g o (facts_of g c.args.set.now) (alarm_of v) (h s.span)))
    c.in_err-ask_single-in-Assign.ensures.some

pub ask_statement-returns-in_err-ask_test-in-If-clause-stops : goal.ask_statement-returns-in_err-ask_test-in-If-clause-stops
ask_statement-returns-in_err-ask_test-in-If-clause-stops t c =
    let g = c.args.known.given.now in
    let s = c.args.stmt.now in
    let i = c.in-If in
    let q : Condition = record { cond = i.cond; at = s.span } in
    handed_on c.from_residual-in_err-ask_test-in-If.result c.in_err-ask_test-in-If.field-0.0 _ _ c.from_residual-in_err-ask_test-in-If.ensures.1
    (λ v h. stops_as c.args.known (choose q (block no_callees i.yes done) (block no_callees i.no done)) (statement_tree no_callees s) (facts_of g c.args.set.now) (alarm_of v) (if_is s i.cond i.yes i.no i.is)
    (test_stops g q (block no_callees i.yes done) (block no_callees i.no done) (facts_of g c.args.set.now) (alarm_of v) (h s.span)))
    c.in_err-ask_test-in-If.ensures.some

pub ask_statement-ask_arm-requires : goal.ask_statement-ask_arm-requires
ask_statement-ask_arm-requires t c =
    let s = c.args.stmt.now in
    let i = c.in-If in
    let q : Condition = record { cond = i.cond; at = s.span } in
    let w = weight_if s i.cond i.yes i.no i.is in (
      omega (arith, w, c.decreases),
      yes_ready c.args.known q (block no_callees i.yes) (block no_callees i.no) _ _ (ready_as c.args.known (statement_tree no_callees s) (choose q (block no_callees i.yes done) (block no_callees i.no done)) _ _ (if_is s i.cond i.yes i.no i.is) c.requires),
    )

pub ask_statement-returns-in_err-first-in-If-clause-stops : goal.ask_statement-returns-in_err-first-in-If-clause-stops
ask_statement-returns-in_err-first-in-If-clause-stops t c =
    let g = c.args.known.given.now in
    let s = c.args.stmt.now in
    let i = c.in-If in
    let q : Condition = record { cond = i.cond; at = s.span } in
    handed_on c.from_residual-in_err-first-in-If.result c.in_err-first-in-If.field-0.0 _ _ c.from_residual-in_err-first-in-If.ensures.1
    (λ v h. stops_as c.args.known (choose q (block no_callees i.yes done) (block no_callees i.no done)) (statement_tree no_callees s) (facts_of g c.args.set.now) (alarm_of v) (if_is s i.cond i.yes i.no i.is)
    (first_arm_stops g q (block no_callees i.yes) (block no_callees i.no) (facts_of g c.args.set.now) (c.in_ok-ask_test-in-If.ensures.none s.span) (alarm_of v) h))
    c.in_err-first-in-If.ensures.stops

pub ask_statement-ask_arm-requires-in-If : goal.ask_statement-ask_arm-requires-in-If
ask_statement-ask_arm-requires-in-If t c =
    let g = c.args.known.given.now in
    let s = c.args.stmt.now in
    let i = c.in-If in
    let q : Condition = record { cond = i.cond; at = s.span } in
    let w = weight_if s i.cond i.yes i.no i.is in
    let zero = c.args.set.now in
    let one = c.ask_arm.new.set in
    let same = facts_seen g zero one c.in_ok-first-in-If.ensures.seen in (
      omega (arith, w, c.decreases),
      ready_from c.args.known (block no_callees i.no) c.in_ok-first-in-If.first.next (answered g i.cond false (facts_of g zero)) (answered g i.cond false (facts_of g one)) (ap (answered g i.cond false) (sym same))
          (no_ready c.args.known q (block no_callees i.yes) (block no_callees i.no) c.args.at c.in_ok-first-in-If.first.next (facts_of g zero) c.in_ok-first-in-If.ensures.goes.next
          (ready_as c.args.known (statement_tree no_callees s) (choose q (block no_callees i.yes done) (block no_callees i.no done)) _ _ (if_is s i.cond i.yes i.no i.is) c.requires)),
    )

pub ask_statement-returns-in_err-second-in-If-clause-stops : goal.ask_statement-returns-in_err-second-in-If-clause-stops
ask_statement-returns-in_err-second-in-If-clause-stops t c =
    let g = c.args.known.given.now in
    let s = c.args.stmt.now in
    let i = c.in-If in
    let q : Condition = record { cond = i.cond; at = s.span } in
    let zero = c.args.set.now in
    let one = c.ask_arm.new.set in
    let same = facts_seen g zero one c.in_ok-first-in-If.ensures.seen in
    handed_on c.from_residual-in_err-second-in-If.result c.in_err-second-in-If.field-0.0 _ _ c.from_residual-in_err-second-in-If.ensures.1
    (λ v h. stops_as c.args.known (choose q (block no_callees i.yes done) (block no_callees i.no done)) (statement_tree no_callees s) (facts_of g zero) (alarm_of v) (if_is s i.cond i.yes i.no i.is)
    (second_arm_stops g q (block no_callees i.yes) (block no_callees i.no) (facts_of g zero) (c.in_ok-ask_test-in-If.ensures.none s.span) c.args.at c.in_ok-first-in-If.first.next _ (alarm_of v) c.in_ok-first-in-If.ensures.goes
    (stops_from c.args.known (block no_callees i.no) (answered g i.cond false (facts_of g one)) (answered g i.cond false (facts_of g zero)) (alarm_of v) (ap (answered g i.cond false) same) h)))
    c.in_err-second-in-If.ensures.stops

pub ask_statement-returns-in_ok-meet_both-in-If-clause-below : goal.ask_statement-returns-in_ok-meet_both-in-If-clause-below
ask_statement-returns-in_ok-meet_both-in-If-clause-below t c = c.in_ok-meet_both-in-If.ensures.below ∙ c.in_ok-second-in-If.ensures.below ∙ c.in_ok-first-in-If.ensures.below

pub ask_statement-returns-in_ok-meet_both-in-If-clause-goes : goal.ask_statement-returns-in_ok-meet_both-in-If-clause-goes
ask_statement-returns-in_ok-meet_both-in-If-clause-goes t c =
    let g = c.args.known.given.now in
    let s = c.args.stmt.now in
    let i = c.in-If in
    let q : Condition = record { cond = i.cond; at = s.span } in
    let zero = c.args.set.now in
    let one = c.ask_arm.new.set in
    let two = c.ask_arm-in-If.new.set in
    let first = c.in_ok-first-in-If.first in
    let second = c.in_ok-second-in-If.second in
    let same = facts_seen g zero one c.in_ok-first-in-If.ensures.seen in
    let more = facts_seen g one two c.in_ok-second-in-If.ensures.seen in
    goes_as c.args.known (choose q (block no_callees i.yes done) (block no_callees i.no done)) (statement_tree no_callees s) _ _ _ _ (if_is s i.cond i.yes i.no i.is)
    (choose_goes g q (block no_callees i.yes) (block no_callees i.no) (facts_of g zero) (c.in_ok-ask_test-in-If.ensures.none s.span) c.args.at first.next second.next
    (laid g first.table (facts_of g zero)) (laid g second.table (facts_of g zero)) (facts_of g c.meet_both.new.set) c.in_ok-first-in-If.ensures.goes
    (goes_from c.args.known (block no_callees i.no) first.next second.next (answered g i.cond false (facts_of g one)) (answered g i.cond false (facts_of g zero)) (laid g second.table (facts_of g one)) (laid g second.table (facts_of g zero))
    (ap (answered g i.cond false) same) (ap (laid g second.table) same) c.in_ok-second-in-If.ensures.goes)
    (c.in_ok-meet_both-in-If.ensures.facts g c.requires.different
    ∙ ap (λ x. common (laid g first.table x) (laid g second.table (facts_of g two))) (more ∙ same)
    ∙ ap (λ x. common (laid g first.table (facts_of g zero)) (laid g second.table x)) (more ∙ same)))

pub ask_statement-ask_while-requires : goal.ask_statement-ask_while-requires
ask_statement-ask_while-requires t c =
    let s = c.args.stmt.now in
    let i = c.in-While in
    let w = weight_while s i.prologue i.cond i.body i.is in (
      omega (arith, w, c.decreases),
      ready_as c.args.known (statement_tree no_callees s) (loop (not (is_some i.body)) (block no_callees i.prologue done) (record { cond = i.cond; at = s.span }) (body_piece i.body done)) _ _ (while_is s i.prologue i.cond i.body i.is) c.requires,
    )

pub ask_statement-returns-in_ok-next-in-While-clause-goes : goal.ask_statement-returns-in_ok-next-in-While-clause-goes
ask_statement-returns-in_ok-next-in-While-clause-goes t c =
    let s = c.args.stmt.now in
    let i = c.in-While in
    goes_as c.args.known (loop (not (is_some i.body)) (block no_callees i.prologue done) (record { cond = i.cond; at = s.span }) (body_piece i.body done)) (statement_tree no_callees s) _ _ _ _
    (while_is s i.prologue i.cond i.body i.is) c.in_ok-next-in-While.ensures.goes

pub ask_statement-returns-in_err-next-in-While-clause-stops : goal.ask_statement-returns-in_err-next-in-While-clause-stops
ask_statement-returns-in_err-next-in-While-clause-stops t c =
    let g = c.args.known.given.now in
    let s = c.args.stmt.now in
    let i = c.in-While in
    handed_on c.from_residual-in_err-next-in-While.result c.in_err-next-in-While.field-0.0 _ _ c.from_residual-in_err-next-in-While.ensures.1
    (λ v h. stops_as c.args.known (loop (not (is_some i.body)) (block no_callees i.prologue done) (record { cond = i.cond; at = s.span }) (body_piece i.body done)) (statement_tree no_callees s) (facts_of g c.args.set.now) (alarm_of v)
    (while_is s i.prologue i.cond i.body i.is) h)
    c.in_err-next-in-While.ensures.stops

pub ask_statement-returns-in_ok-after_mark-in-Mark-clause-goes : goal.ask_statement-returns-in_ok-after_mark-in-Mark-clause-goes
ask_statement-returns-in_ok-after_mark-in-Mark-clause-goes t c =
    let g = c.args.known.given.now in
    let s = c.args.stmt.now in
    let xs = c.in-Mark.vars in
    goes_as c.args.known (quiet (unset xs)) (statement_tree no_callees s) _ _ _ _ (mark_is s xs c.in-Mark.is)
    (quiet_goes g (unset xs) c.args.at (facts_of g c.args.set.now) (facts_of g c.after_mark.new.set) (c.in_ok-after_mark-in-Mark.ensures.facts g))

-- ---- an arm

pub ask_arm-ask_block-requires : goal.ask_arm-ask_block-requires
ask_arm-ask_block-requires t c =
    (omega (arith, c.decreases), ready_from c.args.known (block no_callees c.args.stmts.now) c.args.at _ _ (sym c.in_ok-open_arm.ensures.facts) c.requires)

pub ask_arm-returns-clause-below : goal.ask_arm-returns-clause-below
ask_arm-returns-clause-below t c =
    (returned c.args.set.now c.taken-table.new.set c.ask_block.new.set.below.items (c.in_ok-next.ensures.below ∙ c.in_ok-open_arm.ensures.below) c.taken-table.ensures.below).0

pub ask_arm-returns-clause-seen : goal.ask_arm-returns-clause-seen
ask_arm-returns-clause-seen t c =
    (returned c.args.set.now c.taken-table.new.set c.ask_block.new.set.below.items (c.in_ok-next.ensures.below ∙ c.in_ok-open_arm.ensures.below) c.taken-table.ensures.below).1

pub ask_arm-returns-clause-goes : goal.ask_arm-returns-clause-goes
ask_arm-returns-clause-goes t c =
    let g = c.args.known.given.now in
    let back = returned c.args.set.now c.taken-table.new.set c.ask_block.new.set.below.items (c.in_ok-next.ensures.below ∙ c.in_ok-open_arm.ensures.below) c.taken-table.ensures.below in
    goes_from c.args.known (block no_callees c.args.stmts.now) c.args.at c.in_ok-next.next _ _ _ _ c.in_ok-open_arm.ensures.facts
    (c.taken-table.ensures.facts g ∙ ap (laid g c.taken-table.result) (facts_as g (known_at c.args.set.now) (known_at c.taken-table.new.set) back.2))
    c.in_ok-next.ensures.goes

pub ask_arm-returns-in_err-next-clause-stops : goal.ask_arm-returns-in_err-next-clause-stops
ask_arm-returns-in_err-next-clause-stops t c =
    let g = c.args.known.given.now in
    handed_on c.from_residual-in_err-next.result c.in_err-next.field-0.0 _ _ c.from_residual-in_err-next.ensures.1
    (λ v h. stops_from c.args.known (block no_callees c.args.stmts.now) _ _ (alarm_of v) c.in_ok-open_arm.ensures.facts h)
    c.in_err-next.ensures.stops

-- ---- the rest of a turn

pub ask_rest-returns-in_ok-open_arm-in-None-clause-below : goal.ask_rest-returns-in_ok-open_arm-in-None-clause-below
ask_rest-returns-in_ok-open_arm-in-None-clause-below t c = (returned c.args.set.now c.taken-table.new.set c.open_arm.new.set.below.items c.in_ok-open_arm-in-None.ensures.below c.taken-table.ensures.below).0

pub ask_rest-returns-in_ok-open_arm-in-None-clause-seen : goal.ask_rest-returns-in_ok-open_arm-in-None-clause-seen
ask_rest-returns-in_ok-open_arm-in-None-clause-seen t c = (returned c.args.set.now c.taken-table.new.set c.open_arm.new.set.below.items c.in_ok-open_arm-in-None.ensures.below c.taken-table.ensures.below).1

pub ask_rest-returns-in_ok-open_arm-in-None-clause-goes : goal.ask_rest-returns-in_ok-open_arm-in-None-clause-goes
ask_rest-returns-in_ok-open_arm-in-None-clause-goes t c =
    let g = c.args.known.given.now in
    let back = returned c.args.set.now c.taken-table.new.set c.open_arm.new.set.below.items c.in_ok-open_arm-in-None.ensures.below c.taken-table.ensures.below in
    goes_as c.args.known (λ r. r) (turn_piece c.args.parts) _ _ _ _ (ap body_piece c.in-None.is)
    (goes_from c.args.known (λ r. r) c.args.at c.args.at _ _ _ _ refl
    (sym c.in_ok-open_arm-in-None.ensures.facts ∙ c.taken-table.ensures.facts g ∙ ap (laid g c.taken-table.result) (facts_as g (known_at c.args.set.now) (known_at c.taken-table.new.set) back.2))
    (nothing_goes c.args.known c.args.at (answered g c.args.parts.cond.now true (facts_of g c.args.set.now))))

pub ask_rest-ask_arm-requires : goal.ask_rest-ask_arm-requires
ask_rest-ask_arm-requires t c =
    let w = ap body_weight c.in-Some.is in
    (omega (arith, w, c.decreases), ready_as c.args.known (turn_piece c.args.parts) (block no_callees c.in-Some.stmts) _ _ (ap body_piece c.in-Some.is) c.requires)

pub ask_rest-returns-in_ok-arm-in-Some-clause-goes : goal.ask_rest-returns-in_ok-arm-in-Some-clause-goes
ask_rest-returns-in_ok-arm-in-Some-clause-goes t c =
    goes_as c.args.known (block no_callees c.in-Some.stmts) (turn_piece c.args.parts) _ _ _ _ (ap body_piece c.in-Some.is) c.in_ok-arm-in-Some.ensures.goes

pub ask_rest-returns-in_err-arm-in-Some-clause-stops : goal.ask_rest-returns-in_err-arm-in-Some-clause-stops
ask_rest-returns-in_err-arm-in-Some-clause-stops t c =
    handed_on c.from_residual-in_err-arm-in-Some.result c.in_err-arm-in-Some.field-0.0 _ _ c.from_residual-in_err-arm-in-Some.ensures.1
    (λ v h. stops_as c.args.known (block no_callees c.in-Some.stmts) (turn_piece c.args.parts) _ (alarm_of v) (ap body_piece c.in-Some.is) h)
    c.in_err-arm-in-Some.ensures.stops

-- ---- a loop

pub ask_while-head_of-head-requires : goal.ask_while-head_of-head-requires
ask_while-head_of-head-requires t c = head_there c.args.known _ (block no_callees c.args.parts.prologue.now) _ (turn_piece c.args.parts) c.args.at _ c.requires

pub ask_while-ask_block-requires : goal.ask_while-ask_block-requires
ask_while-ask_block-requires t c =
    let g = c.args.known.given.now in
    let e = facts_seen g c.lay.new.set c.open.new.self c.in_ok-open.ensures.seen ∙ c.in_ok-lay.ensures.facts g in (
      omega (arith, c.decreases),
      ready_from c.args.known (block no_callees c.args.parts.prologue.now) (c.args.at + 1) _ _ (sym e)
          (prologue_ready c.args.known _ (block no_callees c.args.parts.prologue.now) _ (turn_piece c.args.parts) c.args.at _ c.requires c.head_of-head.result.now c.head_of-head.ensures (c.args.at + 1) (omega arith)),
    )

pub ask_while-ask_rest-requires : goal.ask_while-ask_rest-requires
ask_while-ask_rest-requires t c =
    let g = c.args.known.given.now in
    let e = facts_seen g c.lay.new.set c.open.new.self c.in_ok-open.ensures.seen ∙ c.in_ok-lay.ensures.facts g in
    let p = block no_callees c.args.parts.prologue.now in (
      omega (arith, c.decreases),
      rest_ready c.args.known _ p _ (turn_piece c.args.parts) c.args.at _ c.requires c.head_of-head.result.now c.head_of-head.ensures c.in_ok-middle.middle (facts_of g c.ask_block.new.set)
          (goes_at c.args.known p (suc c.args.at) (c.args.at + 1) c.in_ok-middle.middle _ _ (omega arith) (goes_from c.args.known p (c.args.at + 1) c.in_ok-middle.middle _ _ _ _ e refl c.in_ok-middle.ensures.goes)),
    )

pub ask_while-returns-in_err-middle-clause-stops : goal.ask_while-returns-in_err-middle-clause-stops
ask_while-returns-in_err-middle-clause-stops t c =
    let g = c.args.known.given.now in
    let e = facts_seen g c.lay.new.set c.open.new.self c.in_ok-open.ensures.seen ∙ c.in_ok-lay.ensures.facts g in
    let p = block no_callees c.args.parts.prologue.now in
    let b = turn_piece c.args.parts in
    let w = not (is_some c.args.parts.body.now) in
    let q : Condition = record { cond = c.args.parts.cond.now; at = c.args.parts.span } in
    let head = c.head_of-head.result.now in
    let h = laid g head (facts_of g c.args.set.now) in
    handed_on c.from_residual-in_err-middle.result c.in_err-middle.field-0.0 _ _ c.from_residual-in_err-middle.ensures.1
    (λ v z. prologue_stops g w p q b (facts_of g c.args.set.now) h (head_is c.args.known w p q b c.args.at (facts_of g c.args.set.now) c.requires head c.head_of-head.ensures) (alarm_of v) (stops_from c.args.known p (facts_of g c.open.new.self) h (alarm_of v) e z))
    c.in_err-middle.ensures.stops

pub ask_while-returns-in_err-ask_test-clause-stops : goal.ask_while-returns-in_err-ask_test-clause-stops
ask_while-returns-in_err-ask_test-clause-stops t c =
    let g = c.args.known.given.now in
    let e = facts_seen g c.lay.new.set c.open.new.self c.in_ok-open.ensures.seen ∙ c.in_ok-lay.ensures.facts g in
    let p = block no_callees c.args.parts.prologue.now in
    let b = turn_piece c.args.parts in
    let w = not (is_some c.args.parts.body.now) in
    let q : Condition = record { cond = c.args.parts.cond.now; at = c.args.parts.span } in
    let head = c.head_of-head.result.now in
    let h = laid g head (facts_of g c.args.set.now) in
    let turn = goes_at c.args.known p (suc c.args.at) (c.args.at + 1) c.in_ok-middle.middle h (facts_of g c.ask_block.new.set) (omega arith) (goes_from c.args.known p (c.args.at + 1) c.in_ok-middle.middle (facts_of g c.open.new.self) h (facts_of g c.ask_block.new.set) (facts_of g c.ask_block.new.set) e refl c.in_ok-middle.ensures.goes) in
    handed_on c.from_residual-in_err-ask_test.result c.in_err-ask_test.field-0.0 _ _ c.from_residual-in_err-ask_test.ensures.1
    (λ v z. loop_test_stops g w p q b (facts_of g c.args.set.now) h (head_is c.args.known w p q b c.args.at (facts_of g c.args.set.now) c.requires head c.head_of-head.ensures) c.args.at c.in_ok-middle.middle (facts_of g c.ask_block.new.set) turn (alarm_of v) (z c.args.parts.span))
    c.in_err-ask_test.ensures.some

pub ask_while-returns-in_err-arm-clause-stops : goal.ask_while-returns-in_err-arm-clause-stops
ask_while-returns-in_err-arm-clause-stops t c =
    let g = c.args.known.given.now in
    let e = facts_seen g c.lay.new.set c.open.new.self c.in_ok-open.ensures.seen ∙ c.in_ok-lay.ensures.facts g in
    let p = block no_callees c.args.parts.prologue.now in
    let b = turn_piece c.args.parts in
    let w = not (is_some c.args.parts.body.now) in
    let q : Condition = record { cond = c.args.parts.cond.now; at = c.args.parts.span } in
    let head = c.head_of-head.result.now in
    let h = laid g head (facts_of g c.args.set.now) in
    let turn = goes_at c.args.known p (suc c.args.at) (c.args.at + 1) c.in_ok-middle.middle h (facts_of g c.ask_block.new.set) (omega arith) (goes_from c.args.known p (c.args.at + 1) c.in_ok-middle.middle (facts_of g c.open.new.self) h (facts_of g c.ask_block.new.set) (facts_of g c.ask_block.new.set) e refl c.in_ok-middle.ensures.goes) in
    handed_on c.from_residual-in_err-arm.result c.in_err-arm.field-0.0 _ _ c.from_residual-in_err-arm.ensures.1
    (λ v z. body_stops g w p q b (facts_of g c.args.set.now) h (head_is c.args.known w p q b c.args.at (facts_of g c.args.set.now) c.requires head c.head_of-head.ensures) c.args.at c.in_ok-middle.middle (facts_of g c.ask_block.new.set) turn (alarm_of v) (c.in_ok-ask_test.ensures.none c.args.parts.span) z)
    c.in_err-arm.ensures.stops

pub ask_while-returns-clause-below : goal.ask_while-returns-clause-below
ask_while-returns-clause-below t c =
    let back = returned c.lay.new.set c.taken-prologue.new.set c.ask_rest.new.set.below.items (c.in_ok-arm.ensures.below ∙ c.in_ok-middle.ensures.below ∙ c.in_ok-open.ensures.below) c.taken-prologue.ensures.below in
    c.in_ok-leave.ensures.below ∙ back.0 ∙ c.in_ok-lay.ensures.below

pub ask_while-returns-clause-goes : goal.ask_while-returns-clause-goes
ask_while-returns-clause-goes t c =
    let g = c.args.known.given.now in
    let zero = c.args.set.now in
    let laidset = c.lay.new.set in
    let one = c.ask_block.new.set in
    let two = c.ask_rest.new.set in
    let three = c.taken-prologue.new.set in
    let head = c.head_of-head.result.now in
    let h = laid g head (facts_of g zero) in
    let eh = c.in_ok-lay.ensures.facts g in
    let e = facts_seen g laidset c.open.new.self c.in_ok-open.ensures.seen ∙ eh in
    let p = block no_callees c.args.parts.prologue.now in
    let b = turn_piece c.args.parts in
    let w = not (is_some c.args.parts.body.now) in
    let q : Condition = record { cond = c.args.parts.cond.now; at = c.args.parts.span } in
    let turn = goes_at c.args.known p (suc c.args.at) (c.args.at + 1) c.in_ok-middle.middle h (facts_of g one) (omega arith) (goes_from c.args.known p (c.args.at + 1) c.in_ok-middle.middle _ h _ (facts_of g one) e refl c.in_ok-middle.ensures.goes) in
    let back = returned laidset three two.below.items (c.in_ok-arm.ensures.below ∙ c.in_ok-middle.ensures.below ∙ c.in_ok-open.ensures.below) c.taken-prologue.ensures.below in
    let e4 = facts_as g (known_at laidset) (known_at three) back.2 ∙ eh in
    let e5 = sym (c.taken-prologue.ensures.facts g) ∙ facts_seen g one two c.in_ok-arm.ensures.seen in
    loop_goes g w p q b (facts_of g zero) h (head_is c.args.known w p q b c.args.at (facts_of g zero) c.requires head c.head_of-head.ensures) c.args.at c.in_ok-middle.middle (facts_of g one) turn
    c.in_ok-arm.arm.next (laid g c.in_ok-arm.arm.table (facts_of g one)) (facts_of g c.leave.new.set) (c.in_ok-ask_test.ensures.none c.args.parts.span) c.in_ok-arm.ensures.goes
    (c.in_ok-leave.ensures.facts c.args.parts.span ∙ ap (λ x. leaves (given_of g) q x (laid g c.taken-prologue.result (facts_of g three))) e4 ∙ ap (leaves (given_of g) q h) e5)
