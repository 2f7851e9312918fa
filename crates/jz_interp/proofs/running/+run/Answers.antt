use Rattle.std.proofs.Common.{◌≤◌, ap, sym, ◌∙◌, refl, subst, rules, arith}
use Rattle.std.specs.Prelude.{◌≡◌, ◌-◌, true, false, not, is_some, Some, Ok, Err}
use Rattle.std.specs.Option.{option_copied}
use Rattle.std.specs.Int.{w128}
use Rattle.std.proofs.lemmas.Int.{to_z-of_z}
use Rattle.jz_tree.specs.Failures.{IfAnswered}
use Rattle.jz_runs.specs.Views.{items_view}
use Rattle.jz_runs.specs.ShownRuns.{Leads}
use Rattle.jz_meaning.specs.Trees.{done, choose, each, call, loop}
use Rattle.jz_meaning.specs.Rules.{Stuck}
use Rattle.jz_meaning.specs.Attempts.{did, changed, numbers_first}
use Rattle.jz_meaning.specs.States.{State, put, integer}
use Rattle.jz_meaning.specs.Stores.{state_of, store_of}
use Rattle.jz_meaning.specs.Values.{key_of, ref_of}
use Rattle.jz_meaning.specs.Statements.{source, tests, counts, leaves, enters}
use Rattle.jz_meaning.specs.Runs.{block, statement_tree}
use Rattle.jz_run_assign.specs.Passings.{call_of, entered_store}
use Rattle.jz_interp.specs.InnerParts.{callees_in, condition_of, counter_of, inner_block}
use Rattle.jz_interp.specs.InnerParts.{body_piece, inner_body, assignment_tree, named_call_tree, while_tree}
use Rattle.jz_interp.specs.InnerRounds.{values_left, evaluated_values, RoundsOf}
use Rattle.jz_interp.specs.InnerEnds.{seen_outcome, turn_seen, rounds_seen}
use Rattle.jz_interp.specs.InnerEnds.{PieceGoes, TurnGoes, TestGoes, RoundsGo}
use Rattle.jz_interp.proofs.Falls.{weights_at, one_deeper}
use Rattle.jz_interp.proofs.Pieces.{assign_is, if_is, while_is, for_is, mark_is}
use Rattle.jz_meaning.proofs.AttemptLemmas.{handed_on}
use Rattle.jz_interp.proofs.Rules.{NumbersGo, arguments_of}
use Rattle.jz_interp.proofs.Rules.{as_end, as_cut, turn_as, rounds_as}
use Rattle.jz_interp.proofs.Rules.{block_stuck, block_cut, block_goes}
use Rattle.jz_interp.proofs.Rules.{if_fails, arm_stuck, if_goes, truth_is}
use Rattle.jz_interp.proofs.Rules.{test_stuck, test_false, test_wanted}
use Rattle.jz_interp.proofs.Rules.{test_body_stuck, test_body_cut, test_body_over}
use Rattle.jz_interp.proofs.Rules.{turn_stuck, turn_cut, turn_tested}
use Rattle.jz_interp.proofs.Rules.{while_stuck, while_cut, while_left, while_more}
use Rattle.jz_interp.proofs.Rules.{rounds_end, rounds_stuck, rounds_cut, rounds_more}
use Rattle.jz_interp.proofs.Rules.{for_fails, for_stuck, for_cut, for_ends}
use Rattle.jz_interp.proofs.Rules.{call_of_none, call_of_some}
use Rattle.jz_interp.proofs.Rules.{not_entered, callee_stuck, callee_cut, not_left, callee_ended, same_leave}
use Rattle.jz_interp.proofs.Weights.{weight, weights}
use Rattle.jz_interp.proofs.running.+run.Goals as goal

pub run_block-run_statement-requires : goal.run_block-run_statement-requires
run_block-run_statement-requires t c =
    let x : weight c.stmt-item.result ≤ weights c.args.stmts.now =
    weights_at c.args.stmts.now c.loop-stmt.stmt-index c.stmt-item.result (search rules) (search rules) in
    (omega (arith, x, c.decreases), tt)

pub run_block-returns-in_err-more : goal.run_block-returns-in_err-more
run_block-returns-in_err-more t c =
    handed_on c.from_residual.result c.in_err-more.field-0.0
    (PieceGoes (statement_tree (callees_in c.args.code.now c.args.depth) c.stmt-item.result) c.loop-stmt.left (state_of c.loop-stmt.state) (state_of c.run_statement.new.state))
    (PieceGoes (block (callees_in c.args.code.now c.args.depth) c.args.stmts.now) c.args.fuel (state_of c.args.state.now) (state_of c.run_statement.new.state))
    c.from_residual.ensures.1 c.in_err-more.ensures
    (block_stuck (callees_in c.args.code.now c.args.depth) c.args.stmts.now c.args.fuel (state_of c.args.state.now) c.loop-stmt.stmt-index c.loop-stmt.items c.loop-stmt.left (state_of c.loop-stmt.state) c.loop-stmt.invariant c.stmt-item.result (search rules) (search rules))

pub run_block-returns-in-Cut : goal.run_block-returns-in-Cut
run_block-returns-in-Cut t c =
    block_cut (callees_in c.args.code.now c.args.depth) c.args.stmts.now c.args.fuel (state_of c.args.state.now) c.loop-stmt.stmt-index c.loop-stmt.items c.loop-stmt.left (state_of c.loop-stmt.state) c.loop-stmt.invariant c.stmt-item.result (search rules) (search rules)
    c.in-Cut.more _ (search rules) (as_cut _ _ _ (state_of c.run_statement.new.state) c.in_ok-more.field-0 c.in-Cut.more c.in_ok-more.ensures c.in-Cut.is)

pub run_block-loop-stmt-preserved : goal.run_block-loop-stmt-preserved
run_block-loop-stmt-preserved t c =
    block_goes (callees_in c.args.code.now c.args.depth) c.args.stmts.now c.args.fuel (state_of c.args.state.now) c.loop-stmt.stmt-index c.loop-stmt.items c.loop-stmt.left (state_of c.loop-stmt.state) c.loop-stmt.invariant c.stmt-item.result (search rules) (search rules)
    c.in-End.more _ c.in-End.still (state_of c.run_statement.new.state) (search rules) (as_end _ _ _ _ (state_of c.run_statement.new.state) c.in_ok-more.field-0 c.in-End.more c.in_ok-more.ensures c.in-End.is)

pub run_statement-returns-in-Assign : goal.run_statement-returns-in-Assign
run_statement-returns-in-Assign t c =
    subst (λ f. IfAnswered c.run_assign.result (PieceGoes f c.args.fuel (state_of c.args.state.now) (state_of c.run_assign.new.state)))
    (sym (assign_is (callees_in c.args.code.now c.args.depth) c.args.stmt.now c.in-Assign.to c.in-Assign.op c.in-Assign.rhs c.in-Assign.cond c.in-Assign.is)) c.run_assign.ensures

pub run_statement-returns-in-If : goal.run_statement-returns-in-If
run_statement-returns-in-If t c =
    subst (λ f. IfAnswered c.run_if.result (PieceGoes f c.args.fuel (state_of c.args.state.now) (state_of c.run_if.new.state)))
    (sym (if_is (callees_in c.args.code.now c.args.depth) c.args.stmt.now c.in-If.cond c.in-If.holds c.in-If.other c.in-If.is)) c.run_if.ensures

pub run_statement-returns-in-While : goal.run_statement-returns-in-While
run_statement-returns-in-While t c =
    subst (λ f. IfAnswered c.run_while.result (PieceGoes f c.args.fuel (state_of c.args.state.now) (state_of c.run_while.new.state)))
    (sym (while_is (callees_in c.args.code.now c.args.depth) c.args.stmt.now c.in-While.prologue c.in-While.cond c.in-While.body c.in-While.is)) c.run_while.ensures

pub run_statement-returns-in-For : goal.run_statement-returns-in-For
run_statement-returns-in-For t c =
    subst (λ f. IfAnswered c.run_for.result (PieceGoes f c.args.fuel (state_of c.args.state.now) (state_of c.run_for.new.state)))
    (sym (for_is (callees_in c.args.code.now c.args.depth) c.args.stmt.now c.in-For.counter c.in-For.from c.in-For.down c.in-For.to c.in-For.body c.in-For.is)) c.run_for.ensures

pub run_statement-returns-in-Mark : goal.run_statement-returns-in-Mark
run_statement-returns-in-Mark t c =
    subst (λ f. IfAnswered c.run_mark.result (PieceGoes f c.args.fuel (state_of c.args.state.now) (state_of c.run_mark.new.state)))
    (sym (mark_is (callees_in c.args.code.now c.args.depth) c.args.stmt.now c.in-Mark.vars c.in-Mark.is)) c.run_mark.ensures

pub run_if-returns-in_err-answer : goal.run_if-returns-in_err-answer
run_if-returns-in_err-answer t c =
    handed_on c.from_residual.result c.in_err-answer.field-0.0
    (NumbersGo c.new-numbers.result c.truth_in.new.out (tests (condition_of c.args.test) (state_of c.args.state.now)))
    (PieceGoes (choose (condition_of c.args.test) (inner_block (callees_in c.args.code.now c.args.depth) c.args.holds.now) (inner_block (callees_in c.args.code.now c.args.depth) c.args.other.now)) c.args.fuel (state_of c.args.state.now) (state_of c.args.state.now))
    c.from_residual.ensures.1 c.in_err-answer.ensures (if_fails (callees_in c.args.code.now c.args.depth) (condition_of c.args.test) c.args.holds.now c.args.other.now c.args.fuel (state_of c.args.state.now) c.new-numbers.result c.truth_in.new.out c.new-numbers.ensures)

pub run_if-returns-in_err-ran : goal.run_if-returns-in_err-ran
run_if-returns-in_err-ran t c =
    handed_on c.from_residual-in_err-ran.result c.in_err-ran.field-0.0
    (PieceGoes (block (callees_in c.args.code.now c.args.depth) c.arm.result.now) c.args.fuel (state_of c.args.state.now) (state_of c.run_block.new.state))
    (PieceGoes (choose (condition_of c.args.test) (inner_block (callees_in c.args.code.now c.args.depth) c.args.holds.now) (inner_block (callees_in c.args.code.now c.args.depth) c.args.other.now)) c.args.fuel (state_of c.args.state.now) (state_of c.run_block.new.state))
    c.from_residual-in_err-ran.ensures.1 c.in_err-ran.ensures
    (arm_stuck (callees_in c.args.code.now c.args.depth) (condition_of c.args.test) c.args.holds.now c.args.other.now c.args.fuel (state_of c.args.state.now) c.new-numbers.result c.truth_in.new.out c.new-numbers.ensures c.in_ok-answer.answer c.arm.result.now c.in_ok-answer.ensures c.arm.ensures)

pub run_if-returns : goal.run_if-returns
run_if-returns t c =
    if_goes (callees_in c.args.code.now c.args.depth) (condition_of c.args.test) c.args.holds.now c.args.other.now c.args.fuel (state_of c.args.state.now) c.new-numbers.result c.truth_in.new.out c.new-numbers.ensures c.in_ok-answer.answer c.arm.result.now c.in_ok-answer.ensures c.arm.ensures
    c.in_ok-ran.ran c.in_ok-whole.whole (state_of c.run_block.new.state) c.in_ok-ran.ensures c.in_ok-whole.ensures

pub run_body-returns-in_err-ran-in-Some : goal.run_body-returns-in_err-ran-in-Some
run_body-returns-in_err-ran-in-Some t c =
    handed_on c.from_residual.result c.in_err-ran-in-Some.field-0.0
    (PieceGoes (block (callees_in c.args.code.now c.args.depth) c.in-Some.stmts) c.args.fuel (state_of c.args.state.now) (state_of c.run_block.new.state))
    (PieceGoes (body_piece (callees_in c.args.code.now c.args.depth) c.args.body.now) c.args.fuel (state_of c.args.state.now) (state_of c.run_block.new.state))
    c.from_residual.ensures.1 c.in_err-ran-in-Some.ensures
    (λ k h. subst (λ y. PieceGoes (body_piece (callees_in c.args.code.now c.args.depth) y) c.args.fuel (state_of c.args.state.now) (state_of c.run_block.new.state) (Err k)) (sym c.in-Some.is) h)

pub run_body-returns-in_ok-ran-in-Some : goal.run_body-returns-in_ok-ran-in-Some
run_body-returns-in_ok-ran-in-Some t c =
    subst (λ y. Leads items_view source (body_piece (callees_in c.args.code.now c.args.depth) y) c.args.fuel (state_of c.args.state.now) (seen_outcome (Ok c.in_ok-ran-in-Some.ran) (state_of c.run_block.new.state)))
    (sym c.in-Some.is) c.in_ok-ran-in-Some.ensures

pub run_test-returns-in_err-more : goal.run_test-returns-in_err-more
run_test-returns-in_err-more t c =
    handed_on c.from_residual.result c.in_err-more.field-0.0
    (NumbersGo c.new-numbers.result c.truth_in.new.out (tests (condition_of c.args.test) (state_of c.args.state.now)))
    (TestGoes c.args.prologue (condition_of c.args.test) (inner_body (callees_in c.args.code.now c.args.depth) c.args.body.now) c.args.fuel (state_of c.args.state.now) (state_of c.args.state.now))
    c.from_residual.ensures.1 c.in_err-more.ensures (test_stuck (condition_of c.args.test) (body_piece (callees_in c.args.code.now c.args.depth) c.args.body.now) c.args.prologue c.args.fuel (state_of c.args.state.now) c.new-numbers.result c.truth_in.new.out c.new-numbers.ensures)

pub run_test-returns-then-not-more : goal.run_test-returns-then-not-more
run_test-returns-then-not-more t c =
    test_false (condition_of c.args.test) (body_piece (callees_in c.args.code.now c.args.depth) c.args.body.now) c.args.prologue c.args.fuel (state_of c.args.state.now) c.new-numbers.result c.truth_in.new.out c.new-numbers.ensures c.turn.result c.new.result
    (truth_is c.truth_in.new.out c.in_ok-more.more false _ (search rules) c.in_ok-more.ensures) c.turn.ensures c.new.ensures

pub run_test-returns-then-fuel-eq0 : goal.run_test-returns-then-fuel-eq0
run_test-returns-then-fuel-eq0 t c =
    test_wanted (condition_of c.args.test) (body_piece (callees_in c.args.code.now c.args.depth) c.args.body.now) c.args.prologue c.args.fuel (state_of c.args.state.now) c.new-numbers.result c.truth_in.new.out c.new-numbers.ensures (truth_is c.truth_in.new.out c.in_ok-more.more true _ (search rules) c.in_ok-more.ensures) (search rules) c.turn-then-fuel-eq0.result c.in_ok-wanted.wanted c.turn-then-fuel-eq0.ensures c.in_ok-wanted.ensures

pub run_test-returns-in_err-items : goal.run_test-returns-in_err-items
run_test-returns-in_err-items t c =
    handed_on c.from_residual-in_err-items.result c.in_err-items.field-0.0
    (PieceGoes (body_piece (callees_in c.args.code.now c.args.depth) c.args.body.now) (c.args.fuel - 1) (state_of c.args.state.now) (state_of c.run_body.new.state))
    (TestGoes c.args.prologue (condition_of c.args.test) (inner_body (callees_in c.args.code.now c.args.depth) c.args.body.now) c.args.fuel (state_of c.args.state.now) (state_of c.run_body.new.state))
    c.from_residual-in_err-items.ensures.1 c.in_err-items.ensures
    (test_body_stuck (condition_of c.args.test) (body_piece (callees_in c.args.code.now c.args.depth) c.args.body.now) c.args.prologue c.args.fuel (state_of c.args.state.now) c.new-numbers.result c.truth_in.new.out c.new-numbers.ensures (truth_is c.truth_in.new.out c.in_ok-more.more true _ (search rules) c.in_ok-more.ensures) (search rules))

pub run_test-returns-in-Cut : goal.run_test-returns-in-Cut
run_test-returns-in-Cut t c =
    test_body_cut (condition_of c.args.test) (body_piece (callees_in c.args.code.now c.args.depth) c.args.body.now) c.args.prologue c.args.fuel (state_of c.args.state.now) c.new-numbers.result c.truth_in.new.out c.new-numbers.ensures (truth_is c.truth_in.new.out c.in_ok-more.more true _ (search rules) c.in_ok-more.ensures) (search rules) c.in-Cut.items c.turn-in-Cut.result
    (as_cut _ _ _ (state_of c.run_body.new.state) c.in_ok-items.field-0 c.in-Cut.items c.in_ok-items.ensures c.in-Cut.is) c.turn-in-Cut.ensures

pub run_test-returns-in-End : goal.run_test-returns-in-End
run_test-returns-in-End t c =
    test_body_over (condition_of c.args.test) (body_piece (callees_in c.args.code.now c.args.depth) c.args.body.now) c.args.prologue c.args.fuel (state_of c.args.state.now) c.new-numbers.result c.truth_in.new.out c.new-numbers.ensures (truth_is c.truth_in.new.out c.in_ok-more.more true _ (search rules) c.in_ok-more.ensures) (search rules) c.in-End.items c.in-End.left (state_of c.run_body.new.state) c.turn-in-End.result
    (as_end _ _ _ _ (state_of c.run_body.new.state) c.in_ok-items.field-0 c.in-End.items c.in_ok-items.ensures c.in-End.is) c.turn-in-End.ensures

pub run_turn-returns-in_err-items : goal.run_turn-returns-in_err-items
run_turn-returns-in_err-items t c =
    handed_on c.from_residual.result c.in_err-items.field-0.0
    (PieceGoes (block (callees_in c.args.code.now c.args.depth) c.args.prologue.now) c.args.fuel (state_of c.args.state.now) (state_of c.run_block.new.state))
    (TurnGoes (inner_block (callees_in c.args.code.now c.args.depth) c.args.prologue.now) (condition_of c.args.test) (inner_body (callees_in c.args.code.now c.args.depth) c.args.body.now) c.args.fuel (state_of c.args.state.now) (state_of c.run_block.new.state))
    c.from_residual.ensures.1 c.in_err-items.ensures (turn_stuck (block (callees_in c.args.code.now c.args.depth) c.args.prologue.now) (condition_of c.args.test) (inner_body (callees_in c.args.code.now c.args.depth) c.args.body.now) c.args.fuel (state_of c.args.state.now))

pub run_turn-returns-in-Cut : goal.run_turn-returns-in-Cut
run_turn-returns-in-Cut t c =
    turn_cut (block (callees_in c.args.code.now c.args.depth) c.args.prologue.now) (condition_of c.args.test) (inner_body (callees_in c.args.code.now c.args.depth) c.args.body.now) c.args.fuel (state_of c.args.state.now) c.in-Cut.items c.new.result c.new-numbers.result c.turn.result
    (as_cut _ _ _ (state_of c.run_block.new.state) c.in_ok-items.field-0 c.in-Cut.items c.in_ok-items.ensures c.in-Cut.is) c.turn.ensures c.new-numbers.ensures c.new.ensures

pub run_turn-returns-in_err-end-in-End : goal.run_turn-returns-in_err-end-in-End
run_turn-returns-in_err-end-in-End t c =
    handed_on c.from_residual-in_err-end-in-End.result c.in_err-end-in-End.field-0.0
    (TestGoes c.in-End.items (condition_of c.args.test) (inner_body (callees_in c.args.code.now c.args.depth) c.args.body.now) c.in-End.left (state_of c.run_block.new.state) (state_of c.run_test.new.state))
    (TurnGoes (inner_block (callees_in c.args.code.now c.args.depth) c.args.prologue.now) (condition_of c.args.test) (inner_body (callees_in c.args.code.now c.args.depth) c.args.body.now) c.args.fuel (state_of c.args.state.now) (state_of c.run_test.new.state))
    c.from_residual-in_err-end-in-End.ensures.1 c.in_err-end-in-End.ensures
    (λ k h. turn_tested (block (callees_in c.args.code.now c.args.depth) c.args.prologue.now) (condition_of c.args.test) (inner_body (callees_in c.args.code.now c.args.depth) c.args.body.now) c.args.fuel (state_of c.args.state.now) c.in-End.items c.in-End.left (state_of c.run_block.new.state) _ (as_end _ _ _ _ (state_of c.run_block.new.state) c.in_ok-items.field-0 c.in-End.items c.in_ok-items.ensures c.in-End.is) h)

pub run_turn-returns-in_ok-end-in-End : goal.run_turn-returns-in_ok-end-in-End
run_turn-returns-in_ok-end-in-End t c =
    turn_tested (block (callees_in c.args.code.now c.args.depth) c.args.prologue.now) (condition_of c.args.test) (inner_body (callees_in c.args.code.now c.args.depth) c.args.body.now) c.args.fuel (state_of c.args.state.now) c.in-End.items c.in-End.left (state_of c.run_block.new.state) _
    (as_end _ _ _ _ (state_of c.run_block.new.state) c.in_ok-items.field-0 c.in-End.items c.in_ok-items.ensures c.in-End.is) c.in_ok-end-in-End.ensures

pub run_while-returns-in_err-cut_turn : goal.run_while-returns-in_err-cut_turn
run_while-returns-in_err-cut_turn t c =
    handed_on c.from_residual.result c.in_err-cut_turn.field-0.0
    (TurnGoes (inner_block (callees_in c.args.code.now c.args.depth) c.args.prologue.now) (condition_of c.args.test) (inner_body (callees_in c.args.code.now c.args.depth) c.args.body.now) c.loop-turns.left (state_of c.loop-turns.state) (state_of c.run_turn.new.state))
    (PieceGoes (while_tree (callees_in c.args.code.now c.args.depth) c.args.prologue.now (condition_of c.args.test) c.args.body.now) c.args.fuel (state_of c.args.state.now) (state_of c.run_turn.new.state))
    c.from_residual.ensures.1 c.in_err-cut_turn.ensures (while_stuck (not (is_some c.args.body.now)) (inner_block (callees_in c.args.code.now c.args.depth) c.args.prologue.now) (condition_of c.args.test) (inner_body (callees_in c.args.code.now c.args.depth) c.args.body.now) c.args.fuel (state_of c.args.state.now) c.loop-turns.turns c.loop-turns.left (state_of c.loop-turns.state) c.loop-turns.invariant)

pub run_while-returns-in-Cut : goal.run_while-returns-in-Cut
run_while-returns-in-Cut t c =
    while_cut (not (is_some c.args.body.now)) (inner_block (callees_in c.args.code.now c.args.depth) c.args.prologue.now) (condition_of c.args.test) (inner_body (callees_in c.args.code.now c.args.depth) c.args.body.now) c.args.fuel (state_of c.args.state.now) c.loop-turns.turns c.loop-turns.left (state_of c.loop-turns.state) c.loop-turns.invariant c.in-Cut.cut_turn _ _ (turn_as (inner_block (callees_in c.args.code.now c.args.depth) c.args.prologue.now) (condition_of c.args.test) (inner_body (callees_in c.args.code.now c.args.depth) c.args.body.now) c.loop-turns.left (state_of c.loop-turns.state) (state_of c.run_turn.new.state) c.in_ok-cut_turn.field-0 _ c.in_ok-cut_turn.ensures c.in-Cut.is) (search rules) c.in_ok-turns_until_cut-in-Cut.ensures

pub run_while-returns-in-Last : goal.run_while-returns-in-Last
run_while-returns-in-Last t c =
    while_left (not (is_some c.args.body.now)) (inner_block (callees_in c.args.code.now c.args.depth) c.args.prologue.now) (condition_of c.args.test) (inner_body (callees_in c.args.code.now c.args.depth) c.args.body.now) c.args.fuel (state_of c.args.state.now) c.loop-turns.turns c.loop-turns.left (state_of c.loop-turns.state) c.loop-turns.invariant c.in-Last.last (state_of c.run_turn.new.state) c.in-Last.still _ _ (turn_as (inner_block (callees_in c.args.code.now c.args.depth) c.args.prologue.now) (condition_of c.args.test) (inner_body (callees_in c.args.code.now c.args.depth) c.args.body.now) c.loop-turns.left (state_of c.loop-turns.state) (state_of c.run_turn.new.state) c.in_ok-cut_turn.field-0 _ c.in_ok-cut_turn.ensures c.in-Last.is) (search rules) c.in_ok-leaked-in-Last.ensures

pub run_while-loop-turns-preserved : goal.run_while-loop-turns-preserved
run_while-loop-turns-preserved t c =
    while_more (not (is_some c.args.body.now)) (inner_block (callees_in c.args.code.now c.args.depth) c.args.prologue.now) (condition_of c.args.test) (inner_body (callees_in c.args.code.now c.args.depth) c.args.body.now) c.args.fuel (state_of c.args.state.now) c.loop-turns.turns c.loop-turns.left (state_of c.loop-turns.state) c.loop-turns.invariant c.in-More.one_more (state_of c.run_turn.new.state) c.in-More.still _ (turn_as (inner_block (callees_in c.args.code.now c.args.depth) c.args.prologue.now) (condition_of c.args.test) (inner_body (callees_in c.args.code.now c.args.depth) c.args.body.now) c.loop-turns.left (state_of c.loop-turns.state) (state_of c.run_turn.new.state) c.in_ok-cut_turn.field-0 _ c.in_ok-cut_turn.ensures c.in-More.is) (search rules)

pub run_rounds-returns-in_err-items : goal.run_rounds-returns-in_err-items
run_rounds-returns-in_err-items t c =
    handed_on c.from_residual-in_err-items.result c.in_err-items.field-0.0
    (PieceGoes (block (callees_in c.args.code.now c.args.depth) c.args.body.now) c.loop-value.left (let x : State = record { store = store_of c.set.new.store; memory = c.loop-value.state.memory } in x) (state_of c.run_block.new.state))
    (RoundsGo c.args.counter.now (inner_block (callees_in c.args.code.now c.args.depth) c.args.body.now) (values_left c.args.values) c.args.fuel (state_of c.args.state.now) (state_of c.run_block.new.state))
    c.from_residual-in_err-items.ensures.1 c.in_err-items.ensures (rounds_stuck c.args.counter.now (block (callees_in c.args.code.now c.args.depth) c.args.body.now) (values_left c.args.values) c.args.fuel (state_of c.args.state.now) c.loop-value.leaks c.loop-value.left (state_of c.loop-value.state) (values_left c.loop-value.values) c.loop-value.invariant c.in-Some.value (values_left c.take.new.self) c.in-Some.ensures (let x : State = record { store = store_of c.set.new.store; memory = c.loop-value.state.memory } in x) (ap (λ v. let x : State = record { store = v; memory = c.loop-value.state.memory } in x) (c.in_ok-set.ensures ∙ ap (λ z. put (store_of c.loop-value.state.store) (key_of (ref_of c.args.counter.now)) (Some (integer z))) (to_z-of_z w128 c.in-Some.value (search rules)))))

pub run_rounds-returns-in-Cut : goal.run_rounds-returns-in-Cut
run_rounds-returns-in-Cut t c =
    rounds_cut c.args.counter.now (block (callees_in c.args.code.now c.args.depth) c.args.body.now) (values_left c.args.values) c.args.fuel (state_of c.args.state.now) c.loop-value.leaks c.loop-value.left (state_of c.loop-value.state) (values_left c.loop-value.values) c.loop-value.invariant c.in-Some.value (values_left c.take.new.self) c.in-Some.ensures (let x : State = record { store = store_of c.set.new.store; memory = c.loop-value.state.memory } in x) (ap (λ v. let x : State = record { store = v; memory = c.loop-value.state.memory } in x) (c.in_ok-set.ensures ∙ ap (λ z. put (store_of c.loop-value.state.store) (key_of (ref_of c.args.counter.now)) (Some (integer z))) (to_z-of_z w128 c.in-Some.value (search rules)))) c.in-Cut.items _ (search rules)
    (as_cut _ _ _ (state_of c.run_block.new.state) c.in_ok-items.field-0 c.in-Cut.items c.in_ok-items.ensures c.in-Cut.is)

pub run_rounds-loop-value-preserved : goal.run_rounds-loop-value-preserved
run_rounds-loop-value-preserved t c =
    rounds_more c.args.counter.now (block (callees_in c.args.code.now c.args.depth) c.args.body.now) (values_left c.args.values) c.args.fuel (state_of c.args.state.now) c.loop-value.leaks c.loop-value.left (state_of c.loop-value.state) (values_left c.loop-value.values) c.loop-value.invariant c.in-Some.value (values_left c.take.new.self) c.in-Some.ensures (let x : State = record { store = store_of c.set.new.store; memory = c.loop-value.state.memory } in x) (ap (λ v. let x : State = record { store = v; memory = c.loop-value.state.memory } in x) (c.in_ok-set.ensures ∙ ap (λ z. put (store_of c.loop-value.state.store) (key_of (ref_of c.args.counter.now)) (Some (integer z))) (to_z-of_z w128 c.in-Some.value (search rules)))) c.in-End.items c.in-End.still (state_of c.run_block.new.state) _ (search rules)
    (as_end _ _ _ _ (state_of c.run_block.new.state) c.in_ok-items.field-0 c.in-End.items c.in_ok-items.ensures c.in-End.is)

pub run_rounds-returns : goal.run_rounds-returns
run_rounds-returns t c = rounds_end c.args.counter.now (block (callees_in c.args.code.now c.args.depth) c.args.body.now) (values_left c.args.values) c.args.fuel (state_of c.args.state.now) c.loop-value.leaks c.loop-value.left (state_of c.loop-value.state) (values_left c.loop-value.values) c.loop-value.invariant c.in_default.ensures

pub run_for-returns-in_err-values : goal.run_for-returns-in_err-values
run_for-returns-in_err-values t c =
    handed_on c.from_residual.result c.in_err-values.field-0.0
    (λ r. evaluated_values c.counter_values.new.out r ≡ numbers_first c.new-numbers.result (counts (counter_of c.args.counter) (state_of c.args.state.now)))
    (PieceGoes (each (counter_of c.args.counter) (inner_block (callees_in c.args.code.now c.args.depth) c.args.body.now)) c.args.fuel (state_of c.args.state.now) (state_of c.args.state.now))
    c.from_residual.ensures.1 c.in_err-values.ensures (for_fails (counter_of c.args.counter) (block (callees_in c.args.code.now c.args.depth) c.args.body.now) c.args.fuel (state_of c.args.state.now) c.new-numbers.result c.counter_values.new.out c.new-numbers.ensures)

pub run_for-returns-in_err-leaks : goal.run_for-returns-in_err-leaks
run_for-returns-in_err-leaks t c =
    handed_on c.from_residual-in_err-leaks.result c.in_err-leaks.field-0.0
    (RoundsGo c.args.counter.counter.now (inner_block (callees_in c.args.code.now c.args.depth) c.args.body.now) (values_left c.in_ok-values.values) c.args.fuel (state_of c.args.state.now) (state_of c.run_rounds.new.state))
    (PieceGoes (each (counter_of c.args.counter) (inner_block (callees_in c.args.code.now c.args.depth) c.args.body.now)) c.args.fuel (state_of c.args.state.now) (state_of c.run_rounds.new.state))
    c.from_residual-in_err-leaks.ensures.1 c.in_err-leaks.ensures (for_stuck (counter_of c.args.counter) (block (callees_in c.args.code.now c.args.depth) c.args.body.now) c.args.fuel (state_of c.args.state.now) c.new-numbers.result c.counter_values.new.out c.new-numbers.ensures (values_left c.in_ok-values.values) c.in_ok-values.ensures)

pub run_for-returns-in-Cut : goal.run_for-returns-in-Cut
run_for-returns-in-Cut t c =
    for_cut (counter_of c.args.counter) (block (callees_in c.args.code.now c.args.depth) c.args.body.now) c.args.fuel (state_of c.args.state.now) c.new-numbers.result c.counter_values.new.out c.new-numbers.ensures (values_left c.in_ok-values.values) c.in_ok-values.ensures c.in-Cut.leaks _ (rounds_as c.args.counter.counter.now (inner_block (callees_in c.args.code.now c.args.depth) c.args.body.now) (values_left c.in_ok-values.values) c.args.fuel (state_of c.args.state.now) (state_of c.run_rounds.new.state) c.in_ok-leaks.field-0 _ c.in_ok-leaks.ensures c.in-Cut.is) c.in_ok-leaked-in-Cut.ensures

pub run_for-returns : goal.run_for-returns
run_for-returns t c =
    for_ends (counter_of c.args.counter) (block (callees_in c.args.code.now c.args.depth) c.args.body.now) c.args.fuel (state_of c.args.state.now) c.new-numbers.result c.counter_values.new.out c.new-numbers.ensures (values_left c.in_ok-values.values) c.in_ok-values.ensures c.in-End.leaks c.in-End.left (state_of c.run_rounds.new.state) _ _ (rounds_as c.args.counter.counter.now (inner_block (callees_in c.args.code.now c.args.depth) c.args.body.now) (values_left c.in_ok-values.values) c.args.fuel (state_of c.args.state.now) (state_of c.run_rounds.new.state) c.in_ok-leaks.field-0 _ c.in_ok-leaks.ensures c.in-End.is)
    (ap (λ v. let x : State = record { store = v; memory = c.run_rounds.new.state.memory } in x) (c.in_ok-set-in-End.ensures ∙ ap (put (store_of c.run_rounds.new.state.store) (key_of (ref_of c.args.counter.counter.now))) c.value_of-before.ensures)) c.in_ok-leaked-in-End.ensures

pub run_call-run_callee-requires : goal.run_call-run_callee-requires
run_call-run_callee-requires t c =
    let x = one_deeper c.args.code.now.funs.now c.args.depth c.args.assignment.op c.args.named.name.now c.args.assignment.cond.now c.in-Some.callee.now (sym c.callee_of.ensures ∙ ap option_copied c.in-Some.is) in (omega (arith, x, c.decreases), tt)

pub run_call-returns-in-None : goal.run_call-returns-in-None
run_call-returns-in-None t c =
    call_of_none c.args.code.now.funs.now c.args.depth c.args.assignment.op c.args.named.name.now c.args.assignment.cond.now c.args.assignment.to.now c.args.named.args.now c.args.named.span c.args.fuel (state_of c.args.state.now) (sym c.callee_of.ensures ∙ ap option_copied c.in-None.is) c.missing.result c.missing.ensures

pub run_call-returns-in_err-ran-in-Some : goal.run_call-returns-in_err-ran-in-Some
run_call-returns-in_err-ran-in-Some t c =
    handed_on c.from_residual.result c.in_err-ran-in-Some.field-0.0
    (PieceGoes (call (record { to = c.args.assignment.to.now; callee = c.in-Some.callee.now; args = c.args.named.args.now; at = c.args.named.span }) (inner_block (callees_in c.args.code.now (c.args.depth - 1)) c.in-Some.callee.now.body)) c.args.fuel (state_of c.args.state.now) (state_of c.run_callee.new.state))
    (PieceGoes (named_call_tree (callees_in c.args.code.now c.args.depth) c.args.assignment c.args.named) c.args.fuel (state_of c.args.state.now) (state_of c.run_callee.new.state))
    c.from_residual.ensures.1 c.in_err-ran-in-Some.ensures
    (λ k h. call_of_some c.args.code.now.funs.now c.args.depth c.args.assignment.op c.args.named.name.now c.args.assignment.cond.now c.args.assignment.to.now c.args.named.args.now c.args.named.span c.args.fuel (state_of c.args.state.now) c.in-Some.callee.now (Stuck k) (sym c.callee_of.ensures ∙ ap option_copied c.in-Some.is) h)

pub run_call-returns-in_ok-ran-in-Some : goal.run_call-returns-in_ok-ran-in-Some
run_call-returns-in_ok-ran-in-Some t c =
    call_of_some c.args.code.now.funs.now c.args.depth c.args.assignment.op c.args.named.name.now c.args.assignment.cond.now c.args.assignment.to.now c.args.named.args.now c.args.named.span c.args.fuel (state_of c.args.state.now) c.in-Some.callee.now (seen_outcome (Ok c.in_ok-ran-in-Some.ran) (state_of c.run_callee.new.state)) (sym c.callee_of.ensures ∙ ap option_copied c.in-Some.is) c.in_ok-ran-in-Some.ensures

pub run_callee-returns-in_err-inner : goal.run_callee-returns-in_err-inner
run_callee-returns-in_err-inner t c =
    handed_on c.from_residual.result c.in_err-inner.field-0.0
    (λ r. entered_store c.enter.new.out r ≡ numbers_first c.new-before.result (arguments_of (call_of c.args.call) (state_of c.args.state.now)))
    (PieceGoes (call (call_of c.args.call) (inner_block (callees_in c.args.code.now c.args.depth) c.args.call.callee.now.body)) c.args.fuel (state_of c.args.state.now) (state_of c.args.state.now))
    c.from_residual.ensures.1 c.in_err-inner.ensures (not_entered (call_of c.args.call) (block (callees_in c.args.code.now c.args.depth) c.args.call.callee.now.body) c.args.fuel (state_of c.args.state.now) c.new-before.result c.enter.new.out c.new-before.ensures)

pub run_callee-returns-in_err-items : goal.run_callee-returns-in_err-items
run_callee-returns-in_err-items t c =
    handed_on c.from_residual-in_err-items.result c.in_err-items.field-0.0
    (PieceGoes (block (callees_in c.args.code.now c.args.depth) c.args.call.callee.now.body) c.args.fuel (let x : State = record { store = store_of c.replace-outer.new.dest; memory = c.args.state.now.memory } in x) (state_of c.run_block.new.state))
    (PieceGoes (call (call_of c.args.call) (inner_block (callees_in c.args.code.now c.args.depth) c.args.call.callee.now.body)) c.args.fuel (state_of c.args.state.now) (state_of c.run_block.new.state))
    c.from_residual-in_err-items.ensures.1 c.in_err-items.ensures (callee_stuck (call_of c.args.call) (block (callees_in c.args.code.now c.args.depth) c.args.call.callee.now.body) c.args.fuel (state_of c.args.state.now) c.new-before.result c.enter.new.out c.new-before.ensures (store_of c.in_ok-inner.inner) c.in_ok-inner.ensures (let x : State = record { store = store_of c.replace-outer.new.dest; memory = c.args.state.now.memory } in x) (ap (λ v. let x : State = record { store = store_of v; memory = c.args.state.now.memory } in x) c.replace-outer.ensures.after))

pub run_callee-returns-in_ok-call_until_cut-in-Cut : goal.run_callee-returns-in_ok-call_until_cut-in-Cut
run_callee-returns-in_ok-call_until_cut-in-Cut t c =
    callee_cut (call_of c.args.call) (block (callees_in c.args.code.now c.args.depth) c.args.call.callee.now.body) c.args.fuel (state_of c.args.state.now) c.new-before.result c.enter.new.out c.new-before.ensures (store_of c.in_ok-inner.inner) c.in_ok-inner.ensures (let x : State = record { store = store_of c.replace-outer.new.dest; memory = c.args.state.now.memory } in x) (ap (λ v. let x : State = record { store = store_of v; memory = c.args.state.now.memory } in x) c.replace-outer.ensures.after) c.in-Cut.items _ c.new.result c.new.ensures c.in_ok-call_until_cut-in-Cut.ensures
    (as_cut _ _ _ (state_of c.run_block.new.state) c.in_ok-items.field-0 c.in-Cut.items c.in_ok-items.ensures c.in-Cut.is)

pub run_callee-returns-in_err-leave-in-End : goal.run_callee-returns-in_err-leave-in-End
run_callee-returns-in_err-leave-in-End t c =
    handed_on c.from_residual-in_err-leave-in-End.result c.in_err-leave-in-End.field-0.0
    (λ r. changed c.leave.new.out (state_of c.leave.new.state) r ≡ numbers_first c.new-after.result (leaves (call_of c.args.call) (let x : State = record { store = store_of c.replace-inner.new.dest; memory = c.run_block.new.state.memory } in x) (let x : State = record { store = store_of c.replace-inner.result; memory = c.run_block.new.state.memory } in x)))
    (PieceGoes (call (call_of c.args.call) (inner_block (callees_in c.args.code.now c.args.depth) c.args.call.callee.now.body)) c.args.fuel (state_of c.args.state.now) (state_of c.leave.new.state))
    c.from_residual-in_err-leave-in-End.ensures.1 c.in_err-leave-in-End.ensures
    (λ k h. not_left (call_of c.args.call) (block (callees_in c.args.code.now c.args.depth) c.args.call.callee.now.body) c.args.fuel (state_of c.args.state.now) c.new-before.result c.enter.new.out c.new-before.ensures (store_of c.in_ok-inner.inner) c.in_ok-inner.ensures (let x : State = record { store = store_of c.replace-outer.new.dest; memory = c.args.state.now.memory } in x) (ap (λ v. let x : State = record { store = store_of v; memory = c.args.state.now.memory } in x) c.replace-outer.ensures.after) c.in-End.items c.in-End.left (state_of c.run_block.new.state) (as_end _ _ _ _ (state_of c.run_block.new.state) c.in_ok-items.field-0 c.in-End.items c.in_ok-items.ensures c.in-End.is) c.new-after.result c.new-after.ensures k (h ∙ ap (numbers_first c.new-after.result) (same_leave (call_of c.args.call) c.replace-inner.new.dest c.replace-inner.result c.args.state.now.store c.run_block.new.state.store c.args.state.now.memory c.run_block.new.state.memory (c.replace-inner.ensures.after ∙ c.replace-outer.ensures.value) c.replace-inner.ensures.value)))

pub run_callee-returns-in_ok-leaked-in-End : goal.run_callee-returns-in_ok-leaked-in-End
run_callee-returns-in_ok-leaked-in-End t c =
    callee_ended (call_of c.args.call) (block (callees_in c.args.code.now c.args.depth) c.args.call.callee.now.body) c.args.fuel (state_of c.args.state.now) c.new-before.result c.enter.new.out c.new-before.ensures (store_of c.in_ok-inner.inner) c.in_ok-inner.ensures (let x : State = record { store = store_of c.replace-outer.new.dest; memory = c.args.state.now.memory } in x) (ap (λ v. let x : State = record { store = store_of v; memory = c.args.state.now.memory } in x) c.replace-outer.ensures.after) c.in-End.items c.in-End.left (state_of c.run_block.new.state) (as_end _ _ _ _ (state_of c.run_block.new.state) c.in_ok-items.field-0 c.in-End.items c.in_ok-items.ensures c.in-End.is) c.new-after.result c.new-after.ensures (state_of c.leave.new.state) c.leave.new.out _ (c.in_ok-leave-in-End.ensures ∙ ap (numbers_first c.new-after.result) (same_leave (call_of c.args.call) c.replace-inner.new.dest c.replace-inner.result c.args.state.now.store c.run_block.new.state.store c.args.state.now.memory c.run_block.new.state.memory (c.replace-inner.ensures.after ∙ c.replace-outer.ensures.value) c.replace-inner.ensures.value)) c.in_ok-leaked-in-End.ensures
