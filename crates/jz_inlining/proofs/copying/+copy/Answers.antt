use Rattle.std.proofs.Common.{rules, ◌≤◌, ◌∙◌, refl, ap, sym, subst, arith}
use Rattle.std.specs.Option.{option_copied}
use Rattle.jz_tree.specs.declared.stmt.StmtKind.TheVariants as kind
use Rattle.jz_copies.proofs.Falls.{weights_at, weight_if, weight_assign, weight_for, weight_while, one_deeper}
use Rattle.jz_copies.proofs.Weights.{weight, weights, body_weight}
use Rattle.jz_inline.specs.Names.{var_in, expr_in}
use Rattle.jz_inline.specs.CopiedNames.{names_of}
use Rattle.jz_inline.specs.Statements.{CopiedFuns, body_piece}
use Rattle.jz_inlining.specs.InnerCopies.{Adds, Fits, funs_in, block_in, assignment_piece, while_of}
use Rattle.jz_inlining.specs.declared.copier.Copied.{Copied}
use Rattle.jz_inlining.proofs.Pieces.{assignment_is, branch_is, loop_is, rounds_are, mark_is, called_is, plain_value, plain_intrinsic, plain_called}
use Rattle.jz_inlining.proofs.Blocks.{begun, fits, one_more, none_left}
use Rattle.jz_inlining.proofs.Adding.{left_fits, right_fits, if_adds, turns_adds, until_adds, for_adds, alone}
use Rattle.jz_inlining.proofs.Calling.{number_fits, body_fits, call_adds}
use Rattle.jz_inlining.proofs.copying.+copy.Goals as goal

-- ---- statements in their order

pub copy_block-loop-stmt-init : goal.copy_block-loop-stmt-init
copy_block-loop-stmt-init t c = begun (block_in c.args.copier.now c.args.left c.args.stmts.now) (names_of c.args.names.now) c.args.out.now c.new-steps.result c.new-steps.ensures

pub copy_block-copy_statement-requires : goal.copy_block-copy_statement-requires
copy_block-copy_statement-requires t c =
    let funs : CopiedFuns = funs_in c.args.copier.now c.args.left in
    let x : weight c.stmt-item.result ≤ weights c.args.stmts.now = weights_at c.args.stmts.now c.loop-stmt.stmt-index c.stmt-item.result (search rules) (search rules) in
    (omega (arith, x, c.decreases), fits funs (body_piece funs c.args.stmts.now) (names_of c.args.names.now) c.args.out.now c.loop-stmt.out c.loop-stmt.steps c.args.stmts.now c.loop-stmt.stmt-index c.loop-stmt.invariant c.stmt-item.result (search rules) (search rules) c.requires.few)

pub copy_block-loop-stmt-preserved : goal.copy_block-loop-stmt-preserved
copy_block-loop-stmt-preserved t c =
    let funs : CopiedFuns = funs_in c.args.copier.now c.args.left in
    one_more funs (body_piece funs c.args.stmts.now) (names_of c.args.names.now) c.args.out.now c.loop-stmt.out c.loop-stmt.steps c.args.stmts.now c.loop-stmt.stmt-index c.loop-stmt.invariant c.stmt-item.result (search rules) (search rules)
    c.copy_statement.new.out c.in_ok-more.more _ c.in_ok-more.ensures c.in_ok-append.ensures.ok

pub copy_block-returns : goal.copy_block-returns
copy_block-returns t c =
    let funs : CopiedFuns = funs_in c.args.copier.now c.args.left in
    none_left funs (body_piece funs c.args.stmts.now) (names_of c.args.names.now) c.args.out.now c.loop-stmt.out c.loop-stmt.steps c.args.stmts.now c.loop-stmt.stmt-index c.loop-stmt.invariant (search rules)

-- ---- one statement

pub copy_statement-copy_assign-requires : goal.copy_statement-copy_assign-requires
copy_statement-copy_assign-requires t c =
    let x = weight_assign c.args.stmt.now c.in-Assign.to c.in-Assign.op c.in-Assign.rhs c.in-Assign.cond c.in-Assign.is in
    (omega (arith, x, c.decreases), subst (Fits c.args.out.now.next) (assignment_is (funs_in c.args.copier.now c.args.left) c.args.stmt.now c.of-assignment.result c.in-Assign.to c.in-Assign.op c.in-Assign.rhs c.in-Assign.cond c.in-Assign.is c.of-assignment.ensures.notes c.of-assignment.ensures.span c.of-assignment.ensures.to c.of-assignment.ensures.op c.of-assignment.ensures.cond) c.requires.few)

pub copy_statement-copy_if-requires : goal.copy_statement-copy_if-requires
copy_statement-copy_if-requires t c =
    let x = weight_if c.args.stmt.now c.in-If.cond c.in-If.holds c.in-If.other c.in-If.is in
    (omega (arith, x, c.decreases), subst (Fits c.args.out.now.next) (branch_is (funs_in c.args.copier.now c.args.left) c.args.stmt.now c.of-test.result c.in-If.cond c.in-If.holds c.in-If.other c.in-If.is c.of-test.ensures.notes c.of-test.ensures.span c.of-test.ensures.cond) c.requires.few)

pub copy_statement-copy_for-requires : goal.copy_statement-copy_for-requires
copy_statement-copy_for-requires t c =
    let x = weight_for c.args.stmt.now c.in-For.counter c.in-For.from c.in-For.down c.in-For.to c.in-For.body c.in-For.is in
    (omega (arith, x, c.decreases), subst (Fits c.args.out.now.next) (rounds_are (funs_in c.args.copier.now c.args.left) c.args.stmt.now c.of-counter.result c.in-For.counter c.in-For.from c.in-For.down c.in-For.to c.in-For.body c.in-For.is c.of-counter.ensures.notes c.of-counter.ensures.span c.of-counter.ensures.counter c.of-counter.ensures.from c.of-counter.ensures.down c.of-counter.ensures.to) c.requires.few)

pub copy_statement-returns-in_ok-steps-in-Assign : goal.copy_statement-returns-in_ok-steps-in-Assign
copy_statement-returns-in_ok-steps-in-Assign t c =
    subst (λ p. Adds p (names_of c.args.names.now) c.args.out.now c.copy_assign.new.out c.in_ok-steps-in-Assign.steps)
    (sym (assignment_is (funs_in c.args.copier.now c.args.left) c.args.stmt.now c.of-assignment.result c.in-Assign.to c.in-Assign.op c.in-Assign.rhs c.in-Assign.cond c.in-Assign.is c.of-assignment.ensures.notes c.of-assignment.ensures.span c.of-assignment.ensures.to c.of-assignment.ensures.op c.of-assignment.ensures.cond)) c.in_ok-steps-in-Assign.ensures

pub copy_statement-returns-in_ok-steps-in-If : goal.copy_statement-returns-in_ok-steps-in-If
copy_statement-returns-in_ok-steps-in-If t c =
    subst (λ p. Adds p (names_of c.args.names.now) c.args.out.now c.copy_if.new.out c.in_ok-steps-in-If.steps)
    (sym (branch_is (funs_in c.args.copier.now c.args.left) c.args.stmt.now c.of-test.result c.in-If.cond c.in-If.holds c.in-If.other c.in-If.is c.of-test.ensures.notes c.of-test.ensures.span c.of-test.ensures.cond)) c.in_ok-steps-in-If.ensures

pub copy_statement-returns-in_ok-steps-in-For : goal.copy_statement-returns-in_ok-steps-in-For
copy_statement-returns-in_ok-steps-in-For t c =
    subst (λ p. Adds p (names_of c.args.names.now) c.args.out.now c.copy_for.new.out c.in_ok-steps-in-For.steps)
    (sym (rounds_are (funs_in c.args.copier.now c.args.left) c.args.stmt.now c.of-counter.result c.in-For.counter c.in-For.from c.in-For.down c.in-For.to c.in-For.body c.in-For.is c.of-counter.ensures.notes c.of-counter.ensures.span c.of-counter.ensures.counter c.of-counter.ensures.from c.of-counter.ensures.down c.of-counter.ensures.to)) c.in_ok-steps-in-For.ensures

pub copy_statement-returns-in_ok-steps-in-Mark : goal.copy_statement-returns-in_ok-steps-in-Mark
copy_statement-returns-in_ok-steps-in-Mark t c =
    subst (λ p. Adds p (names_of c.args.names.now) c.args.out.now c.copy_mark.new.out c.in_ok-steps-in-Mark.steps)
    (sym (mark_is (funs_in c.args.copier.now c.args.left) c.args.stmt.now c.in-Mark.vars c.in-Mark.is)) c.in_ok-steps-in-Mark.ensures

pub copy_statement-copy_while-requires : goal.copy_statement-copy_while-requires
copy_statement-copy_while-requires t c =
    let x = weight_while c.args.stmt.now c.in-While.prologue c.in-While.cond c.in-While.body c.in-While.is in
    (omega (arith, x, c.decreases), subst (Fits c.args.out.now.next) (loop_is (funs_in c.args.copier.now c.args.left) c.args.stmt.now c.of-test-in-While.result c.in-While.prologue c.in-While.cond c.in-While.body c.in-While.is c.of-test-in-While.ensures.notes c.of-test-in-While.ensures.span c.of-test-in-While.ensures.cond) c.requires.few)

pub copy_statement-returns-in_ok-steps-in-While : goal.copy_statement-returns-in_ok-steps-in-While
copy_statement-returns-in_ok-steps-in-While t c =
    subst (λ p. Adds p (names_of c.args.names.now) c.args.out.now c.copy_while.new.out c.in_ok-steps-in-While.steps)
    (sym (loop_is (funs_in c.args.copier.now c.args.left) c.args.stmt.now c.of-test-in-While.result c.in-While.prologue c.in-While.cond c.in-While.body c.in-While.is c.of-test-in-While.ensures.notes c.of-test-in-While.ensures.span c.of-test-in-While.ensures.cond)) c.in_ok-steps-in-While.ensures

-- ---- assignments and calls

pub copy_assign-returns-in_ok-steps-in-Value : goal.copy_assign-returns-in_ok-steps-in-Value
copy_assign-returns-in_ok-steps-in-Value t c =
    subst (λ p. Adds p (names_of c.args.names.now) c.args.out.now c.copy_plain.new.out c.in_ok-steps-in-Value.steps)
    (sym (plain_value (funs_in c.args.copier.now c.args.left) c.args.assignment c.args.rhs.now c.in-Value.field-0 c.in-Value.is)) c.in_ok-steps-in-Value.ensures

pub copy_assign-returns-in_ok-steps-in-Intrinsic : goal.copy_assign-returns-in_ok-steps-in-Intrinsic
copy_assign-returns-in_ok-steps-in-Intrinsic t c =
    subst (λ p. Adds p (names_of c.args.names.now) c.args.out.now c.copy_plain-in-Intrinsic.new.out c.in_ok-steps-in-Intrinsic.steps)
    (sym (plain_intrinsic (funs_in c.args.copier.now c.args.left) c.args.assignment c.args.rhs.now c.in-Intrinsic.field-0 c.in-Intrinsic.field-1 c.in-Intrinsic.field-2 c.in-Intrinsic.is)) c.in_ok-steps-in-Intrinsic.ensures

pub copy_assign-returns-in_ok-steps-in-None : goal.copy_assign-returns-in_ok-steps-in-None
copy_assign-returns-in_ok-steps-in-None t c =
    subst (λ p. Adds p (names_of c.args.names.now) c.args.out.now c.copy_plain-in-None.new.out c.in_ok-steps-in-None.steps)
    (sym (plain_called c.args.copier.now.callable.funs.now c.args.left c.args.assignment c.args.rhs.now c.in-Call.name c.in-Call.args c.in-Call.span c.in-Call.is (sym c.called.ensures ∙ ap option_copied c.in-None.is))) c.in_ok-steps-in-None.ensures

pub copy_assign-copy_call-requires : goal.copy_assign-copy_call-requires
copy_assign-copy_call-requires t c =
    let fs = c.args.copier.now.callable.funs.now in
    let a = c.args.assignment in
    let found = sym c.called.ensures ∙ ap option_copied c.in-Some.is in
    let x = one_deeper fs c.args.left a.op c.in-Call.name a.cond.now c.in-Some.callee.now found in (
      omega (arith, x, c.decreases),
      subst (Fits c.args.out.now.next) (ap (assignment_piece (funs_in c.args.copier.now c.args.left) a) c.in-Call.is ∙ called_is fs c.args.left a.notes.now a.span a.to.now a.op c.in-Call.name c.in-Call.args a.cond.now c.in-Call.span c.in-Some.callee.now found) c.requires.few,
    )

pub copy_assign-returns-in_ok-steps-in-Some : goal.copy_assign-returns-in_ok-steps-in-Some
copy_assign-returns-in_ok-steps-in-Some t c =
    let fs = c.args.copier.now.callable.funs.now in
    let a = c.args.assignment in
    let found = sym c.called.ensures ∙ ap option_copied c.in-Some.is in
    subst (λ p. Adds p (names_of c.args.names.now) c.args.out.now c.copy_call.new.out c.in_ok-steps-in-Some.steps)
    (sym (ap (assignment_piece (funs_in c.args.copier.now c.args.left) a) c.in-Call.is ∙ called_is fs c.args.left a.notes.now a.span a.to.now a.op c.in-Call.name c.in-Call.args a.cond.now c.in-Call.span c.in-Some.callee.now found)) c.in_ok-steps-in-Some.ensures

pub copy_call-begin_call-requires : goal.copy_call-begin_call-requires
copy_call-begin_call-requires t c = record { few = number_fits c.args.out.now.next (block_in c.args.copier.now c.args.left c.args.call.callee.now.body).copies c.requires.few }

pub copy_call-copy_block-requires : goal.copy_call-copy_block-requires
copy_call-copy_block-requires t c = (
  omega (arith, c.decreases),
  body_fits c.args.out.now.next c.begin_call.new.out.next (block_in c.args.copier.now c.args.left c.args.call.callee.now.body).copies c.in_ok-begin_call.ensures.next c.requires.few,
)

pub copy_call-returns : goal.copy_call-returns
copy_call-returns t c =
    let after : Copied = record { stmts = c.end_call.new.out; next = c.copy_block.new.out.next } in
    call_adds (funs_in c.args.copier.now c.args.left) (names_of c.args.names.now) (names_of c.in_ok-inner.inner) c.args.call c.args.out.now c.begin_call.new.out c.copy_block.new.out after c.in_ok-body.body c.in_ok-steps.steps
    c.in_ok-inner.ensures c.in_ok-begin_call.ensures.stmts c.in_ok-begin_call.ensures.next c.in_ok-body.ensures c.in_ok-steps.ensures.stmts refl c.in_ok-steps.ensures.steps

-- ---- statements with bodies

pub copy_body-returns : goal.copy_body-returns
copy_body-returns t c =
    alone (block_in c.args.copier.now c.args.left c.args.stmts.now) (names_of c.args.names.now) c.new.result c.args.next c.copy_block.new.out c.in_ok-steps.steps c.new.ensures c.in_ok-steps.ensures

pub copy_if-copy_body-requires : goal.copy_if-copy_body-requires
copy_if-copy_body-requires t c =
    (omega (arith, c.decreases), left_fits c.args.out.now.next (block_in c.args.copier.now c.args.left c.args.holds.now).copies (block_in c.args.copier.now c.args.left c.args.other.now).copies c.requires.few)

pub copy_if-copy_body-requires-2 : goal.copy_if-copy_body-requires-2
copy_if-copy_body-requires-2 t c =
    let x = c.in_ok-then_body.ensures.next in
    (omega (arith, c.decreases), right_fits c.args.out.now.next c.in_ok-then_body.then_body.next (block_in c.args.copier.now c.args.left c.args.holds.now).copies (block_in c.args.copier.now c.args.left c.args.other.now).copies x c.requires.few)

pub copy_if-returns : goal.copy_if-returns
copy_if-returns t c =
    if_adds (names_of c.args.names.now) c.args.out.now c.finish_if.new.out c.in_ok-steps.steps c.args.test.notes.now c.args.test.span c.args.test.cond.now
    (block_in c.args.copier.now c.args.left c.args.holds.now) (block_in c.args.copier.now c.args.left c.args.other.now) c.in_ok-then_body.then_body c.in_ok-else_body.else_body
    c.in_ok-then_body.ensures c.in_ok-else_body.ensures c.in_ok-steps.ensures.stmts c.in_ok-steps.ensures.next c.in_ok-steps.ensures.steps

pub copy_while-copy_until-requires : goal.copy_while-copy_until-requires
copy_while-copy_until-requires t c = (
  omega (arith, c.decreases),
  subst (λ b. Fits c.args.out.now.next (while_of (funs_in c.args.copier.now c.args.left) c.args.test (block_in c.args.copier.now c.args.left c.args.prologue.now) b)) c.in-None.is c.requires.few,
)

pub copy_while-copy_turns-requires : goal.copy_while-copy_turns-requires
copy_while-copy_turns-requires t c =
    let x = ap body_weight c.in-Some.is in (
      omega (arith, x, c.decreases),
      subst (λ b. Fits c.args.out.now.next (while_of (funs_in c.args.copier.now c.args.left) c.args.test (block_in c.args.copier.now c.args.left c.args.prologue.now) b)) c.in-Some.is c.requires.few,
    )

pub copy_while-returns-in_ok-steps-in-None : goal.copy_while-returns-in_ok-steps-in-None
copy_while-returns-in_ok-steps-in-None t c =
    subst (λ b. Adds (while_of (funs_in c.args.copier.now c.args.left) c.args.test (block_in c.args.copier.now c.args.left c.args.prologue.now) b) (names_of c.args.names.now) c.args.out.now c.copy_until.new.out c.in_ok-steps-in-None.steps)
    (sym c.in-None.is) c.in_ok-steps-in-None.ensures

pub copy_while-returns-in_ok-steps-in-Some : goal.copy_while-returns-in_ok-steps-in-Some
copy_while-returns-in_ok-steps-in-Some t c =
    subst (λ b. Adds (while_of (funs_in c.args.copier.now c.args.left) c.args.test (block_in c.args.copier.now c.args.left c.args.prologue.now) b) (names_of c.args.names.now) c.args.out.now c.copy_turns.new.out c.in_ok-steps-in-Some.steps)
    (sym c.in-Some.is) c.in_ok-steps-in-Some.ensures

pub copy_until-returns : goal.copy_until-returns
copy_until-returns t c =
    until_adds (names_of c.args.names.now) c.args.out.now c.finish_until.new.out c.in_ok-steps.steps c.args.test.notes.now c.args.test.span c.args.test.cond.now
    (block_in c.args.copier.now c.args.left c.args.prologue.now) c.in_ok-before.before c.in_ok-before.ensures c.in_ok-steps.ensures.stmts c.in_ok-steps.ensures.next c.in_ok-steps.ensures.steps

pub copy_turns-copy_body-requires : goal.copy_turns-copy_body-requires
copy_turns-copy_body-requires t c =
    (omega (arith, c.decreases), left_fits c.args.out.now.next (block_in c.args.copier.now c.args.left c.args.prologue.now).copies (block_in c.args.copier.now c.args.left c.args.body.now).copies c.requires.few)

pub copy_turns-copy_body-requires-2 : goal.copy_turns-copy_body-requires-2
copy_turns-copy_body-requires-2 t c =
    let x = c.in_ok-before.ensures.next in
    (omega (arith, c.decreases), right_fits c.args.out.now.next c.in_ok-before.before.next (block_in c.args.copier.now c.args.left c.args.prologue.now).copies (block_in c.args.copier.now c.args.left c.args.body.now).copies x c.requires.few)

pub copy_turns-returns : goal.copy_turns-returns
copy_turns-returns t c =
    turns_adds (names_of c.args.names.now) c.args.out.now c.finish_turns.new.out c.in_ok-steps.steps c.args.test.notes.now c.args.test.span c.args.test.cond.now
    (block_in c.args.copier.now c.args.left c.args.prologue.now) (block_in c.args.copier.now c.args.left c.args.body.now) c.in_ok-before.before c.in_ok-turn.turn
    c.in_ok-before.ensures c.in_ok-turn.ensures c.in_ok-steps.ensures.stmts c.in_ok-steps.ensures.next c.in_ok-steps.ensures.steps

pub copy_for-returns : goal.copy_for-returns
copy_for-returns t c =
    for_adds (names_of c.args.names.now) c.args.out.now c.finish_for.new.out c.in_ok-steps.steps c.args.counter.notes.now c.args.counter.span
    (λ names ss. kind.For (var_in names c.args.counter.counter.now) (expr_in names c.args.counter.from.now) c.args.counter.down (expr_in names c.args.counter.to.now) ss)
    (block_in c.args.copier.now c.args.left c.args.body.now) c.in_ok-round.round c.in_ok-round.ensures c.in_ok-steps.ensures.stmts c.in_ok-steps.ensures.next c.in_ok-steps.ensures.steps
