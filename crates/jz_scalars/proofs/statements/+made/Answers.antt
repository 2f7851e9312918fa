use Rattle.std.proofs.Common.{rules, ◌≡◌, ◌∷◌, [], ◌++◌, ◌∙◌, ap, sym, subst, IfOk}
use Rattle.jz_tree.specs.declared.stmt.StmtKind.TheViews.{roll-Stmt}
use Rattle.jz_tree.specs.declared.stmt.StmtKind.TheVariants as kind
use Rattle.jz_scalars.specs.declared.made.MadeOne.{MadeOne}
use Rattle.jz_scalars.specs.Scalars.{made_if, made_until, made_turns, made_for, kind_made, block_made}
use Rattle.jz_scalars.proofs.Loops.{begun, one_more, ended_stmts, ended_steps}
use Rattle.jz_scalars.proofs.StatementForms.{one_of, statement_is, assign_is, if_is, until_is, turns_is, for_is, mark_is}
use Rattle.jz_scalars.proofs.statements.+made.Goals as goal

-- ---- statements in their order

pub made_block-loop-stmt-init : goal.made_block-loop-stmt-init
made_block-loop-stmt-init t c = begun c.args.stmts.now c.new-made.result c.new-steps.result c.new-made.ensures c.new-steps.ensures

pub made_block-loop-stmt-preserved : goal.made_block-loop-stmt-preserved
made_block-loop-stmt-preserved t c =
    one_more c.args.stmts.now c.loop-stmt.stmt-index c.stmt-item.result c.loop-stmt.made _ c.loop-stmt.steps _ (search rules) (search rules) c.loop-stmt.invariant
    (c.in_ok-push.ensures.ok ∙ ap (λ (m : MadeOne). c.loop-stmt.made ++ m.stmt ∷ []) c.in_ok-one.ensures)
    (c.in_ok-append.ensures.ok ∙ ap (λ (m : MadeOne). c.loop-stmt.steps ++ m.steps) c.in_ok-one.ensures)

pub made_block-returns : goal.made_block-returns
made_block-returns t c =
    let ss = c.args.stmts.now in
    ap (λ (l : _). record { stmts = l; steps = c.loop-stmt.steps }) (ended_stmts ss c.loop-stmt.stmt-index c.loop-stmt.made c.loop-stmt.steps (search rules) c.loop-stmt.invariant)
    ∙ ap (λ (l : _). record { stmts = (block_made ss).stmts; steps = l }) (ended_steps ss c.loop-stmt.stmt-index c.loop-stmt.made c.loop-stmt.steps (search rules) c.loop-stmt.invariant)

-- ---- one statement

pub made_statement-returns : goal.made_statement-returns
made_statement-returns t c =
    let s = c.args.stmt.now in
    let m = c.in_ok-made.made in
    ap (λ notes. record { stmt = roll-Stmt (record { notes = notes; span = s.span; kind = m.kind }); steps = m.steps }) c.in_ok-notes.ensures
    ∙ ap (one_of s) c.in_ok-made.ensures ∙ sym (statement_is s)

pub made_kind-returns-in-Assign : goal.made_kind-returns-in-Assign
made_kind-returns-in-Assign t c =
    subst (λ k. IfOk c.made_assign.result (λ made. made ≡ k)) (sym (ap kind_made c.in-Assign.is ∙ assign_is c.in-Assign.to c.in-Assign.op c.in-Assign.rhs c.in-Assign.cond)) c.made_assign.ensures

pub made_kind-returns-in_ok-made-in-If : goal.made_kind-returns-in_ok-made-in-If
made_kind-returns-in_ok-made-in-If t c =
    c.in_ok-made-in-If.ensures
    ∙ ap (λ a. made_if c.in-If.cond a c.in_ok-else_part-in-If.else_part) c.in_ok-then_part-in-If.ensures
    ∙ ap (made_if c.in-If.cond (block_made c.in-If.holds)) c.in_ok-else_part-in-If.ensures
    ∙ sym (ap kind_made c.in-If.is ∙ if_is c.in-If.cond c.in-If.holds c.in-If.other)

pub made_kind-returns-in_ok-made-in-None : goal.made_kind-returns-in_ok-made-in-None
made_kind-returns-in_ok-made-in-None t c =
    c.in_ok-made-in-None.ensures
    ∙ ap (λ p. made_until p c.in-While.cond) c.in_ok-before-in-None.ensures
    ∙ sym (ap kind_made c.in-While.is ∙ ap (λ b. kind_made (kind.While c.in-While.prologue c.in-While.cond b)) c.in-None.is ∙ until_is c.in-While.prologue c.in-While.cond)

pub made_kind-returns-in_ok-made-in-Some : goal.made_kind-returns-in_ok-made-in-Some
made_kind-returns-in_ok-made-in-Some t c =
    c.in_ok-made-in-Some.ensures
    ∙ ap (λ p. made_turns p c.in-While.cond c.in_ok-turn-in-Some.turn) c.in_ok-before-in-Some.ensures
    ∙ ap (made_turns (block_made c.in-While.prologue) c.in-While.cond) c.in_ok-turn-in-Some.ensures
    ∙ sym (ap kind_made c.in-While.is ∙ ap (λ b. kind_made (kind.While c.in-While.prologue c.in-While.cond b)) c.in-Some.is ∙ turns_is c.in-While.prologue c.in-While.cond c.in-Some.body)

pub made_kind-returns-in_ok-made-in-For : goal.made_kind-returns-in_ok-made-in-For
made_kind-returns-in_ok-made-in-For t c =
    c.in_ok-made-in-For.ensures
    ∙ ap (made_for c.in-For.counter c.in-For.from c.in-For.down c.in-For.to) c.in_ok-round-in-For.ensures
    ∙ sym (ap kind_made c.in-For.is ∙ for_is c.in-For.counter c.in-For.from c.in-For.down c.in-For.to c.in-For.body)

pub made_kind-returns-in-Mark : goal.made_kind-returns-in-Mark
made_kind-returns-in-Mark t c =
    subst (λ k. IfOk c.made_mark.result (λ made. made ≡ k)) (sym (ap kind_made c.in-Mark.is ∙ mark_is c.in-Mark.vars)) c.made_mark.ensures
