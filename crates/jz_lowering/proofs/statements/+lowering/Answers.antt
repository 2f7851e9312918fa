use Rattle.std.proofs.Common.{rules, [], ◌∷◌, ◌++◌, ◌∙◌, true, false, ap, sym, subst}
use Rattle.jz_runs.specs.Trees.{done, quiet, choose, loop}
use Rattle.jz_tree.specs.declared.stmt.StmtKind.TheVariants as kind
use Rattle.jz_meaning.specs.Runs.{block, statement_tree, assign_tree}
use Rattle.jz_meaning.specs.Statements.{Condition, Counter, unset}
use Rattle.jz_place.specs.Bodies.{asked_of}
use Rattle.jz_operands.specs.TableHomes.{homes_of}
use Rattle.jz_lowering.specs.declared.parts.Lowered.{Lowered}
use Rattle.jz_lowering.specs.Becoming.{no_callees, Becomes}
use Rattle.jz_lowering.specs.Parts.{asks, asks_each, counts, parts_in, a_test, a_loop_test, a_for, IsFirstWithout, HaveCode}
use Rattle.jz_lowering.specs.InnerParts.{kind_piece, branch_lowered, loop_lowered, TestOr, LoopTestOr}
use Rattle.jz_homing.proofs.HandedOn.{handed}
use Rattle.jz_lowering.proofs.PartsInOrder.{parts_of, parts_at, first, parts_as, code_as, no_statement, next_statement, refused_statement, all_statements, test_code, first_body, second_body}
use Rattle.jz_lowering.proofs.BecomingLemmas.{nothing_becomes, becomes_as, none_begun, one_more, all_taken, mark_becomes, if_becomes, while_becomes}
use Rattle.jz_lowering.proofs.Forms.{statement_is, assign_is, if_is, until_is, turns_is, for_is, mark_is}
use Rattle.jz_lowering.proofs.statements.+lowering.Goals as goal

pub lower_all-loop-stmt-init : goal.lower_all-loop-stmt-init
lower_all-loop-stmt-init t c =
    let home = homes_of c.args.lowerer.now.homes.now in (none_begun home c.new-nodes.result c.new-steps.result c.new-nodes.ensures c.new-steps.ensures, no_statement home)

pub lower_all-loop-stmt-preserved : goal.lower_all-loop-stmt-preserved
lower_all-loop-stmt-preserved t c =
    let home = homes_of c.args.lowerer.now.homes.now in (
      one_more home c.args.stmts.now c.loop-stmt.stmt-index c.stmt-item.result c.loop-stmt.nodes c.in_ok-one.one.nodes _ c.loop-stmt.steps c.in_ok-one.one.steps _
          (search rules) (search rules) c.in_ok-append.ensures.ok c.in_ok-append-2.ensures.ok c.loop-stmt.invariant.0 c.in_ok-one.ensures.made,
      next_statement home c.args.stmts.now c.loop-stmt.stmt-index c.stmt-item.result (search rules) (search rules) c.loop-stmt.invariant.1 c.in_ok-one.ensures.code,
    )

pub lower_all-returns-clause-made : goal.lower_all-returns-clause-made
lower_all-returns-clause-made t c =
    all_taken (homes_of c.args.lowerer.now.homes.now) c.args.stmts.now c.loop-stmt.stmt-index c.loop-stmt.nodes c.loop-stmt.steps (search rules) c.loop-stmt.invariant.0

pub lower_all-returns-clause-code : goal.lower_all-returns-clause-code
lower_all-returns-clause-code t c = all_statements (homes_of c.args.lowerer.now.homes.now) c.args.stmts.now c.loop-stmt.stmt-index (search rules) c.loop-stmt.invariant.1

pub lower_all-returns-in_err-one-clause-code : goal.lower_all-returns-in_err-one-clause-code
lower_all-returns-in_err-one-clause-code t c =
    let home = homes_of c.args.lowerer.now.homes.now in
    handed (HaveCode home (parts_at c.stmt-item.result)) (HaveCode home (parts_of c.args.stmts.now)) c.from_residual.result c.in_err-one.field-0.0 c.from_residual.ensures.1 c.in_err-one.ensures.code
    (λ at first. refused_statement home c.args.stmts.now c.loop-stmt.stmt-index c.stmt-item.result at (search rules) (search rules) c.loop-stmt.invariant.1 first)

pub lower_statement-returns-clause-made : goal.lower_statement-returns-clause-made
lower_statement-returns-clause-made t c =
    let s = c.args.stmt.now in
    let m = c.in_ok-made.made in
    becomes_as (homes_of c.args.lowerer.now.homes.now) (kind_piece s.kind s.span) (statement_tree no_callees s) m.nodes m.steps (statement_is s) c.in_ok-made.ensures.made

pub lower_kind-returns-in_ok-made-in-Assign-clause-made : goal.lower_kind-returns-in_ok-made-in-Assign-clause-made
lower_kind-returns-in_ok-made-in-Assign-clause-made t c =
    let a = c.in-Assign in
    let m = c.in_ok-made-in-Assign.made in
    becomes_as (homes_of c.args.lowerer.now.homes.now) (assign_tree no_callees a.to a.op a.rhs a.cond c.args.span) (kind_piece c.args.kind.now c.args.span) m.nodes m.steps
    (ap (λ k. kind_piece k c.args.span) a.is ∙ assign_is c.args.span a.to a.op a.rhs a.cond) c.in_ok-made-in-Assign.ensures.made

pub lower_kind-returns-in_ok-made-in-If-clause-made : goal.lower_kind-returns-in_ok-made-in-If-clause-made
lower_kind-returns-in_ok-made-in-If-clause-made t c =
    let home = homes_of c.args.lowerer.now.homes.now in
    let at = c.args.span in
    let i = c.in-If in
    let q = c.in_ok-test-in-If.test in
    let a = c.in_ok-then_part-in-If.then_part in
    let b = c.in_ok-else_part-in-If.else_part in
    subst (λ (r : Lowered). Becomes home (kind_piece c.args.kind.now at) r.nodes r.steps) (sym c.in_ok-made-in-If.ensures)
    (becomes_as home (choose (record { cond = i.cond; at = at }) (block no_callees i.holds done) (block no_callees i.other done)) (kind_piece c.args.kind.now at) (branch_lowered q a b).nodes (branch_lowered q a b).steps
    (ap (λ k. kind_piece k at) i.is ∙ if_is at i.cond i.holds i.other)
    (if_becomes home (record { cond = i.cond; at = at }) q.test q.item (block no_callees i.holds) (block no_callees i.other) a.nodes b.nodes a.steps b.steps
    c.in_ok-test-in-If.ensures c.in_ok-then_part-in-If.ensures.made c.in_ok-else_part-in-If.ensures.made))

pub lower_kind-returns-in_ok-made-in-None-clause-made : goal.lower_kind-returns-in_ok-made-in-None-clause-made
lower_kind-returns-in_ok-made-in-None-clause-made t c =
    let home = homes_of c.args.lowerer.now.homes.now in
    let at = c.args.span in
    let w = c.in-While in
    let q = c.in_ok-test-in-None.test in
    let a = c.in_ok-before-in-None.before in
    subst (λ (r : Lowered). Becomes home (kind_piece c.args.kind.now at) r.nodes r.steps) (sym (c.in_ok-made-in-None.ensures ∙ ap (loop_lowered true a q) c.nothing-turn.ensures))
    (becomes_as home (loop true (block no_callees w.prologue done) (record { cond = w.cond; at = at }) done) (kind_piece c.args.kind.now at) (loop_lowered true a q (record { nodes = []; steps = [] })).nodes (loop_lowered true a q (record { nodes = []; steps = [] })).steps
    (ap (λ k. kind_piece k at) w.is ∙ ap (λ b. kind_piece (kind.While w.prologue w.cond b) at) c.in-None.is ∙ until_is at w.prologue w.cond)
    (while_becomes home true (record { cond = w.cond; at = at }) q.test q.item (block no_callees w.prologue) (λ t. t) a.nodes [] a.steps []
    c.in_ok-test-in-None.ensures c.in_ok-before-in-None.ensures.made (nothing_becomes home)))

pub lower_kind-returns-in_ok-made-in-Some-clause-made : goal.lower_kind-returns-in_ok-made-in-Some-clause-made
lower_kind-returns-in_ok-made-in-Some-clause-made t c =
    let home = homes_of c.args.lowerer.now.homes.now in
    let at = c.args.span in
    let w = c.in-While in
    let body = c.in-Some.body in
    let q = c.in_ok-test-in-Some.test in
    let a = c.in_ok-before-in-Some.before in
    let b = c.in_ok-turn-in-Some.turn in
    subst (λ (r : Lowered). Becomes home (kind_piece c.args.kind.now at) r.nodes r.steps) (sym c.in_ok-made-in-Some.ensures)
    (becomes_as home (loop false (block no_callees w.prologue done) (record { cond = w.cond; at = at }) (block no_callees body done)) (kind_piece c.args.kind.now at) (loop_lowered false a q b).nodes (loop_lowered false a q b).steps
    (ap (λ k. kind_piece k at) w.is ∙ ap (λ b. kind_piece (kind.While w.prologue w.cond b) at) c.in-Some.is ∙ turns_is at w.prologue w.cond body)
    (while_becomes home false (record { cond = w.cond; at = at }) q.test q.item (block no_callees w.prologue) (block no_callees body) a.nodes b.nodes a.steps b.steps
    c.in_ok-test-in-Some.ensures c.in_ok-before-in-Some.ensures.made c.in_ok-turn-in-Some.ensures.made))

pub lower_kind-returns-in-Mark-clause-made : goal.lower_kind-returns-in-Mark-clause-made
lower_kind-returns-in-Mark-clause-made t c =
    let home = homes_of c.args.lowerer.now.homes.now in
    let at = c.args.span in
    subst (λ (r : Lowered). Becomes home (kind_piece c.args.kind.now at) r.nodes r.steps) (sym c.nothing.ensures)
    (becomes_as home (quiet (unset c.in-Mark.field-0)) (kind_piece c.args.kind.now at) [] []
    (ap (λ k. kind_piece k at) c.in-Mark.is ∙ mark_is at c.in-Mark.field-0) (mark_becomes home (unset c.in-Mark.field-0)))

pub lower_statement-returns-clause-code : goal.lower_statement-returns-clause-code
lower_statement-returns-clause-code t c =
    let s = c.args.stmt.now in
    code_as (homes_of c.args.lowerer.now.homes.now) (parts_in (kind_piece s.kind s.span done)) (parts_at s) (ap (λ f. parts_in (f done)) (statement_is s)) c.in_ok-made.ensures.code

pub lower_statement-returns-in_err-made-clause-code : goal.lower_statement-returns-in_err-made-clause-code
lower_statement-returns-in_err-made-clause-code t c =
    let home = homes_of c.args.lowerer.now.homes.now in
    let s = c.args.stmt.now in
    handed (HaveCode home (parts_in (kind_piece s.kind s.span done))) (HaveCode home (parts_at s)) c.from_residual.result c.in_err-made.field-0.0 c.from_residual.ensures.1 c.in_err-made.ensures.code
    (λ at first. parts_as home (parts_in (kind_piece s.kind s.span done)) (parts_at s) at (ap (λ f. parts_in (f done)) (statement_is s)) first)

pub lower_kind-returns-in_ok-made-in-Assign-clause-code : goal.lower_kind-returns-in_ok-made-in-Assign-clause-code
lower_kind-returns-in_ok-made-in-Assign-clause-code t c =
    let a = c.in-Assign in
    let at = c.args.span in
    code_as (homes_of c.args.lowerer.now.homes.now) (parts_in (assign_tree no_callees a.to a.op a.rhs a.cond at done)) (parts_in (kind_piece c.args.kind.now at done))
    (ap (λ f. parts_in (f done)) (ap (λ k. kind_piece k at) a.is ∙ assign_is at a.to a.op a.rhs a.cond)) c.in_ok-made-in-Assign.ensures.code

pub lower_kind-returns-in_err-made-in-Assign-clause-code : goal.lower_kind-returns-in_err-made-in-Assign-clause-code
lower_kind-returns-in_err-made-in-Assign-clause-code t c =
    let home = homes_of c.args.lowerer.now.homes.now in
    let a = c.in-Assign in
    let at = c.args.span in
    let parts = parts_in (assign_tree no_callees a.to a.op a.rhs a.cond at done) in
    handed (HaveCode home parts) (HaveCode home (parts_in (kind_piece c.args.kind.now at done))) c.from_residual.result c.in_err-made-in-Assign.field-0.0 c.from_residual.ensures.1 c.in_err-made-in-Assign.ensures.code
    (λ here first. parts_as home parts (parts_in (kind_piece c.args.kind.now at done)) here (ap (λ f. parts_in (f done)) (ap (λ k. kind_piece k at) a.is ∙ assign_is at a.to a.op a.rhs a.cond)) first)

pub lower_kind-returns-in_ok-made-in-If-clause-code : goal.lower_kind-returns-in_ok-made-in-If-clause-code
lower_kind-returns-in_ok-made-in-If-clause-code t c =
    let home = homes_of c.args.lowerer.now.homes.now in
    let at = c.args.span in
    let i = c.in-If in
    let q = c.in_ok-test-in-If.test in
    code_as home (asks (record { cond = i.cond; at = at }) ∷ (parts_of i.holds ++ (parts_of i.other ++ []))) (parts_in (kind_piece c.args.kind.now at done))
    (ap (λ f. parts_in (f done)) (ap (λ k. kind_piece k at) i.is ∙ if_is at i.cond i.holds i.other))
    (test_code home (asks (record { cond = i.cond; at = at })) (parts_of i.holds) (parts_of i.other) (asked_of q.test, q.item, c.in_ok-test-in-If.ensures) c.in_ok-then_part-in-If.ensures.code c.in_ok-else_part-in-If.ensures.code)

pub lower_kind-returns-in_err-test-in-If-clause-code : goal.lower_kind-returns-in_err-test-in-If-clause-code
lower_kind-returns-in_err-test-in-If-clause-code t c =
    let home = homes_of c.args.lowerer.now.homes.now in
    let at = c.args.span in
    let i = c.in-If in
    let p : Condition = record { cond = i.cond; at = at } in
    let parts = asks p ∷ (parts_of i.holds ++ (parts_of i.other ++ [])) in
    handed (TestOr home at i.cond) (HaveCode home (parts_in (kind_piece c.args.kind.now at done))) c.from_residual-in_err-test-in-If.result c.in_err-test-in-If.field-0.0 c.from_residual-in_err-test-in-If.ensures.1 c.in_err-test-in-If.ensures
    (λ here e. parts_as home parts (parts_in (kind_piece c.args.kind.now at done)) here (ap (λ f. parts_in (f done)) (ap (λ k. kind_piece k at) i.is ∙ if_is at i.cond i.holds i.other))
    (subst (IsFirstWithout home parts) (sym e.0) (first home (asks p) (parts_of i.holds ++ (parts_of i.other ++ [])) at e.1 (a_test p))))

pub lower_kind-returns-in_err-then_part-in-If-clause-code : goal.lower_kind-returns-in_err-then_part-in-If-clause-code
lower_kind-returns-in_err-then_part-in-If-clause-code t c =
    let home = homes_of c.args.lowerer.now.homes.now in
    let at = c.args.span in
    let i = c.in-If in
    let p : Condition = record { cond = i.cond; at = at } in
    let parts = asks p ∷ (parts_of i.holds ++ (parts_of i.other ++ [])) in
    handed (HaveCode home (parts_of i.holds)) (HaveCode home (parts_in (kind_piece c.args.kind.now at done))) c.from_residual-in_err-then_part-in-If.result c.in_err-then_part-in-If.field-0.0 c.from_residual-in_err-then_part-in-If.ensures.1 c.in_err-then_part-in-If.ensures.code
    (λ here e. parts_as home parts (parts_in (kind_piece c.args.kind.now at done)) here (ap (λ f. parts_in (f done)) (ap (λ k. kind_piece k at) i.is ∙ if_is at i.cond i.holds i.other))
    (first_body home (asks p) (parts_of i.holds) (parts_of i.other) here (asked_of c.in_ok-test-in-If.test.test, c.in_ok-test-in-If.test.item, c.in_ok-test-in-If.ensures) e))

pub lower_kind-returns-in_err-else_part-in-If-clause-code : goal.lower_kind-returns-in_err-else_part-in-If-clause-code
lower_kind-returns-in_err-else_part-in-If-clause-code t c =
    let home = homes_of c.args.lowerer.now.homes.now in
    let at = c.args.span in
    let i = c.in-If in
    let p : Condition = record { cond = i.cond; at = at } in
    let parts = asks p ∷ (parts_of i.holds ++ (parts_of i.other ++ [])) in
    handed (HaveCode home (parts_of i.other)) (HaveCode home (parts_in (kind_piece c.args.kind.now at done))) c.from_residual-in_err-else_part-in-If.result c.in_err-else_part-in-If.field-0.0 c.from_residual-in_err-else_part-in-If.ensures.1 c.in_err-else_part-in-If.ensures.code
    (λ here e. parts_as home parts (parts_in (kind_piece c.args.kind.now at done)) here (ap (λ f. parts_in (f done)) (ap (λ k. kind_piece k at) i.is ∙ if_is at i.cond i.holds i.other))
    (second_body home (asks p) (parts_of i.holds) (parts_of i.other) here (asked_of c.in_ok-test-in-If.test.test, c.in_ok-test-in-If.test.item, c.in_ok-test-in-If.ensures) c.in_ok-then_part-in-If.ensures.code e))

pub lower_kind-returns-in_ok-made-in-None-clause-code : goal.lower_kind-returns-in_ok-made-in-None-clause-code
lower_kind-returns-in_ok-made-in-None-clause-code t c =
    let home = homes_of c.args.lowerer.now.homes.now in
    let at = c.args.span in
    let w = c.in-While in
    let p : Condition = record { cond = w.cond; at = at } in
    let parts = asks_each p ∷ (parts_of w.prologue ++ ([] ++ [])) in
    code_as home parts (parts_in (kind_piece c.args.kind.now at done)) (ap (λ f. parts_in (f done)) (ap (λ k. kind_piece k at) w.is ∙ ap (λ b. kind_piece (kind.While w.prologue w.cond b) at) c.in-None.is ∙ until_is at w.prologue w.cond))
    (test_code home (asks_each p) (parts_of w.prologue) [] (asked_of c.in_ok-test-in-None.test.test, c.in_ok-test-in-None.test.item, c.in_ok-test-in-None.ensures) c.in_ok-before-in-None.ensures.code (no_statement home))

pub lower_kind-returns-in_err-test-in-None-clause-code : goal.lower_kind-returns-in_err-test-in-None-clause-code
lower_kind-returns-in_err-test-in-None-clause-code t c =
    let home = homes_of c.args.lowerer.now.homes.now in
    let at = c.args.span in
    let w = c.in-While in
    let p : Condition = record { cond = w.cond; at = at } in
    let parts = asks_each p ∷ (parts_of w.prologue ++ ([] ++ [])) in
    handed (LoopTestOr home at w.cond) (HaveCode home (parts_in (kind_piece c.args.kind.now at done))) c.from_residual-in_err-test-in-None.result c.in_err-test-in-None.field-0.0 c.from_residual-in_err-test-in-None.ensures.1 c.in_err-test-in-None.ensures
    (λ here e. parts_as home parts (parts_in (kind_piece c.args.kind.now at done)) here (ap (λ f. parts_in (f done)) (ap (λ k. kind_piece k at) w.is ∙ ap (λ b. kind_piece (kind.While w.prologue w.cond b) at) c.in-None.is ∙ until_is at w.prologue w.cond))
    (subst (IsFirstWithout home parts) (sym e.0) (first home (asks_each p) (parts_of w.prologue ++ ([] ++ [])) at e.1 (a_loop_test p))))

pub lower_kind-returns-in_err-before-in-None-clause-code : goal.lower_kind-returns-in_err-before-in-None-clause-code
lower_kind-returns-in_err-before-in-None-clause-code t c =
    let home = homes_of c.args.lowerer.now.homes.now in
    let at = c.args.span in
    let w = c.in-While in
    let p : Condition = record { cond = w.cond; at = at } in
    let parts = asks_each p ∷ (parts_of w.prologue ++ ([] ++ [])) in
    handed (HaveCode home (parts_of w.prologue)) (HaveCode home (parts_in (kind_piece c.args.kind.now at done))) c.from_residual-in_err-before-in-None.result c.in_err-before-in-None.field-0.0 c.from_residual-in_err-before-in-None.ensures.1 c.in_err-before-in-None.ensures.code
    (λ here e. parts_as home parts (parts_in (kind_piece c.args.kind.now at done)) here (ap (λ f. parts_in (f done)) (ap (λ k. kind_piece k at) w.is ∙ ap (λ b. kind_piece (kind.While w.prologue w.cond b) at) c.in-None.is ∙ until_is at w.prologue w.cond))
    (first_body home (asks_each p) (parts_of w.prologue) [] here (asked_of c.in_ok-test-in-None.test.test, c.in_ok-test-in-None.test.item, c.in_ok-test-in-None.ensures) e))

pub lower_kind-returns-in_ok-made-in-Some-clause-code : goal.lower_kind-returns-in_ok-made-in-Some-clause-code
lower_kind-returns-in_ok-made-in-Some-clause-code t c =
    let home = homes_of c.args.lowerer.now.homes.now in
    let at = c.args.span in
    let w = c.in-While in
    let body = c.in-Some.body in
    let p : Condition = record { cond = w.cond; at = at } in
    let parts = asks_each p ∷ (parts_of w.prologue ++ ((parts_of body) ++ [])) in
    code_as home parts (parts_in (kind_piece c.args.kind.now at done)) (ap (λ f. parts_in (f done)) (ap (λ k. kind_piece k at) w.is ∙ ap (λ b. kind_piece (kind.While w.prologue w.cond b) at) c.in-Some.is ∙ turns_is at w.prologue w.cond body))
    (test_code home (asks_each p) (parts_of w.prologue) (parts_of body) (asked_of c.in_ok-test-in-Some.test.test, c.in_ok-test-in-Some.test.item, c.in_ok-test-in-Some.ensures) c.in_ok-before-in-Some.ensures.code c.in_ok-turn-in-Some.ensures.code)

pub lower_kind-returns-in_err-test-in-Some-clause-code : goal.lower_kind-returns-in_err-test-in-Some-clause-code
lower_kind-returns-in_err-test-in-Some-clause-code t c =
    let home = homes_of c.args.lowerer.now.homes.now in
    let at = c.args.span in
    let w = c.in-While in
    let body = c.in-Some.body in
    let p : Condition = record { cond = w.cond; at = at } in
    let parts = asks_each p ∷ (parts_of w.prologue ++ ((parts_of body) ++ [])) in
    handed (LoopTestOr home at w.cond) (HaveCode home (parts_in (kind_piece c.args.kind.now at done))) c.from_residual-in_err-test-in-Some.result c.in_err-test-in-Some.field-0.0 c.from_residual-in_err-test-in-Some.ensures.1 c.in_err-test-in-Some.ensures
    (λ here e. parts_as home parts (parts_in (kind_piece c.args.kind.now at done)) here (ap (λ f. parts_in (f done)) (ap (λ k. kind_piece k at) w.is ∙ ap (λ b. kind_piece (kind.While w.prologue w.cond b) at) c.in-Some.is ∙ turns_is at w.prologue w.cond body))
    (subst (IsFirstWithout home parts) (sym e.0) (first home (asks_each p) (parts_of w.prologue ++ ((parts_of body) ++ [])) at e.1 (a_loop_test p))))

pub lower_kind-returns-in_err-before-in-Some-clause-code : goal.lower_kind-returns-in_err-before-in-Some-clause-code
lower_kind-returns-in_err-before-in-Some-clause-code t c =
    let home = homes_of c.args.lowerer.now.homes.now in
    let at = c.args.span in
    let w = c.in-While in
    let body = c.in-Some.body in
    let p : Condition = record { cond = w.cond; at = at } in
    let parts = asks_each p ∷ (parts_of w.prologue ++ ((parts_of body) ++ [])) in
    handed (HaveCode home (parts_of w.prologue)) (HaveCode home (parts_in (kind_piece c.args.kind.now at done))) c.from_residual-in_err-before-in-Some.result c.in_err-before-in-Some.field-0.0 c.from_residual-in_err-before-in-Some.ensures.1 c.in_err-before-in-Some.ensures.code
    (λ here e. parts_as home parts (parts_in (kind_piece c.args.kind.now at done)) here (ap (λ f. parts_in (f done)) (ap (λ k. kind_piece k at) w.is ∙ ap (λ b. kind_piece (kind.While w.prologue w.cond b) at) c.in-Some.is ∙ turns_is at w.prologue w.cond body))
    (first_body home (asks_each p) (parts_of w.prologue) (parts_of body) here (asked_of c.in_ok-test-in-Some.test.test, c.in_ok-test-in-Some.test.item, c.in_ok-test-in-Some.ensures) e))

pub lower_kind-returns-in_err-turn-in-Some-clause-code : goal.lower_kind-returns-in_err-turn-in-Some-clause-code
lower_kind-returns-in_err-turn-in-Some-clause-code t c =
    let home = homes_of c.args.lowerer.now.homes.now in
    let at = c.args.span in
    let w = c.in-While in
    let body = c.in-Some.body in
    let p : Condition = record { cond = w.cond; at = at } in
    let parts = asks_each p ∷ (parts_of w.prologue ++ ((parts_of body) ++ [])) in
    handed (HaveCode home (parts_of body)) (HaveCode home (parts_in (kind_piece c.args.kind.now at done))) c.from_residual-in_err-turn-in-Some.result c.in_err-turn-in-Some.field-0.0 c.from_residual-in_err-turn-in-Some.ensures.1 c.in_err-turn-in-Some.ensures.code
    (λ here e. parts_as home parts (parts_in (kind_piece c.args.kind.now at done)) here (ap (λ f. parts_in (f done)) (ap (λ k. kind_piece k at) w.is ∙ ap (λ b. kind_piece (kind.While w.prologue w.cond b) at) c.in-Some.is ∙ turns_is at w.prologue w.cond body))
    (second_body home (asks_each p) (parts_of w.prologue) (parts_of body) here (asked_of c.in_ok-test-in-Some.test.test, c.in_ok-test-in-Some.test.item, c.in_ok-test-in-Some.ensures) c.in_ok-before-in-Some.ensures.code e))

pub lower_kind-returns-in-For-clause-code : goal.lower_kind-returns-in-For-clause-code
lower_kind-returns-in-For-clause-code t c =
    let home = homes_of c.args.lowerer.now.homes.now in
    let at = c.args.span in
    let f = c.in-For in
    let i : Counter = record { counter = f.counter; from = f.from; down = f.down; to = f.to; at = at } in
    parts_as home (counts i ∷ (parts_of f.body ++ [])) (parts_in (kind_piece c.args.kind.now at done)) at
    (ap (λ k. parts_in (kind_piece k at done)) f.is ∙ ap (λ g. parts_in (g done)) (for_is at f.counter f.from f.down f.to f.body))
    (first home (counts i) (parts_of f.body ++ []) at (λ h. h) (a_for i))

pub lower_kind-returns-in-Mark-clause-code : goal.lower_kind-returns-in-Mark-clause-code
lower_kind-returns-in-Mark-clause-code t c =
    let at = c.args.span in
    code_as (homes_of c.args.lowerer.now.homes.now) [] (parts_in (kind_piece c.args.kind.now at done))
    (ap (λ k. parts_in (kind_piece k at done)) c.in-Mark.is ∙ ap (λ g. parts_in (g done)) (mark_is at c.in-Mark.field-0)) (no_statement (homes_of c.args.lowerer.now.homes.now))
