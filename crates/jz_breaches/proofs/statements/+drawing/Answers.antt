use Rattle.std.proofs.Common.{rules, refl, ap, subst, take, List, arith}
use Rattle.std.specs.Prelude.{not, is_some}
use Rattle.jz_runs.specs.Trees.{quiet, each}
use Rattle.jz_meaning.specs.Runs.{block}
use Rattle.jz_terms.specs.Terms.{term_of}
use Rattle.jz_required.specs.Readings.{test_demands}
use Rattle.jz_drawing.proofs.Pieces.{mark_drawn, each_drawn}
use Rattle.jz_drawn_labels.specs.Kept.{view_of}
use Rattle.jz_drawn_labels.specs.Drew.{no_callees}
use Rattle.jz_drawn_labels.proofs.Operated.{nothing_drew}
use Rattle.jz_drawn_heads.specs.declared.heads.Head.{Head}
use Rattle.jz_drawn_heads.specs.declared.heads.Target.{Target}
use Rattle.jz_drawn_heads.specs.Pieces.{kind_piece, turn_piece, keys_of, HasHeads}
use Rattle.jz_breaches.specs.InnerLoops.{TurnDrawn}
use Rattle.jz_drawn_heads.proofs.Measures.{body_weight, weights_at, weight_is, weight_if, weight_while}
use Rattle.jz_drawn_heads.proofs.Forms.{assign_is, if_is, while_is, for_is, mark_is}
use Rattle.jz_breaches.proofs.Blocks.{drew_drawn, drew_as, block_begun, block_next, block_done, statement_drew, body_none, body_some}
use Rattle.jz_breaches.proofs.Overlays.{opened_drawn, over_it, arm_is, turn_is}
use Rattle.jz_breaches.proofs.Choices.{tested_drawn, arm_drawn, second_drawn, first_ended, second_ended, choice_drew}
use Rattle.jz_breaches.proofs.Loops.{heads_drawn, turn_begun, floor_at, loop_drew}
use Rattle.jz_breaches.proofs.statements.+drawing.Goals as goal

-- ---- statements in their order

pub draw_block-draw_statement-requires : goal.draw_block-draw_statement-requires
draw_block-draw_statement-requires t c =
    let fits = weights_at c.args.stmts.now c.loop-stmt.stmt-index c.stmt-item.result (search rules) (search rules) in
    (omega (arith, fits, c.decreases), drew_drawn (block no_callees (take c.loop-stmt.stmt-index c.args.stmts.now)) c.args.drawing.now c.loop-stmt.drawing c.requires c.loop-stmt.invariant)

pub draw_block-loop-stmt-init : goal.draw_block-loop-stmt-init
draw_block-loop-stmt-init t c = block_begun c.args.stmts.now c.args.drawing.now c.requires

pub draw_block-loop-stmt-preserved : goal.draw_block-loop-stmt-preserved
draw_block-loop-stmt-preserved t c =
    block_next c.args.stmts.now c.loop-stmt.stmt-index c.stmt-item.result c.args.drawing.now c.loop-stmt.drawing c.draw_statement.new.drawing (search rules) (search rules) c.loop-stmt.invariant c.in_ok-draw_statement.ensures

pub draw_block-returns : goal.draw_block-returns
draw_block-returns t c = block_done c.args.stmts.now c.loop-stmt.stmt-index c.args.drawing.now c.loop-stmt.drawing (search rules) c.loop-stmt.invariant

pub draw_statement-draw_kind-requires : goal.draw_statement-draw_kind-requires
draw_statement-draw_kind-requires t c = let e = weight_is c.args.stmt.now in (omega (arith, e, c.decreases), c.requires)

pub draw_statement-returns : goal.draw_statement-returns
draw_statement-returns t c = statement_drew c.args.stmt.now c.args.drawing.now c.draw_kind.new.drawing (c.in_ok-draw_kind.ensures c.args.stmt.now.span)

-- ---- an arm, and two

pub draw_arm-draw_block-requires : goal.draw_arm-draw_block-requires
draw_arm-draw_block-requires t c =
    (omega (arith, c.decreases), opened_drawn c.args.drawing.now _ c.args.drawing.now c.in_ok-open.ensures.below c.in_ok-open.ensures.seen refl refl c.requires)

pub draw_arm-end_arm-arm-requires : goal.draw_arm-end_arm-arm-requires
draw_arm-end_arm-arm-requires t c =
    over_it c.args.drawing.now _ c.draw_block.new.drawing c.in_ok-open.ensures.below c.in_ok-open.ensures.seen refl refl (block no_callees c.args.stmts.now) c.in_ok-draw_block.ensures

pub draw_arm-returns : goal.draw_arm-returns
draw_arm-returns t c =
    arm_is c.args.drawing.now _ c.draw_block.new.drawing c.in_ok-open.ensures.below c.in_ok-open.ensures.seen refl refl c.args.stmts.now c.in_ok-draw_block.ensures c.end_arm-arm.result _ c.end_arm-arm.ensures.layer c.end_arm-arm.ensures.floor
    c.end_arm-arm.ensures.closes c.end_arm-arm.ensures.back refl

pub draw_choice-draw_arm-requires : goal.draw_choice-draw_arm-requires
draw_choice-draw_arm-requires t c =
    let e = c.in_ok-draw_test.ensures in
    (omega (arith, c.decreases), tested_drawn (test_demands (term_of c.args.cond.now)) c.args.drawing.now c.draw_test.new.drawing e.table e.view c.requires)

pub draw_choice-draw_arm-requires-2 : goal.draw_choice-draw_arm-requires-2
draw_choice-draw_arm-requires-2 t c =
    let e = c.in_ok-draw_test.ensures in
    let b = tested_drawn (test_demands (term_of c.args.cond.now)) c.args.drawing.now c.draw_test.new.drawing e.table e.view c.requires in
    (omega (arith, c.decreases), arm_drawn c.args.holds.now c.draw_test.new.drawing c.in_ok-first.first c.draw_arm.new.drawing b c.in_ok-first.ensures)

pub draw_choice-meet-requires-clause-drawn : goal.draw_choice-meet-requires-clause-drawn
draw_choice-meet-requires-clause-drawn t c =
    let e = c.in_ok-draw_test.ensures in
    second_drawn c.args.cond.now c.args.holds.now c.args.other.now c.args.drawing.now c.draw_test.new.drawing c.draw_arm.new.drawing c.draw_arm-2.new.drawing c.in_ok-first.first c.in_ok-second.second c.requires e.table e.view c.in_ok-first.ensures
    c.in_ok-second.ensures

pub draw_choice-meet-requires-clause-first : goal.draw_choice-meet-requires-clause-first
draw_choice-meet-requires-clause-first t c =
    let e = c.in_ok-draw_test.ensures in
    first_ended c.args.cond.now c.args.holds.now c.args.other.now c.args.drawing.now c.draw_test.new.drawing c.draw_arm.new.drawing c.draw_arm-2.new.drawing c.in_ok-first.first c.in_ok-second.second c.requires e.table e.view c.in_ok-first.ensures
    c.in_ok-second.ensures

pub draw_choice-meet-requires-clause-second : goal.draw_choice-meet-requires-clause-second
draw_choice-meet-requires-clause-second t c =
    let e = c.in_ok-draw_test.ensures in
    second_ended c.args.cond.now c.args.holds.now c.args.other.now c.args.drawing.now c.draw_test.new.drawing c.draw_arm.new.drawing c.draw_arm-2.new.drawing c.in_ok-first.first c.in_ok-second.second c.requires e.table e.view c.in_ok-first.ensures
    c.in_ok-second.ensures

pub draw_choice-returns : goal.draw_choice-returns
draw_choice-returns t c = λ at.
    let e = c.in_ok-draw_test.ensures in
    choice_drew c.args.cond.now c.args.holds.now c.args.other.now c.args.drawing.now c.draw_test.new.drawing c.draw_arm.new.drawing c.draw_arm-2.new.drawing c.in_ok-first.first c.in_ok-second.second c.requires e.table e.view c.in_ok-first.ensures
    c.in_ok-second.ensures c.meet.new.drawing c.in_ok-meet.ensures at

-- ---- a loop

pub draw_body-draw_block-requires : goal.draw_body-draw_block-requires
draw_body-draw_block-requires t c = let e = ap body_weight c.in-Some.is in (omega (arith, e, c.decreases), c.requires)

pub draw_body-returns-in-None : goal.draw_body-returns-in-None
draw_body-returns-in-None t c = body_none c.args.body.now c.args.drawing.now c.in-None.is c.requires

pub draw_body-returns-in_ok-draw_block-in-Some : goal.draw_body-returns-in_ok-draw_block-in-Some
draw_body-returns-in_ok-draw_block-in-Some t c = body_some c.args.body.now _ c.args.drawing.now c.draw_block.new.drawing c.in-Some.is c.in_ok-draw_block-in-Some.ensures

pub draw_turn-draw_body-requires : goal.draw_turn-draw_body-requires
draw_turn-draw_body-requires t c =
    (omega (arith, c.decreases), opened_drawn c.args.drawing.now _ c.args.drawing.now c.in_ok-open.ensures.below c.in_ok-open.ensures.seen refl refl c.requires)

pub draw_turn-end_arm-requires : goal.draw_turn-end_arm-requires
draw_turn-end_arm-requires t c =
    over_it c.args.drawing.now _ c.draw_body.new.drawing c.in_ok-open.ensures.below c.in_ok-open.ensures.seen refl refl (turn_piece c.args.body.now) c.in_ok-draw_body.ensures

pub draw_turn-returns : goal.draw_turn-returns
draw_turn-returns t c =
    turn_is c.args.drawing.now _ c.draw_body.new.drawing c.in_ok-open.ensures.below c.in_ok-open.ensures.seen refl refl c.args.body.now c.in_ok-draw_body.ensures c.args.heads.now _ c.end_arm.ensures.closes c.end_arm.ensures.back c.in_ok-come_back.ensures
    refl

pub draw_loop-split-requires : goal.draw_loop-split-requires
draw_loop-split-requires t c = c.requires

pub draw_loop-draw_block-requires : goal.draw_loop-draw_block-requires
draw_loop-draw_block-requires t c = (omega (arith, c.decreases), heads_drawn _ c.in_ok-heads.heads.items c.args.drawing.now c.split.new.drawing c.requires c.in_ok-heads.ensures)

pub draw_loop-draw_turn-requires : goal.draw_loop-draw_turn-requires
draw_loop-draw_turn-requires t c =
    let e = c.in_ok-draw_test.ensures in (
      omega (arith, c.decreases),
      turn_begun _ c.in_ok-heads.heads.items c.args.drawing.now c.split.new.drawing c.requires c.in_ok-heads.ensures c.args.prologue.now c.args.cond.now c.args.body.now c.draw_block.new.drawing c.draw_test.new.drawing c.draw_test.new.drawing
          c.in_ok-draw_block.ensures e.table e.view,
    )

pub draw_loop-returns : goal.draw_loop-returns
draw_loop-returns t c = λ bare at.
    let e = c.in_ok-draw_test.ensures in
    let d = c.args.drawing.now in
    let hs = c.in_ok-heads.heads.items in
    let heads : HasHeads (keys_of c.in_ok-vars.vars.items) d c.split.new.drawing hs =
    subst (λ (ts : List Target). HasHeads (keys_of ts) d c.split.new.drawing hs) c.as_slice.ensures.value c.in_ok-heads.ensures in
    let turn : TurnDrawn c.args.body.now hs c.draw_test.new.drawing c.draw_turn.new.drawing =
    subst (λ (xs : List Head). TurnDrawn c.args.body.now xs c.draw_test.new.drawing c.draw_turn.new.drawing) c.as_slice-2.ensures.value c.in_ok-draw_turn.ensures in
    loop_drew (keys_of c.in_ok-vars.vars.items) hs d c.split.new.drawing c.requires heads c.args.prologue.now c.args.cond.now c.args.body.now c.draw_block.new.drawing c.draw_test.new.drawing c.draw_turn.new.drawing c.in_ok-draw_block.ensures e.table e.view turn
    c.in_ok-vars.ensures.prologue c.in_ok-vars.ensures.body c.floor_behind-drawing.result (floor_at c.args.cond.now c.draw_turn.new.drawing c.floor_behind-drawing.result c.next-next.result c.next-next.ensures c.floor_behind-drawing.ensures) bare at

-- ---- a statement of each form

pub draw_kind-draw_choice-requires : goal.draw_kind-draw_choice-requires
draw_kind-draw_choice-requires t c = let e = weight_if c.args.kind.now _ _ _ c.in-If.is in (omega (arith, e, c.decreases), c.requires)

pub draw_kind-draw_loop-requires : goal.draw_kind-draw_loop-requires
draw_kind-draw_loop-requires t c = let e = weight_while c.args.kind.now _ _ _ c.in-While.is in (omega (arith, e, c.decreases), c.requires)

pub draw_kind-returns-in_ok-draw_assign-in-Assign : goal.draw_kind-returns-in_ok-draw_assign-in-Assign
draw_kind-returns-in_ok-draw_assign-in-Assign t c = λ at.
    drew_as (kind_piece c.args.kind.now at) _ c.args.drawing.now c.draw_assign.new.drawing (assign_is c.args.kind.now at _ _ _ _ c.in-Assign.is) (c.in_ok-draw_assign-in-Assign.ensures at)

pub draw_kind-returns-in_ok-draw_choice-in-If : goal.draw_kind-returns-in_ok-draw_choice-in-If
draw_kind-returns-in_ok-draw_choice-in-If t c = λ at.
    drew_as (kind_piece c.args.kind.now at) _ c.args.drawing.now c.draw_choice.new.drawing (if_is c.args.kind.now at _ _ _ c.in-If.is) (c.in_ok-draw_choice-in-If.ensures at)

pub draw_kind-returns-in_ok-draw_loop-in-While : goal.draw_kind-returns-in_ok-draw_loop-in-While
draw_kind-returns-in_ok-draw_loop-in-While t c = λ at.
    drew_as (kind_piece c.args.kind.now at) _ c.args.drawing.now c.draw_loop.new.drawing (while_is c.args.kind.now at _ _ _ c.in-While.is) (c.in_ok-draw_loop-in-While.ensures (not (is_some c.in-While.body)) at)

pub draw_kind-returns-in-For : goal.draw_kind-returns-in-For
draw_kind-returns-in-For t c = λ at.
    let d = c.args.drawing.now in
    drew_as (kind_piece c.args.kind.now at) _ d d (for_is c.args.kind.now at _ _ _ _ _ c.in-For.is) (nothing_drew (each _ _) d c.requires (each_drawn _ _ (view_of d)))

pub draw_kind-returns-in-Mark : goal.draw_kind-returns-in-Mark
draw_kind-returns-in-Mark t c = λ at.
    let d = c.args.drawing.now in
    drew_as (kind_piece c.args.kind.now at) _ d d (mark_is c.args.kind.now at _ c.in-Mark.is) (nothing_drew (quiet _) d c.requires (mark_drawn _ (view_of d)))
