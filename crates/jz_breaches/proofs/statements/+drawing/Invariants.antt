use Rattle.std.proofs.Common.{take, ◌+◌, ◌*◌}
use Rattle.jz_meaning.specs.Runs.{block}
use Rattle.jz_drawn_labels.specs.Drew.{no_callees, Drew}
use Rattle.jz_drawn_heads.proofs.Measures.{weight, weight_kind, weights, body_weight}
use Rattle.jz_breaches.proofs.statements.+drawing.Given as goal

abbrev pub decreases-draw_kind : goal.decreases-draw_kind
decreases-draw_kind l = 8 * weight_kind l.kind.now

abbrev pub decreases-draw_statement : goal.decreases-draw_statement
decreases-draw_statement l = 8 * weight l.stmt.now + 1

abbrev pub decreases-draw_block : goal.decreases-draw_block
decreases-draw_block l = 8 * weights l.stmts.now + 2

abbrev pub decreases-draw_arm : goal.decreases-draw_arm
decreases-draw_arm l = 8 * weights l.stmts.now + 3

abbrev pub decreases-draw_choice : goal.decreases-draw_choice
decreases-draw_choice l = 8 * (weights l.holds.now + weights l.other.now) + 4

abbrev pub decreases-draw_body : goal.decreases-draw_body
decreases-draw_body l = 8 * body_weight l.body.now + 3

abbrev pub decreases-draw_turn : goal.decreases-draw_turn
decreases-draw_turn l = 8 * body_weight l.body.now + 4

abbrev pub decreases-draw_loop : goal.decreases-draw_loop
decreases-draw_loop l = 8 * (weights l.prologue.now + body_weight l.body.now) + 5

abbrev pub invariant-draw_block-loop-stmt : goal.invariant-draw_block-loop-stmt
invariant-draw_block-loop-stmt l = Drew (block no_callees (take l.stmt-index l.stmts)) l.fn.drawing l.drawing
