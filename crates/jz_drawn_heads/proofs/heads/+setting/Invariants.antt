use Rattle.std.proofs.Common.{take, ◌+◌, ◌*◌}
use Rattle.jz_meaning.specs.Runs.{block}
use Rattle.jz_drawn_labels.specs.Drew.{no_callees}
use Rattle.jz_drawn_heads.specs.Pieces.{CoversMore, keys_of}
use Rattle.jz_drawn_heads.proofs.Measures.{weight, weight_kind, weights, body_weight}
use Rattle.jz_drawn_heads.proofs.heads.+setting.Given as goal

abbrev pub decreases-scalars_set : goal.decreases-scalars_set
decreases-scalars_set l = 4 * weights l.stmts.now + 2

abbrev pub decreases-statement_sets : goal.decreases-statement_sets
decreases-statement_sets l = 4 * weight l.stmt.now + 1

abbrev pub decreases-kind_sets : goal.decreases-kind_sets
decreases-kind_sets l = 4 * weight_kind l.kind.now

abbrev pub decreases-turn_sets : goal.decreases-turn_sets
decreases-turn_sets l = 4 * body_weight l.body.now + 3

abbrev pub invariant-scalars_set-loop-stmt : goal.invariant-scalars_set-loop-stmt
invariant-scalars_set-loop-stmt l =
    CoversMore (block no_callees (take l.stmt-index l.stmts)) (keys_of l.fn.vars.items) (keys_of l.vars.items)
