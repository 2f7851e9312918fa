use Rattle.std.proofs.Common.{rules, ap, arith}
use Rattle.jz_drawn_heads.specs.Pieces.{keys_of}
use Rattle.jz_drawn_heads.proofs.SetScalars.{block_begun, block_next, block_done, statement_covers, assign_covers, if_covers, while_covers, for_covers, mark_covers, turn_none, turn_some}
use Rattle.jz_drawn_heads.proofs.Measures.{body_weight, weights_at, weight_is, weight_if, weight_while}
use Rattle.jz_drawn_heads.proofs.heads.+setting.Goals as goal

pub scalars_set-statement_sets-requires : goal.scalars_set-statement_sets-requires
scalars_set-statement_sets-requires t c =
    let fits = weights_at c.args.stmts.now c.loop-stmt.stmt-index c.stmt-item.result (search rules) (search rules) in (omega (arith, fits, c.decreases), tt)

pub statement_sets-kind_sets-requires : goal.statement_sets-kind_sets-requires
statement_sets-kind_sets-requires t c = let e = weight_is c.args.stmt.now in (omega (arith, e, c.decreases), tt)

pub kind_sets-scalars_set-requires : goal.kind_sets-scalars_set-requires
kind_sets-scalars_set-requires t c = let e = weight_if c.args.kind.now _ _ _ c.in-If.is in (omega (arith, e, c.decreases), tt)

pub kind_sets-scalars_set-requires-in-If : goal.kind_sets-scalars_set-requires-in-If
kind_sets-scalars_set-requires-in-If t c = let e = weight_if c.args.kind.now _ _ _ c.in-If.is in (omega (arith, e, c.decreases), tt)

pub kind_sets-scalars_set-requires-in-While : goal.kind_sets-scalars_set-requires-in-While
kind_sets-scalars_set-requires-in-While t c = let e = weight_while c.args.kind.now _ _ _ c.in-While.is in (omega (arith, e, c.decreases), tt)

pub kind_sets-turn_sets-requires : goal.kind_sets-turn_sets-requires
kind_sets-turn_sets-requires t c = let e = weight_while c.args.kind.now _ _ _ c.in-While.is in (omega (arith, e, c.decreases), tt)

pub turn_sets-scalars_set-requires : goal.turn_sets-scalars_set-requires
turn_sets-scalars_set-requires t c = let e = ap body_weight c.in-Some.is in (omega (arith, e, c.decreases), tt)

pub scalars_set-loop-stmt-init : goal.scalars_set-loop-stmt-init
scalars_set-loop-stmt-init t c = block_begun c.args.stmts.now (keys_of c.args.vars.now.items)

pub scalars_set-loop-stmt-preserved : goal.scalars_set-loop-stmt-preserved
scalars_set-loop-stmt-preserved t c =
    block_next c.args.stmts.now c.loop-stmt.stmt-index c.stmt-item.result (keys_of c.args.vars.now.items) (keys_of c.loop-stmt.vars.items) (keys_of c.statement_sets.new.vars.items) (search rules) (search rules) c.loop-stmt.invariant
    c.in_ok-statement_sets.ensures

pub scalars_set-returns : goal.scalars_set-returns
scalars_set-returns t c = block_done c.args.stmts.now c.loop-stmt.stmt-index (keys_of c.args.vars.now.items) (keys_of c.loop-stmt.vars.items) (search rules) c.loop-stmt.invariant

pub statement_sets-returns : goal.statement_sets-returns
statement_sets-returns t c = statement_covers c.args.stmt.now _ _ (c.in_ok-kind_sets.ensures c.args.stmt.now.span)

pub kind_sets-returns-in_ok-left_scalars-in-Assign : goal.kind_sets-returns-in_ok-left_scalars-in-Assign
kind_sets-returns-in_ok-left_scalars-in-Assign t c = λ at. assign_covers c.args.kind.now at _ _ _ _ _ _ c.in-Assign.is c.in_ok-left_scalars-in-Assign.ensures

pub kind_sets-returns-in_ok-scalars_set-in-If-2 : goal.kind_sets-returns-in_ok-scalars_set-in-If-2
kind_sets-returns-in_ok-scalars_set-in-If-2 t c = λ at. if_covers c.args.kind.now at _ _ _ _ _ _ c.in-If.is c.in_ok-scalars_set-in-If.ensures c.in_ok-scalars_set-in-If-2.ensures

pub kind_sets-returns-in_ok-turn_sets-in-While : goal.kind_sets-returns-in_ok-turn_sets-in-While
kind_sets-returns-in_ok-turn_sets-in-While t c = λ at. while_covers c.args.kind.now at _ _ _ _ _ _ c.in-While.is c.in_ok-scalars_set-in-While.ensures c.in_ok-turn_sets-in-While.ensures

pub kind_sets-returns-in-For : goal.kind_sets-returns-in-For
kind_sets-returns-in-For t c = λ at. for_covers c.args.kind.now at _ _ _ _ _ _ c.in-For.is

pub kind_sets-returns-in-Mark : goal.kind_sets-returns-in-Mark
kind_sets-returns-in-Mark t c = λ at. mark_covers c.args.kind.now at _ _ c.in-Mark.is

pub turn_sets-returns-in-None : goal.turn_sets-returns-in-None
turn_sets-returns-in-None t c = turn_none c.args.body.now _ c.in-None.is

pub turn_sets-returns-in_ok-scalars_set-in-Some : goal.turn_sets-returns-in_ok-scalars_set-in-Some
turn_sets-returns-in_ok-scalars_set-in-Some t c = turn_some c.args.body.now _ _ _ c.in-Some.is c.in_ok-scalars_set-in-Some.ensures
