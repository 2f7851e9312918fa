use Rattle.std.proofs.Common.{rules, arith, length}
use Rattle.jz_type_storage.proofs.Spread.{spread_step, spread_first, spread_found, at_within, has_callee}
use Rattle.jz_type_storage.proofs.reaching.reach.Goals as goal

pub visit_all-requires-clause-within : goal.visit_all-requires-clause-within
visit_all-requires-clause-within c = λ j h.
    has_callee c.args.graph.now c.args.start j (length c.in_ok-vec.field-0.items) c.calls_of.result.now c.requires.closed c.calls_of.ensures (search rules) h

pub loop-head-init : goal.loop-head-init
loop-head-init c =
    spread_first c.args.graph.now c.args.start c.in_ok-vec.field-0.items c.new.result.items c.calls_of.result.now _ _ (search rules) c.new.ensures.items c.calls_of.ensures c.in_ok-visit_all.ensures

pub calls_of-requires-in-loop-head : goal.calls_of-requires-in-loop-head
calls_of-requires-in-loop-head c =
    at_within c.args.graph.now c.args.start c.loop-head.found.marks.items c.loop-head.found.order.items c.loop-head.head c.index-at.result.now c.loop-head.invariant (omega arith) c.index-at.ensures

pub visit_all-requires-in-loop-head-clause-within :
    goal.visit_all-requires-in-loop-head-clause-within
visit_all-requires-in-loop-head-clause-within c = λ j h.
    has_callee c.args.graph.now c.index-at.result.now j (length c.loop-head.found.marks.items) c.calls_of-in-loop-head.result.now c.requires.closed c.calls_of-in-loop-head.ensures c.loop-head.invariant.same h

pub loop-head-preserved : goal.loop-head-preserved
loop-head-preserved c =
    spread_step c.args.graph.now c.args.start c.loop-head.found.marks.items c.loop-head.found.order.items c.loop-head.head c.index-at.result.now _ _ c.calls_of-in-loop-head.result.now
    c.loop-head.invariant (omega arith) c.index-at.ensures c.calls_of-in-loop-head.ensures c.in_ok-visit_all-2.ensures

pub returns : goal.returns
returns c =
    spread_found c.args.graph.now c.args.start c.loop-head.found.marks.items c.loop-head.found.order.items c.loop-head.head c.loop-head.invariant (omega arith)
