use Rattle.std.proofs.Common.{get_or, refl}
use Rattle.jz_type_storage.proofs.Steep.{item_at, row_steep, candidate_more}
use Rattle.jz_type_storage.proofs.fall.first_level.Goals as goal

pub loop-i-preserved : goal.loop-i-preserved
loop-i-preserved c =
    let g = c.args.graph.now in
    let fs = c.args.funs.now in
    let ranks = c.args.ranks.now in
    let i = c.loop-i.i in
    let f = c.fun-item.result in
    candidate_more g fs ranks i f c.calls_below-falls.result c.loop-i.first c.with_next-first.result (record { number = i; name = f.span })
    (item_at fs c.as_slice-fun-items.result.now i f c.as_slice-fun-items.ensures c.loop-i-test.true c.fun-item.is) c.loop-i.invariant
    (λ t. row_steep g ranks c.calls_of.result.now i (get_or ranks i 0) c.calls_of.ensures refl (c.calls_below-falls.ensures t)) refl refl
    c.with_next-first.ensures.one c.with_next-first.ensures.first c.with_next-first.ensures.next
