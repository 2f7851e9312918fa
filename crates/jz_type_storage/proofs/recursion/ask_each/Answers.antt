use Rattle.std.proofs.Common.{rules, arith, sym, subst, ap, ◌∙◌, ◌<◌, ◌≡◌, ◌+◌, ◌++◌, ◌∷◌, [], length, None}
use Rattle.std.proofs.lemmas.List.{length-map}
use Rattle.jz_type_storage.specs.declared.recursion.Ranking.TheVariants.{Ranked}
use Rattle.jz_type_storage.specs.InnerNumbers.{IsClosed, numbers_called, graph_of}
use Rattle.jz_type_storage.specs.Recursion.{Tells}
use Rattle.jz_type_storage.proofs.Bridge.{closed}
use Rattle.jz_type_storage.proofs.Each.{Each, each_begins, each_more}
use Rattle.jz_type_storage.proofs.Ranked.{each_ranked, each_recursive}
use Rattle.jz_type_storage.proofs.recursion.ask_each.Goals as goal

pub loop-i-init : goal.loop-i-init
loop-i-init c =
    let g = c.args.graph.now in
    let fs = c.as_slice-fun-items.result.now in
    subst (Each g fs 0 None) (sym c.new-ranks.ensures.items) (each_begins g fs)

pub reach-requires-clause-closed : goal.reach-requires-clause-closed
reach-requires-clause-closed c = subst IsClosed (sym c.requires) (closed c.args.program.now.funs)

pub reach-requires-clause-within : goal.reach-requires-clause-within
reach-requires-clause-within c =
    let fs = c.args.program.now.funs in
    let lt : c.loop-i.i < length c.as_slice-fun-items.result.now = c.loop-i-test.true in
    let e : length c.as_slice-fun-items.result.now ≡ length fs = ap length c.as_slice-fun-items.ensures in
    let m : length c.args.graph.now ≡ length (graph_of fs) = ap length c.requires in
    omega (arith, lt, e, m, length-map fs (numbers_called fs))

pub loop-i-preserved : goal.loop-i-preserved
loop-i-preserved c =
    let g = c.args.graph.now in
    let fs = c.as_slice-fun-items.result.now in
    let order = c.in_ok-found.found.order.items in
    let inside : c.loop-i.i < length g =
    let gs = c.args.program.now.funs in
    let lt : c.loop-i.i < length fs = c.loop-i-test.true in
    let e : length fs ≡ length gs = ap length c.as_slice-fun-items.ensures in
    let m : length g ≡ length (graph_of gs) = ap length c.requires in
    omega (arith, lt, e, m, length-map gs (numbers_called gs)) in
    let count : c.len.result ≡ length order = search rules in
    let pushed : c.push.new.self.items ≡ c.loop-i.ranks.items ++ length order ∷ [] = c.in_ok-push.ensures.items ∙ ap (λ n. c.loop-i.ranks.items ++ n ∷ []) count in
    subst (Each g fs (c.loop-i.i + 1) c.earlier_of-first.result) (sym pushed)
    (each_more g fs c.loop-i.i c.fun-item.result c.loop-i.first c.unless.result c.earlier_of-first.result c.loop-i.ranks.items c.in_ok-found.found.marks.items order c.index-again.result.now
    c.loop-i-test.true inside c.fun-item.is c.loop-i.invariant c.in_ok-found.ensures c.index-again.ensures c.unless.ensures c.earlier_of-first.ensures.is)

pub returns-in-None : goal.returns-in-None
returns-in-None c =
    let p = c.args.program.now in
    subst (λ ns. Tells p (Ranked ns)) (sym c.from_vec.ensures)
    (each_ranked p c.args.graph.now c.as_slice-fun-items.result.now c.loop-i.i c.loop-i.first c.loop-i.ranks.items c.requires c.as_slice-fun-items.ensures (omega arith) c.loop-i.invariant c.in-None.is)

pub returns-in-Some : goal.returns-in-Some
returns-in-Some c =
    each_recursive c.args.program.now c.args.graph.now c.as_slice-fun-items.result.now c.loop-i.i c.loop-i.first c.loop-i.ranks.items c.requires c.as_slice-fun-items.ensures (omega arith)
    c.loop-i.invariant c.in-Some.at c.in-Some.is
