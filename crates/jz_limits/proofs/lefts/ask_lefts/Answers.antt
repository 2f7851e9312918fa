use Rattle.std.proofs.Common.{◌∙◌, ◌+◌, drop, ap, sym, rules}
use Rattle.std.proofs.lemmas.List.{drop_all}
use Rattle.jz_limits.specs.InnerKnown.{numbers_of}
use Rattle.jz_limits.specs.Asked.{left_parts}
use Rattle.jz_limits.specs.InnerLooked.{firsts_of, firsts_beside}
use Rattle.jz_limits.proofs.PartLemmas.{at_here, beside_none, next_left}
use Rattle.jz_limits.proofs.lefts.ask_lefts.Goals as goal

pub loop-left-preserved : goal.loop-left-preserved
loop-left-preserved c =
    let e = numbers_of c.args.numbers.now in
    let f = c.loop-left.firsts in
    let i = c.loop-left.left-index in
    let ds = drop (i + 1) c.args.lefts.now in
    ap (λ g. firsts_beside g (firsts_of (left_parts e ds))) (c.beside-firsts.ensures ∙ ap (firsts_beside f) c.in_ok-ask_left.ensures)
    ∙ (next_left e f c.left-item.result ds
    ∙ (ap (λ l. firsts_beside f (firsts_of (left_parts e l))) (sym (at_here c.args.lefts.now i c.left-item.result (search rules) (search rules)))
    ∙ c.loop-left.invariant))

pub returns : goal.returns
returns c =
    let e = numbers_of c.args.numbers.now in
    let f = c.loop-left.firsts in
    sym (beside_none f)
    ∙ (ap (λ l. firsts_beside f (firsts_of (left_parts e l))) (sym (drop_all c.loop-left.left-index c.args.lefts.now (search rules)))
    ∙ c.loop-left.invariant)
