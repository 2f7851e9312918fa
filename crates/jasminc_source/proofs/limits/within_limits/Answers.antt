use Rattle.std.proofs.Common.{◌∙◌, arith, ap, length, get_or, rules}
use Rattle.jasminc_source.proofs.Limiting.{one_more, limit_here, all_within}
use Rattle.jasminc_source.proofs.limits.within_limits.Goals as goal

pub returns-in-Some-clause-refused : goal.returns-in-Some-clause-refused
returns-in-Some-clause-refused c =
    let p = c.args.program.now in
    let same = c.as_slice-fun-items.ensures in
    let f = c.fun-item.result in
    limit_here p c.loop-fun.fun-index f (omega (arith, ap length same)) (c.fun-item.is ∙ ap (λ xs. get_or xs c.loop-fun.fun-index f) same) c.loop-fun.invariant
    c.in_ok-fun-in-Some.fun c.in-Some.limit (search rules) (search rules)

pub loop-fun-preserved : goal.loop-fun-preserved
loop-fun-preserved c =
    let p = c.args.program.now in
    let same = c.as_slice-fun-items.ensures in
    let f = c.fun-item.result in
    one_more p c.loop-fun.fun-index f (omega (arith, ap length same)) (c.fun-item.is ∙ ap (λ xs. get_or xs c.loop-fun.fun-index f) same) c.loop-fun.invariant
    (search rules)

pub returns-clause-within : goal.returns-clause-within
returns-clause-within c =
    let p = c.args.program.now in
    all_within p c.loop-fun.fun-index (search rules) c.loop-fun.invariant
