use Rattle.std.proofs.Common.{[], ◌∷◌, ◌∙◌, length, ap, arith, length-append}
use Rattle.jz_change.specs.declared.change.Number.TheVariants.{Nth}
use Rattle.jz_inlining.proofs.Pushed.{one_more}
use Rattle.jz_inlining.proofs.numbers.push_numbers.Goals as goal

pub loop-preserved : goal.loop-preserved
loop-preserved c =
    let e = ap length c.in_ok-push.ensures.items in
    let l = length-append c.loop.all.items (Nth c.len.result ∷ []) in
    let n = c.loop.invariant.0 in (
      omega (arith, e, l, n),
      one_more c.args.out.now c.loop.out c.push-in-loop.new.self (length c.args.all.now.items) c.loop.counter c.len.result c.loop.invariant.1 (c.len.ensures ∙ c.loop.all.ok.0 ∙ c.loop.invariant.0) c.in_ok-push-2.ensures.ok,
    )
