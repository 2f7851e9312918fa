use Rattle.std.proofs.Common.{◌≡◌, ◌∙◌, ap, subst, length}
use Rattle.jz_meaning.specs.Runs.{body_of, callees_of}
use Rattle.jz_limits.specs.InnerKnown.{numbers_of}
use Rattle.jz_limits.specs.Values.{no_numbers}
use Rattle.jz_limits.specs.Walks.{Walk, walk}
use Rattle.jz_first_limit.specs.InnerMet.{MeetsSteps, block_walk}
use Rattle.jz_first_limit.specs.InnerWalker.{callees_in}
use Rattle.jz_first_limit.proofs.first.met_in_order.Goals as goal

pub returns : goal.returns
returns c =
    let p = c.args.program.now in
    let f = c.args.fun.now in
    let k = numbers_of c.new-known.result in
    let same : block_walk (callees_in c.in_ok-callable.callable c.len.result) f.body k ≡ walk (body_of p f) no_numbers =
    ap (λ n. block_walk (callees_in c.in_ok-callable.callable n) f.body k) c.len.ensures
    ∙ (ap (λ fs. block_walk (callees_of fs (length fs)) f.body k) c.in_ok-callable.ensures
    ∙ ap (block_walk (callees_of p.funs (length p.funs)) f.body) c.new-known.ensures) in
    subst (λ (w : Walk). MeetsSteps 0 w.steps c.in_ok-met.met) same c.in_ok-met.ensures.0
