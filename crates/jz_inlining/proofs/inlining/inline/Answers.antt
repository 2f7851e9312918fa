use Rattle.std.proofs.Common.{ap, ◌∙◌, subst}
use Rattle.jz_copies.proofs.Starts.{found_at}
use Rattle.jz_inlining.specs.Inlined.{IsInlining, IsInlined}
use Rattle.jz_inlining.proofs.Kept.{keeps}
use Rattle.jz_inlining.proofs.inlining.inline.Goals as goal

pub returns-clause-made : goal.returns-clause-made
returns-clause-made c = record {
  source = c.index-as_slice-fun.result;
  there = found_at c.args.typed.now.program c.as_slice.result.now c.args.fun c.index-as_slice-fun.result c.requires.function (c.as_slice.ensures ∙ ap (λ q. q.funs) c.program-program.ensures) c.index-as_slice-fun.is c.requires.there;
  made = subst (λ q. IsInlining q c.index-as_slice-fun.result c.in_ok-inlined.inlined) c.program-program.ensures c.in_ok-inlined.ensures.made;
}

pub returns-clause-law : goal.returns-clause-law
returns-clause-law c =
    let made : IsInlined c.args.typed.now.program c.args.fun c.in_ok-inlined.inlined = returns-clause-made c in
    keeps c.args.typed.now.program c.args.fun c.in_ok-inlined.inlined made
