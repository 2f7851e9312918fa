use Rattle.std.proofs.Common.{◌∙◌, ap, subst}
use Rattle.jz_tree.specs.declared.program.Fun.{Fun}
use Rattle.jz_first_limit.proofs.Starts.{found_at}
use Rattle.jz_first_limit.specs.declared.met.Met.TheVariants.{Within, Passed}
use Rattle.jz_first_limit.specs.FirstLimits.{IsMet}
use Rattle.jz_expansion.proofs.expanding.ask_limits.Goals as goal

pub returns-in-Within-clause-counted : goal.returns-in-Within-clause-counted
returns-in-Within-clause-counted c =
    let f : Fun = c.index-as_slice-fun.result in
    let met = subst (λ q. IsMet q f (Within c.in-Within.count)) c.program-program.ensures (subst (IsMet c.program-program.result.now f) c.in-Within.is c.in_ok-met.ensures) in (
      f,
      found_at c.args.typed.now.program c.as_slice.result.now c.args.fun f c.requires.function (c.as_slice.ensures ∙ ap (λ q. q.funs) c.program-program.ensures) c.index-as_slice-fun.is c.requires.there,
      met.0,
      met.1,
    )

pub returns-in-Passed-clause-refused : goal.returns-in-Passed-clause-refused
returns-in-Passed-clause-refused c =
    let f : Fun = c.index-as_slice-fun.result in (
      f,
      found_at c.args.typed.now.program c.as_slice.result.now c.args.fun f c.requires.function (c.as_slice.ensures ∙ ap (λ q. q.funs) c.program-program.ensures) c.index-as_slice-fun.is c.requires.there,
      subst (λ q. IsMet q f (Passed c.in-Passed.limit)) c.program-program.ensures (subst (IsMet c.program-program.result.now f) c.in-Passed.is c.in_ok-met.ensures),
    )
