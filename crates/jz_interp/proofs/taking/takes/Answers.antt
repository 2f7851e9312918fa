use Rattle.std.proofs.Common.{false, refl, sym, ap, ◌∙◌}
use Rattle.std.specs.Option.{option_copied}
use Rattle.jz_interp.proofs.Arguments.{clash}
use Rattle.jz_interp.proofs.Taken.{taken, takes_all, takes_none}
use Rattle.jz_interp.proofs.taking.takes.Goals as goal

pub returns-in-None : goal.returns-in-None
returns-in-None c = (
  (λ p. clash false refl p),
  (λ t. absurd (takes_none c.args.typed.now.program c.program.result.now c.args.fun c.args.words.now c.program.ensures (sym c.get.ensures.value ∙ ap option_copied c.in-None.is) t)),
)

pub returns-in-Some : goal.returns-in-Some
returns-in-Some c =
    let there = sym c.get.ensures.value ∙ ap option_copied c.in-Some.is in (
      (λ p. taken c.args.typed.now.program c.program.result.now c.args.fun c.args.words.now c.program.ensures c.in-Some.function.now there (c.fit.ensures.0 p)),
      (λ t. c.fit.ensures.1 (takes_all c.args.typed.now.program c.program.result.now c.args.fun c.args.words.now c.program.ensures c.in-Some.function.now there t)),
    )
