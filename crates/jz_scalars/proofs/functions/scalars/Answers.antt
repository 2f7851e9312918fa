use Rattle.std.proofs.Common.{◌∙◌, ap}
use Rattle.jz_tree.specs.declared.program.Fun.{Fun}
use Rattle.jz_change.specs.Views.{steps_of}
use Rattle.jz_change.proofs.StepViews.{change_is}
use Rattle.jz_inline.specs.Statements.{all_steps}
use Rattle.jz_scalars.specs.declared.made.Made.{Made}
use Rattle.jz_scalars.proofs.Keeping.{keeps_runs, keeps_cases}
use Rattle.jz_scalars.proofs.functions.scalars.Goals as goal

pub returns-clause-made : goal.returns-clause-made
returns-clause-made c =
    let f : Fun = c.args.fun.now in
    record {
      function = c.in_ok-program.ensures ∙ ap (λ (m : Made). record f { body = m.stmts }) c.in_ok-made.ensures;
      change = change_is (all_steps c.in_ok-made.made.steps) ∙ ap (λ (m : Made). steps_of m.steps) c.in_ok-made.ensures;
    }

pub returns-clause-law : goal.returns-clause-law
returns-clause-law c = keeps_runs c.args.fun.now c.in_ok-program.program _ (returns-clause-made c)

pub returns-clause-cases : goal.returns-clause-cases
returns-clause-cases c = keeps_cases c.args.fun.now c.in_ok-program.program _ (returns-clause-made c)
