use Rattle.std.proofs.Common.{rules, sym, ◌∙◌}
use Rattle.jasminc_compile.proofs.Choosing.{first_here, not_here, none_here}
use Rattle.jasminc_compile.proofs.settling.first_at.Goals as goal

pub returns-then-comes_to-clause-found : goal.returns-then-comes_to-clause-found
returns-then-comes_to-clause-found c =
    first_here c.args.stage c.args.outcomes.now c.loop-i.i c.outcome-item.result (search rules) (search rules) c.loop-i.invariant (sym c.comes_to.ensures ∙ c.if-comes_to.true)

pub loop-i-preserved : goal.loop-i-preserved
loop-i-preserved c =
    not_here c.args.stage c.args.outcomes.now c.loop-i.i c.outcome-item.result (search rules) (search rules) c.loop-i.invariant (sym c.comes_to.ensures ∙ c.if-comes_to.false)

pub returns-clause-none : goal.returns-clause-none
returns-clause-none c = λ e. none_here c.args.stage c.args.outcomes.now c.loop-i.i (search rules) c.loop-i.invariant
