use Rattle.std.proofs.Common.{◌<◌, arith, subst}
use Rattle.std.specs.List.{All}
use Rattle.std.proofs.lemmas.List.{take_all}
use Rattle.std.proofs.lemmas.List.Elements.{All-more}
use Rattle.jz_ir.proofs.within.variables_below.Goals as goal

pub loop-variable-preserved : goal.loop-variable-preserved
loop-variable-preserved c = All-more (λ v. v < c.args.count) c.args.variables.now c.loop-variable.variable-index 0 c.loop-variable-test.true c.loop-variable.invariant (omega (arith, c.if-variable-count.false))

pub returns : goal.returns
returns c = subst (All (λ v. v < c.args.count)) (take_all c.loop-variable.variable-index c.args.variables.now (omega (arith, c.loop-variable-test.false))) c.loop-variable.invariant
