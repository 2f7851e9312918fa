use Rattle.std.proofs.Common.{◌<◌, arith, subst}
use Rattle.std.specs.List.{All}
use Rattle.std.proofs.lemmas.List.{take_all}
use Rattle.std.proofs.lemmas.List.Elements.{All-more}
use Rattle.x64_insn.specs.declared.types.Place.TheVariants as place
use Rattle.x64_insn.specs.declared.types.Reg.TheVariants as reg
use Rattle.jz_ir.specs.declared.code.Need.{Need}
use Rattle.jz_ir.proofs.within.needs_below.Goals as goal

-- what stands past the end
abbrev none : Need
none = record { variable = 0; place = place.Reg reg.Rax; span = record { line = 0; col = 0 } }

pub loop-need-preserved : goal.loop-need-preserved
loop-need-preserved c = All-more (λ (need : Need). need.variable < c.args.count) c.args.needs.now c.loop-need.need-index none c.loop-need-test.true c.loop-need.invariant (omega (arith, c.if-need-count.false))

pub returns : goal.returns
returns c = subst (All (λ (need : Need). need.variable < c.args.count)) (take_all c.loop-need.need-index c.args.needs.now (omega (arith, c.loop-need-test.false))) c.loop-need.invariant
