use Rattle.std.proofs.Common.{sym, subst, arith}
use Rattle.std.specs.List.{All}
use Rattle.std.proofs.lemmas.List.{take_all}
use Rattle.std.proofs.lemmas.List.Elements.{All-get_or, All-more}
use Rattle.jz_ir.specs.Places.{Below}
use Rattle.jz_ir.proofs.within.are_below.Goals as goal

pub returns-then-not-is_below : goal.returns-then-not-is_below
returns-then-not-is_below c = λ a. c.if-not-is_below.ensures (subst (Below c.args.count) (sym c.op-item.is) (All-get_or (Below c.args.count) c.args.ops.now c.loop-op.op-index c.op-item.result c.loop-op-test.true a))

pub loop-op-preserved : goal.loop-op-preserved
loop-op-preserved c = All-more (Below c.args.count) c.args.ops.now c.loop-op.op-index c.op-item.result c.loop-op-test.true c.loop-op.invariant (subst (Below c.args.count) c.op-item.is c.if-not-is_below.ensures)

pub returns : goal.returns
returns c = subst (All (Below c.args.count)) (take_all c.loop-op.op-index c.args.ops.now (omega (arith, c.loop-op-test.false))) c.loop-op.invariant
