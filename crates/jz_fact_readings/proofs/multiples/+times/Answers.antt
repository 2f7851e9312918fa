use Rattle.std.proofs.Common.{◌≡◌, sym, ◌∙◌, subst, arith}
use Rattle.jz_tree.specs.declared.expr.Expr.{size-Expr}
use Rattle.jz_fact_readings.specs.Multiples.{times_of}
use Rattle.jz_fact_readings.proofs.LeftSides.{operands_within}
use Rattle.jz_fact_readings.proofs.Settling.{settled_some, settled_none}
use Rattle.jz_fact_readings.proofs.multiples.+times.Goals as goal

pub times-returns-in-Some : goal.times-returns-in-Some
times-returns-in-Some g t c =
    settled_some (g.K.Knows.given c.args.set.now) (g.K.Knows.facts c.args.set.now) c.loop-rest.rest.now c.in-Bin.op _ _ _ c.get.result.now c.get-in-Bin.result.now (times_of c.args.m) c.settled.result c.in-Bin.is c.get.ensures c.get-in-Bin.ensures c.settled.ensures c.in-Some.answer c.in-Some.is
    ∙ c.loop-rest.invariant.0

pub times-loop-rest-preserved : goal.times-loop-rest-preserved
times-loop-rest-preserved g t c =
    let l = operands_within _ _ _ _ _ _ c.in-Bin.is c.get-rest.ensures in (
      settled_none (g.K.Knows.given c.args.set.now) (g.K.Knows.facts c.args.set.now) c.loop-rest.rest.now c.in-Bin.op _ _ _ c.get.result.now c.get-in-Bin.result.now (times_of c.args.m) c.settled.result c.in-Bin.is c.get.ensures c.get-in-Bin.ensures c.settled.ensures _ c.get-rest.ensures c.in-None.is
          ∙ c.loop-rest.invariant.0,
      omega (arith, l, c.loop-rest.invariant.1),
    )
