use Rattle.std.proofs.Common.{◌∙◌, ap, map, take, not}
use Rattle.jz_type_names.specs.Order.{unless, earlier, earliest}
use Rattle.jz_type_rows.specs.Copies.{span_of_var}
use Rattle.jz_type_rows.specs.InnerPassing.{passed_of}
use Rattle.jz_type_rows.proofs.TwiceLaws.{seen_at, turn_taken, turn_left}
use Rattle.jz_type_rows.proofs.twice.passed_twice.Goals as goal

pub loop-one-preserved : goal.loop-one-preserved
loop-one-preserved c = (
  seen_at _ _ _ _ (turn_taken c.args.passed.now c.loop-one.one-index c.one-item.result c.loop-one-test.true c.one-item.is)
      (c.in_ok-add.ensures (map passed_of (take c.loop-one.one-index c.args.passed.now)) c.loop-one.invariant.0),
  turn_left c.args.callee.now.written c.args.passed.now c.loop-one.one-index c.one-item.result c.loop-one.first c.earlier_of-first.result _ c.loop-one-test.true c.one-item.is c.loop-one.invariant.1
      (λ rest. c.earlier_of-first.ensures.before rest
      ∙ ap (λ u. earlier c.loop-one.first (earlier u rest)) (c.unless.ensures ∙ ap (λ t. earliest (unless (not t) (span_of_var c.one-item.result.array.now))) (c.is_twice-fine.ensures _ c.loop-one.invariant.0))),
)
