use Rattle.jz_secrets.proofs.Rows.{rows_begun, rows_pushed}
use Rattle.jz_secrets.proofs.graph.empty_rows.Goals as goal

pub loop-row-init : goal.loop-row-init
loop-row-init c = rows_begun c.new-rows.result.items c.push.new.self.items c.new.result c.new-rows.ensures.items c.in_ok-push.ensures.items c.new.ensures

pub loop-row-preserved : goal.loop-row-preserved
loop-row-preserved c =
    rows_pushed c.loop-row.rows.items c.push-in-loop-row.new.self.items c.new-in-loop-row.result c.loop-row.row c.in_ok-push-2.ensures.items c.new-in-loop-row.ensures c.loop-row.invariant.0 c.loop-row.invariant.1
