use Rattle.std.proofs.Common.{arith}
use Rattle.jz_preconditions.proofs.Tabled.{table_next, repeated_next, table_whole}
use Rattle.jz_preconditions.proofs.table.Table.add_all.Goals as goal

pub loop-one-preserved : goal.loop-one-preserved
loop-one-preserved c =
    let all = c.as_slice-one-items.result.now
    in let i = c.loop-one.one-index
    in let one = c.one-item.result
    in let within = c.loop-one-test.true
    in let is = c.one-item.is
    in let held = c.loop-one.invariant
    in (
      λ ps h. table_next c.loop-one.self _ ps all i one within is c.in_ok-add.ensures (held.0 ps h),
      λ ps h. repeated_next c.loop-one.self ps all i one c.loop-one.first _ _ _ within is (held.0 ps h) c.again.ensures c.earlier_of-first.ensures.is (held.1 ps h),
    )

pub returns-clause-added : goal.returns-clause-added
returns-clause-added c = λ ps h. table_whole c.loop-one.self ps c.as_slice-one-items.result.now c.args.stated.now c.loop-one.one-index (omega arith) c.as_slice-one-items.ensures (c.loop-one.invariant.0 ps h)
