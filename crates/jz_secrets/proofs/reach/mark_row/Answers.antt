use Rattle.std.proofs.Common.{rules, refl, ◌∙◌, arith, get_or}
use Rattle.jz_secrets.proofs.Rows.{none_yet, row_next, row_done, row_has}
use Rattle.jz_secrets.proofs.reach.mark_row.Goals as goal

pub loop-next-init : goal.loop-next-init
loop-next-init c = (none_yet c.args.marked.now.items c.args.left.now.items, refl)

pub mark-requires : goal.mark-requires
mark-requires c =
    let xs = c.as_slice-next-items.result.now in
    let h = row_has xs c.args.row.now c.loop-next.next-index c.as_slice-next-items.ensures c.loop-next-test.true in
    let l = c.requires (get_or xs c.loop-next.next-index 0) h in
    let s = c.loop-next.invariant.0.rows in
    omega (arith, l, s)

pub loop-next-preserved : goal.loop-next-preserved
loop-next-preserved c = (
  row_next c.as_slice-next-items.result.now c.args.row.now c.loop-next.next-index c.args.marked.now.items c.loop-next.marked.items c.mark.new.marked.items c.args.left.now.items c.loop-next.left.items c.mark.new.left.items
      c.as_slice-next-items.ensures c.loop-next-test.true c.loop-next.invariant.0 c.in_ok-mark.ensures.marks,
  c.in_ok-mark.ensures.fewer ∙ c.loop-next.invariant.1,
)

pub returns-clause-marks : goal.returns-clause-marks
returns-clause-marks c =
    row_done c.args.row.now c.loop-next.next-index c.args.marked.now.items c.loop-next.marked.items c.args.left.now.items c.loop-next.left.items (search rules) c.loop-next.invariant.0
