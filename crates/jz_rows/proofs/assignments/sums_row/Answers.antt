use Rattle.std.proofs.Common.{rules}
use Rattle.jz_rows.proofs.FoundRows.{sum_finds, carried_finds, uncarried}
use Rattle.jz_rows.proofs.RowRules.{first_no_bin}
use Rattle.jz_rows.proofs.assignments.sums_row.Goals as goal

pub returns-then-is_repeated : goal.returns-then-is_repeated
returns-then-is_repeated c = λ at.
    carried_finds c.args.target.now c.flagged_row.result c.args.op c.in-Bin.inner c.args.first.now c.args.second.now c.in-Bin.left c.in-Bin.right c.get.result.now c.get-then-is_repeated.result.now c.in-Bin.field-3 at c.in-Bin.is (c.is_repeated.ensures.yes c.if-is_repeated.true) c.get.ensures c.get-then-is_repeated.ensures (c.flagged_row.ensures c.in-Bin.field-3 at)

pub returns-else-is_repeated : goal.returns-else-is_repeated
returns-else-is_repeated c = λ at.
    uncarried c.args.target.now c.args.op c.in-Bin.inner c.args.first.now c.args.second.now c.in-Bin.left c.in-Bin.right c.in-Bin.field-3 at c.in-Bin.is (c.is_repeated.ensures.no c.if-is_repeated.false)

pub returns-in_default : goal.returns-in_default
returns-in_default c = λ at.
    sum_finds c.args.target.now c.sum_row.result c.args.op c.args.first.now c.args.second.now at (first_no_bin c.args.target.now c.args.op c.args.first.now c.args.second.now at (search rules)) (c.sum_row.ensures at)
