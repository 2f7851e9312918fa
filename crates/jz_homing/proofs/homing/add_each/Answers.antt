use Rattle.std.proofs.Common.{rules, ◌≤◌, ◌<◌, ◌+◌, length}
use Rattle.jz_homing.specs.Tables.{table_in}
use Rattle.jz_homing.specs.Refusals.{most}
use Rattle.jz_homing.proofs.HandedOn.{handed_cause}
use Rattle.jz_homing.proofs.HomelessLemmas.{At, too_many}
use Rattle.jz_homing.proofs.homing.add_each.Goals as goal

pub returns-in_err-add_word-clause-refused : goal.returns-in_err-add_word-clause-refused
returns-in_err-add_word-clause-refused c =
    let x = c.args.var.now in
    handed_cause (At x (most ≤ length c.loop-cell.table.kinds)) (At x (most < length c.args.table.now.kinds + c.args.count)) c.from_residual.result c.in_err-add_word.field-0.0 c.from_residual.ensures.1 c.in_err-add_word.ensures.refused
    (λ s h. (h.0, too_many x most (table_in c.args.table.now) (table_in c.loop-cell.table) c.args.size c.loop-cell.cell c.args.count c.loop-cell.invariant (search rules) h.1))
