use Rattle.std.proofs.Common.{ap, rules, ◌∙◌}
use Rattle.jz_operands.specs.TableHomes.{homes_of, leaks_of}
use Rattle.jz_row_operations.specs.Lowering.{numbers_from}
use Rattle.jz_rows.proofs.RowLemmas.{move_is}
use Rattle.jz_operands.proofs.SumLemmas.{none_or}
use Rattle.jz_rows.proofs.RowRules.{move_source, move_dest}
use Rattle.jz_rows.specs.Found.{IsRow}
use Rattle.jz_rows.proofs.assignments.move_row.Goals as goal

pub returns : goal.returns
returns c =
    move_is (homes_of c.args.target.now.homes.now) c.args.target.now.size c.args.target.now.to.now c.told.result c.told-2.result c.in_ok-from.ensures c.in_ok-to.ensures
    (c.told.ensures ∙ ap (numbers_from (leaks_of c.in_ok-to.to.leaks)) c.count.ensures.is) c.told-2.ensures

pub returns-in_err-from : goal.returns-in_err-from
returns-in_err-from c =
    none_or (IsRow c.args.target.now c.args.value.now) c.from_residual.result (search rules) (move_source c.args.target.now c.args.value.now c.in_err-from.ensures)

pub returns-in_err-to : goal.returns-in_err-to
returns-in_err-to c =
    none_or (IsRow c.args.target.now c.args.value.now) c.from_residual-in_err-to.result (search rules) (move_dest c.args.target.now c.args.value.now c.in_err-to.ensures)
