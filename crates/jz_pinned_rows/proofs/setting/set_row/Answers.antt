use Rattle.std.proofs.Common.{rules}
use Rattle.jz_operands.specs.TableHomes.{homes_of}
use Rattle.jz_operands.proofs.SumLemmas.{none_or}
use Rattle.jz_pinned_rows.specs.InnerRows.{IsPinnedSet}
use Rattle.jz_pinned_rows.proofs.PartLemmas.{clash}
use Rattle.jz_pinned_rows.proofs.SetLemmas.{no_set_size, no_set_row, no_set_code}
use Rattle.jz_pinned_rows.proofs.setting.set_row.Goals as goal

pub returns-in_err-size : goal.returns-in_err-size
returns-in_err-size c = none_or (IsPinnedSet (homes_of c.args.homes.now) c.args.left c.args.to.now c.args.value.now) c.from_residual.result (search rules) (no_set_size (homes_of c.args.homes.now) c.args.left c.args.to.now c.args.value.now (search rules))

pub returns-in_err-row : goal.returns-in_err-row
returns-in_err-row c = none_or (IsPinnedSet (homes_of c.args.homes.now) c.args.left c.args.to.now c.args.value.now) c.from_residual-in_err-row.result (search rules) (no_set_row (homes_of c.args.homes.now) c.args.left c.args.to.now c.args.value.now c.in_ok-size.size (search rules) c.in_err-row.ensures)

pub returns-else-can_encode_all : goal.returns-else-can_encode_all
returns-else-can_encode_all c =
    no_set_code (homes_of c.args.homes.now) c.args.left c.args.to.now c.args.value.now c.in_ok-size.size c.in_ok-row.row (search rules) c.in_ok-row.ensures (λ can. clash c.can_encode_all.result c.if-can_encode_all.false (c.can_encode_all.ensures.1 can))
