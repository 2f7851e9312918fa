use Rattle.std.proofs.Common.{rules}
use Rattle.jz_operands.specs.TableHomes.{homes_of}
use Rattle.jz_operands.proofs.SumLemmas.{none_or}
use Rattle.jz_pinned_rows.specs.declared.row.PinnedRow.{PinnedRow}
use Rattle.jz_pinned_rows.specs.Rows.{actions_of, items_of}
use Rattle.jz_pinned_rows.specs.InnerRows.{HasCarry}
use Rattle.jz_pinned_rows.proofs.PairLemmas.{no_carry_flag, no_carried_row, carry_is}
use Rattle.jz_pinned_rows.proofs.pairs.carried_row.Goals as goal

pub returns : goal.returns
returns c = carry_is (homes_of c.args.homes.now) c.args.size c.args.flag.now c.args.to.now c.args.value.now c.in_ok-carry.carry c.in_ok-row.row c.acts_in.result c.carry_flag.result c.in_ok-carry.ensures c.in_ok-row.ensures c.acts_in.ensures.actions c.acts_in.ensures.items c.carry_flag.ensures

pub returns-in_err-carry : goal.returns-in_err-carry
returns-in_err-carry c = none_or {A = PinnedRow} (λ r. HasCarry (homes_of c.args.homes.now) c.args.size c.args.flag.now c.args.to.now c.args.value.now r.flags (actions_of r.acts) (items_of r.acts)) c.from_residual.result (search rules) (no_carry_flag (homes_of c.args.homes.now) c.args.size c.args.flag.now c.args.to.now c.args.value.now c.in_err-carry.ensures)

pub returns-in_err-row : goal.returns-in_err-row
returns-in_err-row c = none_or {A = PinnedRow} (λ r. HasCarry (homes_of c.args.homes.now) c.args.size c.args.flag.now c.args.to.now c.args.value.now r.flags (actions_of r.acts) (items_of r.acts)) c.from_residual-in_err-row.result (search rules) (no_carried_row (homes_of c.args.homes.now) c.args.size c.args.flag.now c.args.to.now c.args.value.now c.in_err-row.ensures)
