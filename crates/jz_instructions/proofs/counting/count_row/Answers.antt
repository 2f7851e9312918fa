use Rattle.std.proofs.Common.{rules}
use Rattle.jz_operands.specs.TableHomes.{homes_of}
use Rattle.jz_operands.proofs.SumLemmas.{none_or}
use Rattle.jz_pinned_rows.specs.declared.row.Acts.{Acts}
use Rattle.jz_pinned_rows.specs.Rows.{actions_of, items_of}
use Rattle.jz_one_flag_row.specs.Forms.{IsCounted}
use Rattle.jz_instructions.proofs.CountLemmas.{counted_count, counted_source, counted_target, counted_brought, counted_is}
use Rattle.jz_instructions.proofs.counting.count_row.Goals as goal

pub returns : goal.returns
returns c =
    counted_is (homes_of c.args.target.now.homes.now) c.args.target.now.size c.args.kind c.args.target.now.to.now c.args.operand.now c.args.count.now c.in_ok-places.places c.in_ok-x.x c.beside.result c.in_ok-to.to c.beside.ensures c.in_ok-places.ensures c.in_ok-x.ensures c.in_ok-to.ensures c.in_ok-brought.brought c.shift_by.result c.behind.result c.shift_by.ensures c.in_ok-brought.ensures c.behind.ensures.actions c.behind.ensures.items

pub returns-in_err-places : goal.returns-in_err-places
returns-in_err-places c = none_or {A = Acts} (λ a. IsCounted (homes_of c.args.target.now.homes.now) c.args.target.now.size c.args.kind c.args.target.now.to.now c.args.operand.now c.args.count.now (actions_of a) (items_of a)) c.from_residual.result (search rules) (counted_count (homes_of c.args.target.now.homes.now) c.args.target.now.size c.args.kind c.args.target.now.to.now c.args.operand.now c.args.count.now c.in_err-places.ensures)

pub returns-in_err-x : goal.returns-in_err-x
returns-in_err-x c = none_or {A = Acts} (λ a. IsCounted (homes_of c.args.target.now.homes.now) c.args.target.now.size c.args.kind c.args.target.now.to.now c.args.operand.now c.args.count.now (actions_of a) (items_of a)) c.from_residual-in_err-x.result (search rules) (counted_source (homes_of c.args.target.now.homes.now) c.args.target.now.size c.args.kind c.args.target.now.to.now c.args.operand.now c.args.count.now c.in_err-x.ensures)

pub returns-in_err-to : goal.returns-in_err-to
returns-in_err-to c = none_or {A = Acts} (λ a. IsCounted (homes_of c.args.target.now.homes.now) c.args.target.now.size c.args.kind c.args.target.now.to.now c.args.operand.now c.args.count.now (actions_of a) (items_of a)) c.from_residual-in_err-to.result (search rules) (counted_target (homes_of c.args.target.now.homes.now) c.args.target.now.size c.args.kind c.args.target.now.to.now c.args.operand.now c.args.count.now c.in_err-to.ensures)

pub returns-in_err-brought : goal.returns-in_err-brought
returns-in_err-brought c =
    none_or {A = Acts} (λ a. IsCounted (homes_of c.args.target.now.homes.now) c.args.target.now.size c.args.kind c.args.target.now.to.now c.args.operand.now c.args.count.now (actions_of a) (items_of a)) c.from_residual-in_err-brought.result (search rules)
    (counted_brought (homes_of c.args.target.now.homes.now) c.args.target.now.size c.args.kind c.args.target.now.to.now c.args.operand.now c.args.count.now c.in_ok-places.places c.in_ok-x.x c.beside.result c.in_ok-to.to c.beside.ensures c.in_ok-places.ensures c.in_ok-x.ensures c.in_ok-to.ensures c.in_err-brought.ensures)
