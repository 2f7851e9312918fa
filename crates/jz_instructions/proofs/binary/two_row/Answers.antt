use Rattle.std.proofs.Common.{rules}
use Rattle.jz_operands.specs.TableHomes.{homes_of}
use Rattle.jz_operands.proofs.SumLemmas.{none_or}
use Rattle.jz_pinned_rows.specs.declared.row.Acts.{Acts}
use Rattle.jz_pinned_rows.specs.Rows.{actions_of, items_of}
use Rattle.jz_one_flag_row.specs.Forms.{IsTwo}
use Rattle.jz_instructions.proofs.BinaryLemmas.{two_operands, two_dest, two_brought, two_is}
use Rattle.jz_instructions.proofs.binary.two_row.Goals as goal

pub returns : goal.returns
returns c = two_is (homes_of c.args.target.now.homes.now) c.args.target.now.size c.args.alu c.args.swaps c.args.carry c.args.target.now.to.now c.args.first.now c.args.second.now c.in_ok-both.both c.in_ok-to.to c.in_ok-both.ensures c.in_ok-to.ensures c.in_ok-brought.brought c.behind.result c.in_ok-brought.ensures c.behind.ensures.actions c.behind.ensures.items

pub returns-in_err-both : goal.returns-in_err-both
returns-in_err-both c = none_or {A = Acts} (λ a. IsTwo (homes_of c.args.target.now.homes.now) c.args.target.now.size c.args.alu c.args.swaps c.args.carry c.args.target.now.to.now c.args.first.now c.args.second.now (actions_of a) (items_of a)) c.from_residual.result (search rules) (two_operands (homes_of c.args.target.now.homes.now) c.args.target.now.size c.args.alu c.args.swaps c.args.carry c.args.target.now.to.now c.args.first.now c.args.second.now c.in_err-both.ensures)

pub returns-in_err-to : goal.returns-in_err-to
returns-in_err-to c = none_or {A = Acts} (λ a. IsTwo (homes_of c.args.target.now.homes.now) c.args.target.now.size c.args.alu c.args.swaps c.args.carry c.args.target.now.to.now c.args.first.now c.args.second.now (actions_of a) (items_of a)) c.from_residual-in_err-to.result (search rules) (two_dest (homes_of c.args.target.now.homes.now) c.args.target.now.size c.args.alu c.args.swaps c.args.carry c.args.target.now.to.now c.args.first.now c.args.second.now c.in_err-to.ensures)

pub returns-in_err-brought : goal.returns-in_err-brought
returns-in_err-brought c =
    none_or {A = Acts} (λ a. IsTwo (homes_of c.args.target.now.homes.now) c.args.target.now.size c.args.alu c.args.swaps c.args.carry c.args.target.now.to.now c.args.first.now c.args.second.now (actions_of a) (items_of a)) c.from_residual-in_err-brought.result (search rules) (two_brought (homes_of c.args.target.now.homes.now) c.args.target.now.size c.args.alu c.args.swaps c.args.carry c.args.target.now.to.now c.args.first.now c.args.second.now c.in_ok-both.both c.in_ok-to.to c.in_ok-both.ensures c.in_ok-to.ensures c.in_err-brought.ensures)
