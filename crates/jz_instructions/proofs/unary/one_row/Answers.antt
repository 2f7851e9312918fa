use Rattle.std.proofs.Common.{refl, rules}
use Rattle.jz_operands.specs.TableHomes.{homes_of}
use Rattle.jz_operands.proofs.SumLemmas.{none_or}
use Rattle.jz_pinned_rows.specs.declared.row.Acts.{Acts}
use Rattle.jz_pinned_rows.specs.Rows.{actions_of, items_of}
use Rattle.jz_one_flag_row.specs.Forms.{IsOne}
use Rattle.jz_instructions.proofs.UnaryLemmas.{alone, one_source, one_target, one_brought, one_is}
use Rattle.jz_instructions.proofs.unary.one_row.Goals as goal

pub returns : goal.returns
returns c = one_is (homes_of c.args.target.now.homes.now) c.args.target.now.size c.args.kind c.args.target.now.to.now c.args.operand.now c.in_ok-x.x alone c.in_ok-to.to refl c.in_ok-x.ensures c.in_ok-to.ensures c.in_ok-brought.brought c.behind.result c.in_ok-brought.ensures c.behind.ensures.actions c.behind.ensures.items

pub returns-in_err-x : goal.returns-in_err-x
returns-in_err-x c = none_or {A = Acts} (λ a. IsOne (homes_of c.args.target.now.homes.now) c.args.target.now.size c.args.kind c.args.target.now.to.now c.args.operand.now (actions_of a) (items_of a)) c.from_residual.result (search rules) (one_source (homes_of c.args.target.now.homes.now) c.args.target.now.size c.args.kind c.args.target.now.to.now c.args.operand.now c.in_err-x.ensures)

pub returns-in_err-to : goal.returns-in_err-to
returns-in_err-to c = none_or {A = Acts} (λ a. IsOne (homes_of c.args.target.now.homes.now) c.args.target.now.size c.args.kind c.args.target.now.to.now c.args.operand.now (actions_of a) (items_of a)) c.from_residual-in_err-to.result (search rules) (one_target (homes_of c.args.target.now.homes.now) c.args.target.now.size c.args.kind c.args.target.now.to.now c.args.operand.now c.in_err-to.ensures)

pub returns-in_err-brought : goal.returns-in_err-brought
returns-in_err-brought c =
    none_or {A = Acts} (λ a. IsOne (homes_of c.args.target.now.homes.now) c.args.target.now.size c.args.kind c.args.target.now.to.now c.args.operand.now (actions_of a) (items_of a)) c.from_residual-in_err-brought.result (search rules) (one_brought (homes_of c.args.target.now.homes.now) c.args.target.now.size c.args.kind c.args.target.now.to.now c.args.operand.now c.in_ok-x.x alone c.in_ok-to.to refl c.in_ok-x.ensures c.in_ok-to.ensures c.in_err-brought.ensures)
