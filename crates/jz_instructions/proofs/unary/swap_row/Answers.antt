use Rattle.std.proofs.Common.{refl, rules}
use Rattle.jz_operands.specs.TableHomes.{homes_of}
use Rattle.jz_operands.proofs.SumLemmas.{none_or}
use Rattle.jz_pinned_rows.specs.declared.row.Acts.{Acts}
use Rattle.jz_pinned_rows.specs.Rows.{actions_of, items_of}
use Rattle.jz_one_flag_row.specs.Forms.{IsSwap}
use Rattle.jz_instructions.proofs.UnaryLemmas.{alone, swap_short, swap_source, swap_target, swap_brought, swap_is}
use Rattle.jz_instructions.proofs.unary.swap_row.Goals as goal

pub returns : goal.returns
returns c =
    swap_is (homes_of c.args.target.now.homes.now) c.args.target.now.size c.args.target.now.to.now c.args.operand.now c.in_ok-x.x alone c.in_ok-register.register refl c.in_ok-x.ensures c.in_ok-register.ensures c.in_ok-brought.brought c.behind.result (c.is_long.ensures.yes c.if-not-is_long.false) c.in_ok-brought.ensures c.behind.ensures.actions c.behind.ensures.items

pub returns-then-not-is_long : goal.returns-then-not-is_long
returns-then-not-is_long c = swap_short (homes_of c.args.target.now.homes.now) c.args.target.now.size c.args.target.now.to.now c.args.operand.now (c.is_long.ensures.no c.if-not-is_long.true)

pub returns-in_err-x : goal.returns-in_err-x
returns-in_err-x c = none_or {A = Acts} (λ a. IsSwap (homes_of c.args.target.now.homes.now) c.args.target.now.size c.args.target.now.to.now c.args.operand.now (actions_of a) (items_of a)) c.from_residual.result (search rules) (swap_source (homes_of c.args.target.now.homes.now) c.args.target.now.size c.args.target.now.to.now c.args.operand.now c.in_err-x.ensures)

pub returns-in_err-register : goal.returns-in_err-register
returns-in_err-register c = none_or {A = Acts} (λ a. IsSwap (homes_of c.args.target.now.homes.now) c.args.target.now.size c.args.target.now.to.now c.args.operand.now (actions_of a) (items_of a)) c.from_residual-in_err-register.result (search rules) (swap_target (homes_of c.args.target.now.homes.now) c.args.target.now.size c.args.target.now.to.now c.args.operand.now c.in_err-register.ensures)

pub returns-in_err-brought : goal.returns-in_err-brought
returns-in_err-brought c =
    none_or {A = Acts} (λ a. IsSwap (homes_of c.args.target.now.homes.now) c.args.target.now.size c.args.target.now.to.now c.args.operand.now (actions_of a) (items_of a)) c.from_residual-in_err-brought.result (search rules) (swap_brought (homes_of c.args.target.now.homes.now) c.args.target.now.size c.args.target.now.to.now c.args.operand.now c.in_ok-x.x alone c.in_ok-register.register refl c.in_ok-x.ensures c.in_ok-register.ensures c.in_err-brought.ensures)
