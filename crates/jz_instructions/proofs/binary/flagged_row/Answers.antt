use Rattle.std.proofs.Common.{refl, rules}
use Rattle.jz_operands.specs.TableHomes.{homes_of}
use Rattle.jz_operands.proofs.SumLemmas.{none_or}
use Rattle.jz_pinned_rows.specs.declared.row.Acts.{Acts}
use Rattle.jz_pinned_rows.specs.Rows.{actions_of, items_of}
use Rattle.jz_tree.specs.declared.expr.Expr.TheVariants as expr
use Rattle.jz_one_flag_row.specs.Forms.{IsCarried}
use Rattle.jz_instructions.proofs.BinaryLemmas.{no_last_flag, carried_finds}
use Rattle.jz_instructions.proofs.binary.flagged_row.Goals as goal

pub returns : goal.returns
returns c = carried_finds (homes_of c.args.target.now.homes.now) c.args.target.now.size c.args.alu c.args.swaps c.args.target.now.to.now c.args.first.now c.args.second.now (expr.Var c.args.flag.now) c.args.flag.now c.in_ok-carry.carry c.two_row.result refl c.in_ok-carry.ensures.0 c.in_ok-carry.ensures.1 c.two_row.ensures

pub returns-in_err-carry : goal.returns-in_err-carry
returns-in_err-carry c = none_or {A = Acts} (λ a. IsCarried (homes_of c.args.target.now.homes.now) c.args.target.now.size c.args.alu c.args.swaps c.args.target.now.to.now c.args.first.now c.args.second.now (expr.Var c.args.flag.now) (actions_of a) (items_of a)) c.from_residual.result (search rules) (no_last_flag (homes_of c.args.target.now.homes.now) c.args.target.now.size c.args.alu c.args.swaps c.args.target.now.to.now c.args.first.now c.args.second.now (expr.Var c.args.flag.now) c.args.flag.now refl c.in_err-carry.ensures)
