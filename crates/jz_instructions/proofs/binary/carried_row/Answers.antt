use Rattle.std.proofs.Common.{rules, sym, subst}
use Rattle.jz_operands.specs.TableHomes.{homes_of}
use Rattle.jz_one_flag_row.specs.Forms.{IsCarried}
use Rattle.jz_pinned_rows.specs.Rows.{FindsActs}
use Rattle.jz_instructions.proofs.BinaryLemmas.{no_last_variable}
use Rattle.jz_instructions.proofs.binary.carried_row.Goals as goal

pub returns-in-Var : goal.returns-in-Var
returns-in-Var c = subst (λ e. FindsActs (IsCarried (homes_of c.args.target.now.homes.now) c.args.target.now.size c.args.alu c.args.swaps c.args.target.now.to.now c.args.first.now c.args.second.now e) c.flagged_row.result) (sym c.in-Var.is) c.flagged_row.ensures

pub returns-in_default : goal.returns-in_default
returns-in_default c = no_last_variable (homes_of c.args.target.now.homes.now) c.args.target.now.size c.args.alu c.args.swaps c.args.target.now.to.now c.args.first.now c.args.second.now c.args.flag.now (search rules)
