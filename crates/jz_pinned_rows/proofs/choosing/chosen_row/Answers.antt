use Rattle.std.proofs.Common.{rules}
use Rattle.jz_operands.specs.TableHomes.{homes_of}
use Rattle.jz_pinned_rows.proofs.ChoiceLemmas.{no_choice_left, no_choice_kind}
use Rattle.jz_pinned_rows.proofs.choosing.chosen_row.Goals as goal

pub returns-in-Undeclared : goal.returns-in-Undeclared
returns-in-Undeclared c = no_choice_kind (homes_of c.args.homes.now) c.args.to.now c.args.value.now c.args.cond.now c.in-Var.var c.in-Var.is (search rules)

pub returns-in-Int : goal.returns-in-Int
returns-in-Int c = no_choice_kind (homes_of c.args.homes.now) c.args.to.now c.args.value.now c.args.cond.now c.in-Var.var c.in-Var.is (search rules)

pub returns-in-Bool : goal.returns-in-Bool
returns-in-Bool c = no_choice_kind (homes_of c.args.homes.now) c.args.to.now c.args.value.now c.args.cond.now c.in-Var.var c.in-Var.is (search rules)

pub returns-in-Array : goal.returns-in-Array
returns-in-Array c = no_choice_kind (homes_of c.args.homes.now) c.args.to.now c.args.value.now c.args.cond.now c.in-Var.var c.in-Var.is (search rules)

pub returns-in-Skip : goal.returns-in-Skip
returns-in-Skip c = no_choice_left (homes_of c.args.homes.now) c.args.to.now c.args.value.now c.args.cond.now (search rules)

pub returns-in-Cell : goal.returns-in-Cell
returns-in-Cell c = no_choice_left (homes_of c.args.homes.now) c.args.to.now c.args.value.now c.args.cond.now (search rules)

pub returns-in-Store : goal.returns-in-Store
returns-in-Store c = no_choice_left (homes_of c.args.homes.now) c.args.to.now c.args.value.now c.args.cond.now (search rules)
