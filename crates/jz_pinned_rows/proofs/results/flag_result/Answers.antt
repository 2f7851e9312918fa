use Rattle.jz_operands.specs.TableHomes.{homes_of}
use Rattle.jz_pinned_rows.proofs.ResultLemmas.{flag_skip, flag_left, flag_cell, flag_store}
use Rattle.jz_pinned_rows.proofs.results.flag_result.Goals as goal

pub returns-in-Skip : goal.returns-in-Skip
returns-in-Skip c = flag_skip (homes_of c.args.homes.now) c.args.left.now c.in-Skip.field-0 c.in-Skip.is

pub returns-in-Var : goal.returns-in-Var
returns-in-Var c = flag_left (homes_of c.args.homes.now) c.args.left.now c.in-Var.var c.flag_variable.result c.in-Var.is c.flag_variable.ensures

pub returns-in-Cell : goal.returns-in-Cell
returns-in-Cell c = flag_cell (homes_of c.args.homes.now) c.args.left.now c.in-Cell.field-0 c.in-Cell.field-1 c.in-Cell.is

pub returns-in-Store : goal.returns-in-Store
returns-in-Store c = flag_store (homes_of c.args.homes.now) c.args.left.now c.in-Store.field-0 c.in-Store.is
