use Rattle.jz_operands.specs.TableHomes.{homes_of}
use Rattle.jz_pinned_rows.proofs.ResultLemmas.{word_skip, word_left, word_cell, word_store}
use Rattle.jz_pinned_rows.proofs.results.word_result.Goals as goal

pub returns-in-Skip : goal.returns-in-Skip
returns-in-Skip c = word_skip (homes_of c.args.homes.now) c.args.size c.args.left.now c.in-Skip.field-0 c.in-Skip.is

pub returns-in-Var : goal.returns-in-Var
returns-in-Var c = word_left (homes_of c.args.homes.now) c.args.size c.args.left.now c.in-Var.var c.word_variable.result c.in-Var.is c.word_variable.ensures

pub returns-in-Cell : goal.returns-in-Cell
returns-in-Cell c = word_cell (homes_of c.args.homes.now) c.args.size c.args.left.now c.in-Cell.field-0 c.in-Cell.field-1 c.in-Cell.is

pub returns-in-Store : goal.returns-in-Store
returns-in-Store c = word_store (homes_of c.args.homes.now) c.args.size c.args.left.now c.in-Store.field-0 c.in-Store.is
