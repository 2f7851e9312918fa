use Rattle.std.proofs.Common.{rules}
use Rattle.jz_operands.specs.TableHomes.{homes_of}
use Rattle.jz_operands.proofs.SumLemmas.{none_or}
use Rattle.jz_tree.specs.declared.stmt.Lval.TheVariants as lval
use Rattle.jz_flag_rows.specs.Results.{IsPinned}
use Rattle.jz_pinned_rows.proofs.ResultLemmas.{word_is, no_word_home}
use Rattle.jz_pinned_rows.proofs.results.sized_variable.Goals as goal

pub returns : goal.returns
returns c = word_is (homes_of c.args.homes.now) c.args.size c.args.var.now c.in_ok-variable.variable c.place_of.result c.requires c.in_ok-variable.ensures c.place_of.ensures

pub returns-in_err-variable : goal.returns-in_err-variable
returns-in_err-variable c =
    none_or (IsPinned (homes_of c.args.homes.now) c.args.size (lval.Var c.args.var.now)) c.from_residual.result (search rules) (no_word_home (homes_of c.args.homes.now) c.args.size c.args.var.now c.in_err-variable.ensures)
