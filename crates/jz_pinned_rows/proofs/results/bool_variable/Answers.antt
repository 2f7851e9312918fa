use Rattle.std.proofs.Common.{rules}
use Rattle.jz_operands.specs.TableHomes.{homes_of}
use Rattle.jz_operands.proofs.SumLemmas.{none_or}
use Rattle.jz_tree.specs.declared.stmt.Lval.TheVariants as lval
use Rattle.jz_flag_rows.specs.Results.{IsFlag}
use Rattle.jz_pinned_rows.proofs.ResultLemmas.{flag_is, no_flag_home}
use Rattle.jz_pinned_rows.proofs.results.bool_variable.Goals as goal

pub returns : goal.returns
returns c = flag_is (homes_of c.args.homes.now) c.args.var.now c.in_ok-flag.flag c.requires c.in_ok-flag.ensures.0 c.in_ok-flag.ensures.1

pub returns-in_err-flag : goal.returns-in_err-flag
returns-in_err-flag c =
    none_or (IsFlag (homes_of c.args.homes.now) (lval.Var c.args.var.now)) c.from_residual.result (search rules) (no_flag_home (homes_of c.args.homes.now) c.args.var.now c.in_err-flag.ensures)
