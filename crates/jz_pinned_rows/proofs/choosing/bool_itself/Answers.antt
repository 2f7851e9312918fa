use Rattle.std.proofs.Common.{rules}
use Rattle.jz_operands.specs.TableHomes.{homes_of}
use Rattle.jz_operands.proofs.SumLemmas.{none_or}
use Rattle.jz_tree.specs.declared.expr.Expr.TheVariants as expr
use Rattle.jz_flag_rows.specs.Conditions.{IsFlagCondition, a_flag}
use Rattle.jz_pinned_rows.specs.declared.choosing.FlagTest.{FlagTest}
use Rattle.jz_pinned_rows.proofs.ChoiceLemmas.{no_flag_variable}
use Rattle.jz_pinned_rows.proofs.choosing.bool_itself.Goals as goal

pub returns : goal.returns
returns c = a_flag c.args.var.now c.in_ok-flag.flag.variable c.requires c.in_ok-flag.ensures.0

pub returns-in_err-flag : goal.returns-in_err-flag
returns-in_err-flag c =
    none_or {A = FlagTest} (λ t. IsFlagCondition (homes_of c.args.homes.now) (expr.Var c.args.var.now) t.variable t.denied) c.from_residual.result (search rules) (no_flag_variable (homes_of c.args.homes.now) c.args.var.now c.in_err-flag.ensures)
