use Rattle.std.proofs.Common.{rules}
use Rattle.jz_tree.specs.declared.expr.Expr.TheVariants as expr
use Rattle.jz_rows.proofs.FoundRows.{flag_finds}
use Rattle.jz_rows.proofs.RowRules.{no_last_flag}
use Rattle.jz_rows.proofs.assignments.flagged_row.Goals as goal

pub returns-in-Var : goal.returns-in-Var
returns-in-Var c = λ inner at.
    flag_finds c.args.target.now c.carry_row.result c.args.op (expr.Bin c.args.op c.args.first.now c.args.second.now inner) c.args.last.now c.in-Var.flag at c.in-Var.is (c.carry_row.ensures inner at)

pub returns-in_default : goal.returns-in_default
returns-in_default c = λ inner at.
    no_last_flag c.args.target.now c.args.op (expr.Bin c.args.op c.args.first.now c.args.second.now inner) c.args.last.now at (search rules)
