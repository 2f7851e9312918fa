use Rattle.std.proofs.Common.{false, rules, sym, ◌∙◌}
use Rattle.jz_rows.proofs.RowLemmas.{variable_is, lowest_is}
use Rattle.jz_operands.specs.TableHomes.{homes_of}
use Rattle.jz_operands.proofs.SumLemmas.{none_or}
use Rattle.jz_rows.proofs.RowRules.{lowest_no_size, lowest_small, lowest_operand, lowest_no_variable, lowest_register}
use Rattle.jz_tree.specs.declared.expr.Expr.TheVariants as expr
use Rattle.jz_rows.specs.Found.{IsRow}
use Rattle.jz_rows.proofs.assignments.lowest_row.Goals as goal

pub returns : goal.returns
returns c = λ at.
    lowest_is (homes_of c.args.target.now.homes.now) c.args.target.now.size c.args.target.now.to.now c.in_ok-from.from c.in_ok-register.register c.in_ok-source.source at (sym c.in_ok-from.ensures) (c.is_below.ensures.no c.if-is_below.false) (variable_is c.in_ok-y.y c.in_ok-source.source c.in_ok-y.ensures c.in_ok-source.ensures.0 c.in_ok-source.ensures.1) c.in_ok-register.ensures

pub returns-in_err-from : goal.returns-in_err-from
returns-in_err-from c = λ at.
    none_or (IsRow c.args.target.now (expr.Cast c.args.target.now.size false c.args.operand.now at)) c.from_residual.result (search rules) (lowest_no_size c.args.target.now false c.args.operand.now at (sym c.own_size.ensures ∙ c.in_err-from.was))

pub returns-then-is_below : goal.returns-then-is_below
returns-then-is_below c = λ at.
    lowest_small c.args.target.now false c.args.operand.now at c.in_ok-from.from (sym c.in_ok-from.ensures) (c.is_below.ensures.yes c.if-is_below.true)

pub returns-in_err-y : goal.returns-in_err-y
returns-in_err-y c = λ at.
    none_or (IsRow c.args.target.now (expr.Cast c.args.target.now.size false c.args.operand.now at)) c.from_residual-in_err-y.result (search rules) (lowest_operand c.args.target.now false c.args.operand.now at c.in_ok-from.from (sym c.in_ok-from.ensures) c.in_err-y.ensures)

pub returns-in_err-source : goal.returns-in_err-source
returns-in_err-source c = λ at.
    none_or (IsRow c.args.target.now (expr.Cast c.args.target.now.size false c.args.operand.now at)) c.from_residual-in_err-source.result (search rules) (lowest_no_variable c.args.target.now false c.args.operand.now at c.in_ok-from.from c.in_ok-y.y (sym c.in_ok-from.ensures) c.in_ok-y.ensures c.in_err-source.ensures)

pub returns-in_err-register : goal.returns-in_err-register
returns-in_err-register c = λ at.
    none_or (IsRow c.args.target.now (expr.Cast c.args.target.now.size false c.args.operand.now at)) c.from_residual-in_err-register.result (search rules) (lowest_register c.args.target.now false c.args.operand.now at c.in_err-register.ensures)
