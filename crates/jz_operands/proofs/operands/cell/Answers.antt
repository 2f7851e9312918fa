use Rattle.std.proofs.Common.{rules}
use Rattle.jz_tree.specs.declared.expr.Expr.TheVariants as expr
use Rattle.jz_tree.specs.declared.stmt.Lval.TheVariants as lval
use Rattle.jz_homes.specs.Operands.{IsArg, IsDest}
use Rattle.jz_operands.specs.declared.operands.Operand.{Operand}
use Rattle.jz_operands.specs.TableHomes.{homes_of, leaks_of}
use Rattle.jz_operands.proofs.SumLemmas.{none_or}
use Rattle.jz_operands.proofs.OperandRefusals.{never_array, never_index, never_array_dest, never_index_dest}
use Rattle.jz_operands.proofs.operands.cell.Goals as goal

pub returns-in_err-of-clause-read : goal.returns-in_err-of-clause-read
returns-in_err-of-clause-read c = none_or {A = Operand} (λ x. IsArg (homes_of c.args.homes.now) c.args.size (expr.Cell c.args.var.now c.args.at.now) x.arg (leaks_of x.leaks)) c.from_residual.result (search rules) (never_array (homes_of c.args.homes.now) c.args.size c.args.var.now c.args.at.now c.in_err-of.ensures)

pub returns-in_err-of-clause-written : goal.returns-in_err-of-clause-written
returns-in_err-of-clause-written c = none_or {A = Operand} (λ x. IsDest (homes_of c.args.homes.now) c.args.size (lval.Cell c.args.var.now c.args.at.now) x.arg (leaks_of x.leaks)) c.from_residual.result (search rules) (never_array_dest (homes_of c.args.homes.now) c.args.size c.args.var.now c.args.at.now c.in_err-of.ensures)

pub returns-in_err-found-clause-read : goal.returns-in_err-found-clause-read
returns-in_err-found-clause-read c =
    none_or {A = Operand} (λ x. IsArg (homes_of c.args.homes.now) c.args.size (expr.Cell c.args.var.now c.args.at.now) x.arg (leaks_of x.leaks)) c.from_residual-in_err-found.result (search rules) (never_index (homes_of c.args.homes.now) c.args.size c.args.var.now c.args.at.now c.in_err-found.ensures)

pub returns-in_err-found-clause-written : goal.returns-in_err-found-clause-written
returns-in_err-found-clause-written c =
    none_or {A = Operand} (λ x. IsDest (homes_of c.args.homes.now) c.args.size (lval.Cell c.args.var.now c.args.at.now) x.arg (leaks_of x.leaks)) c.from_residual-in_err-found.result (search rules) (never_index_dest (homes_of c.args.homes.now) c.args.size c.args.var.now c.args.at.now c.in_err-found.ensures)
