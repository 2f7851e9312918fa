use Rattle.std.proofs.Common.{rules, subst}
use Rattle.jz_tree.specs.declared.expr.Expr.TheVariants as expr
use Rattle.jz_homes.specs.Operands.{IsArg}
use Rattle.jz_operands.specs.declared.operands.Operand.{Operand}
use Rattle.jz_operands.specs.TableHomes.{homes_of, leaks_of}
use Rattle.jz_operands.specs.Refusals.{NeverAddress}
use Rattle.jz_operands.proofs.SumLemmas.{none_or}
use Rattle.jz_operands.proofs.OperandRefusals.{never_address}
use Rattle.jz_operands.proofs.operands.load.Goals as goal

pub returns-in_err-found-clause-read : goal.returns-in_err-found-clause-read
returns-in_err-found-clause-read c =
    let home = homes_of c.args.homes.now in
    none_or {A = Operand} (λ x. IsArg home c.args.size (expr.Load c.args.access.now) x.arg (leaks_of x.leaks)) c.from_residual.result (search rules) (never_address home c.args.size c.args.access.now (subst (NeverAddress home) c.get.ensures c.in_err-found.ensures))
