use Rattle.std.proofs.Common.{rules, pos}
use Rattle.jz_tree.specs.declared.expr.BinOp.TheVariants as op
use Rattle.jz_tree.specs.declared.expr.Expr.TheVariants as expr
use Rattle.jz_row_operations.specs.Rows.{mask_of}
use Rattle.jz_operands.specs.TableHomes.{homes_of}
use Rattle.jz_operands.proofs.SumLemmas.{none_or}
use Rattle.jz_instructions.specs.declared.counting.Count.{Count}
use Rattle.jz_instructions.specs.InnerRows.{places_in, number_in}
use Rattle.jz_flag_rows.specs.Instructions.{IsCount, by_variable}
use Rattle.jz_instructions.proofs.CountLemmas.{no_variable_count}
use Rattle.jz_instructions.proofs.counting.by_variable.Goals as goal

pub returns : goal.returns
returns c = λ there here. by_variable c.args.var.now c.in_ok-places.places there here c.in_ok-places.ensures.0 c.in_ok-places.ensures.1

pub returns-in_err-places : goal.returns-in_err-places
returns-in_err-places c = λ there here.
    none_or {A = Count} (λ n. IsCount (homes_of c.args.homes.now) c.args.size (expr.Bin op.And (expr.Var c.args.var.now) (expr.Num (pos (mask_of c.args.size)) there) here) (places_in n) (number_in n)) c.from_residual.result (search rules) (no_variable_count (homes_of c.args.homes.now) c.args.size c.args.var.now there here c.in_err-places.ensures)
