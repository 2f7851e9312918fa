use Rattle.std.proofs.Common.{◌≡◌, sym, subst}
use Rattle.std.specs.Prelude.{IfOk}
use Rattle.jz_limits.specs.InnerKnown.{numbers_of}
use Rattle.jz_limits.specs.InnerLooked.{first}
use Rattle.jz_first_limit.proofs.Copied.{given_var, given_cell, given_store}
use Rattle.jz_first_limit.proofs.passing.ask_given.Goals as goal

pub returns-in-Var : goal.returns-in-Var
returns-in-Var c = λ at.
    subst (λ ls. IfOk c.ask_result.result (λ found. found ≡ first ls))
    (sym (given_var (numbers_of c.args.known.now) at c.args.left.now c.args.var.now c.in-Var.field-0 c.in-Var.is)) (c.ask_result.ensures at)

pub returns-in-Cell : goal.returns-in-Cell
returns-in-Cell c = λ at.
    subst (λ ls. IfOk c.ask_result-in-Cell.result (λ found. found ≡ first ls))
    (sym (given_cell (numbers_of c.args.known.now) at c.args.left.now c.args.var.now c.in-Cell.field-0 c.in-Cell.field-1 c.in-Cell.is)) (c.ask_result-in-Cell.ensures at)

pub returns-in-Store : goal.returns-in-Store
returns-in-Store c = λ at.
    subst (λ ls. IfOk c.ask_result-in-Store.result (λ found. found ≡ first ls))
    (sym (given_store (numbers_of c.args.known.now) at c.args.left.now c.args.var.now c.in-Store.field-0 c.in-Store.is)) (c.ask_result-in-Store.ensures at)
