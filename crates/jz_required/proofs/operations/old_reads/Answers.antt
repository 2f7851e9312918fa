use Rattle.std.proofs.Common.{◌∙◌, ap}
use Rattle.jz_required.proofs.Rights.{read_of, old_skip, old_var, old_cell, old_store}
use Rattle.jz_required.proofs.operations.old_reads.Goals as goal

pub returns-in-Skip : goal.returns-in-Skip
returns-in-Skip c = old_skip c.args.left.now _ c.in-Skip.is

pub returns-in_ok-found-in-Var : goal.returns-in_ok-found-in-Var
returns-in_ok-found-in-Var c = old_var c.args.left.now c.in-Var.var _ c.in-Var.is c.in_ok-found-in-Var.ensures

pub returns-in_ok-found-in-Cell : goal.returns-in_ok-found-in-Cell
returns-in_ok-found-in-Cell c =
    old_cell c.args.left.now c.in-Cell.var c.in-Cell.index _ _ c.in-Cell.is (c.in_ok-inner-in-Cell.ensures ∙ ap read_of c.get.ensures) c.in_ok-found-in-Cell.ensures

pub returns-in_ok-found-in-Store : goal.returns-in_ok-found-in-Store
returns-in_ok-found-in-Store c =
    old_store c.args.left.now c.in-Store.access _ _ c.in-Store.is (c.in_ok-inner-in-Store.ensures ∙ ap read_of c.get-in-Store.ensures) c.in_ok-found-in-Store.ensures
