use Rattle.jz_drawn_heads.specs.Pieces.{keys_of}
use Rattle.jz_drawn_heads.proofs.SetScalars.{left_skip, left_cell, left_store, left_var, keys_pushed}
use Rattle.jz_drawn_heads.proofs.heads.left_scalar.Goals as goal

pub returns-in-Skip : goal.returns-in-Skip
returns-in-Skip c = left_skip c.args.left.now _ (keys_of c.args.vars.now.items) c.in-Skip.is

pub returns-in_ok-push-in-Var : goal.returns-in_ok-push-in-Var
returns-in_ok-push-in-Var c =
    left_var c.args.left.now c.in-Var.var (keys_of c.args.vars.now.items) (keys_of c.push.new.self.items) c.in-Var.is (keys_pushed c.args.vars.now.items c.push.new.self.items _ c.in_ok-push-in-Var.ensures.items)

pub returns-in-Cell : goal.returns-in-Cell
returns-in-Cell c = left_cell c.args.left.now _ _ (keys_of c.args.vars.now.items) c.in-Cell.is

pub returns-in-Store : goal.returns-in-Store
returns-in-Store c = left_store c.args.left.now _ (keys_of c.args.vars.now.items) c.in-Store.is
