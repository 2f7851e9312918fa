use Rattle.std.proofs.Common.{refl}
use Rattle.jz_drawn_labels.specs.Kept.{view_of}
use Rattle.jz_drawn_labels.proofs.Lefts.{write_skip, write_store, write_var, write_cell}
use Rattle.jz_drawn_labels.proofs.operating.write.Goals as goal

pub returns-in-Skip-clause-view : goal.returns-in-Skip-clause-view
returns-in-Skip-clause-view c = write_skip c.args.left.now _ c.args.node (view_of c.args.drawing.now) c.in-Skip.is

pub returns-in_ok-put-in-Var-clause-view : goal.returns-in_ok-put-in-Var-clause-view
returns-in_ok-put-in-Var-clause-view c =
    write_var c.args.left.now c.in-Var.var c.args.node (view_of c.args.drawing.now) _ c.in-Var.is c.in_ok-put-in-Var.ensures.nodes refl refl

pub returns-in_ok-link-in-Cell-clause-view : goal.returns-in_ok-link-in-Cell-clause-view
returns-in_ok-link-in-Cell-clause-view c =
    write_cell c.args.left.now c.in-Cell.var _ c.args.node (view_of c.args.drawing.now) _ c.in-Cell.is refl c.in_ok-link-in-Cell.ensures refl

pub returns-in-Store-clause-view : goal.returns-in-Store-clause-view
returns-in-Store-clause-view c = write_store c.args.left.now _ c.args.node (view_of c.args.drawing.now) c.in-Store.is
