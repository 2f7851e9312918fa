use Rattle.std.proofs.Common.{◌∙◌, None, false, ap, sym}
use Rattle.jz_tree.specs.declared.expr.Expr.TheViews.{out-Var}
use Rattle.jz_limits.specs.InnerKnown.{numbers_of}
use Rattle.jz_limits.specs.InnerLooked.{seen_as, left_asking}
use Rattle.jz_limits.proofs.Layers.{look_cell}
use Rattle.jz_limits.proofs.looking.look_cell.Goals as goal

pub returns : goal.returns
returns c =
    let v = c.args.var.now in
    c.finished.ensures
    ∙ (ap (seen_as false None (out-Var v).span left_asking) c.in_ok-pieces.ensures
    ∙ sym (look_cell (numbers_of c.args.numbers.now) left_asking v c.args.index.now))
