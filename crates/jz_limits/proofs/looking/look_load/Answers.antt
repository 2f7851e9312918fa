use Rattle.std.proofs.Common.{◌∙◌, None, false, ap, sym}
use Rattle.jz_tree.specs.declared.expr.Expr.TheViews.{out-Access}
use Rattle.jz_limits.specs.InnerKnown.{numbers_of}
use Rattle.jz_limits.specs.InnerLooked.{seen_as, left_asking, load_found}
use Rattle.jz_limits.proofs.Layers.{look_load}
use Rattle.jz_limits.proofs.looking.look_load.Goals as goal

pub returns : goal.returns
returns c =
    let a = c.args.access.now in
    let e = numbers_of c.args.numbers.now in
    c.finished.ensures
    ∙ (ap (seen_as false None (out-Access a).span left_asking) (c.in_ok-pieces.ensures ∙ ap (load_found e (out-Access a).span) c.get.ensures)
    ∙ sym (look_load e left_asking a))
