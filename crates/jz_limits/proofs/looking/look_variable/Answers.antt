use Rattle.std.proofs.Common.{◌∙◌, ap, sym}
use Rattle.jz_type_names.specs.Kinds.{is_inline_int, known_of}
use Rattle.jz_integers.specs.Integers.{number}
use Rattle.jz_tree.specs.declared.expr.Expr.TheViews.{out-Var}
use Rattle.jz_limits.specs.InnerKnown.{numbers_of}
use Rattle.jz_limits.specs.InnerLooked.{seen_as, no_part}
use Rattle.jz_limits.proofs.Layers.{look_var}
use Rattle.jz_limits.proofs.looking.look_variable.Goals as goal

pub returns : goal.returns
returns c =
    let e = numbers_of c.args.numbers.now in
    let v = c.args.var.now in
    c.finished.ensures
    ∙ (ap (seen_as c.is_inline_int.result c.as_constant-value.result (out-Var v).span c.args.asking) c.no_pieces.ensures
    ∙ (ap (λ i. seen_as i c.as_constant-value.result (out-Var v).span c.args.asking no_part) (c.is_inline_int.ensures ∙ ap is_inline_int c.known.ensures)
    ∙ (ap (λ k. seen_as (is_inline_int (known_of v)) k (out-Var v).span c.args.asking no_part) (c.as_constant-value.ensures ∙ ap number c.number.ensures)
    ∙ sym (look_var e c.args.asking v))))
