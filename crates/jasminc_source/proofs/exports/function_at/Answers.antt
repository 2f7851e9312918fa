use Rattle.std.proofs.Common.{◌∙◌, ap, get_or, length, refl}
use Rattle.std.proofs.lemmas.Option.{slice_get_read}
use Rattle.jasminc_source.proofs.exports.function_at.Goals as goal

pub returns : goal.returns
returns c =
    let f = c.index-as_slice-place.result in
    slice_get_read c.args.funs.now (length c.args.funs.now) c.args.place f refl c.requires
    (c.index-as_slice-place.is ∙ ap (λ fs. get_or fs c.args.place f) c.as_slice.ensures)
