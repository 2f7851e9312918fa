use Rattle.std.proofs.Common.{◌∙◌, ◌++◌, ◌∷◌, [], true, false, ap, sym}
use Rattle.jz_arrays.specs.Cells.{size_at, cell_in}
use Rattle.jz_inline.specs.Widths.{sort_declared}
use Rattle.jz_inline.specs.InnerWidths.{is_whole}
use Rattle.jz_scalars.proofs.MaskLemmas.{masked_as, cell_dropped, cell_kept}
use Rattle.jz_scalars.proofs.masks.masked_cell.Goals as goal

pub returns-in_ok-mask-in-Some : goal.returns-in_ok-mask-in-Some
returns-in_ok-mask-in-Some c =
    let v = c.args.array.now in
    ap (masked_as c.is_int-whole.result) c.in_ok-mask-in-Some.ensures ∙ ap (λ w. masked_as w (false ∷ [])) c.is_int-whole.ensures
    ∙ sym (cell_dropped (is_whole (sort_declared v)) c.args.place.mask (size_at v) (cell_in v c.args.at.now) c.in-Some.field-0 (sym c.register_cell.ensures ∙ c.in-Some.is))

pub returns-in_ok-push-in-None : goal.returns-in_ok-push-in-None
returns-in_ok-push-in-None c =
    let v = c.args.array.now in
    ap (masked_as c.is_int-whole.result) c.in_ok-push-in-None.ensures.ok ∙ ap (λ w. masked_as w (c.args.place.mask ++ true ∷ [])) c.is_int-whole.ensures
    ∙ sym (cell_kept (is_whole (sort_declared v)) c.args.place.mask (size_at v) (cell_in v c.args.at.now) (sym c.register_cell.ensures ∙ c.in-None.is))
