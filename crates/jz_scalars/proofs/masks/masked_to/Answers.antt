use Rattle.std.proofs.Common.{◌∙◌, [], false, Some, ap, sym}
use Rattle.std.specs.Prelude.{option_map}
use Rattle.jz_meaning.specs.Assignments.{as_expr}
use Rattle.jz_scalars.specs.InnerMasks.{masked_of, masked_access, masked_cell_of}
use Rattle.jz_scalars.proofs.MaskLemmas.{masked_as, of_var, of_cell, of_load}
use Rattle.jz_scalars.proofs.masks.masked_to.Goals as goal

pub returns-in-Var : goal.returns-in-Var
returns-in-Var c =
    ap Some (c.silent.ensures ∙ ap (λ w. masked_as w []) c.is_int.ensures ∙ sym (of_var c.in-Var.var))
    ∙ sym (ap (λ d. option_map masked_of (as_expr d)) c.in-Var.is)

pub returns-in_ok-cell-in-Cell : goal.returns-in_ok-cell-in-Cell
returns-in_ok-cell-in-Cell c =
    let v = c.in-Cell.array in
    ap Some
    (c.in_ok-cell-in-Cell.ensures
    ∙ ap (masked_cell_of v c.get-in-Cell.result.now) (c.in_ok-place-in-Cell.ensures ∙ ap masked_of c.get.ensures)
    ∙ ap (λ i. masked_cell_of v i (masked_of c.in-Cell.at)) c.get-in-Cell.ensures
    ∙ sym (of_cell v c.in-Cell.at))
    ∙ sym (ap (λ d. option_map masked_of (as_expr d)) c.in-Cell.is)

pub returns-in_ok-stored-in-Store : goal.returns-in_ok-stored-in-Store
returns-in_ok-stored-in-Store c =
    ap Some (c.in_ok-stored-in-Store.ensures ∙ ap (masked_access false) c.get-in-Store.ensures ∙ sym (of_load c.in-Store.access))
    ∙ sym (ap (λ d. option_map masked_of (as_expr d)) c.in-Store.is)
