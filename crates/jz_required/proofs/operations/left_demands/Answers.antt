use Rattle.std.proofs.Common.{◌∙◌, ap, sym}
use Rattle.jz_labels.specs.Operations.{left_of}
use Rattle.jz_required.specs.Readings.{left_demands}
use Rattle.jz_required.proofs.Rights.{read_of}
use Rattle.jz_required.proofs.Parts.{cell_demands, load_demands}
use Rattle.jz_required.proofs.operations.left_demands.Goals as goal

pub returns-in_ok-required-in-Cell : goal.returns-in_ok-required-in-Cell
returns-in_ok-required-in-Cell c =
    c.in_ok-required-in-Cell.ensures ∙ cell_demands c.in-Cell.var c.in-Cell.index _ (c.in_ok-inner-in-Cell.ensures ∙ ap read_of c.get.ensures) ∙ sym (ap (λ d. left_demands (left_of d)) c.in-Cell.is)

pub returns-in_ok-required-in-Store : goal.returns-in_ok-required-in-Store
returns-in_ok-required-in-Store c =
    c.in_ok-required-in-Store.ensures ∙ load_demands c.in-Store.access _ (c.in_ok-inner-in-Store.ensures ∙ ap read_of c.get-in-Store.ensures) ∙ sym (ap (λ d. left_demands (left_of d)) c.in-Store.is)
