use Rattle.std.proofs.Common.{◌∙◌, ap, sym}
use Rattle.jz_tree.specs.declared.stmt.Lval.TheVariants as lval
use Rattle.jz_arrays.specs.Cells.{size_at, cell_in}
use Rattle.jz_scalars.specs.InnerCells.{register_cell}
use Rattle.jz_scalars.proofs.Forms.{scalar_left, cell_left}
use Rattle.jz_scalars.proofs.lefts.left_cell.Goals as goal

pub returns-in_ok-scalar-in-Some : goal.returns-in_ok-scalar-in-Some
returns-in_ok-scalar-in-Some c =
    let v = c.args.array.now in
    let i = c.args.at.now in
    ap lval.Var c.in_ok-scalar-in-Some.ensures
    ∙ sym (scalar_left v i (size_at v) (cell_in v i) c.in-Some.cell (ap (λ j. register_cell (size_at v) (cell_in v j)) (sym c.get.ensures) ∙ sym c.register_cell.ensures ∙ c.in-Some.is))

pub returns-in_ok-boxed_with_scalars-in-None : goal.returns-in_ok-boxed_with_scalars-in-None
returns-in_ok-boxed_with_scalars-in-None c =
    let v = c.args.array.now in
    let i = c.args.at.now in
    ap (λ w. lval.Cell w c.in_ok-boxed_with_scalars-in-None.field-0) c.in_ok-array-in-None.ensures
    ∙ ap (lval.Cell v) c.in_ok-boxed_with_scalars-in-None.ensures
    ∙ sym (cell_left v i (size_at v) (cell_in v i) (ap (λ j. register_cell (size_at v) (cell_in v j)) (sym c.get.ensures) ∙ sym c.register_cell.ensures ∙ c.in-None.is))
