use Rattle.std.proofs.Common.{◌∙◌, ap, sym}
use Rattle.jz_tree.specs.declared.expr.Expr.TheVariants as expr
use Rattle.jz_arrays.specs.Cells.{size_at, cell_in}
use Rattle.jz_scalars.proofs.Forms.{scalar_access, cell_access}
use Rattle.jz_scalars.proofs.expressions.cell_or.Goals as goal

pub returns-in_ok-scalar-in-Some : goal.returns-in_ok-scalar-in-Some
returns-in_ok-scalar-in-Some c =
    let v = c.args.array.now in
    ap expr.Var c.in_ok-scalar-in-Some.ensures
    ∙ sym (scalar_access v c.args.index (size_at v) (cell_in v c.args.at.now) c.in-Some.cell (sym c.register_cell.ensures ∙ c.in-Some.is))

pub returns-in_ok-array-in-None : goal.returns-in_ok-array-in-None
returns-in_ok-array-in-None c =
    let v = c.args.array.now in
    ap (λ w. expr.Cell w c.args.index) c.in_ok-array-in-None.ensures
    ∙ sym (cell_access v c.args.index (size_at v) (cell_in v c.args.at.now) (sym c.register_cell.ensures ∙ c.in-None.is))
