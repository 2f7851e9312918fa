use Rattle.std.proofs.Common.{ap, sym, ◌∙◌}
use Rattle.jz_type_names.specs.Parts.{cells_in}
use Rattle.jz_type_names.proofs.CellLaws.{cells_num, cells_bool, cells_var, cells_cell, cells_load, cells_neg, cells_not, cells_cast, cells_bin}
use Rattle.jz_type_names.proofs.exprs.take_apart.Goals as goal

pub returns-in-Num-clause-cells : goal.returns-in-Num-clause-cells
returns-in-Num-clause-cells c = rw c.in-Num.is (cells_num _ _)

pub returns-in-Bool-clause-cells : goal.returns-in-Bool-clause-cells
returns-in-Bool-clause-cells c = rw c.in-Bool.is (cells_bool _ _)

pub returns-in-Var-clause-cells : goal.returns-in-Var-clause-cells
returns-in-Var-clause-cells c = rw c.in-Var.is (cells_var _)

pub returns-in-Cell-clause-cells : goal.returns-in-Cell-clause-cells
returns-in-Cell-clause-cells c = rw (c.in-Cell.is, c.get.ensures) (cells_cell _ _)

pub returns-in-Load-clause-cells : goal.returns-in-Load-clause-cells
returns-in-Load-clause-cells c = ap cells_in c.in-Load.is ∙ (cells_load _ ∙ (ap cells_in (sym c.get-in-Load.ensures) ∙ sym c.operand.ensures.cells))

pub returns-in-Neg-clause-cells : goal.returns-in-Neg-clause-cells
returns-in-Neg-clause-cells c = ap cells_in c.in-Neg.is ∙ (cells_neg _ _ ∙ (ap cells_in (sym c.get-in-Neg.ensures) ∙ sym c.operand-in-Neg.ensures.cells))

pub returns-in-Not-clause-cells : goal.returns-in-Not-clause-cells
returns-in-Not-clause-cells c = ap cells_in c.in-Not.is ∙ (cells_not _ _ ∙ (ap cells_in (sym c.get-in-Not.ensures) ∙ sym c.operand-in-Not.ensures.cells))

pub returns-in-Cast-clause-cells : goal.returns-in-Cast-clause-cells
returns-in-Cast-clause-cells c = ap cells_in c.in-Cast.is ∙ (cells_cast _ _ _ _ ∙ (ap cells_in (sym c.get-in-Cast.ensures) ∙ sym c.operand-in-Cast.ensures.cells))

pub returns-in-Bin-clause-cells : goal.returns-in-Bin-clause-cells
returns-in-Bin-clause-cells c = rw (c.in-Bin.is, c.get-in-Bin.ensures, c.get-in-Bin-2.ensures) (cells_bin _ _ _ _)
