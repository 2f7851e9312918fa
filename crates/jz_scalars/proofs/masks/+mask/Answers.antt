use Rattle.std.proofs.Common.{◌≡◌, ◌∙◌, ◌++◌, ◌∷◌, [], true, false, ap, sym, arith}
use Rattle.jz_tree.specs.declared.expr.Expr.{size-Expr}
use Rattle.jz_tree.specs.declared.expr.Expr.TheVariants.{Bin}
use Rattle.jz_tree.proofs.Sides.{left_smaller}
use Rattle.jz_scalars.specs.declared.masks.Masked.{Masked}
use Rattle.jz_scalars.specs.InnerMasks.{masked_of, masked_access, masked_cell_of, masked_operation, masked_left}
use Rattle.jz_scalars.proofs.MaskLemmas.{masked_as, last_operand, of_num, of_bool, of_var, of_cell, of_load, of_neg, of_not, of_cast, of_bin}
use Rattle.jz_scalars.proofs.masks.+mask.Goals as goal

pub masked_side-loop-rest-preserved : goal.masked_side-loop-rest-preserved
masked_side-loop-rest-preserved t c =
    let whole : Bin c.in-Bin.op c.get-rest.result.now c.get.result.now c.in-Bin.field-3 ≡ c.loop-rest.rest.now =
    rw (c.get-rest.ensures, c.get.ensures) (sym c.in-Bin.is) in (
      ap (λ steps. masked_left steps (masked_of c.get-rest.result.now)) c.in_ok-push.ensures.items
          ∙ last_operand c.loop-rest.operands.items (record { op = c.in-Bin.op; right = c.in_ok-with_mask.field-0 }) (masked_of c.get-rest.result.now)
          ∙ ap (λ r. masked_left c.loop-rest.operands.items (masked_operation c.in-Bin.op (masked_of c.get-rest.result.now) r)) c.in_ok-with_mask.ensures
          ∙ ap (masked_left c.loop-rest.operands.items) (sym (of_bin c.in-Bin.op c.get-rest.result.now c.get.result.now c.in-Bin.field-3) ∙ ap masked_of whole)
          ∙ c.loop-rest.invariant.0,
      omega (arith, left_smaller c.in-Bin.op c.get-rest.result.now c.get.result.now c.in-Bin.field-3, ap size-Expr whole, c.loop-rest.invariant.1),
    )

pub masked_single-returns-in-Num : goal.masked_single-returns-in-Num
masked_single-returns-in-Num t c = c.silent.ensures ∙ sym (ap masked_of c.in-Num.is ∙ of_num _ _)

pub masked_single-returns-in-Bool : goal.masked_single-returns-in-Bool
masked_single-returns-in-Bool t c = c.silent-in-Bool.ensures ∙ sym (ap masked_of c.in-Bool.is ∙ of_bool _ _)

pub masked_single-returns-in-Var : goal.masked_single-returns-in-Var
masked_single-returns-in-Var t c =
    c.silent-in-Var.ensures ∙ ap (λ w. masked_as w []) c.is_int.ensures ∙ sym (ap masked_of c.in-Var.is ∙ of_var c.in-Var.var)

pub masked_single-returns-in_ok-cell-in-Cell : goal.masked_single-returns-in_ok-cell-in-Cell
masked_single-returns-in_ok-cell-in-Cell t c =
    let v = c.in-Cell.array in
    c.in_ok-cell-in-Cell.ensures
    ∙ ap (masked_cell_of v c.get-in-Cell.result.now) (c.in_ok-place-in-Cell.ensures ∙ ap masked_of c.get.ensures)
    ∙ ap (λ i. masked_cell_of v i (masked_of c.in-Cell.at)) c.get-in-Cell.ensures
    ∙ sym (ap masked_of c.in-Cell.is ∙ of_cell c.in-Cell.array c.in-Cell.at)

pub masked_single-returns-in_ok-loaded-in-Load : goal.masked_single-returns-in_ok-loaded-in-Load
masked_single-returns-in_ok-loaded-in-Load t c =
    c.in_ok-loaded-in-Load.ensures ∙ ap (masked_access false) c.get-in-Load.ensures ∙ sym (ap masked_of c.in-Load.is ∙ of_load c.in-Load.access)

pub masked_single-returns-in_ok-inner-in-Neg : goal.masked_single-returns-in_ok-inner-in-Neg
masked_single-returns-in_ok-inner-in-Neg t c =
    c.in_ok-inner-in-Neg.ensures ∙ ap masked_of c.get-in-Neg.ensures ∙ sym (ap masked_of c.in-Neg.is ∙ of_neg c.in-Neg.e c.in-Neg.field-1)

pub masked_single-returns-in_ok-inner-in-Not : goal.masked_single-returns-in_ok-inner-in-Not
masked_single-returns-in_ok-inner-in-Not t c =
    c.in_ok-inner-in-Not.ensures ∙ ap masked_of c.get-in-Not.ensures ∙ sym (ap masked_of c.in-Not.is ∙ of_not c.in-Not.e c.in-Not.field-1)

pub masked_single-returns-in_ok-inner-in-Cast : goal.masked_single-returns-in_ok-inner-in-Cast
masked_single-returns-in_ok-inner-in-Cast t c =
    ap (λ (m : Masked). masked_as false m.mask) c.in_ok-inner-in-Cast.ensures
    ∙ ap (λ e. masked_as false (masked_of e).mask) c.get-in-Cast.ensures
    ∙ sym (ap masked_of c.in-Cast.is ∙ of_cast c.in-Cast.size c.in-Cast.signed c.in-Cast.e c.in-Cast.span)

pub masked_single-returns-in_ok-made-in-Bin : goal.masked_single-returns-in_ok-made-in-Bin
masked_single-returns-in_ok-made-in-Bin t c =
    c.in_ok-made-in-Bin.ensures
    ∙ ap (λ k. masked_operation c.in-Bin.op k c.in_ok-second-in-Bin.second) (c.in_ok-first-in-Bin.ensures ∙ ap masked_of c.get-in-Bin.ensures)
    ∙ ap (masked_operation c.in-Bin.op (masked_of c.in-Bin.left)) (c.in_ok-second-in-Bin.ensures ∙ ap masked_of c.get-in-Bin-2.ensures)
    ∙ sym (ap masked_of c.in-Bin.is ∙ of_bin c.in-Bin.op c.in-Bin.left c.in-Bin.right c.in-Bin.field-3)

pub masked_at-returns : goal.masked_at-returns
masked_at-returns t c =
    ap (masked_as c.args.whole) (c.in_ok-push.ensures.ok ∙ ap (λ (m : Masked). m.mask ++ true ∷ []) c.in_ok-place.ensures)
