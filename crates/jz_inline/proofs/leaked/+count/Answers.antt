use Rattle.std.proofs.Common.{◌≡◌, ◌∙◌, ◌+◌, false, refl, ap, sym, arith}
use Rattle.std.specs.Prelude.{◌-◌, ◌^◌}
use Rattle.jz_tree.specs.declared.expr.Expr.{Expr, size-Expr}
use Rattle.jz_tree.specs.declared.expr.Expr.TheVariants.{Bin}
use Rattle.jz_tree.proofs.Sides.{left_smaller}
use Rattle.jz_inline.specs.declared.leaked.Counted.{Counted}
use Rattle.jz_inline.specs.Widths.{capped, sort_declared, declared_shape}
use Rattle.jz_inline.specs.InnerWidths.{is_whole, counted_left, counted_of, counted_operation}
use Rattle.jz_inline.proofs.Capping.{capped_left}
use Rattle.jz_inline.proofs.Counting.{last_operand, count_as, of_num, of_bool, of_var, of_cell, of_load, of_neg, of_not, of_cast, of_bin}
use Rattle.jz_inline.proofs.leaked.+count.Goals as goal

abbrev told : Expr → Counted
told e = counted_of (declared_shape e)

pub count_side-loop-rest-preserved : goal.count_side-loop-rest-preserved
count_side-loop-rest-preserved t c =
    let whole : Bin c.in-Bin.op c.get-rest.result.now c.get.result.now c.in-Bin.field-3 ≡ c.loop-rest.rest.now =
    rw (c.get-rest.ensures, c.get.ensures) (sym c.in-Bin.is) in (
      ap (λ steps. counted_left steps (told c.get-rest.result.now)) c.in_ok-push.ensures.items
          ∙ last_operand c.loop-rest.operands.items (record { op = c.in-Bin.op; right = c.in_ok-count_numbers.field-0 }) (told c.get-rest.result.now)
          ∙ ap (λ r. counted_left c.loop-rest.operands.items (counted_operation c.in-Bin.op (told c.get-rest.result.now) r)) c.in_ok-count_numbers.ensures
          ∙ ap (counted_left c.loop-rest.operands.items) (sym (of_bin c.in-Bin.op c.get-rest.result.now c.get.result.now c.in-Bin.field-3) ∙ ap told whole)
          ∙ c.loop-rest.invariant.0,
      omega (arith, left_smaller c.in-Bin.op c.get-rest.result.now c.get.result.now c.in-Bin.field-3, ap size-Expr whole, c.loop-rest.invariant.1),
    )

pub count_single-returns-in-Num : goal.count_single-returns-in-Num
count_single-returns-in-Num t c = c.silent.ensures ∙ sym (ap told c.in-Num.is ∙ of_num _ _)

pub count_single-returns-in-Bool : goal.count_single-returns-in-Bool
count_single-returns-in-Bool t c = c.silent-in-Bool.ensures ∙ sym (ap told c.in-Bool.is ∙ of_bool _ _)

pub count_single-returns-in-Var : goal.count_single-returns-in-Var
count_single-returns-in-Var t c =
    c.silent-in-Var.ensures ∙ ap (λ w. count_as w 0) c.is_int.ensures ∙ sym (ap told c.in-Var.is ∙ of_var c.in-Var.var)

pub count_single-returns-in_ok-cell-in-Cell : goal.count_single-returns-in_ok-cell-in-Cell
count_single-returns-in_ok-cell-in-Cell t c =
    ap (λ w. count_as w c.in_ok-cell-in-Cell.cell.count) (c.in_ok-cell-in-Cell.ensures.0 ∙ c.is_int-in-Cell.ensures)
    ∙ ap (count_as (is_whole (sort_declared c.in-Cell.var))) (c.in_ok-cell-in-Cell.ensures.1 ∙ ap (λ e. capped ((declared_shape e).count + 1)) c.get.ensures)
    ∙ sym (ap told c.in-Cell.is ∙ of_cell c.in-Cell.var c.in-Cell.at)

pub count_single-returns-in_ok-loaded-in-Load : goal.count_single-returns-in_ok-loaded-in-Load
count_single-returns-in_ok-loaded-in-Load t c =
    ap (λ w. count_as w c.in_ok-loaded-in-Load.loaded.count) c.in_ok-loaded-in-Load.ensures.0
    ∙ ap (count_as false) (c.in_ok-loaded-in-Load.ensures.1 ∙ ap (λ e. capped ((declared_shape e).count + 1)) c.get-in-Load.ensures)
    ∙ sym (ap told c.in-Load.is ∙ of_load c.in-Load.access)

pub count_single-returns-in_ok-inner-in-Neg : goal.count_single-returns-in_ok-inner-in-Neg
count_single-returns-in_ok-inner-in-Neg t c =
    c.in_ok-inner-in-Neg.ensures ∙ ap told c.get-in-Neg.ensures ∙ sym (ap told c.in-Neg.is ∙ of_neg c.in-Neg.e c.in-Neg.field-1)

pub count_single-returns-in_ok-inner-in-Not : goal.count_single-returns-in_ok-inner-in-Not
count_single-returns-in_ok-inner-in-Not t c =
    c.in_ok-inner-in-Not.ensures ∙ ap told c.get-in-Not.ensures ∙ sym (ap told c.in-Not.is ∙ of_not c.in-Not.e c.in-Not.field-1)

pub count_single-returns-in_ok-inner-in-Cast : goal.count_single-returns-in_ok-inner-in-Cast
count_single-returns-in_ok-inner-in-Cast t c =
    ap (λ (k : Counted). count_as false k.count) c.in_ok-inner-in-Cast.ensures
    ∙ ap (λ e. count_as false (capped (declared_shape e).count)) c.get-in-Cast.ensures
    ∙ sym (ap told c.in-Cast.is ∙ of_cast c.in-Cast.size c.in-Cast.signed c.in-Cast.e c.in-Cast.span)

pub count_single-returns-in_ok-second-in-Bin : goal.count_single-returns-in_ok-second-in-Bin
count_single-returns-in_ok-second-in-Bin t c =
    c.operation.ensures
    ∙ ap (λ k. counted_operation c.in-Bin.op k c.in_ok-second-in-Bin.second) (c.in_ok-first-in-Bin.ensures ∙ ap told c.get-in-Bin.ensures)
    ∙ ap (counted_operation c.in-Bin.op (told c.in-Bin.left)) (c.in_ok-second-in-Bin.ensures ∙ ap told c.get-in-Bin-2.ensures)
    ∙ sym (ap told c.in-Bin.is ∙ of_bin c.in-Bin.op c.in-Bin.left c.in-Bin.right c.in-Bin.field-3)

pub accessed-returns : goal.accessed-returns
accessed-returns t c =
    (refl, c.sum.ensures ∙ ap (λ (k : Counted). capped (k.count + 1)) c.in_ok-place.ensures ∙ capped_left (2 ^ 64 - 1) (declared_shape c.args.at.now).count 1)
