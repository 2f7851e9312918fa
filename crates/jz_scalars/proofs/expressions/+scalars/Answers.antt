use Rattle.std.proofs.Common.{rules, ◌≡◌, ◌∙◌, ap, sym, arith}
use Rattle.jz_tree.specs.declared.expr.Expr.{size-Expr}
use Rattle.jz_tree.specs.declared.expr.Expr.TheVariants.{Bin}
use Rattle.jz_tree.specs.declared.expr.Expr.TheVariants as expr
use Rattle.jz_tree.specs.declared.expr.Expr.TheViews.{roll-Access}
use Rattle.jz_tree.specs.LeftSides.{on_left}
use Rattle.jz_tree.proofs.Sides.{last_step, left_smaller}
use Rattle.jz_arrays.specs.Cells.{size_at, cell_in, cell_or, with_scalars}
use Rattle.jz_scalars.proofs.Forms.{in_num, in_bool, in_var, in_cell, in_load, in_neg, in_not, in_cast, in_bin, in_access}
use Rattle.jz_scalars.proofs.expressions.+scalars.Goals as goal

pub side_with_scalars-loop-rest-preserved : goal.side_with_scalars-loop-rest-preserved
side_with_scalars-loop-rest-preserved t c =
    let whole : Bin c.in-Bin.op c.get-rest.result.now c.get.result.now c.in-Bin.span ≡ c.loop-rest.rest.now =
    rw (c.get-rest.ensures, c.get.ensures) (sym c.in-Bin.is) in (
      ap (λ steps. on_left steps (with_scalars c.get-rest.result.now)) c.in_ok-push.ensures.items
          ∙ last_step _ _ _
          ∙ ap (λ r. on_left c.loop-rest.steps.items (Bin c.in-Bin.op (with_scalars c.get-rest.result.now) r c.in-Bin.span)) c.in_ok-with_scalars.ensures
          ∙ ap (on_left c.loop-rest.steps.items) (sym (in_bin c.in-Bin.op c.get-rest.result.now c.get.result.now c.in-Bin.span) ∙ ap with_scalars whole)
          ∙ c.loop-rest.invariant.0,
      omega (arith, left_smaller c.in-Bin.op c.get-rest.result.now c.get.result.now c.in-Bin.span, ap size-Expr whole, c.loop-rest.invariant.1),
    )

pub access_with_scalars-returns : goal.access_with_scalars-returns
access_with_scalars-returns t c =
    ap
    (λ at. roll-Access (record { size = c.args.access.now.size; at = at; unaligned = c.args.access.now.unaligned; span = c.args.access.now.span }))
    c.in_ok-boxed_with_scalars.ensures
    ∙ sym (in_access c.args.access.now)

pub single_with_scalars-returns-in-Num : goal.single_with_scalars-returns-in-Num
single_with_scalars-returns-in-Num t c = search rules ∙ sym (ap with_scalars c.in-Num.is ∙ in_num c.in-Num.number c.in-Num.span)

pub single_with_scalars-returns-in-Bool : goal.single_with_scalars-returns-in-Bool
single_with_scalars-returns-in-Bool t c = sym (ap with_scalars c.in-Bool.is ∙ in_bool c.in-Bool.truth c.in-Bool.span)

pub single_with_scalars-returns-in_ok-copy-in-Var : goal.single_with_scalars-returns-in_ok-copy-in-Var
single_with_scalars-returns-in_ok-copy-in-Var t c = ap expr.Var c.in_ok-copy-in-Var.ensures ∙ sym (ap with_scalars c.in-Var.is ∙ in_var c.in-Var.var)

pub single_with_scalars-returns-in_ok-cell-in-Cell : goal.single_with_scalars-returns-in_ok-cell-in-Cell
single_with_scalars-returns-in_ok-cell-in-Cell t c =
    let v = c.in-Cell.array in
    c.in_ok-cell-in-Cell.ensures
    ∙ ap (λ e. cell_or v e (size_at v) (cell_in v c.get.result.now)) c.in_ok-index-in-Cell.ensures
    ∙ ap (λ i. cell_or v (with_scalars c.in-Cell.at) (size_at v) (cell_in v i)) c.get.ensures
    ∙ sym (ap with_scalars c.in-Cell.is ∙ in_cell c.in-Cell.array c.in-Cell.at)

pub single_with_scalars-returns-in_ok-access_with_scalars-in-Load : goal.single_with_scalars-returns-in_ok-access_with_scalars-in-Load
single_with_scalars-returns-in_ok-access_with_scalars-in-Load t c = ap expr.Load c.in_ok-access_with_scalars-in-Load.ensures ∙ sym (ap with_scalars c.in-Load.is ∙ in_load c.in-Load.access)

pub single_with_scalars-returns-in_ok-boxed_with_scalars-in-Neg : goal.single_with_scalars-returns-in_ok-boxed_with_scalars-in-Neg
single_with_scalars-returns-in_ok-boxed_with_scalars-in-Neg t c =
    ap (λ e. expr.Neg e c.in-Neg.span) c.in_ok-boxed_with_scalars-in-Neg.ensures ∙ sym (ap with_scalars c.in-Neg.is ∙ in_neg c.in-Neg.e c.in-Neg.span)

pub single_with_scalars-returns-in_ok-boxed_with_scalars-in-Not : goal.single_with_scalars-returns-in_ok-boxed_with_scalars-in-Not
single_with_scalars-returns-in_ok-boxed_with_scalars-in-Not t c =
    ap (λ e. expr.Not e c.in-Not.span) c.in_ok-boxed_with_scalars-in-Not.ensures ∙ sym (ap with_scalars c.in-Not.is ∙ in_not c.in-Not.e c.in-Not.span)

pub single_with_scalars-returns-in_ok-boxed_with_scalars-in-Cast : goal.single_with_scalars-returns-in_ok-boxed_with_scalars-in-Cast
single_with_scalars-returns-in_ok-boxed_with_scalars-in-Cast t c =
    ap (λ e. expr.Cast c.in-Cast.size c.in-Cast.signed e c.in-Cast.span) c.in_ok-boxed_with_scalars-in-Cast.ensures
    ∙ sym (ap with_scalars c.in-Cast.is ∙ in_cast c.in-Cast.size c.in-Cast.signed c.in-Cast.e c.in-Cast.span)

pub single_with_scalars-returns-in_ok-boxed_with_scalars-in-Bin : goal.single_with_scalars-returns-in_ok-boxed_with_scalars-in-Bin
single_with_scalars-returns-in_ok-boxed_with_scalars-in-Bin t c =
    ap (λ e. Bin c.in-Bin.op e c.in_ok-boxed_with_scalars-in-Bin.field-0 c.in-Bin.span) c.in_ok-first-in-Bin.ensures
    ∙ ap (λ e. Bin c.in-Bin.op (with_scalars c.in-Bin.left) e c.in-Bin.span) c.in_ok-boxed_with_scalars-in-Bin.ensures
    ∙ sym (ap with_scalars c.in-Bin.is ∙ in_bin c.in-Bin.op c.in-Bin.left c.in-Bin.right c.in-Bin.span)
