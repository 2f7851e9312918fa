use Rattle.std.proofs.Common.{◌≡◌, ◌∙◌, ap, sym, arith}
use Rattle.jz_tree.specs.declared.expr.Expr.{size-Expr}
use Rattle.jz_tree.specs.declared.expr.Expr.TheVariants.{Bin}
use Rattle.jz_tree.proofs.Sides.{left_smaller}
use Rattle.jz_terms.specs.Terms.{term_of}
use Rattle.jz_terms.proofs.TermForms.{term_num, term_bool, term_var, term_cell, term_load, term_neg, term_not, term_cast, term_bin}
use Rattle.jz_required.specs.Readings.{reading, operation_reading}
use Rattle.jz_required.specs.Kept.{reading_of}
use Rattle.jz_required.specs.InnerSides.{on_operands}
use Rattle.jz_required.proofs.Sides.{last_operand}
use Rattle.jz_required.proofs.Parts.{cell_reads, load_reads}
use Rattle.jz_required.proofs.looking.+look.Goals as goal

pub look_side-loop-rest-preserved : goal.look_side-loop-rest-preserved
look_side-loop-rest-preserved t c =
    let xs = c.loop-rest.operands.items in
    let left = c.get-rest.result.now in
    let right = c.get.result.now in
    let rest = reading (term_of left) in
    let whole : Bin c.in-Bin.op left right c.in-Bin.span ≡ c.loop-rest.rest.now = rw (c.get-rest.ensures, c.get.ensures) (sym c.in-Bin.is) in
    let both : reading (term_of c.loop-rest.rest.now) ≡ operation_reading c.divides.result c.in-Bin.span rest (reading_of c.in_ok-read.read) =
    ap reading (term_bin c.loop-rest.rest.now c.in-Bin.op left right c.in-Bin.span (sym whole)) ∙ ap (λ d. operation_reading d c.in-Bin.span rest (reading (term_of right))) (sym c.divides.ensures)
    ∙ ap (operation_reading c.divides.result c.in-Bin.span rest) (sym c.in_ok-read.ensures) in (
      ap (λ ys. on_operands ys rest) c.in_ok-push.ensures.items
          ∙ last_operand xs (record { divides = c.divides.result; span = c.in-Bin.span; right = c.in_ok-read.read }) rest
          ∙ ap (on_operands xs) (sym both) ∙ c.loop-rest.invariant.0,
      omega (arith, left_smaller c.in-Bin.op left right c.in-Bin.span, ap size-Expr whole, c.loop-rest.invariant.1),
    )

pub look_single-returns-in-Num : goal.look_single-returns-in-Num
look_single-returns-in-Num t c = c.nothing.ensures ∙ sym (ap reading (term_num _ _ _ c.in-Num.is))

pub look_single-returns-in-Bool : goal.look_single-returns-in-Bool
look_single-returns-in-Bool t c = c.nothing-in-Bool.ensures ∙ sym (ap reading (term_bool _ _ _ c.in-Bool.is))

pub look_single-returns-in_ok-found-in-Var : goal.look_single-returns-in_ok-found-in-Var
look_single-returns-in_ok-found-in-Var t c = c.in_ok-found-in-Var.ensures ∙ sym (ap reading (term_var _ _ c.in-Var.is))

pub look_single-returns-in_ok-found-in-Cell : goal.look_single-returns-in_ok-found-in-Cell
look_single-returns-in_ok-found-in-Cell t c =
    c.in_ok-found-in-Cell.ensures ∙ cell_reads c.in-Cell.var c.in-Cell.index _ (c.in_ok-inner-in-Cell.ensures ∙ ap (λ e. reading (term_of e)) c.get.ensures)
    ∙ sym (ap reading (term_cell _ _ _ c.in-Cell.is))

pub look_single-returns-in_ok-found-in-Load : goal.look_single-returns-in_ok-found-in-Load
look_single-returns-in_ok-found-in-Load t c =
    c.in_ok-found-in-Load.ensures ∙ load_reads c.in-Load.access _ (c.in_ok-inner-in-Load.ensures ∙ ap (λ e. reading (term_of e)) c.get-in-Load.ensures)
    ∙ sym (ap reading (term_load _ _ c.in-Load.is))

pub look_single-returns-in_ok-found-in-Neg : goal.look_single-returns-in_ok-found-in-Neg
look_single-returns-in_ok-found-in-Neg t c =
    c.in_ok-found-in-Neg.ensures ∙ ap (λ e. reading (term_of e)) c.get-in-Neg.ensures ∙ sym (ap reading (term_neg _ _ _ c.in-Neg.is))

pub look_single-returns-in_ok-found-in-Not : goal.look_single-returns-in_ok-found-in-Not
look_single-returns-in_ok-found-in-Not t c =
    c.in_ok-found-in-Not.ensures ∙ ap (λ e. reading (term_of e)) c.get-in-Not.ensures ∙ sym (ap reading (term_not _ _ _ c.in-Not.is))

pub look_single-returns-in_ok-found-in-Cast : goal.look_single-returns-in_ok-found-in-Cast
look_single-returns-in_ok-found-in-Cast t c =
    c.in_ok-found-in-Cast.ensures ∙ ap (λ e. reading (term_of e)) c.get-in-Cast.ensures ∙ sym (ap reading (term_cast _ _ _ _ _ c.in-Cast.is))
