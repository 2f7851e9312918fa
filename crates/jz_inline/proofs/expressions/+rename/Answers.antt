use Rattle.std.proofs.Common.{rules, ◌≡◌, ◌∙◌, ap, sym, arith}
use Rattle.jz_tree.specs.declared.expr.Expr.{size-Expr}
use Rattle.jz_tree.specs.declared.expr.Expr.TheVariants.{Bin}
use Rattle.jz_tree.specs.declared.expr.Expr.TheVariants as expr
use Rattle.jz_tree.specs.declared.expr.Expr.TheViews.{roll-Access}
use Rattle.jz_tree.specs.LeftSides.{on_left}
use Rattle.jz_tree.proofs.Sides.{last_step, left_smaller}
use Rattle.jz_inline.specs.Names.{Names, var_in, expr_in}
use Rattle.jz_inline.specs.CopiedNames.{names_of}
use Rattle.jz_inline.proofs.Renaming.{in_num, in_bool, in_var, in_cell, in_load, in_neg, in_not, in_cast, in_bin, in_access}
use Rattle.jz_inline.proofs.expressions.+rename.Goals as goal

pub side_in_copy-loop-rest-preserved : goal.side_in_copy-loop-rest-preserved
side_in_copy-loop-rest-preserved t c =
    let names : Names = names_of c.args.names.now in
    let whole : Bin c.in-Bin.op c.get-rest.result.now c.get.result.now c.in-Bin.span ≡ c.loop-rest.rest.now =
    rw (c.get-rest.ensures, c.get.ensures) (sym c.in-Bin.is) in (
      ap (λ steps. on_left steps (expr_in names c.get-rest.result.now)) c.in_ok-push.ensures.items
          ∙ last_step _ _ _
          ∙ ap (λ r. on_left c.loop-rest.steps.items (Bin c.in-Bin.op (expr_in names c.get-rest.result.now) r c.in-Bin.span)) c.in_ok-expr_in_copy.ensures
          ∙ ap (on_left c.loop-rest.steps.items) (sym (in_bin names c.in-Bin.op c.get-rest.result.now c.get.result.now c.in-Bin.span) ∙ ap (expr_in names) whole)
          ∙ c.loop-rest.invariant.0,
      omega (arith, left_smaller c.in-Bin.op c.get-rest.result.now c.get.result.now c.in-Bin.span, ap size-Expr whole, c.loop-rest.invariant.1),
    )

pub access_in_copy-returns : goal.access_in_copy-returns
access_in_copy-returns t c =
    let names : Names = names_of c.args.names.now in
    ap
    (λ at. roll-Access (record { size = c.args.access.now.size; at = at; unaligned = c.args.access.now.unaligned; span = c.args.access.now.span }))
    c.in_ok-boxed_in_copy.ensures
    ∙ sym (in_access names c.args.access.now)

pub single_in_copy-returns-in-Num : goal.single_in_copy-returns-in-Num
single_in_copy-returns-in-Num t c =
    let names : Names = names_of c.args.names.now in
    search rules ∙ sym (ap (expr_in names) c.in-Num.is ∙ in_num names c.in-Num.number c.in-Num.span)

pub single_in_copy-returns-in-Bool : goal.single_in_copy-returns-in-Bool
single_in_copy-returns-in-Bool t c =
    let names : Names = names_of c.args.names.now in
    sym (ap (expr_in names) c.in-Bool.is ∙ in_bool names c.in-Bool.truth c.in-Bool.span)

pub single_in_copy-returns-in_ok-variable-in-Var : goal.single_in_copy-returns-in_ok-variable-in-Var
single_in_copy-returns-in_ok-variable-in-Var t c =
    let names : Names = names_of c.args.names.now in
    ap expr.Var c.in_ok-variable-in-Var.ensures ∙ sym (ap (expr_in names) c.in-Var.is ∙ in_var names c.in-Var.var)

pub single_in_copy-returns-in_ok-boxed_in_copy-in-Cell : goal.single_in_copy-returns-in_ok-boxed_in_copy-in-Cell
single_in_copy-returns-in_ok-boxed_in_copy-in-Cell t c =
    let names : Names = names_of c.args.names.now in
    ap (λ v. expr.Cell v c.in_ok-boxed_in_copy-in-Cell.field-0) c.in_ok-array-in-Cell.ensures
    ∙ ap (expr.Cell (var_in names c.in-Cell.var)) c.in_ok-boxed_in_copy-in-Cell.ensures
    ∙ sym (ap (expr_in names) c.in-Cell.is ∙ in_cell names c.in-Cell.var c.in-Cell.at)

pub single_in_copy-returns-in_ok-access_in_copy-in-Load : goal.single_in_copy-returns-in_ok-access_in_copy-in-Load
single_in_copy-returns-in_ok-access_in_copy-in-Load t c =
    let names : Names = names_of c.args.names.now in
    ap expr.Load c.in_ok-access_in_copy-in-Load.ensures ∙ sym (ap (expr_in names) c.in-Load.is ∙ in_load names c.in-Load.access)

pub single_in_copy-returns-in_ok-boxed_in_copy-in-Neg : goal.single_in_copy-returns-in_ok-boxed_in_copy-in-Neg
single_in_copy-returns-in_ok-boxed_in_copy-in-Neg t c =
    let names : Names = names_of c.args.names.now in
    ap (λ e. expr.Neg e c.in-Neg.span) c.in_ok-boxed_in_copy-in-Neg.ensures ∙ sym (ap (expr_in names) c.in-Neg.is ∙ in_neg names c.in-Neg.e c.in-Neg.span)

pub single_in_copy-returns-in_ok-boxed_in_copy-in-Not : goal.single_in_copy-returns-in_ok-boxed_in_copy-in-Not
single_in_copy-returns-in_ok-boxed_in_copy-in-Not t c =
    let names : Names = names_of c.args.names.now in
    ap (λ e. expr.Not e c.in-Not.span) c.in_ok-boxed_in_copy-in-Not.ensures ∙ sym (ap (expr_in names) c.in-Not.is ∙ in_not names c.in-Not.e c.in-Not.span)

pub single_in_copy-returns-in_ok-boxed_in_copy-in-Cast : goal.single_in_copy-returns-in_ok-boxed_in_copy-in-Cast
single_in_copy-returns-in_ok-boxed_in_copy-in-Cast t c =
    let names : Names = names_of c.args.names.now in
    ap (λ e. expr.Cast c.in-Cast.size c.in-Cast.signed e c.in-Cast.span) c.in_ok-boxed_in_copy-in-Cast.ensures
    ∙ sym (ap (expr_in names) c.in-Cast.is ∙ in_cast names c.in-Cast.size c.in-Cast.signed c.in-Cast.e c.in-Cast.span)

pub single_in_copy-returns-in_ok-boxed_in_copy-in-Bin : goal.single_in_copy-returns-in_ok-boxed_in_copy-in-Bin
single_in_copy-returns-in_ok-boxed_in_copy-in-Bin t c =
    let names : Names = names_of c.args.names.now in
    ap (λ e. Bin c.in-Bin.op e c.in_ok-boxed_in_copy-in-Bin.field-0 c.in-Bin.span) c.in_ok-first-in-Bin.ensures
    ∙ ap (λ e. Bin c.in-Bin.op (expr_in names c.in-Bin.left) e c.in-Bin.span) c.in_ok-boxed_in_copy-in-Bin.ensures
    ∙ sym (ap (expr_in names) c.in-Bin.is ∙ in_bin names c.in-Bin.op c.in-Bin.left c.in-Bin.right c.in-Bin.span)
