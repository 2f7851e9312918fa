use Rattle.jz_unrolling_values.proofs.RefusalLemmas.{handed, left_inline, left_named, left_array, left_index}
use Rattle.std.proofs.Common.{◌≡◌, ◌∙◌, ap, sym, subst, false}
use Rattle.jz_type_names.specs.Kinds.{is_inline_int}
use Rattle.jz_unroll.specs.Values.{left_has_values}
use Rattle.jz_unrolling_values.specs.InlineNames.{names_in}
use Rattle.jz_unrolling_values.specs.Numbers.{numbers_in}
use Rattle.jz_unrolling_values.proofs.expressions.left_with_values.Goals as goal

pub returns-then-is_inline_int-clause-known : goal.returns-then-is_inline_int-clause-known
returns-then-is_inline_int-clause-known c =
    let names = names_in c.args.values.now.vars.now in
    let e = numbers_in c.args.values.now.known.now in
    subst (λ x. left_has_values names e x ≡ false) (sym c.in-Var.is)
    (left_inline names e c.in-Var.var (sym (c.if-is_inline_int.ensures ∙ ap is_inline_int c.known.ensures)))

pub returns-in_err-var-in-Var-clause-known : goal.returns-in_err-var-in-Var-clause-known
returns-in_err-var-in-Var-clause-known c =
    let names = names_in c.args.values.now.vars.now in
    let e = numbers_in c.args.values.now.known.now in
    handed _ _ c.from_residual.result c.in_err-var-in-Var.field-0.0 c.from_residual.ensures.1 c.in_err-var-in-Var.ensures.plain
    (λ fails. subst (λ x. left_has_values names e x ≡ false) (sym c.in-Var.is) (left_named names e c.in-Var.var fails))

pub returns-in_err-array-in-Cell-clause-known : goal.returns-in_err-array-in-Cell-clause-known
returns-in_err-array-in-Cell-clause-known c =
    let names = names_in c.args.values.now.vars.now in
    let e = numbers_in c.args.values.now.known.now in
    let i = c.in-Cell in
    handed _ _ c.from_residual-in_err-array-in-Cell.result c.in_err-array-in-Cell.field-0.0 c.from_residual-in_err-array-in-Cell.ensures.1 c.in_err-array-in-Cell.ensures.plain
    (λ fails. subst (λ x. left_has_values names e x ≡ false) (sym i.is) (left_array names e i.var i.at fails))

pub returns-in_err-at-in-Cell-clause-known : goal.returns-in_err-at-in-Cell-clause-known
returns-in_err-at-in-Cell-clause-known c =
    let names = names_in c.args.values.now.vars.now in
    let e = numbers_in c.args.values.now.known.now in
    let i = c.in-Cell in
    handed _ _ c.from_residual-in_err-at-in-Cell.result c.in_err-at-in-Cell.field-0.0 c.from_residual-in_err-at-in-Cell.ensures.1 c.in_err-at-in-Cell.ensures
    (λ fails. subst (λ x. left_has_values names e x ≡ false) (sym i.is) (left_index names e i.var i.at fails))

pub returns-in_err-access-in-Store-clause-known : goal.returns-in_err-access-in-Store-clause-known
returns-in_err-access-in-Store-clause-known c =
    let names = names_in c.args.values.now.vars.now in
    let e = numbers_in c.args.values.now.known.now in
    let i = c.in-Store in
    handed _ _ c.from_residual-in_err-access-in-Store.result c.in_err-access-in-Store.field-0.0 c.from_residual-in_err-access-in-Store.ensures.1 c.in_err-access-in-Store.ensures.known
    (λ fails. subst (λ x. left_has_values names e x ≡ false) (sym i.is) fails)
