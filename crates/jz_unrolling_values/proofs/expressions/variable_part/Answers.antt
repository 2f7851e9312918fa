use Rattle.std.proofs.Common.{◌∙◌, ap, sym}
use Rattle.jz_type_names.specs.Kinds.{is_inline_int}
use Rattle.jz_integers.specs.Integers.{number}
use Rattle.jz_unrolling_values.proofs.PartLemmas.{plain_var_part, inline_var_part}
use Rattle.jz_unrolling_values.proofs.RefusalLemmas.{handed, var_no_name, var_cell}
use Rattle.jz_unrolling_values.specs.InlineNames.{names_in}
use Rattle.jz_unrolling_values.specs.Numbers.{numbers_in}
use Rattle.jz_unrolling_values.proofs.expressions.variable_part.Goals as goal

pub returns-then-not-is_inline_int : goal.returns-then-not-is_inline_int
returns-then-not-is_inline_int c =
    plain_var_part _ _ c.args.var.now c.in_ok-var.var
    (sym (c.if-not-is_inline_int.ensures ∙ ap is_inline_int c.known.ensures))
    c.in_ok-var.ensures.copy c.in_ok-var.ensures.plain

pub returns-in-None : goal.returns-in-None
returns-in-None c =
    inline_var_part _ _ c.args.var.now c.constant_of-value.result
    (sym (c.if-not-is_inline_int.ensures ∙ ap is_inline_int c.known.ensures)) c.in-None.is
    (c.constant_of-value.ensures ∙ ap number c.number.ensures)

pub returns-in_err-var : goal.returns-in_err-var
returns-in_err-var c =
    let names = names_in c.args.values.now.vars.now in
    let e = numbers_in c.args.values.now.known.now in
    handed _ _ c.from_residual.result c.in_err-var.field-0.0 c.from_residual.ensures.1 c.in_err-var.ensures.plain
    (var_no_name names e c.args.var.now (sym (c.if-not-is_inline_int.ensures ∙ ap is_inline_int c.known.ensures)))

pub returns-in-Some : goal.returns-in-Some
returns-in-Some c =
    var_cell (names_in c.args.values.now.vars.now) (numbers_in c.args.values.now.known.now) c.args.var.now c.in-Some.field-0
    (sym (c.if-not-is_inline_int.ensures ∙ ap is_inline_int c.known.ensures)) c.in-Some.is
