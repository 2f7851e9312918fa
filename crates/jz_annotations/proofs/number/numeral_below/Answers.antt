use Rattle.std.proofs.Common.{sym, ◌∙◌}
use Rattle.jz_annotations.proofs.Words.{not_below, wide_not_below, value_below, value_past}
use Rattle.jz_annotations.proofs.number.numeral_below.Goals as goal

pub returns-then-not-is_numeral : goal.returns-then-not-is_numeral
returns-then-not-is_numeral c = sym (not_below c.args.limit c.args.word.now (sym c.is_numeral.ensures ∙ c.if-not-is_numeral.true))

pub returns-in_err-value : goal.returns-in_err-value
returns-in_err-value c =
    c.from_residual.ensures ∙ sym (wide_not_below c.args.limit c.args.word.now c.requires (sym c.wide_value.ensures ∙ c.in_err-value.was))

pub returns-then-value-limit : goal.returns-then-value-limit
returns-then-value-limit c =
    sym (value_below c.args.limit c.args.word.now c.in_ok-value.value (sym c.is_numeral.ensures ∙ c.if-not-is_numeral.false) (sym c.wide_value.ensures ∙ c.in_ok-value.was) c.if-value-limit.true)

pub returns-else-value-limit : goal.returns-else-value-limit
returns-else-value-limit c =
    sym (value_past c.args.limit c.args.word.now c.in_ok-value.value (sym c.wide_value.ensures ∙ c.in_ok-value.was) c.if-value-limit.false)
