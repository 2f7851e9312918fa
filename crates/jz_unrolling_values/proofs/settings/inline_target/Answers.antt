use Rattle.std.proofs.Common.{◌∙◌, ap, sym}
use Rattle.std.specs.Option.{option_copied}
use Rattle.jz_unrolling_values.specs.InlineNames.{names_in}
use Rattle.jz_unrolling_values.proofs.SettingLemmas.{one_left, named_inline}
use Rattle.jz_unrolling_values.proofs.settings.inline_target.Goals as goal

pub returns-then-has : goal.returns-then-has
returns-then-has c = (
  one_left c.args.to.now c.in-Some-Var.field-0.now _ (sym c.len.ensures ∙ c.if-len-ne1.false)
      (sym (sym c.get.ensures.value ∙ ap option_copied c.in-Some-Var.is)) c.in-Some-Var.field-0-is,
  named_inline (names_in c.args.vars.now) c.in-Some-Var.var (sym c.has.ensures ∙ c.if-has.true),
)
