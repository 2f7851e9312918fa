use Rattle.std.proofs.Common.{◌∙◌, sym, subst, Err}
use Rattle.std.specs.Str.Parse.{ParsesUnsigned}
use Rattle.jz_listing_lines.proofs.Leaves.{not_parsed}
use Rattle.jz_listing_lines.proofs.cursor.value_of.Goals as goal

pub returns-in-Err : goal.returns-in-Err
returns-in-Err c =
    sym (not_parsed _ c.args.digits.now c.in-Err.field-0 c.requires (sym c.is_written.ensures ∙ c.if-not-is_written.false)
    (subst (λ z. ParsesUnsigned 64 10 z (Err c.in-Err.field-0)) c.as_text.ensures c.in-Err.ensures.value.0))
