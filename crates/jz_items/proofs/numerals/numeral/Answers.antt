use Rattle.std.proofs.Common.{◌∙◌, sym}
use Rattle.jz_items.proofs.Parsed.{parsed, no_plus, plus_numeral}
use Rattle.jz_items.proofs.numerals.numeral.Goals as goal

pub returns-then-begins_with_plus : goal.returns-then-begins_with_plus
returns-then-begins_with_plus c =
    plus_numeral c.args.base c.args.digits.now c.requires.low c.requires.high (sym c.begins_with_plus.ensures ∙ c.if-begins_with_plus.true)

pub returns : goal.returns
returns c =
    let same = no_plus c.args.digits.now (sym c.begins_with_plus.ensures ∙ c.if-begins_with_plus.false) in
    c.ok.ensures.value ∙ parsed c.args.base c.args.digits.now c.from_str_radix.result same c.from_str_radix.ensures.value
