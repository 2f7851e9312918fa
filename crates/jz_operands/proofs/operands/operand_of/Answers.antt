use Rattle.std.proofs.Common.{rules, ap, ◌∙◌}
use Rattle.std.proofs.lemmas.Int.{to_z-of_z}
use Rattle.std.specs.Int.{w128}
use Rattle.jz_words.specs.Readings.{reading_of}
use Rattle.jz_operands.proofs.OperandLemmas.{number_arg}
use Rattle.jz_operands.proofs.operands.operand_of.Goals as goal

pub returns-in-Num : goal.returns-in-Num
returns-in-Num c =
    number_arg c.args.e.now c.in-Num.number c.in-Num.field-1 c.args.size c.reading.result c.in-Num.is
    (c.reading.ensures.value ∙ ap (reading_of c.args.size) (to_z-of_z w128 c.in-Num.number (search rules)))
    c.reading.ensures.low c.reading.ensures.high
