-- The lowest bytes of the word are those of the signed number.
use Rattle.std.proofs.Common.{◌++◌, ap, ◌∙◌}
use Rattle.x64_insn.specs.Chosen.{bytes_of_number}
use Rattle.x64_encode.proofs.PushedBytes.{word_bytes, word_is}
use Rattle.x64_encode.proofs.code.Code15.push_signed.Goals as goal

pub returns : goal.returns
returns c =
    c.push_number.ensures ∙ ap (λ bs. c.args.self.now ++ bs)
    (ap (λ n. bytes_of_number c.args.count n) (word_is c.args.number c.cast_unsigned.result c.ranges.number c.cast_unsigned.ensures) ∙ word_bytes c.args.count c.args.number c.requires.count)
