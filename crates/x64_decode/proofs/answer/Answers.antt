-- The fields that were read are short enough to be counted.
use Rattle.x64_decode.proofs.DecodeSizes.{short}
use Rattle.x64_decode.proofs.answer.Goals as goal

pub insn-requires : goal.insn-requires
insn-requires c = short c.args.bytes.now c.in-Ok.field-0-1.now c.in-Ok.fields c.in-Ok.ensures.read c.in-Ok.ensures.row

pub length-requires : goal.length-requires
length-requires c = short c.args.bytes.now c.in-Ok.field-0-1.now c.in-Ok.fields c.in-Ok.ensures.read c.in-Ok.ensures.row
