use Rattle.std.proofs.Common.{◌≡◌, ◌<◌, ◌^◌, drop}
use Rattle.jz_lex.specs.LexingWords.{digits_number}
use Rattle.jz_lex.proofs.LexingNumbers.{rest_value}
use Rattle.jz_annotations.proofs.number.digits_value.Given as goal

abbrev pub invariant-loop-byte : goal.invariant-loop-byte
invariant-loop-byte l = (rest_value l.base l.value (drop l.byte-index l.bytes) ≡ digits_number l.base l.bytes) × (l.value < 2 ^ 128)
