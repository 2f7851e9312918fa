-- Eight bytes are below 2 ^ 64.
use Rattle.std.proofs.Common.{arith}
use Rattle.x64_insn.proofs.MemorySpans.{fits_seven_bytes}
use Rattle.x64_decode.proofs.numbers.+unsigned_of.Goals as goal

pub overflow_mul-result : goal.overflow_mul-result
overflow_mul-result t c = omega (arith, fits_seven_bytes _ _ c.unsigned_of.ensures.fits (omega arith))

pub overflow_add-result : goal.overflow_add-result
overflow_add-result t c = omega (arith, fits_seven_bytes _ _ c.unsigned_of.ensures.fits (omega arith))
