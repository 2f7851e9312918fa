-- Sizes with the same number of bits.
use Rattle.std.proofs.Common.{◌≡◌, true, refl}
use Rattle.x64_insn.specs.Size.{Size}
use Rattle.x64_insn.specs.Size.TheVariants.{S8, S16, S32, S64}
use Rattle.jz_meaning.specs.Operators.{same_size}

pub equal_sizes : (a b : Size) → same_size a b ≡ true → a ≡ b
equal_sizes S8 S8 e = refl
equal_sizes S16 S16 e = refl
equal_sizes S32 S32 e = refl
equal_sizes S64 S64 e = refl
equal_sizes S8 S16 e = absurd cc
equal_sizes S8 S32 e = absurd cc
equal_sizes S8 S64 e = absurd cc
equal_sizes S16 S8 e = absurd cc
equal_sizes S16 S32 e = absurd cc
equal_sizes S16 S64 e = absurd cc
equal_sizes S32 S8 e = absurd cc
equal_sizes S32 S16 e = absurd cc
equal_sizes S32 S64 e = absurd cc
equal_sizes S64 S8 e = absurd cc
equal_sizes S64 S16 e = absurd cc
equal_sizes S64 S32 e = absurd cc
