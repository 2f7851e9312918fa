-- Numbers one after another.
use Rattle.std.proofs.Common.{◌≡◌, ℕ, zero, suc, ◌+◌, ◌-◌, ◌<◌, ◌^◌, List, [], ◌∷◌, ◌++◌, sym, ap, ◌∙◌, append_assoc, arith}
use Rattle.jz_change.specs.declared.change.Number.{Number}
use Rattle.jz_change.specs.declared.change.Number.TheVariants.{Nth}
use Rattle.jz_inline.specs.Widths.{capped}
use Rattle.jz_inline.specs.Calls.{from}
use Rattle.jz_inline.proofs.Capping.{exact}

from_suc : (i k : ℕ) → from i (suc k) ≡ from i k ++ Nth (i + k) ∷ []
from_suc i zero = let e : i ≡ i + 0 = omega arith in ap (λ m. Nth m ∷ []) e
from_suc i (suc k) = let e : suc i + k ≡ i + suc k = omega arith in ap (λ l. Nth i ∷ l) (from_suc (suc i) k ∙ ap (λ m. from (suc i) k ++ Nth m ∷ []) e)

from_more : (i k : ℕ) → from i (k + 1) ≡ from i k ++ Nth (i + k) ∷ []
from_more i k = let e : k + 1 ≡ suc k = omega arith in ap (from i) e ∙ from_suc i k

pub one_more : (old out out2 : List Number) (i k at : ℕ) → out ≡ old ++ from i k → at ≡ i + k → out2 ≡ out ++ Nth at ∷ [] → out2 ≡ old ++ from i (k + 1)
one_more old out out2 i k at h q e =
    e ∙ ap (λ l. l ++ Nth at ∷ []) h ∙ append_assoc old (from i k) (Nth at ∷ [])
    ∙ ap (λ m. old ++ (from i k ++ Nth m ∷ [])) q ∙ ap (λ l. old ++ l) (sym (from_more i k))

-- a count that a list in memory has is the whole count
pub whole : (n w : ℕ) → n ≡ capped w → n < 2 ^ 63 → n ≡ w
whole n w e few = let less : capped w < 2 ^ 64 - 1 = omega (arith, e, few) in e ∙ exact (2 ^ 64 - 1) w less
