-- Powers of 2.
use Rattle.std.proofs.Common.{◌≡◌, ℕ, ◌<◌, ◌^◌, ◌*◌, ◌%◌, ap, ◌∙◌, arith, pos, to_z}
use Rattle.std.specs.Int.{w128}
use Rattle.std.proofs.lemmas.Nat.{pow_below}
use Rattle.std.proofs.lemmas.Int.{to_z_pos}
use Rattle.std.proofs.Math.Nat.{mod-eq_of_lt}

-- 1 shifted to a place below the sign
pub power_is : (n : ℕ) → n < 127 → to_z w128 (1 * 2 ^ n % 2 ^ 128) ≡ pos (2 ^ n)
power_is n h =
    let p : 2 ^ n < 2 ^ 127 = pow_below n 127 h in
    let q : 1 * 2 ^ n % 2 ^ 128 ≡ 2 ^ n = mod-eq_of_lt (omega (arith, p)) ∙ omega arith in
    ap (to_z w128) q ∙ to_z_pos w128 (2 ^ n) p
