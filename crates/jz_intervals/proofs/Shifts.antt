-- A word that is shifted by all its bits or more is 0.
use Rattle.std.proofs.Common.{◌≡◌, ℕ, ◌/◌, ◌^◌, ◌<◌, ◌≤◌, arith}
use Rattle.std.proofs.Math.Nat.{div-eq_of_lt, pow-le-pow_right}

pub gone : (a n : ℕ) → a < 2 ^ 64 → 64 ≤ n → a / 2 ^ n ≡ 0
gone a n l m =
    let p : 2 ^ 64 ≤ 2 ^ n = pow-le-pow_right {n = 2} (omega arith) m in
    div-eq_of_lt (below (2 ^ 64) (2 ^ n) p l)
  where
    below : (x y : ℕ) → x ≤ y → a < x → a < y
    below x y h k = omega (arith, h, k)
