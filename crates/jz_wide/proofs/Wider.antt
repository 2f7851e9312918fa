-- Products, sums and comparisons of wide numbers.
use Rattle.std.proofs.Common.{◌≡◌, ℕ, ◌+◌, ◌-◌, ◌*◌, ◌/◌, ◌%◌, ◌<◌, ◌≤◌, Bool, true, false, List, [], ◌∷◌, length, drop, refl, ap, sym, ◌∙◌, arith, rules}
use Rattle.std.specs.Prelude.{ℤ, pos, ◌+ℤ◌, ◌-ℤ◌, int_le, nat_le}
use Rattle.jz_wide.specs.Values.{sum}

-- two halves of a product
halves : (q r t : ℕ) → (q * 18446744073709551616 + r) * t ≡ q * t * 18446744073709551616 + r * t
halves q r t = omega arith

pub product_is : (n t : ℕ) → (n / 18446744073709551616 * t + n % 18446744073709551616 * t / 18446744073709551616) * 18446744073709551616 + n % 18446744073709551616 * t % 18446744073709551616 ≡ n * t
product_is n t =
    let q = n / 18446744073709551616 in
    let r = n % 18446744073709551616 in
    let e : q * 18446744073709551616 + r ≡ n = omega arith in
    let h = halves q r t in
    let k : (q * t + r * t / 18446744073709551616) * 18446744073709551616 + r * t % 18446744073709551616 ≡ q * t * 18446744073709551616 + r * t = omega arith in
    k ∙ sym h ∙ ap (λ m. m * t) e

room_left : (h a t e : ℕ) → a ≤ t + e → nat_le h (t + e - a) ≡ int_le (pos h +ℤ (pos a -ℤ pos t)) (pos e)
room_left h a t e l = grind (arith, rules, l)

-- what is left of the end is enough, or not
pub to_end : (h a t e o r m : ℕ) (b z : Bool) → o ≡ e → r ≡ t + o → b ≡ nat_le a r → b ≡ true → m ≡ r - a → z ≡ nat_le h m → z ≡ int_le (pos h +ℤ (pos a -ℤ pos t)) (pos e)
to_end h a t e o r m b z i j k y l n =
    let s : r ≡ t + e = j ∙ ap (λ x. t + x) i in
    let u : nat_le a (t + e) ≡ true = sym (ap (nat_le a) s) ∙ sym k ∙ y in
    n ∙ ap (nat_le h) (l ∙ ap (λ x. x - a) s) ∙ room_left h a t e (grind (arith, rules, u))
