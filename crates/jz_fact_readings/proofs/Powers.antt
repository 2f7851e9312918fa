-- Powers of 2 that are multiples of 2, 4 and 8.
use Rattle.std.proofs.Common.{◌≡◌, ℕ, zero, suc, ◌%◌, ◌^◌, ◌≤◌, Bool, true, refl, sym, ◌∙◌, arith, rules}
use Rattle.std.specs.Prelude.{◌==◌, nat_le}

both : (a b : Bool) → a ≡ true → b ≡ true → a ≡ b
both a b h k = h ∙ sym k

yes_le : (a b : ℕ) → a ≤ b → nat_le a b ≡ true
yes_le a b h = grind (arith, rules, h)

is_zero : (a : ℕ) → a ≡ 0 → (a == 0) ≡ true
is_zero a h = grind (arith, rules, h)

pub by_two : (n : ℕ) → nat_le 1 n ≡ (2 ^ n % 2 == 0)
by_two zero = refl
by_two (suc n) = both _ _ (yes_le 1 (suc n) (omega arith)) (is_zero (2 ^ suc n % 2) (omega arith))

pub by_four : (n : ℕ) → nat_le 2 n ≡ (2 ^ n % 4 == 0)
by_four zero = refl
by_four (suc zero) = refl
by_four (suc (suc n)) = both _ _ (yes_le 2 (suc (suc n)) (omega arith)) (is_zero (2 ^ suc (suc n) % 4) (omega arith))

pub by_eight : (n : ℕ) → nat_le 3 n ≡ (2 ^ n % 8 == 0)
by_eight zero = refl
by_eight (suc zero) = refl
by_eight (suc (suc zero)) = refl
by_eight (suc (suc (suc n))) = both _ _ (yes_le 3 (suc (suc (suc n))) (omega arith)) (is_zero (2 ^ suc (suc (suc n)) % 8) (omega arith))
