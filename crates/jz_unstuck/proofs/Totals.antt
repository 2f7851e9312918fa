-- Words as whole numbers modulo 2 ^ 64, and the bytes of a region.
use Rattle.std.proofs.Common.{◌≡◌, ℕ, zero, suc, ◌+◌, ◌-◌, ◌*◌, ◌%◌, ◌^◌, ◌<◌, ◌≤◌, Bool, true, false, Option, Some, None, refl, sym, subst, arith, ℤ, pos, ◌+ℤ◌, ◌-ℤ◌, ◌*ℤ◌}
use Rattle.std.specs.Prelude.{IsSome, is_some, ◌&&◌}
use Rattle.std.specs.Option.{option_and_then}
use Rattle.std.specs.Int.{int_div_euclid}
use Rattle.std.specs.FinMap.{get}
use Rattle.std.proofs.lemmas.Int.{ints}
use Rattle.std.proofs.Math.Nat.{mod-eq_of_lt}
use Rattle.x64_insn.specs.Size.TheVariants.{S64}
use Rattle.x64_insn.specs.Words.{residue}
use Rattle.x64_insn.specs.Memory.{Memory, loaded, all_valid}
use Rattle.jz_words.proofs.Residues.{residue_small, divided_by_words}

-- ---- sums

pub residue_sum : (x y : ℤ) → residue S64 (x +ℤ y) ≡ (residue S64 x + residue S64 y) % 2 ^ 64
residue_sum x y =
    let a : (int_div_euclid x (pos (2 ^ 64)) *ℤ pos (2 ^ 64)) +ℤ pos (residue S64 x) ≡ x = divided_by_words S64 x in
    let b : (int_div_euclid y (pos (2 ^ 64)) *ℤ pos (2 ^ 64)) +ℤ pos (residue S64 y) ≡ y = divided_by_words S64 y in
    let c : (int_div_euclid (x +ℤ y) (pos (2 ^ 64)) *ℤ pos (2 ^ 64)) +ℤ pos (residue S64 (x +ℤ y)) ≡ (x +ℤ y) = divided_by_words S64 (x +ℤ y) in
    same_rest (int_div_euclid x (pos (2 ^ 64))) (int_div_euclid y (pos (2 ^ 64))) (int_div_euclid (x +ℤ y) (pos (2 ^ 64))) (residue S64 x) (residue S64 y) (residue S64 (x +ℤ y)) x y a b c (residue_small (x +ℤ y))
  where
    same_rest : (p q r : ℤ) (a b c : ℕ) (x y : ℤ) → (p *ℤ pos (2 ^ 64)) +ℤ pos a ≡ x → (q *ℤ pos (2 ^ 64)) +ℤ pos b ≡ y → (r *ℤ pos (2 ^ 64)) +ℤ pos c ≡ (x +ℤ y) → c < 2 ^ 64 → c ≡ (a + b) % 2 ^ 64
    same_rest p q r a b c x y e f g h = omega (arith, ints, e, f, g, h)

pub residue_difference : (x y : ℤ) → residue S64 (x -ℤ y) ≡ (residue S64 x + 2 ^ 64 - residue S64 y) % 2 ^ 64
residue_difference x y =
    let a : (int_div_euclid x (pos (2 ^ 64)) *ℤ pos (2 ^ 64)) +ℤ pos (residue S64 x) ≡ x = divided_by_words S64 x in
    let b : (int_div_euclid y (pos (2 ^ 64)) *ℤ pos (2 ^ 64)) +ℤ pos (residue S64 y) ≡ y = divided_by_words S64 y in
    let c : (int_div_euclid (x -ℤ y) (pos (2 ^ 64)) *ℤ pos (2 ^ 64)) +ℤ pos (residue S64 (x -ℤ y)) ≡ (x -ℤ y) = divided_by_words S64 (x -ℤ y) in
    same_rest (int_div_euclid x (pos (2 ^ 64))) (int_div_euclid y (pos (2 ^ 64))) (int_div_euclid (x -ℤ y) (pos (2 ^ 64))) (residue S64 x) (residue S64 y) (residue S64 (x -ℤ y)) x y a b c (residue_small y) (residue_small (x -ℤ y))
  where
    same_rest : (p q r : ℤ) (a b c : ℕ) (x y : ℤ) → (p *ℤ pos (2 ^ 64)) +ℤ pos a ≡ x → (q *ℤ pos (2 ^ 64)) +ℤ pos b ≡ y → (r *ℤ pos (2 ^ 64)) +ℤ pos c ≡ (x -ℤ y) → b < 2 ^ 64 → c < 2 ^ 64 → c ≡ (a + 2 ^ 64 - b) % 2 ^ 64
    same_rest p q r a b c x y e f g k h = omega (arith, ints, e, f, g, k, h)

pub residue_word : (n : ℕ) → n < 2 ^ 64 → residue S64 (pos n) ≡ n
residue_word n h = mod-eq_of_lt h

-- ---- valid bytes

pub some_is : {A : Type 0} (o : Option A) → IsSome o → (b : A) × (o ≡ Some b)
some_is None e = absurd (cc e)
some_is (Some b) e = (b, refl)

-- the bytes from a on, as many as n
abbrev pub Bytes : Memory → ℕ → ℕ → Type 0
Bytes m a n = (i : ℕ) → i < n → IsSome (get m (a + i))

next_address : (a n : ℕ) → a + suc (suc n) ≤ 2 ^ 64 → (a + 1) % 2 ^ 64 ≡ a + 1
next_address a n h = omega (arith, h)

rest_of : (m : Memory) (a n : ℕ) → Bytes m a (suc n) → Bytes m (a + 1) n
rest_of m a n b i h = let e : a + suc i ≡ a + 1 + i = omega arith in subst (λ q. IsSome (get m q)) e (b (suc i) (omega (arith, h)))

first_of : (m : Memory) (a n : ℕ) → Bytes m a (suc n) → IsSome (get m a)
first_of m a n b = let e : a + 0 ≡ a = omega arith in subst (λ q. IsSome (get m q)) e (b 0 (omega arith))

both_there : (low high : Option ℕ) → IsSome low → IsSome high → IsSome (option_and_then (λ b. option_and_then (λ h. Some (b + 256 * h)) high) low)
both_there None high p q = absurd (cc p)
both_there (Some b) None p q = absurd (cc q)
both_there (Some b) (Some h) p q = refl

rest_loaded : (m : Memory) (a n : ℕ) → a + suc n ≤ 2 ^ 64 → IsSome (loaded m (a + 1) n) → IsSome (loaded m ((a + 1) % 2 ^ 64) n)
unfolding loaded
rest_loaded m a zero h e = refl
rest_loaded m a (suc n) h e = subst (λ q. IsSome (loaded m q (suc n))) (sym (next_address a n h)) e

pub bytes_loaded : (m : Memory) (a n : ℕ) → a + n ≤ 2 ^ 64 → Bytes m a n → IsSome (loaded m a n)
unfolding loaded
bytes_loaded m a zero h b = refl
bytes_loaded m a (suc n) h b = both_there (get m a) (loaded m ((a + 1) % 2 ^ 64) n) (first_of m a n b) (rest_loaded m a n h (bytes_loaded m (a + 1) n (omega (arith, h)) (rest_of m a n b)))

both_true : (p q : Bool) → p ≡ true → q ≡ true → (p && q) ≡ true
both_true true q e f = f
both_true false q e f = absurd (cc e)

rest_valid : (m : Memory) (a n : ℕ) → a + suc n ≤ 2 ^ 64 → all_valid m (a + 1) n ≡ true → all_valid m ((a + 1) % 2 ^ 64) n ≡ true
unfolding all_valid
rest_valid m a zero h e = refl
rest_valid m a (suc n) h e = subst (λ q. all_valid m q (suc n) ≡ true) (sym (next_address a n h)) e

pub bytes_valid : (m : Memory) (a n : ℕ) → a + n ≤ 2 ^ 64 → Bytes m a n → all_valid m a n ≡ true
unfolding all_valid
bytes_valid m a zero h b = refl
bytes_valid m a (suc n) h b = both_true (is_some (get m a)) (all_valid m ((a + 1) % 2 ^ 64) n) (first_of m a n b) (rest_valid m a n h (bytes_valid m (a + 1) n (omega (arith, h)) (rest_of m a n b)))
