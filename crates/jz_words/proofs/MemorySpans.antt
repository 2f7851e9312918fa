-- Loads, writes and tests of bytes that stand one after the other.
use Rattle.std.proofs.Common.{◌≡◌, ℕ, zero, suc, ◌+◌, ◌-◌, ◌*◌, ◌/◌, ◌%◌, ◌^◌, ◌<◌, ◌≤◌, Ordering, Bool, true, false, cond, refl, sym, ap, ◌∙◌, arith}
use Rattle.std.specs.Prelude.{Some, None, is_some}
use Rattle.std.specs.declared.cmp.Ordering.TheVariants.{Less, Equal, Greater}
use Rattle.std.specs.Ordering.{nat_cmp, is_eq, eq_by_cmp}
use Rattle.std.specs.Cmp.{nat_cmp_total}
use Rattle.std.specs.FinMap.{get, insert, get-insert, nat_cmp-IsAntisymmetric}
use Rattle.std.proofs.Math.Nat.{pow-le-pow_right}
use Rattle.std.proofs.lemmas.Bool.{and_parts}
use Rattle.jz_words.specs.declared.size.Size.{Size}
use Rattle.jz_words.specs.declared.size.Size.TheVariants.{S8, S16, S32, S64}
use Rattle.jz_words.specs.Sizes.{bytes_of}
use Rattle.jz_words.specs.Memory.{Memory, loaded, all_valid, stored}

less_one : (n : ℕ) → suc n - 1 ≡ n
less_one n = omega arith

pub loaded_none : (m : Memory) (a n : ℕ) → 0 < n → get m a ≡ None → loaded m a n ≡ None
unfolding loaded
loaded_none m a zero lt e = absurd (omega arith)
loaded_none m a (suc n) lt e = rw e refl

pub loaded_no_high : (m : Memory) (a n b : ℕ) → 0 < n → get m a ≡ Some b → loaded m ((a + 1) % 2 ^ 64) (n - 1) ≡ None → loaded m a n ≡ None
unfolding loaded
loaded_no_high m a zero b lt e h = absurd (omega arith)
loaded_no_high m a (suc n) b lt e h = let k = rw (less_one n) at h in rw e (rw k refl)

pub loaded_some : (m : Memory) (a n b high : ℕ) → 0 < n → get m a ≡ Some b → loaded m ((a + 1) % 2 ^ 64) (n - 1) ≡ Some high → loaded m a n ≡ Some (b + 256 * high)
unfolding loaded
loaded_some m a zero b high lt e h = absurd (omega arith)
loaded_some m a (suc n) b high lt e h = let k = rw (less_one n) at h in rw e (rw k refl)

-- a number of at most seven bytes
pub fits_seven_bytes : (x n : ℕ) → x < 256 ^ n → n ≤ 7 → x < 256 ^ 7
fits_seven_bytes x n h le = omega (arith, pow-le-pow_right {n = 256} (omega arith) le)

pub fits_one_more : (b high n : ℕ) → 0 < n → b < 256 → high < 256 ^ (n - 1) → b + 256 * high < 256 ^ n
fits_one_more b high zero lt h k = absurd (omega arith)
fits_one_more b high (suc n) lt h k = let j = rw (less_one n) at k in let e : 256 ^ suc n ≡ 256 * 256 ^ n = grind arith in omega (arith, j, e)

pub none_valid : (m : Memory) (a : ℕ) → all_valid m a 0 ≡ true
unfolding all_valid
none_valid m a = refl

pub not_valid : (m : Memory) (a n : ℕ) → 0 < n → is_some (get m a) ≡ false → all_valid m a n ≡ false
unfolding all_valid
not_valid m a zero lt e = absurd (omega arith)
not_valid m a (suc n) lt e = rw e refl

pub more_valid : (m : Memory) (a n : ℕ) → 0 < n → is_some (get m a) ≡ true → all_valid m a n ≡ all_valid m ((a + 1) % 2 ^ 64) (n - 1)
unfolding all_valid
more_valid m a zero lt e = absurd (omega arith)
more_valid m a (suc n) lt e = rw (less_one n) (rw e refl)

pub valid_parts : (m : Memory) (a n : ℕ) → 0 < n → all_valid m a n ≡ true → (is_some (get m a) ≡ true) × (all_valid m ((a + 1) % 2 ^ 64) (n - 1) ≡ true)
unfolding all_valid
valid_parts m a zero lt h = absurd (omega arith)
valid_parts m a (suc n) lt h = rw (less_one n) (and_parts _ _ h)

pub stored_more : (m : Memory) (a n v : ℕ) → 0 < n → stored m a n v ≡ stored (insert m a (v % 256)) ((a + 1) % 2 ^ 64) (n - 1) (v / 256)
unfolding stored
stored_more m a zero v lt = absurd (omega arith)
stored_more m a (suc n) v lt = rw (less_one n) refl

-- a write to a valid byte leaves the same bytes valid
equal_keys : (q a : ℕ) (o : Ordering) → nat_cmp q a ≡ o → is_eq o ≡ true → q ≡ a
equal_keys q a Less e h = cc
equal_keys q a Equal e h = nat_cmp-IsAntisymmetric q a e
equal_keys q a Greater e h = cc

valid_by : (m : Memory) (a v q : ℕ) (b : Bool) → eq_by_cmp nat_cmp q a ≡ b → is_some (get m a) ≡ true → is_some (cond b (Some v) (get m q)) ≡ is_some (get m q)
valid_by m a v q true e h = sym h ∙ ap (λ k. is_some (get m k)) (sym (equal_keys q a (nat_cmp q a) refl e))
valid_by m a v q false e h = refl

valid_after : (m : Memory) (a v q : ℕ) → is_some (get m a) ≡ true → is_some (get (insert m a v) q) ≡ is_some (get m q)
valid_after m a v q h = ap is_some (get-insert nat_cmp_total m a v q) ∙ valid_by m a v q (eq_by_cmp nat_cmp q a) refl h

pub all_valid_after : (m : Memory) (a v q n : ℕ) → is_some (get m a) ≡ true → all_valid (insert m a v) q n ≡ all_valid m q n
unfolding all_valid
all_valid_after m a v q zero h = refl
all_valid_after m a v q (suc n) h = rw (valid_after m a v q h) (rw (all_valid_after m a v ((q + 1) % 2 ^ 64) n h) refl)

-- a word has a byte
pub has_a_byte : (s : Size) → 0 < bytes_of s
has_a_byte S8 = omega arith
has_a_byte S16 = omega arith
has_a_byte S32 = omega arith
has_a_byte S64 = omega arith
