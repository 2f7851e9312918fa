-- The bits of a REX that is chosen, and the sizes that prefixes give.
use Rattle.std.proofs.Common.{◌≡◌, ℕ, ◌+◌, ◌*◌, ◌%◌, ◌<◌, ◌≤◌, Bool, true, false, not, Option, Some, None, refl, arith}
use Rattle.std.specs.Prelude.{◌&&◌, ◌==◌, nat_lt, nat_le, if◌then◌else◌, IfSome, IsTrue}
use Rattle.std.proofs.lemmas.Bool.{false≢true, and_parts, cond_both}
use Rattle.std.proofs.lemmas.Bool.Decides.{nat_tests}
use Rattle.jz_words.specs.declared.size.Size.{Size}
use Rattle.jz_words.specs.declared.size.Size.TheVariants.{S8, S16, S32, S64}
use Rattle.x64_insn.specs.declared.table.Operands.{Operands}
use Rattle.x64_insn.specs.declared.table.Operands.TheVariants.{Bytes, Sized}
use Rattle.x64_insn.specs.Table.{rex_bits, has_w, r_of, x_of, b_of, prefixed_size, size_by, allows_by, names_low_byte}
use Rattle.x64_insn.specs.Encoding.{is_rex}
use Rattle.x64_insn.specs.Chosen.{operand_size_for, w_for, rex_with, is_no_byte}

-- REX by the number of its bits
abbrev rex_by : ℕ → Bool → Option ℕ
rex_by n needed = if (n == 0) && not needed then None else Some (0x40 + n)

zero_from : (n : ℕ) (c : Bool) → ((n == 0) && c) ≡ true → n ≡ 0
zero_from n c e = let t : (n == 0) ≡ true = (and_parts (n == 0) c e).0 in grind (arith, nat_tests, t)

bits_of : (n : ℕ) (needed : Bool) → n < 16 → rex_bits (rex_by n needed) ≡ n
bits_of n needed h =
    cond_both ((n == 0) && not needed) None (Some (0x40 + n)) (λ z. rex_bits z ≡ n)
    (λ e. let z = zero_from n (not needed) e in omega (arith, z)) (λ e. omega (arith, h))

rex_bits_are : (w r x b : ℕ) (needed : Bool) → w < 2 → r < 2 → x < 2 → b < 2 → rex_bits (rex_with w r x b needed) ≡ 8 * w + 4 * r + 2 * x + b
rex_bits_are w r x b needed hw hr hx hb = bits_of (8 * w + 4 * r + 2 * x + b) needed (omega (arith, hw, hr, hx, hb))

pub r_is : (w r x b : ℕ) (needed : Bool) → w < 2 → r < 2 → x < 2 → b < 2 → r_of (rex_with w r x b needed) ≡ r
r_is w r x b needed hw hr hx hb = let e = rex_bits_are w r x b needed hw hr hx hb in omega (arith, e, hw, hr, hx, hb)

pub x_is : (w r x b : ℕ) (needed : Bool) → w < 2 → r < 2 → x < 2 → b < 2 → x_of (rex_with w r x b needed) ≡ x
x_is w r x b needed hw hr hx hb = let e = rex_bits_are w r x b needed hw hr hx hb in omega (arith, e, hw, hr, hx, hb)

pub b_is : (w r x b : ℕ) (needed : Bool) → w < 2 → r < 2 → x < 2 → b < 2 → b_of (rex_with w r x b needed) ≡ b
b_is w r x b needed hw hr hx hb = let e = rex_bits_are w r x b needed hw hr hx hb in omega (arith, e, hw, hr, hx, hb)

-- ---- W, by the size
pub w_small : (size : Size) → w_for size < 2
w_small S8 = omega arith
w_small S16 = omega arith
w_small S32 = omega arith
w_small S64 = omega arith

w_set : (n : ℕ) → 8 ≤ n → nat_le 8 n ≡ true
w_set n h = grind (arith, nat_tests)

w_clear : (n : ℕ) → n < 8 → nat_le 8 n ≡ false
w_clear n h = grind (arith, nat_tests)

pub has_w_is : (r x b : ℕ) (needed : Bool) → r < 2 → x < 2 → b < 2 → has_w (rex_with 1 r x b needed) ≡ true
has_w_is r x b needed hr hx hb = let e = rex_bits_are 1 r x b needed (omega arith) hr hx hb in w_set _ (omega (arith, e))

no_w : (r x b : ℕ) (needed : Bool) → r < 2 → x < 2 → b < 2 → has_w (rex_with 0 r x b needed) ≡ false
no_w r x b needed hr hx hb = let e = rex_bits_are 0 r x b needed (omega arith) hr hx hb in w_clear _ (omega (arith, e, hr, hx, hb))

pub size_is : (size : Size) (r x b : ℕ) (needed : Bool) → r < 2 → x < 2 → b < 2 → is_no_byte size ≡ true → prefixed_size (operand_size_for size) (rex_with (w_for size) r x b needed) ≡ size
size_is S8 r x b needed hr hx hb h = absurd (false≢true h)
size_is S16 r x b needed hr hx hb h = let e = no_w r x b needed hr hx hb in rw e refl
size_is S32 r x b needed hr hx hb h = let e = no_w r x b needed hr hx hb in rw e refl
size_is S64 r x b needed hr hx hb h = let e = has_w_is r x b needed hr hx hb in rw e refl

-- the operands of a size, in rows that have both
abbrev pub operands_for : Size → Operands
operands_for S8 = Bytes
operands_for other = Sized

pub size_by_is : (size : Size) (r x b : ℕ) (needed : Bool) → r < 2 → x < 2 → b < 2 → size_by (operands_for size) (operand_size_for size) (rex_with (w_for size) r x b needed) ≡ size
size_by_is S8 r x b needed hr hx hb = refl
size_by_is S16 r x b needed hr hx hb = size_is S16 r x b needed hr hx hb refl
size_by_is S32 r x b needed hr hx hb = size_is S32 r x b needed hr hx hb refl
size_by_is S64 r x b needed hr hx hb = size_is S64 r x b needed hr hx hb refl

pub allowed_by : (size : Size) → allows_by (operands_for size) (operand_size_for size) ≡ true
allowed_by S8 = refl
allowed_by S16 = refl
allowed_by S32 = refl
allowed_by S64 = refl

pub operand_size_ok : (size : Size) → IfSome (operand_size_for size) (λ b. b ≡ 0x66)
operand_size_ok S8 = tt
operand_size_ok S16 = refl
operand_size_ok S32 = tt
operand_size_ok S64 = tt

-- ---- REX passes its test
rex_passes : (n : ℕ) (needed : Bool) (p : Option ℕ) → IsTrue (is_rex p (0x40 + n)) → IfSome (rex_by n needed) (λ v. IsTrue (is_rex p v))
rex_passes n needed p h = cond_both ((n == 0) && not needed) None (Some (0x40 + n)) (λ z. IfSome z (λ v. IsTrue (is_rex p v))) (λ e. tt) (λ e. h)

in_range : (n : ℕ) → n < 16 → is_rex None (0x40 + n) ≡ true
in_range n h = grind (arith, nat_tests)

below_w : (n : ℕ) → n < 8 → is_rex (Some 0x66) (0x40 + n) ≡ true
below_w n h = grind (arith, nat_tests)

pub rex_ok : (size : Size) (r x b : ℕ) (needed : Bool) → r < 2 → x < 2 → b < 2 → IfSome (rex_with (w_for size) r x b needed) (λ v. IsTrue (is_rex (operand_size_for size) v))
rex_ok S8 r x b needed hr hx hb = rex_passes _ needed None (in_range (8 * 0 + 4 * r + 2 * x + b) (omega (arith, hr, hx, hb)))
rex_ok S16 r x b needed hr hx hb = rex_passes _ needed (Some 0x66) (below_w (8 * 0 + 4 * r + 2 * x + b) (omega (arith, hr, hx, hb)))
rex_ok S32 r x b needed hr hx hb = rex_passes _ needed None (in_range (8 * 0 + 4 * r + 2 * x + b) (omega (arith, hr, hx, hb)))
rex_ok S64 r x b needed hr hx hb = rex_passes _ needed None (in_range (8 * 1 + 4 * r + 2 * x + b) (omega (arith, hr, hx, hb)))

-- ---- registers of one byte
some_rex : (n : ℕ) (needed : Bool) (field : ℕ) → 0 < n → names_low_byte (rex_by n needed) field ≡ true
some_rex n needed field h =
    cond_both ((n == 0) && not needed) None (Some (0x40 + n)) (λ z. names_low_byte z field ≡ true)
    (λ e. let z = zero_from n (not needed) e in absurd (omega (arith, z, h))) (λ e. refl)

needed_rex : (n field : ℕ) → names_low_byte (rex_by n true) field ≡ true
needed_rex n field =
    cond_both ((n == 0) && false) None (Some (0x40 + n)) (λ z. names_low_byte z field ≡ true)
    (λ e. absurd (false≢true ((and_parts _ _ e).1))) (λ e. refl)

low_field : (rex : Option ℕ) (field : ℕ) → field < 4 → names_low_byte rex field ≡ true
low_field None field h = grind (arith, nat_tests)
low_field (Some b) field h = refl

is_pointer : (n : ℕ) → 4 ≤ n → n < 8 → (nat_le 4 n && nat_lt n 8) ≡ true
is_pointer n h k = grind (arith, nat_tests)

-- a register above 7 sets a bit, and one of 4 to 7 needs the REX
pub low_byte_named : (w r x b : ℕ) (needed : Bool) (n : ℕ) → (7 < n → 0 < 8 * w + 4 * r + 2 * x + b) → ((nat_le 4 n && nat_lt n 8) ≡ true → needed ≡ true) → names_low_byte (rex_with w r x b needed) (n % 8) ≡ true
low_byte_named w r x b true n high low = needed_rex (8 * w + 4 * r + 2 * x + b) (n % 8)
low_byte_named w r x b false n high low =
    cond_both (nat_lt n 8) true false (λ z. names_low_byte (rex_with w r x b false) (n % 8) ≡ true)
    (λ e. cond_both (nat_lt n 4) true false (λ z. names_low_byte (rex_with w r x b false) (n % 8) ≡ true)
    (λ k. let small : n < 4 = grind (arith, nat_tests, k) in low_field _ (n % 8) (omega (arith, small)))
    (λ k. let above : 4 ≤ n = grind (arith, nat_tests, k) in let below : n < 8 = grind (arith, nat_tests, e) in absurd (false≢true (low (is_pointer n above below)))))
    (λ e. let above : 7 < n = grind (arith, nat_tests, e) in some_rex (8 * w + 4 * r + 2 * x + b) false (n % 8) (high above))
