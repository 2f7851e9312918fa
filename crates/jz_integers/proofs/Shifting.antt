-- Quotients and shifts of whole numbers.
use Rattle.std.proofs.Common.{◌≡◌, ℕ, zero, suc, ◌<◌, ◌^◌, ◌+◌, ◌*◌, ◌/◌, ◌%◌, arith, ℤ, pos, negsuc, ◌≤ℤ◌, ◌<ℤ◌, ◌+ℤ◌, ◌*ℤ◌}
use Rattle.std.specs.Prelude.{int_div, int_rem}
use Rattle.std.specs.Int.{int_shr}
use Rattle.std.proofs.lemmas.Int.{ints, quot-rem}
use Rattle.std.proofs.lemmas.Nat.{div-add-mod', mod_below, pow_pos}
use Rattle.jz_tree.specs.declared.expr.BinOp.TheVariants as o
use Rattle.jz_integers.specs.Laws.{Gives, Divides, ShiftsRight}

floor_of_a_negative : (a m q r : ℕ) → q * m + r ≡ a → r < m → ((negsuc q *ℤ pos m) ≤ℤ negsuc a) × (negsuc a <ℤ ((negsuc q +ℤ pos 1) *ℤ pos m))
floor_of_a_negative a m zero r e h = (grind (arith, ints), grind (arith, ints))
floor_of_a_negative a m (suc q) r e h = (grind (arith, ints), grind (arith, ints))

floor_of_a_natural : (a m q r : ℕ) → q * m + r ≡ a → r < m → ((pos q *ℤ pos m) ≤ℤ pos a) × (pos a <ℤ ((pos q +ℤ pos 1) *ℤ pos m))
floor_of_a_natural a m q r e h = (grind (arith, ints), grind (arith, ints))

-- a shift to the right rounds down
rounds_down : (i : ℤ) (k : ℕ) → ((int_shr i k *ℤ pos (2 ^ k)) ≤ℤ i) × (i <ℤ ((int_shr i k +ℤ pos 1) *ℤ pos (2 ^ k)))
rounds_down (pos a) k = floor_of_a_natural a (2 ^ k) (a / 2 ^ k) (a % 2 ^ k) (div-add-mod' a (2 ^ k)) (mod_below a (2 ^ k) (pow_pos k))
rounds_down (negsuc a) k = floor_of_a_negative a (2 ^ k) (a / 2 ^ k) (a % 2 ^ k) (div-add-mod' a (2 ^ k)) (mod_below a (2 ^ k) (pow_pos k))

shifted_is : (i n : ℤ) (k : ℕ) → Gives o.Shr i (pos k) n → (k < 128) × (n ≡ int_shr i k)
shifted_is i n k e = (grind arith, grind arith)

pub shifts_right : ShiftsRight
shifts_right i n k e = let s = shifted_is i n k e in let r = rounds_down i k in (s.0, rw (s.1) (r.0), rw (s.1) (r.1))

quotient_is : (i j q : ℤ) → Gives o.Div i j q → q ≡ int_div i j
quotient_is i j q e = grind arith

remainder_is : (i j r : ℤ) → Gives o.Rem i j r → r ≡ int_rem i j
remainder_is i j r e = grind arith

pub divides : Divides
divides i j q r d m = rw (quotient_is i j q d, remainder_is i j r m) (quot-rem i j)
