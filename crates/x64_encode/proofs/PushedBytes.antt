-- Bytes of numbers, put at the end of a list.
use Rattle.std.proofs.Common.{◌≡◌, ℕ, zero, suc, ◌+◌, ◌-◌, ◌*◌, ◌/◌, ◌%◌, ◌^◌, ◌<◌, ◌≤◌, List, [], ◌∷◌, ◌++◌, length, refl, sym, ap, ◌∙◌, arith, append_assoc, length-append, ℤ, pos, negsuc, w64, of_z, to_z, FitsSigned}
use Rattle.std.proofs.lemmas.Int.{to_z-of_z}
use Rattle.std.proofs.Math.Nat.{pow-succ', mul_assoc}
use Rattle.x64_insn.specs.Words.{modulo}
use Rattle.std.specs.Prelude.{Option, Some, None}
use Rattle.std.specs.Option.{option_to_list}
use Rattle.x64_insn.specs.Chosen.{bytes_of_number, signed_bytes}
use Rattle.x64_insn.proofs.Immediates.{length_is}

-- the byte and the bytes of the rest are the bytes of the number
first_byte : (k j n : ℕ) (front : List ℕ) → k ≡ suc j → (front ++ n % 256 ∷ []) ++ bytes_of_number j (n / 256) ≡ front ++ bytes_of_number k n
first_byte k j n front e = append_assoc front (n % 256 ∷ []) (bytes_of_number j (n / 256)) ∙ ap (λ m. front ++ bytes_of_number m n) (sym e)

pub one_more : (count i n : ℕ) (front now : List ℕ) → now ≡ front ++ n % 256 ∷ [] → i < count → now ++ bytes_of_number (count - (i + 1)) (n / 256) ≡ front ++ bytes_of_number (count - i) n
one_more count i n front now is lt = ap (λ xs. xs ++ bytes_of_number (count - (i + 1)) (n / 256)) is ∙ first_byte (count - i) (count - (i + 1)) n front (omega (arith, lt))

pub one_longer : (count i b : ℕ) (front now : List ℕ) → now ≡ front ++ b ∷ [] → i < count → length front + (count - i) ≤ 15 → length now + (count - (i + 1)) ≤ 15
one_longer count i b front now is lt room = let e = ap length is ∙ length-append front (b ∷ []) in omega (arith, lt, room, e)

-- ---- bytes of signed numbers
-- the lowest bytes do not see what is above them
more_above : (k a b q : ℕ) → a ≡ b + 256 ^ k * q → bytes_of_number k a ≡ bytes_of_number k b
more_above zero a b q e = refl
more_above (suc k) a b q e =
    let p : 256 ^ suc k * q ≡ 256 * (256 ^ k * q) = ap (λ z. z * q) (pow-succ' 256 k) ∙ mul_assoc 256 (256 ^ k) q in
    let low : a % 256 ≡ b % 256 = omega (arith, e, p) in
    let high : a / 256 ≡ b / 256 + 256 ^ k * q = omega (arith, e, p) in
    rw low (ap (λ bs. b % 256 ∷ bs) (more_above k (a / 256) (b / 256) q high))

rest_none : (i : ℤ) → modulo i (2 ^ 64) ≡ modulo i (256 ^ 0) + 256 ^ 0 * (modulo i (2 ^ 64) / 256 ^ 0)
rest_none (pos n) = omega arith
rest_none (negsuc n) = omega arith

rest_one : (i : ℤ) → modulo i (2 ^ 64) ≡ modulo i (256 ^ 1) + 256 ^ 1 * (modulo i (2 ^ 64) / 256 ^ 1)
rest_one (pos n) = omega arith
rest_one (negsuc n) = omega arith

rest_two : (i : ℤ) → modulo i (2 ^ 64) ≡ modulo i (256 ^ 2) + 256 ^ 2 * (modulo i (2 ^ 64) / 256 ^ 2)
rest_two (pos n) = omega arith
rest_two (negsuc n) = omega arith

rest_three : (i : ℤ) → modulo i (2 ^ 64) ≡ modulo i (256 ^ 3) + 256 ^ 3 * (modulo i (2 ^ 64) / 256 ^ 3)
rest_three (pos n) = omega arith
rest_three (negsuc n) = omega arith

rest_four : (i : ℤ) → modulo i (2 ^ 64) ≡ modulo i (256 ^ 4) + 256 ^ 4 * (modulo i (2 ^ 64) / 256 ^ 4)
rest_four (pos n) = omega arith
rest_four (negsuc n) = omega arith

rest_five : (i : ℤ) → modulo i (2 ^ 64) ≡ modulo i (256 ^ 5) + 256 ^ 5 * (modulo i (2 ^ 64) / 256 ^ 5)
rest_five (pos n) = omega arith
rest_five (negsuc n) = omega arith

rest_six : (i : ℤ) → modulo i (2 ^ 64) ≡ modulo i (256 ^ 6) + 256 ^ 6 * (modulo i (2 ^ 64) / 256 ^ 6)
rest_six (pos n) = omega arith
rest_six (negsuc n) = omega arith

rest_seven : (i : ℤ) → modulo i (2 ^ 64) ≡ modulo i (256 ^ 7) + 256 ^ 7 * (modulo i (2 ^ 64) / 256 ^ 7)
rest_seven (pos n) = omega arith
rest_seven (negsuc n) = omega arith

rest_eight : (i : ℤ) → modulo i (2 ^ 64) ≡ modulo i (256 ^ 8) + 256 ^ 8 * (modulo i (2 ^ 64) / 256 ^ 8)
rest_eight (pos n) = omega arith
rest_eight (negsuc n) = omega arith

-- the lowest bytes of the word of 64 bits are those of the signed number
pub word_bytes : (k : ℕ) (i : ℤ) → k ≤ 8 → bytes_of_number k (modulo i (2 ^ 64)) ≡ signed_bytes k i
word_bytes zero i h = more_above 0 (modulo i (2 ^ 64)) (modulo i (256 ^ 0)) _ (rest_none i)
word_bytes (suc zero) i h = more_above 1 (modulo i (2 ^ 64)) (modulo i (256 ^ 1)) _ (rest_one i)
word_bytes (suc (suc zero)) i h = more_above 2 (modulo i (2 ^ 64)) (modulo i (256 ^ 2)) _ (rest_two i)
word_bytes (suc (suc (suc zero))) i h = more_above 3 (modulo i (2 ^ 64)) (modulo i (256 ^ 3)) _ (rest_three i)
word_bytes (suc (suc (suc (suc zero)))) i h = more_above 4 (modulo i (2 ^ 64)) (modulo i (256 ^ 4)) _ (rest_four i)
word_bytes (suc (suc (suc (suc (suc zero))))) i h = more_above 5 (modulo i (2 ^ 64)) (modulo i (256 ^ 5)) _ (rest_five i)
word_bytes (suc (suc (suc (suc (suc (suc zero)))))) i h = more_above 6 (modulo i (2 ^ 64)) (modulo i (256 ^ 6)) _ (rest_six i)
word_bytes (suc (suc (suc (suc (suc (suc (suc zero))))))) i h = more_above 7 (modulo i (2 ^ 64)) (modulo i (256 ^ 7)) _ (rest_seven i)
word_bytes (suc (suc (suc (suc (suc (suc (suc (suc zero)))))))) i h = more_above 8 (modulo i (2 ^ 64)) (modulo i (256 ^ 8)) _ (rest_eight i)
word_bytes (suc (suc (suc (suc (suc (suc (suc (suc (suc k))))))))) i h = absurd (omega (arith, h))

-- ---- lengths of what was put at the end
pub longer_none : (now : List ℕ) → now ≡ [] → length now ≡ 0
longer_none now is = ap length is

pub longer_option : (front now : List ℕ) (o : Option ℕ) → now ≡ front ++ option_to_list o → length now ≤ length front + 1
longer_option front now None is = let e = ap length is ∙ length-append front [] in omega (arith, e)
longer_option front now (Some b) is = let e = ap length is ∙ length-append front (b ∷ []) in omega (arith, e)

pub longer_byte : (front now : List ℕ) (b : ℕ) → now ≡ front ++ b ∷ [] → length now ≡ length front + 1
longer_byte front now b is = let e = ap length is ∙ length-append front (b ∷ []) in omega (arith, e)

pub longer_signed : (front now : List ℕ) (k : ℕ) (i : ℤ) → now ≡ front ++ signed_bytes k i → length now ≡ length front + k
longer_signed front now k i is = let e = ap length is ∙ length-append front (signed_bytes k i) in let l = length_is k (modulo i (256 ^ k)) in omega (arith, e, l)

-- the word of 64 bits of a signed number
word_at : (i : ℤ) → FitsSigned w64 i → of_z w64 i ≡ modulo i (2 ^ 64)
word_at (pos n) f = omega (arith, f.sfits)
word_at (negsuc n) f = omega (arith, f.sfits)

pub word_is : (i : ℤ) (r : ℕ) → FitsSigned w64 i → r ≡ of_z w64 (to_z w64 (of_z w64 i)) → r ≡ modulo i (2 ^ 64)
word_is i r f is = is ∙ ap (λ z. of_z w64 z) (to_z-of_z w64 i f) ∙ word_at i f
