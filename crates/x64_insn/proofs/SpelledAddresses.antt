-- What fields of a row mean passes the test.
use Rattle.std.proofs.Common.{◌≡◌, ℕ, ◌/◌, ◌%◌, ◌^◌, ◌<◌, List, [], ◌∷◌, length, Bool, true, false, not, Option, Some, None, refl, ap, ◌∙◌, arith}
use Rattle.std.specs.Prelude.{◌&&◌, ◌||◌, ◌==◌, if◌then◌else◌, unwrap_or}
use Rattle.std.proofs.lemmas.Bool.{and_from, cond_both, agree_below_at}
use Rattle.std.proofs.lemmas.Bool.Decides.{nat_tests}
use Rattle.x64_insn.specs.declared.types.Base.TheVariants as base
use Rattle.x64_insn.specs.declared.types.Operand.TheVariants as operand
use Rattle.x64_insn.specs.Table.{number_of, reg_of, mod_of}
use Rattle.x64_insn.specs.Encoding.{Fields, StandsIf, AreBytes, is_byte, base_field, displacement_length, signed_from, signed_of, modrm_byte, sib_byte, index_number, index_of, displacement_of, sib_memory, plain_memory, memory_of, rm_of_modrm}
use Rattle.x64_insn.specs.Chosen.{fits_bytes, is_index, is_index_of, is_address, is_rm}
use Rattle.x64_insn.proofs.Immediates.{bytes_fit}

-- ---- displacements
empty_fits : (bs : List ℕ) → length bs ≡ 0 → fits_bytes 4 (signed_of bs) ≡ true
unfolding signed_from
empty_fits [] h = refl
empty_fits (b ∷ bs) h = absurd (omega (arith, h))

displacement_fits : (modrm sib : Option ℕ) (bs : List ℕ) → AreBytes (displacement_length modrm sib) bs → fits_bytes 4 (signed_of bs) ≡ true
unfolding displacement_length
displacement_fits None sib bs h = empty_fits bs h.0
displacement_fits (Some m) sib bs h =
    cond_both (mod_of m == 0) (if base_field m sib == 5 then 4 else 0) (if mod_of m == 1 then 1 else if mod_of m == 2 then 4 else 0) (λ k. AreBytes k bs → fits_bytes 4 (signed_of bs) ≡ true)
    (λ e. cond_both (base_field m sib == 5) 4 0 (λ k. AreBytes k bs → fits_bytes 4 (signed_of bs) ≡ true) (λ p. bytes_fit 4 4 (2 ^ 31) bs refl (omega arith)) (λ p z. empty_fits bs z.0))
    (λ e. cond_both (mod_of m == 1) 1 (if mod_of m == 2 then 4 else 0) (λ k. AreBytes k bs → fits_bytes 4 (signed_of bs) ≡ true) (λ p. bytes_fit 1 4 128 bs refl (omega arith))
    (λ p. cond_both (mod_of m == 2) 4 0 (λ k. AreBytes k bs → fits_bytes 4 (signed_of bs) ≡ true) (λ q. bytes_fit 4 4 (2 ^ 31) bs refl (omega arith)) (λ q z. empty_fits bs z.0)))
    h

-- ---- indices
four_alone : (n : ℕ) → n < 16 → (number_of (reg_of n) == 4) ≡ (n == 4)
unfolding reg_of
four_alone n h = agree_below_at (λ k. number_of (reg_of k) == 4) (λ k. k == 4) 16 n refl h

scale_ok : (k : ℕ) → k < 4 → ((2 ^ k == 1) || ((2 ^ k == 2) || ((2 ^ k == 4) || (2 ^ k == 8)))) ≡ true
scale_ok k h = agree_below_at (λ k. (2 ^ k == 1) || ((2 ^ k == 2) || ((2 ^ k == 4) || (2 ^ k == 8)))) (λ k. true) 4 k refl h

index_ok : (n k : ℕ) → n < 16 → k < 4 → is_index (if n == 4 then None else Some (reg_of n, 2 ^ k)) ≡ true
index_ok n k h l =
    cond_both (n == 4) None (Some (reg_of n, 2 ^ k)) (λ v. is_index v ≡ true) (λ e. refl)
    (λ e. and_from _ _ (ap not (four_alone n h ∙ e)) (scale_ok k l))

sib_under : (t : Bool) (sib : Option ℕ) → StandsIf t is_byte sib → unwrap_or sib 0 < 256
sib_under false None h = omega arith
sib_under false (Some b) h = absurd h
sib_under true None h = absurd h
sib_under true (Some b) h = grind (arith, nat_tests, h)

-- ---- addresses
sib_index : (f : Fields) → unwrap_or f.sib 0 < 256 → is_index (index_of f) ≡ true
sib_index f h = index_ok (index_number f) (sib_byte f / 64) (omega arith) (omega (arith, h))

sib_ok : (f : Fields) → unwrap_or f.sib 0 < 256 → fits_bytes 4 (displacement_of f) ≡ true → is_address (sib_memory f) ≡ true
sib_ok f h k =
    and_from _ _ (cond_both ((mod_of (modrm_byte f) == 0) && (sib_byte f % 8 == 5)) base.Absent _ (λ b. is_index_of b (index_of f) ≡ true) (λ e. sib_index f h) (λ e. sib_index f h)) k

plain_ok : (f : Fields) → fits_bytes 4 (displacement_of f) ≡ true → is_address (plain_memory f) ≡ true
plain_ok f k =
    and_from _ _ (cond_both ((mod_of (modrm_byte f) == 0) && (modrm_byte f % 8 == 5)) base.Rip _ (λ b. is_index_of b None ≡ true) (λ e. refl) (λ e. refl)) k

pub memory_ok : (f : Fields) (t : Bool) → StandsIf t is_byte f.sib → AreBytes (displacement_length f.modrm f.sib) f.displacement → is_address (memory_of f) ≡ true
unfolding memory_of
memory_ok f t s d =
    let k = displacement_fits f.modrm f.sib f.displacement d in
    cond_both (modrm_byte f % 8 == 4) (sib_memory f) (plain_memory f) (λ m. is_address m ≡ true) (λ e. sib_ok f (sib_under t f.sib s) k) (λ e. plain_ok f k)

pub rm_ok : (f : Fields) → is_address (memory_of f) ≡ true → is_rm (rm_of_modrm f) ≡ true
unfolding rm_of_modrm
rm_ok f h = cond_both (mod_of (modrm_byte f) == 3) _ (operand.Mem (memory_of f)) (λ o. is_rm o ≡ true) (λ e. refl) (λ e. h)
