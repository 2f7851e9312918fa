-- The registers at the start.
use Rattle.std.proofs.Common.{◌≡◌, ℕ, zero, suc, ◌^◌, ◌<◌, Bool, true, List, [], ◌∷◌, length, get_or, refl, ◌∙◌, arith, lit<}
use Rattle.std.specs.Prelude.{not, ◌==◌, slice_index, slice_set, replicate}
use Rattle.std.specs.List.{list_all}
use Rattle.std.proofs.lemmas.Bool.{and_parts}
use Rattle.std.proofs.lemmas.Bool.Decides.{nat_tests}
use Rattle.std.proofs.lemmas.List.{get_or-set_other, length-set}
use Rattle.x64_insn.specs.declared.types.Reg.{Reg}
use Rattle.x64_insn.specs.Table.{number_of}
use Rattle.jasminc_steps.specs.Starting.{return_slot, with_numbers, bare_registers}

pub placed-length : (ns : List ℕ) (rs : List Reg) (regs : List ℕ) → length (with_numbers ns rs regs) ≡ length regs
placed-length [] rs regs = refl
placed-length (n ∷ ns) [] regs = refl
placed-length (n ∷ ns) (r ∷ rs) regs = placed-length ns rs (slice_set regs (number_of r) n) ∙ length-set regs (number_of r) n

apart : (n q : ℕ) → not (n == q) ≡ true → q ≡ n → ⊥
apart n q h e = let k : (n == q) ≡ true = grind (arith, nat_tests, e) in cc (k, h)

-- none of the registers has this number
abbrev pub is_far : ℕ → List Reg → Bool
is_far q rs = list_all (λ r. not (number_of r == q)) rs

-- no item stands in another register
pub placed-other : (q : ℕ) (ns : List ℕ) (rs : List Reg) (regs : List ℕ) → is_far q rs ≡ true → slice_index (with_numbers ns rs regs) q ≡ slice_index regs q
placed-other q [] rs regs h = refl
placed-other q (n ∷ ns) [] regs h = refl
placed-other q (n ∷ ns) (r ∷ rs) regs h =
    let p = and_parts _ _ h in
    placed-other q ns rs (slice_set regs (number_of r) n) p.1 ∙ get_or-set_other regs (number_of r) q n 0 (apart (number_of r) q p.0)

-- words stay words
abbrev pub AreWords : List ℕ → Type 0
AreWords xs = (i : ℕ) → get_or xs i 0 < 2 ^ 64

set-words : (xs : List ℕ) (i v : ℕ) → AreWords xs → v < 2 ^ 64 → AreWords (slice_set xs i v)
set-words [] i v h lt k = h k
set-words (x ∷ xs) zero v h lt zero = lt
set-words (x ∷ xs) zero v h lt (suc k) = h (suc k)
set-words (x ∷ xs) (suc i) v h lt zero = h zero
set-words (x ∷ xs) (suc i) v h lt (suc k) = set-words xs i v (λ j. h (suc j)) lt k

pub placed-words : (ns : List ℕ) (rs : List Reg) (regs : List ℕ) → AreWords ns → AreWords regs → AreWords (with_numbers ns rs regs)
placed-words [] rs regs h k = k
placed-words (n ∷ ns) [] regs h k = k
placed-words (n ∷ ns) (r ∷ rs) regs h k = placed-words ns rs (slice_set regs (number_of r) n) (λ i. h (suc i)) (set-words regs (number_of r) n k (h zero))

zeros : (n i : ℕ) → ◌≡◌ {A = ℕ} (get_or (replicate n 0) i 0) 0
zeros zero i = refl
zeros (suc n) zero = refl
zeros (suc n) (suc i) = zeros n i

pub bare_words : AreWords bare_registers
bare_words = set-words (replicate 16 0) 4 return_slot (λ i. let e = zeros 16 i in omega (arith, e)) (lit< tt)
