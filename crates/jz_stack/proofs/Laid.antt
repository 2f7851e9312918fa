-- Stack variables that are laid one above the other are laid apart.
use Rattle.std.proofs.Common.{◌≡◌, ◌≢◌, ℕ, zero, suc, ◌+◌, ◌*◌, ◌<◌, ◌≤◌, ◌⊎◌, inl, inr, ⊎_elim, true, List, [], ◌∷◌, refl, sym, subst, arith}
use Rattle.std.specs.Prelude.{Option, Some, None, nat_eq, nat_lt, slice_index}
use Rattle.std.proofs.lemmas.Bool.{and_parts}
use Rattle.std.proofs.lemmas.Bool.Decides.{nat_tests}
use Rattle.jz_words.specs.declared.size.Size.{Size}
use Rattle.jz_words.specs.declared.size.Size.TheVariants.{S8, S16, S32, S64}
use Rattle.jz_words.specs.Sizes.{bits_of, bytes_of}
use Rattle.jz_linear.specs.LineRuns.{at_place}
use Rattle.jz_operations.specs.declared.operation.Stacked.{Stacked}
use Rattle.jz_operations.specs.Rows.{has_cell}
use Rattle.jz_operations.specs.Frames.{IsLaid}
use Rattle.jz_correct.specs.Frames.{rounded_up}
use Rattle.jz_stack.specs.Laying.{begins_at, ends_at, offsets_from, end_from, frame_of}
use Rattle.jz_operations.proofs.FrameLaws.{bytes_by_bits}

rounds : (s : Size) (n : ℕ) → n ≤ rounded_up (bytes_of s) n
rounds S8 n = omega arith
rounds S16 n = omega arith
rounds S32 n = omega arith
rounds S64 n = omega arith

ends_above : (end : ℕ) (s : Stacked) → end ≤ ends_at end s
ends_above end s = let h = rounds s.size end in omega (arith, h)

pub end_above : (ss : List Stacked) (end : ℕ) → end ≤ end_from end ss
end_above [] end = omega arith
end_above (s ∷ ss) end = let h = end_above ss (ends_at end s) in let g = ends_above end s in omega (arith, h, g)

-- a variable stands above the end before it, and below the last end
abbrev size_at : Stacked → ℕ
size_at k = k.count * bytes_of k.size

slot_above : (ss : List Stacked) (end v : ℕ) (k : Stacked) → at_place ss v ≡ Some k → end ≤ slice_index (offsets_from end ss) v
slot_above [] end v k e = absurd cc
slot_above (s ∷ ss) end zero k e = rounds s.size end
slot_above (s ∷ ss) end (suc v) k e = let h = slot_above ss (ends_at end s) v k e in let g = ends_above end s in omega (arith, h, g)

slot_below : (ss : List Stacked) (end v : ℕ) (k : Stacked) → at_place ss v ≡ Some k → slice_index (offsets_from end ss) v + size_at k ≤ end_from end ss
slot_below [] end v k e = absurd cc
slot_below (s ∷ ss) end zero k e = let same : s ≡ k = cc in subst (λ (x : Stacked). begins_at end s + size_at x ≤ end_from (ends_at end s) ss) same (end_above ss (ends_at end s))
slot_below (s ∷ ss) end (suc v) k e = slot_below ss (ends_at end s) v k e

slots_apart : (ss : List Stacked) (end v w : ℕ) (k j : Stacked) → v < w → at_place ss v ≡ Some k → at_place ss w ≡ Some j → slice_index (offsets_from end ss) v + size_at k ≤ slice_index (offsets_from end ss) w
slots_apart [] end v w k j lt e f = absurd cc
slots_apart (s ∷ ss) end v zero k j lt e f = absurd (omega (arith, lt))
slots_apart (s ∷ ss) end zero (suc w) k j lt e f = let same : s ≡ k = cc in subst (λ (x : Stacked). begins_at end s + size_at x ≤ slice_index (offsets_from (ends_at end s) ss) w) same (slot_above ss (ends_at end s) w j f)
slots_apart (s ∷ ss) end (suc v) (suc w) k j lt e f = slots_apart ss (ends_at end s) v w k j (omega (arith, lt)) e f

-- ---- cells
one_more : (b i c : ℕ) → i < c → b * i + b ≤ c * b
one_more b i c lt = grind arith

record Cell (o : Option Stacked) (s : Size) (i : ℕ) : Type 0 where
  of : Stacked
  is : o ≡ Some of
  within : bytes_of s * i + bytes_of s ≤ size_at of

cell_of : (o : Option Stacked) (s : Size) (i : ℕ) → has_cell o s i ≡ true → Cell o s i
cell_of None s i h = absurd cc
cell_of (Some k) s i h =
    let p = and_parts (nat_eq (bits_of s) (bits_of k.size)) (nat_lt i k.count) h in
    let q = p.0 in
    let r = p.1 in
    let bits : bits_of s ≡ bits_of k.size = grind (arith, nat_tests, q) in
    let lt : i < k.count = grind (arith, nat_tests, r) in
    let size = bytes_by_bits s k.size bits in
    record { of = k; is = refl; within = subst (λ b. b * i + b ≤ size_at k) (sym size) (one_more (bytes_of k.size) i k.count lt) }

order : (v w : ℕ) → v ≢ w → (v < w) ⊎ (w < v)
order v w ne = grind arith

pub laid : (ss : List Stacked) → IsLaid (frame_of ss) (λ v. slice_index (offsets_from 0 ss) v) (end_from 0 ss)
laid ss = record {
  inside = λ v s i h. let c = cell_of (at_place ss v) s i h in let b = slot_below ss 0 v c.of c.is in omega (arith, b, c.within);
  apart = λ v w s z i j ne h g.
      let c = cell_of (at_place ss v) s i h in
      let d = cell_of (at_place ss w) z j g in
      ⊎_elim (λ lt. let a = slots_apart ss 0 v w c.of d.of lt c.is d.is in inl (omega (arith, a, c.within)))
      (λ lt. let a = slots_apart ss 0 w v d.of c.of lt d.is c.is in inr (omega (arith, a, d.within))) (order v w ne);
}
