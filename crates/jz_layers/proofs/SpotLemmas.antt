-- Spots that are one.
use Rattle.std.proofs.Common.{◌≡◌, ℕ, Option, Some, None, Bool, true, false, true≢false, refl, ap, sym, ◌∙◌, arith}
use Rattle.std.specs.Prelude.{◌==◌}
use Rattle.std.proofs.lemmas.Bool.{and_parts}
use Rattle.std.proofs.lemmas.Bool.Decides.{nat_tests}
use Rattle.std.proofs.lemmas.Slice.Eq.{bytes_eq-Decides}
use Rattle.std.specs.Str.{bytes_eq}
use Rattle.jz_data.proofs.Texts.{bytes_eq-true}
use Rattle.jz_meaning.specs.States.{Key, same_cell}
use Rattle.jz_layers.specs.Spots.{Spot, same_spot}

same_cell-true : (a b : Option ℕ) → same_cell a b ≡ true → a ≡ b
same_cell-true None None e = refl
same_cell-true (Some i) (Some j) e = ap Some (grind (arith, nat_tests, e))
same_cell-true None (Some j) e = absurd cc
same_cell-true (Some i) None e = absurd cc

pub same_spot-true : (a b : Spot) → same_spot a b ≡ true → a ≡ b
same_spot-true a b e =
    let p = and_parts (bytes_eq a.of.name b.of.name) _ e in
    let q = and_parts (a.of.copy == b.of.copy) _ p.1 in
    let r = and_parts (same_cell a.of.cell b.of.cell) _ q.1 in
    let n : a.of.name ≡ b.of.name = bytes_eq-true _ _ p.0 in
    let c : a.of.copy ≡ b.of.copy = grind (arith, nat_tests, q.0) in
    let i = same_cell-true a.of.cell b.of.cell r.0 in
    let j = same_cell-true a.index b.index r.1 in
    λ z. record { of = record { name = n z; copy = c z; cell = i z }; index = j z }

number_same : (i : ℕ) → (i == i) ≡ true
number_same i = grind (arith, nat_tests)

cell_same : (c : Option ℕ) → same_cell c c ≡ true
cell_same None = refl
cell_same (Some i) = number_same i

pub same_spot-refl : (k : Spot) → same_spot k k ≡ true
same_spot-refl k =
    let a = (bytes_eq-Decides k.of.name k.of.name).1 refl in
    let b = number_same k.of.copy in
    let c = cell_same k.of.cell in
    let d = cell_same k.index in
    rw (a, b, c, d)

-- the other way round
pub same_spot-back : (a b : Spot) (c : Bool) → same_spot a b ≡ c → same_spot b a ≡ c
same_spot-back a b true e = ap (λ k. same_spot k a) (sym (same_spot-true a b e)) ∙ same_spot-refl a
same_spot-back a b false e = by (same_spot b a) refl
  where
    by : (c : Bool) → same_spot b a ≡ c → same_spot b a ≡ false
    by false h = h
    by true h = absurd (true≢false (sym (ap (λ k. same_spot a k) (same_spot-true b a h) ∙ same_spot-refl a) ∙ e))
