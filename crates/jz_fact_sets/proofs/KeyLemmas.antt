-- Keys that are one, and spots of them.
use Rattle.std.proofs.Common.{◌≡◌, None, Bool, true, false, true≢false, refl, ap, sym, ◌∙◌}
use Rattle.std.specs.Prelude.{◌&&◌, ◌==◌}
use Rattle.std.specs.Str.{bytes_eq}
use Rattle.jz_meaning.specs.States.{Key, same_cell, same_key}
use Rattle.jz_layers.specs.Spots.{Spot, same_spot}
use Rattle.jz_layers.proofs.SpotLemmas.{same_spot-true, same_spot-refl}

and_true : (a : Bool) → (a && true) ≡ a
and_true true = refl
and_true false = refl

-- a key as the spot of its variable
pub as_spot : (a b : Key) → same_spot (record { of = a; index = None }) (record { of = b; index = None }) ≡ same_key a b
as_spot a b = ap (λ c. bytes_eq a.name b.name && ((a.copy == b.copy) && c)) (and_true (same_cell a.cell b.cell))

pub same_key-true : (a b : Key) → same_key a b ≡ true → a ≡ b
same_key-true a b e = ap (λ (s : Spot). s.of) (same_spot-true (record { of = a; index = None }) (record { of = b; index = None }) (as_spot a b ∙ e))

pub same_key-refl : (k : Key) → same_key k k ≡ true
same_key-refl k = sym (as_spot k k) ∙ same_spot-refl (record { of = k; index = None })

pub same_key-back : (a b : Key) (c : Bool) → same_key a b ≡ c → same_key b a ≡ c
same_key-back a b true e = ap (λ k. same_key k a) (sym (same_key-true a b e)) ∙ same_key-refl a
same_key-back a b false e = by (same_key b a) refl
  where
    by : (c : Bool) → same_key b a ≡ c → same_key b a ≡ false
    by false h = h
    by true h = absurd (true≢false (sym (ap (λ k. same_key a k) (same_key-true b a h) ∙ same_key-refl a) ∙ e))
