-- What is known by two, and how much it is.
use Rattle.std.proofs.Common.{◌≡◌, ℕ, ◌<◌, ◌≤◌, ◌^◌, Option, Some, None, Bool, true, false, refl, ap, ◌∙◌, arith, rules, max}
use Rattle.std.specs.Prelude.{◌&&◌, nat_le, bit_and}
use Rattle.std.specs.Int.Bits.{and_self}
use Rattle.std.proofs.lemmas.Nat.{and_le_l, and_assoc}
use Rattle.jz_fact_readings.specs.declared.times.Times.{Times}
use Rattle.jz_fact_readings.specs.declared.times.Times.TheVariants.{Two, Four, Eight}
use Rattle.jz_fact_sets.specs.declared.knowledge.Knowledge.{Knowledge}
use Rattle.jz_fact_sets.specs.Knowing.{least_of_both, most_of_both, times_of_both, meet}
use Rattle.jz_fact_sets.specs.Meeting.{as_number, of_least, of_most, of_times, amount}

-- ---- each part again

and_same : (a : Bool) → (a && a) ≡ a
and_same true = refl
and_same false = refl

and_again : (a b : Bool) → ((a && b) && b) ≡ (a && b)
and_again true true = refl
and_again true false = refl
and_again false b = refl

least_same : (a : Option ℕ) → least_of_both a a ≡ a
least_same None = refl
least_same (Some a) = ap Some (omega arith)

least_again : (a b : Option ℕ) → least_of_both (least_of_both a b) b ≡ least_of_both a b
least_again None b = refl
least_again (Some a) None = refl
least_again (Some a) (Some b) = ap Some (omega arith)

most_same : (a : Option ℕ) → most_of_both a a ≡ a
most_same None = refl
most_same (Some a) = ap Some (omega arith)

most_again : (a b : Option ℕ) → most_of_both (most_of_both a b) b ≡ most_of_both a b
most_again None b = refl
most_again (Some a) None = refl
most_again (Some a) (Some b) = ap Some (omega arith)

times_same : (a : Option Times) → times_of_both a a ≡ a
times_same None = refl
times_same (Some Two) = refl
times_same (Some Four) = refl
times_same (Some Eight) = refl

times_again : (a b : Option Times) → times_of_both (times_of_both a b) b ≡ times_of_both a b
times_again None b = refl
times_again (Some a) None = refl
times_again (Some Two) (Some Two) = refl
times_again (Some Two) (Some Four) = refl
times_again (Some Two) (Some Eight) = refl
times_again (Some Four) (Some Two) = refl
times_again (Some Four) (Some Four) = refl
times_again (Some Four) (Some Eight) = refl
times_again (Some Eight) (Some Two) = refl
times_again (Some Eight) (Some Four) = refl
times_again (Some Eight) (Some Eight) = refl

bits_again : (a b : ℕ) → bit_and (bit_and a b) b ≡ bit_and a b
bits_again a b = and_assoc b a b ∙ ap (bit_and a) (and_self b)

pub meet_self : (a : Knowledge) → meet a a ≡ a
meet_self a = λ i. record {
  set = and_same a.set i;
  least = least_same a.least i;
  most = most_same a.most i;
  times = times_same a.times i;
  under = and_self a.under i;
  is = and_self a.is i;
}

pub meet_again : (a b : Knowledge) → meet (meet a b) b ≡ meet a b
meet_again a b = λ i. record {
  set = and_again a.set b.set i;
  least = least_again a.least b.least i;
  most = most_again a.most b.most i;
  times = times_again a.times b.times i;
  under = bits_again a.under b.under i;
  is = bits_again a.is b.is i;
}

-- ---- how much each part is

set_within : (a b : Bool) → as_number (a && b) ≤ as_number a
set_within true true = omega arith
set_within true false = omega arith
set_within false b = omega arith

set_same : (a b : Bool) → as_number (a && b) ≡ as_number a → (a && b) ≡ a
set_same true true e = refl
set_same true false e = absurd (omega (arith, e))
set_same false b e = refl

least_within : (a b : Option ℕ) → of_least (least_of_both a b) ≤ of_least a
least_within None b = omega arith
least_within (Some a) None = omega arith
least_within (Some a) (Some b) = omega arith

same_least : (a b : Option ℕ) → of_least (least_of_both a b) ≡ of_least a → least_of_both a b ≡ a
same_least None b e = refl
same_least (Some a) None e = absurd (omega (arith, e))
same_least (Some a) (Some b) e = ap Some (omega (arith, e))

most_within : (a b : Option ℕ) → of_most (most_of_both a b) ≤ of_most a
most_within None b = omega arith
most_within (Some a) None = omega arith
most_within (Some a) (Some b) = omega arith

same_most : (a b : Option ℕ) → ((n : ℕ) → most_of_both a b ≡ Some n → n < 2 ^ 64) → of_most (most_of_both a b) ≡ of_most a → most_of_both a b ≡ a
same_most None b h e = refl
same_most (Some a) None h e = absurd (omega (arith, e))
same_most (Some a) (Some b) h e = let l : max a b < 2 ^ 64 = h (max a b) refl in ap Some (omega (arith, e, l))

times_within : (a b : Option Times) → of_times (times_of_both a b) ≤ of_times a
times_within None b = omega arith
times_within (Some Two) None = omega arith
times_within (Some Four) None = omega arith
times_within (Some Eight) None = omega arith
times_within (Some Two) (Some Two) = omega arith
times_within (Some Two) (Some Four) = omega arith
times_within (Some Two) (Some Eight) = omega arith
times_within (Some Four) (Some Two) = omega arith
times_within (Some Four) (Some Four) = omega arith
times_within (Some Four) (Some Eight) = omega arith
times_within (Some Eight) (Some Two) = omega arith
times_within (Some Eight) (Some Four) = omega arith
times_within (Some Eight) (Some Eight) = omega arith

same_times : (a b : Option Times) → of_times (times_of_both a b) ≡ of_times a → times_of_both a b ≡ a
same_times None b e = refl
same_times (Some Two) None e = absurd (omega (arith, e))
same_times (Some Four) None e = absurd (omega (arith, e))
same_times (Some Eight) None e = absurd (omega (arith, e))
same_times (Some Two) (Some Two) e = refl
same_times (Some Two) (Some Four) e = refl
same_times (Some Two) (Some Eight) e = refl
same_times (Some Four) (Some Two) e = absurd (omega (arith, e))
same_times (Some Four) (Some Four) e = refl
same_times (Some Four) (Some Eight) e = refl
same_times (Some Eight) (Some Two) e = absurd (omega (arith, e))
same_times (Some Eight) (Some Four) e = absurd (omega (arith, e))
same_times (Some Eight) (Some Eight) e = refl

pub amount_within : (a b : Knowledge) → amount (meet a b) ≤ amount a
amount_within a b =
    let s = set_within a.set b.set in
    let l = least_within a.least b.least in
    let m = most_within a.most b.most in
    let t = times_within a.times b.times in
    let u : bit_and a.under b.under ≤ a.under = and_le_l a.under b.under in
    let i : bit_and a.is b.is ≤ a.is = and_le_l a.is b.is in
    omega (arith, s, l, m, t, u, i)

pub amount_same : (a b : Knowledge) → ((n : ℕ) → (meet a b).most ≡ Some n → n < 2 ^ 64) → amount (meet a b) ≡ amount a → meet a b ≡ a
amount_same a b h e =
    let s = set_within a.set b.set in
    let l = least_within a.least b.least in
    let m = most_within a.most b.most in
    let t = times_within a.times b.times in
    let u : bit_and a.under b.under ≤ a.under = and_le_l a.under b.under in
    let i : bit_and a.is b.is ≤ a.is = and_le_l a.is b.is in
    let s' : as_number (a.set && b.set) ≡ as_number a.set = omega (arith, s, l, m, t, u, i, e) in
    let l' : of_least (least_of_both a.least b.least) ≡ of_least a.least = omega (arith, s, l, m, t, u, i, e) in
    let m' : of_most (most_of_both a.most b.most) ≡ of_most a.most = omega (arith, s, l, m, t, u, i, e) in
    let t' : of_times (times_of_both a.times b.times) ≡ of_times a.times = omega (arith, s, l, m, t, u, i, e) in
    let u' : bit_and a.under b.under ≡ a.under = omega (arith, s, l, m, t, u, i, e) in
    let i' : bit_and a.is b.is ≡ a.is = omega (arith, s, l, m, t, u, i, e) in
    λ z. record {
      set = set_same a.set b.set s' z;
      least = same_least a.least b.least l' z;
      most = same_most a.most b.most h m' z;
      times = same_times a.times b.times t' z;
      under = u' z;
      is = i' z;
    }

pub amount_falls : (a b : Knowledge) → ((n : ℕ) → (meet a b).most ≡ Some n → n < 2 ^ 64) → (meet a b ≡ a → ⊥) → amount (meet a b) < amount a
amount_falls a b h differs = by (nat_le (amount a) (amount (meet a b))) refl
  where
    by : (c : Bool) → nat_le (amount a) (amount (meet a b)) ≡ c → amount (meet a b) < amount a
    by true e =
        let le : amount a ≤ amount (meet a b) = grind (arith, rules, e) in
        let ge = amount_within a b in
        let same : amount (meet a b) ≡ amount a = omega (arith, le, ge) in
        absurd (differs (amount_same a b h same))
    by false e = grind (arith, rules, e)
