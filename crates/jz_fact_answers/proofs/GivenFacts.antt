-- A set gives a fact exactly where what is kept of its variable says so.
use Rattle.std.proofs.Common.{◌≡◌, ◌⊎◌, inl, inr, ℕ, ◌%◌, ◌≤◌, ◌<◌, List, [], ◌∷◌, Option, Some, None, Bool, true, false, refl, ap, sym, ◌∙◌, subst, arith, rules, min, max, if◌then◌else◌}
use Rattle.std.specs.Prelude.{◌==◌, nat_le, ◌&&◌, ◌||◌, ◌-◌, ◌^◌}
use Rattle.std.proofs.lemmas.Bool.{and_parts}
use Rattle.std.proofs.lemmas.Nat.Gcd.{dvd_of_mod-eq-zero, mod-eq-zero_of_dvd, dvd_trans}
use Rattle.jz_meaning.specs.States.{same_key}
use Rattle.jz_intervals.proofs.Nearest.{greatest_within, least_within}
use Rattle.jz_facts.specs.Facts.{Fact, Set, Cell, AtLeast, AtMost, Under, Is, Multiple, is_among, greatest, least, multiples, entails}
use Rattle.jz_fact_laws.proofs.Setting.{same_key-true, same_key-refl}
use Rattle.jz_fact_readings.specs.Multiples.{times_of}
use Rattle.jz_fact_readings.specs.declared.times.Times.{Times}
use Rattle.jz_fact_readings.specs.declared.times.Times.TheVariants.{Two, Four, Eight}
use Rattle.jz_layers.specs.declared.layers.Layers.{Layers}
use Rattle.jz_fact_sets.specs.declared.given.Given.{Given}
use Rattle.jz_fact_sets.specs.declared.knowledge.Knowledge.{Knowledge}
use Rattle.jz_fact_sets.specs.Kept.{is_at_least, is_at_most, is_times, known_at, spot, facts_of}
use Rattle.jz_fact_numbers.specs.Ends.{HasEnds}
use Rattle.jz_fact_answers.specs.Giving.{Gives, least_gives, most_gives, times_gives, is_given}

both : (a b : Bool) → a ≡ true → b ≡ true → (a && b) ≡ true
both true true h k = refl
both true false h k = absurd (cc k)
both false b h k = absurd (cc h)

either : (a b : Bool) → (a || b) ≡ true → (a ≡ true) ⊎ (b ≡ true)
either true b e = inl refl
either false b e = inr e

or_right : (a b : Bool) → b ≡ true → (a || b) ≡ true
or_right true b e = refl
or_right false b e = e

or_left : (a b : Bool) → a ≡ true → (a || b) ≡ true
or_left true b e = refl
or_left false b e = absurd (cc e)

same_number : (c : ℕ) → (c == c) ≡ true
same_number c = grind (arith, rules)

number_same : (c d : ℕ) → (c == d) ≡ true → c ≡ d
number_same c d e = grind (arith, rules, e)

yes_le : (a b : ℕ) → a ≤ b → nat_le a b ≡ true
yes_le a b h = grind (arith, rules, h)

le_yes : (a b : ℕ) → nat_le a b ≡ true → a ≤ b
le_yes a b e = grind (arith, rules, e)

-- ---- the nearest constant is a constant

max_one : (a b : ℕ) → (max a b ≡ a) ⊎ (max a b ≡ b)
max_one a b = by (nat_le a b) refl
  where
    by : (t : Bool) → nat_le a b ≡ t → (max a b ≡ a) ⊎ (max a b ≡ b)
    by true e = let l : a ≤ b = le_yes a b e in inr (omega (arith, l))
    by false e = let l : b < a = grind (arith, rules, e) in inl (omega (arith, l))

min_one : (a b : ℕ) → (min a b ≡ a) ⊎ (min a b ≡ b)
min_one a b = by (nat_le a b) refl
  where
    by : (t : Bool) → nat_le a b ≡ t → (min a b ≡ a) ⊎ (min a b ≡ b)
    by true e = let l : a ≤ b = le_yes a b e in inl (omega (arith, l))
    by false e = let l : b < a = grind (arith, rules, e) in inr (omega (arith, l))

module _ (p : ℕ → Bool) (all : List ℕ) where
  one_among : (a b c : ℕ) → (c ≡ a) ⊎ (c ≡ b) → is_among a all ≡ true → is_among b all ≡ true → is_among c all ≡ true
  one_among a b c (inl e) h k = ap (λ n. is_among n all) e ∙ h
  one_among a b c (inr e) h k = ap (λ n. is_among n all) e ∙ k

  greatest_among : (ds : List ℕ) → ((c : ℕ) → is_among c ds ≡ true → is_among c all ≡ true) → is_among 0 all ≡ true → is_among (greatest p ds) all ≡ true
  greatest_among [] sub z = z
  greatest_among (c ∷ ds) sub z = by (p c) (greatest_among ds (λ d e. sub d (or_right (d == c) (is_among d ds) e)) z)
    where
      by : (t : Bool) → is_among (greatest p ds) all ≡ true → is_among (if t then max c (greatest p ds) else greatest p ds) all ≡ true
      by true h = one_among c (greatest p ds) (max c (greatest p ds)) (max_one c (greatest p ds)) (sub c (or_left (c == c) (is_among c ds) (same_number c))) h
      by false h = h

  least_among : (m : ℕ) (ds : List ℕ) → ((c : ℕ) → is_among c ds ≡ true → is_among c all ≡ true) → is_among m all ≡ true → is_among (least p m ds) all ≡ true
  least_among m [] sub z = z
  least_among m (c ∷ ds) sub z = by (p c) (least_among m ds (λ d e. sub d (or_right (d == c) (is_among d ds) e)) z)
    where
      by : (t : Bool) → is_among (least p m ds) all ≡ true → is_among (if t then min c (least p m ds) else least p m ds) all ≡ true
      by true h = one_among c (least p m ds) (min c (least p m ds)) (min_one c (least p m ds)) (sub c (or_left (c == c) (is_among c ds) (same_number c))) h
      by false h = h

module _ (p : ℕ → Bool) (c : ℕ) (q : p c ≡ true) where
  no_greater : (ds : List ℕ) → is_among c ds ≡ true → c ≤ greatest p ds
  no_greater [] e = absurd (cc e)
  no_greater (d ∷ ds) e = by (either (c == d) (is_among c ds) e) (λ k. no_greater ds k)
    where
      one : (t : Bool) → t ≡ true → d ≤ (if t then max d (greatest p ds) else greatest p ds)
      one true h = omega arith
      one false h = absurd (cc h)

      more : (t : Bool) → c ≤ greatest p ds → c ≤ (if t then max d (greatest p ds) else greatest p ds)
      more true h = omega (arith, h)
      more false h = h

      by : ((c == d) ≡ true) ⊎ (is_among c ds ≡ true) → (is_among c ds ≡ true → c ≤ greatest p ds) → c ≤ (if p d then max d (greatest p ds) else greatest p ds)
      by (inl h) k = let i : c ≡ d = number_same c d h in subst (λ n. n ≤ (if p d then max d (greatest p ds) else greatest p ds)) (sym i) (one (p d) (ap p (sym i) ∙ q))
      by (inr h) k = more (p d) (k h)

  no_less : (m : ℕ) (ds : List ℕ) → is_among c ds ≡ true → least p m ds ≤ c
  no_less m [] e = absurd (cc e)
  no_less m (d ∷ ds) e = by (either (c == d) (is_among c ds) e) (λ k. no_less m ds k)
    where
      one : (t : Bool) → t ≡ true → (if t then min d (least p m ds) else least p m ds) ≤ d
      one true h = omega arith
      one false h = absurd (cc h)

      more : (t : Bool) → least p m ds ≤ c → (if t then min d (least p m ds) else least p m ds) ≤ c
      more true h = omega (arith, h)
      more false h = h

      by : ((c == d) ≡ true) ⊎ (is_among c ds ≡ true) → (is_among c ds ≡ true → least p m ds ≤ c) → (if p d then min d (least p m ds) else least p m ds) ≤ c
      by (inl h) k = let i : c ≡ d = number_same c d h in subst (λ n. (if p d then min d (least p m ds) else least p m ds) ≤ n) (sym i) (one (p d) (ap p (sym i) ∙ q))
      by (inr h) k = more (p d) (k h)

-- ---- each template

module _ (cs : List ℕ) (ends : HasEnds cs) where
  least_to : (o : Option ℕ) (c : ℕ) → least_gives cs o c ≡ true → (n : ℕ) × (((is_among n cs && is_at_least o n) ≡ true) × (nat_le c n ≡ true))
  least_to None c e = absurd (cc e)
  least_to (Some l) c e =
      let n = greatest (λ d. nat_le d l) cs in
      let p = and_parts (nat_le n l) (nat_le c n) e in
      (n, (both (is_among n cs) (nat_le n l) (greatest_among (λ d. nat_le d l) cs cs (λ d i. i) ends.zero) p.0, p.1))

  least_back : (o : Option ℕ) (c n : ℕ) → (is_among n cs && is_at_least o n) ≡ true → nat_le c n ≡ true → least_gives cs o c ≡ true
  least_back None c n a e = absurd (cc (and_parts (is_among n cs) false a).1)
  least_back (Some l) c n a e =
      let p = and_parts (is_among n cs) (nat_le n l) a in
      let g = greatest (λ d. nat_le d l) cs in
      let h : n ≤ g = no_greater (λ d. nat_le d l) n p.1 cs p.0 in
      let k : c ≤ n = le_yes c n e in
      let w : g ≤ l = greatest_within (λ d. nat_le d l) cs l (λ j b q. le_yes _ l q) in
      both (nat_le g l) (nat_le c g) (yes_le g l w) (yes_le c g (omega (arith, h, k)))

  most_to : (o : Option ℕ) (c : ℕ) → most_gives cs o c ≡ true → (n : ℕ) × (((is_among n cs && is_at_most o n) ≡ true) × (nat_le n c ≡ true))
  most_to None c e = absurd (cc e)
  most_to (Some h) c e =
      let n = least (λ d. nat_le h d) (2 ^ 64 - 1) cs in
      let p = and_parts (nat_le h n) (nat_le n c) e in
      (n, (both (is_among n cs) (nat_le h n) (least_among (λ d. nat_le h d) cs (2 ^ 64 - 1) cs (λ d i. i) ends.most) p.0, p.1))

  most_back : (o : Option ℕ) (c n : ℕ) → (is_among n cs && is_at_most o n) ≡ true → nat_le n c ≡ true → most_gives cs o c ≡ true
  most_back None c n a e = absurd (cc (and_parts (is_among n cs) false a).1)
  most_back (Some h) c n a e =
      let p = and_parts (is_among n cs) (nat_le h n) a in
      let g = least (λ d. nat_le h d) (2 ^ 64 - 1) cs in
      let i : g ≤ n = no_less (λ d. nat_le h d) n p.1 (2 ^ 64 - 1) cs p.0 in
      let k : n ≤ c = le_yes n c e in
      let m : h ≤ n = le_yes h n p.1 in
      let t = ends.words n p.0 in
      let w : h ≤ g = least_within (λ d. nat_le h d) (2 ^ 64 - 1) cs h (le_trans h n (2 ^ 64 - 1) m t) (λ j b q. le_yes h _ q) in
      both (nat_le h g) (nat_le g c) (yes_le h g w) (yes_le g c (omega (arith, i, k)))
    where
      le_trans : (a b c : ℕ) → a ≤ b → b ≤ c → a ≤ c
      le_trans a b c h k = omega (arith, h, k)

times_own : (t : Times) → (is_among (times_of t) multiples && (times_of t % times_of t == 0)) ≡ true
times_own Two = refl
times_own Four = refl
times_own Eight = refl

times_to : (o : Option Times) (m : ℕ) → times_gives o m ≡ true → (n : ℕ) × (((is_among n multiples && is_times o n) ≡ true) × ((n % m == 0) ≡ true))
times_to None m e = absurd (cc e)
times_to (Some t) m e = (times_of t, (times_own t, e))

is_zero : (a : ℕ) → (a == 0) ≡ true → a ≡ 0
is_zero a e = number_same a 0 e

zero_is : (a : ℕ) → a ≡ 0 → (a == 0) ≡ true
zero_is a e = ap (λ b. b == 0) e

times_back : (o : Option Times) (m n : ℕ) → (is_among n multiples && is_times o n) ≡ true → (n % m == 0) ≡ true → times_gives o m ≡ true
times_back None m n a e = absurd (cc (and_parts (is_among n multiples) false a).1)
times_back (Some t) m n a e =
    let p = and_parts (is_among n multiples) (times_of t % n == 0) a in
    zero_is (times_of t % m) (mod-eq-zero_of_dvd m (dvd_trans m (dvd_of_mod-eq-zero m (is_zero (n % m) e)) (dvd_of_mod-eq-zero n (is_zero (times_of t % n) p.1))))

-- ---- the set

module _ (g : Given) (s : Layers Knowledge) (ends : HasEnds g.constants) where
  pub given_to : (f : Fact) → is_given g s f ≡ true → Gives (facts_of g s) f
  given_to (Set v) e = (Set v, (e, same_key-refl v))
  given_to (Cell a k) e = (Cell a k, (e, both (same_key a a) (k == k) (same_key-refl a) (same_number k)))
  given_to (AtLeast v c) e = let t = least_to g.constants ends (known_at s (spot (AtLeast v c))).least c e in (AtLeast v t.0, (t.1.0, both (same_key v v) (nat_le c t.0) (same_key-refl v) t.1.1))
  given_to (AtMost v c) e = let t = most_to g.constants ends (known_at s (spot (AtMost v c))).most c e in (AtMost v t.0, (t.1.0, both (same_key v v) (nat_le t.0 c) (same_key-refl v) t.1.1))
  given_to (Under v x) e = (Under v x, (e, both (same_key v v) (same_key x x) (same_key-refl v) (same_key-refl x)))
  given_to (Is v x) e = (Is v x, (e, both (same_key v v) (same_key x x) (same_key-refl v) (same_key-refl x)))
  given_to (Multiple v m) e = let t = times_to (known_at s (spot (Multiple v m))).times m e in (Multiple v t.0, (t.1.0, both (same_key v v) (t.0 % m == 0) (same_key-refl v) t.1.1))

  from_fact : (f h : Fact) → facts_of g s h ≡ true → entails h f ≡ true → is_given g s f ≡ true
  from_fact (Set v) (Set w) a e = ap (λ k. is_given g s (Set k)) (sym (same_key-true w v e)) ∙ a
  from_fact (Cell b k) (Cell d j) a e =
      let p = and_parts (same_key d b) (j == k) e in
      let q = same_key-true d b p.0 in
      let r : j ≡ k = number_same j k p.1 in
      ap (λ z. is_given g s (Cell z k)) (sym q) ∙ ap (λ i. is_given g s (Cell d i)) (sym r) ∙ a
  from_fact (AtLeast v c) (AtLeast w d) a e =
      let p = and_parts (same_key w v) (nat_le c d) e in
      ap (λ z. is_given g s (AtLeast z c)) (sym (same_key-true w v p.0)) ∙ least_back g.constants ends (known_at s (spot (AtLeast w d))).least c d a p.1
  from_fact (AtMost v c) (AtMost w d) a e =
      let p = and_parts (same_key w v) (nat_le d c) e in
      ap (λ z. is_given g s (AtMost z c)) (sym (same_key-true w v p.0)) ∙ most_back g.constants ends (known_at s (spot (AtMost w d))).most c d a p.1
  from_fact (Under v x) (Under w y) a e =
      let p = and_parts (same_key w v) (same_key y x) e in
      ap (λ z. is_given g s (Under z x)) (sym (same_key-true w v p.0)) ∙ ap (λ z. is_given g s (Under w z)) (sym (same_key-true y x p.1)) ∙ a
  from_fact (Is v x) (Is w y) a e =
      let p = and_parts (same_key w v) (same_key y x) e in
      ap (λ z. is_given g s (Is z x)) (sym (same_key-true w v p.0)) ∙ ap (λ z. is_given g s (Is w z)) (sym (same_key-true y x p.1)) ∙ a
  from_fact (Multiple v m) (Multiple w n) a e =
      let p = and_parts (same_key w v) (n % m == 0) e in
      ap (λ z. is_given g s (Multiple z m)) (sym (same_key-true w v p.0)) ∙ times_back (known_at s (spot (Multiple w n))).times m n a p.1
  from_fact (Set v) (Cell b j) z e = absurd (cc e)
  from_fact (Set v) (AtLeast w d) z e = absurd (cc e)
  from_fact (Set v) (AtMost w d) z e = absurd (cc e)
  from_fact (Set v) (Under w y) z e = absurd (cc e)
  from_fact (Set v) (Is w y) z e = absurd (cc e)
  from_fact (Set v) (Multiple w n) z e = absurd (cc e)
  from_fact (Cell a k) (Set w) z e = absurd (cc e)
  from_fact (Cell a k) (AtLeast w d) z e = absurd (cc e)
  from_fact (Cell a k) (AtMost w d) z e = absurd (cc e)
  from_fact (Cell a k) (Under w y) z e = absurd (cc e)
  from_fact (Cell a k) (Is w y) z e = absurd (cc e)
  from_fact (Cell a k) (Multiple w n) z e = absurd (cc e)
  from_fact (AtLeast v c) (Set w) z e = absurd (cc e)
  from_fact (AtLeast v c) (Cell b j) z e = absurd (cc e)
  from_fact (AtLeast v c) (AtMost w d) z e = absurd (cc e)
  from_fact (AtLeast v c) (Under w y) z e = absurd (cc e)
  from_fact (AtLeast v c) (Is w y) z e = absurd (cc e)
  from_fact (AtLeast v c) (Multiple w n) z e = absurd (cc e)
  from_fact (AtMost v c) (Set w) z e = absurd (cc e)
  from_fact (AtMost v c) (Cell b j) z e = absurd (cc e)
  from_fact (AtMost v c) (AtLeast w d) z e = absurd (cc e)
  from_fact (AtMost v c) (Under w y) z e = absurd (cc e)
  from_fact (AtMost v c) (Is w y) z e = absurd (cc e)
  from_fact (AtMost v c) (Multiple w n) z e = absurd (cc e)
  from_fact (Under v x) (Set w) z e = absurd (cc e)
  from_fact (Under v x) (Cell b j) z e = absurd (cc e)
  from_fact (Under v x) (AtLeast w d) z e = absurd (cc e)
  from_fact (Under v x) (AtMost w d) z e = absurd (cc e)
  from_fact (Under v x) (Is w y) z e = absurd (cc e)
  from_fact (Under v x) (Multiple w n) z e = absurd (cc e)
  from_fact (Is v x) (Set w) z e = absurd (cc e)
  from_fact (Is v x) (Cell b j) z e = absurd (cc e)
  from_fact (Is v x) (AtLeast w d) z e = absurd (cc e)
  from_fact (Is v x) (AtMost w d) z e = absurd (cc e)
  from_fact (Is v x) (Under w y) z e = absurd (cc e)
  from_fact (Is v x) (Multiple w n) z e = absurd (cc e)
  from_fact (Multiple v m) (Set w) z e = absurd (cc e)
  from_fact (Multiple v m) (Cell b j) z e = absurd (cc e)
  from_fact (Multiple v m) (AtLeast w d) z e = absurd (cc e)
  from_fact (Multiple v m) (AtMost w d) z e = absurd (cc e)
  from_fact (Multiple v m) (Under w y) z e = absurd (cc e)
  from_fact (Multiple v m) (Is w y) z e = absurd (cc e)

  pub given_from : (f : Fact) → Gives (facts_of g s) f → is_given g s f ≡ true
  given_from f (h, (a, e)) = from_fact f h a e
