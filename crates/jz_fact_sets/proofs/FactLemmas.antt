-- What sets of facts hold where paths meet, and behind a write.
use Rattle.std.proofs.Common.{◌≡◌, ◌⊎◌, inl, inr, ℕ, ◌<◌, ◌≤◌, List, Option, Some, None, Bool, true, false, refl, ap, sym, ◌∙◌, subst, arith, rules, min, max, if◌then◌else◌}
use Rattle.std.specs.Prelude.{◌==◌, nat_le, not, ◌&&◌, ◌||◌, is_some}
use Rattle.std.specs.Str.{bytes_eq}
use Rattle.std.proofs.Math.Path.{fun_ext}
use Rattle.indexmap.specs.IndexMap.{IndexMap}
use Rattle.jz_meaning.specs.States.{Key, same_key, same_cell}
use Rattle.jz_flow.specs.Sets.{common}
use Rattle.jz_layers.specs.declared.named.Named.{Named}
use Rattle.jz_layers.specs.Spots.{Spot, same_spot, entry_in}
use Rattle.jz_facts.specs.Facts.{Fact, Set, Cell, AtLeast, AtMost, Under, Is, Multiple, subject, is_among, multiples}
use Rattle.jz_facts.specs.Holding as holding
use Rattle.jz_facts.specs.Holding.{renewed}
use Rattle.jz_fact_readings.specs.declared.times.Times.{Times}
use Rattle.jz_fact_readings.specs.declared.times.Times.TheVariants.{Two, Four, Eight}
use Rattle.jz_fact_sets.specs.declared.given.Given.{Given}
use Rattle.jz_fact_sets.specs.declared.given.Parameter.{Parameter}
use Rattle.jz_fact_sets.specs.declared.knowledge.Knowledge.{Knowledge}
use Rattle.jz_fact_sets.specs.Knowing.{nothing, least_of_both, most_of_both, times_of_both, meet}
use Rattle.jz_fact_sets.specs.Kept.{is_at_least, is_at_most, is_times, is_named, AreDifferent, says, spot, facts_by}
use Rattle.jz_fact_sets.specs.Renewing.{known_if, renewed_at, forgotten_at, with_cell, own}
use Rattle.jz_fact_sets.specs.Meeting.{or_known, over_known, met_at, IsMet, narrowed}
use Rattle.jz_fact_sets.proofs.KeyLemmas.{same_key-back}
use Rattle.jz_fact_sets.proofs.KnowledgeLemmas.{meet_self}
use Rattle.jz_fact_sets.proofs.NamedBits.{both_named, none_named}

and_split : (a x y : Bool) → (a && (x && y)) ≡ ((a && x) && (a && y))
and_split true x y = refl
and_split false x y = refl

and_none : (a : Bool) → (a && false) ≡ false
and_none true = refl
and_none false = refl

yes_le : (a b : ℕ) → a ≤ b → nat_le a b ≡ true
yes_le a b h = grind (arith, rules, h)

no_le : (a b : ℕ) → b < a → nat_le a b ≡ false
no_le a b h = grind (arith, rules, h)

le_yes : (a b : ℕ) → nat_le a b ≡ true → a ≤ b
le_yes a b e = grind (arith, rules, e)

le_no : (a b : ℕ) → nat_le a b ≡ false → b < a
le_no a b e = grind (arith, rules, e)

le_min : (c a b : ℕ) → nat_le c (min a b) ≡ (nat_le c a && nat_le c b)
le_min c a b = by (nat_le c a) refl (nat_le c b) refl
  where
    by : (t : Bool) → nat_le c a ≡ t → (u : Bool) → nat_le c b ≡ u → nat_le c (min a b) ≡ (t && u)
    by true e true f = let h = le_yes c a e in let k = le_yes c b f in let l : c ≤ min a b = omega (arith, h, k) in yes_le c (min a b) l
    by true e false f = let k = le_no c b f in let l : min a b < c = omega (arith, k) in no_le c (min a b) l
    by false e u f = let h = le_no c a e in let l : min a b < c = omega (arith, h) in no_le c (min a b) l

max_le : (a b c : ℕ) → nat_le (max a b) c ≡ (nat_le a c && nat_le b c)
max_le a b c = by (nat_le a c) refl (nat_le b c) refl
  where
    by : (t : Bool) → nat_le a c ≡ t → (u : Bool) → nat_le b c ≡ u → nat_le (max a b) c ≡ (t && u)
    by true e true f = let h = le_yes a c e in let k = le_yes b c f in let l : max a b ≤ c = omega (arith, h, k) in yes_le (max a b) c l
    by true e false f = let k = le_no b c f in let l : c < max a b = omega (arith, k) in no_le (max a b) c l
    by false e u f = let h = le_no a c e in let l : c < max a b = omega (arith, h) in no_le (max a b) c l

at_least_both : (o p : Option ℕ) (c : ℕ) → is_at_least (least_of_both o p) c ≡ (is_at_least o c && is_at_least p c)
at_least_both None p c = refl
at_least_both (Some a) None c = sym (and_none (nat_le c a))
at_least_both (Some a) (Some b) c = le_min c a b

at_most_both : (o p : Option ℕ) (c : ℕ) → is_at_most (most_of_both o p) c ≡ (is_at_most o c && is_at_most p c)
at_most_both None p c = refl
at_most_both (Some a) None c = sym (and_none (nat_le a c))
at_most_both (Some a) (Some b) c = max_le a b c

-- ---- multiples

one_of : (m : ℕ) → is_among m multiples ≡ true → (m ≡ 2) ⊎ ((m ≡ 4) ⊎ (m ≡ 8))
one_of m e = by (m == 2) refl (m == 4) refl (m == 8) refl e
  where
    same : (a b : ℕ) → (a == b) ≡ true → a ≡ b
    same a b h = grind (arith, rules, h)

    by : (x : Bool) → (m == 2) ≡ x → (y : Bool) → (m == 4) ≡ y → (z : Bool) → (m == 8) ≡ z → (x || (y || (z || false))) ≡ true → (m ≡ 2) ⊎ ((m ≡ 4) ⊎ (m ≡ 8))
    by true h y i z j k = inl (same m 2 h)
    by false h true i z j k = inr (inl (same m 4 i))
    by false h false i true j k = inr (inr (same m 8 j))
    by false h false i false j k = absurd (cc k)

both_two : (t u : Times) → is_times (times_of_both (Some t) (Some u)) 2 ≡ (is_times (Some t) 2 && is_times (Some u) 2)
both_two Two Two = refl
both_two Two Four = refl
both_two Two Eight = refl
both_two Four Two = refl
both_two Four Four = refl
both_two Four Eight = refl
both_two Eight Two = refl
both_two Eight Four = refl
both_two Eight Eight = refl

both_four : (t u : Times) → is_times (times_of_both (Some t) (Some u)) 4 ≡ (is_times (Some t) 4 && is_times (Some u) 4)
both_four Two Two = refl
both_four Two Four = refl
both_four Two Eight = refl
both_four Four Two = refl
both_four Four Four = refl
both_four Four Eight = refl
both_four Eight Two = refl
both_four Eight Four = refl
both_four Eight Eight = refl

both_eight : (t u : Times) → is_times (times_of_both (Some t) (Some u)) 8 ≡ (is_times (Some t) 8 && is_times (Some u) 8)
both_eight Two Two = refl
both_eight Two Four = refl
both_eight Two Eight = refl
both_eight Four Two = refl
both_eight Four Four = refl
both_eight Four Eight = refl
both_eight Eight Two = refl
both_eight Eight Four = refl
both_eight Eight Eight = refl

times_both : (o p : Option Times) (m : ℕ) → (m ≡ 2) ⊎ ((m ≡ 4) ⊎ (m ≡ 8)) → is_times (times_of_both o p) m ≡ (is_times o m && is_times p m)
times_both None p m h = refl
times_both (Some t) None m h = sym (and_none (is_times (Some t) m))
times_both (Some t) (Some u) m (inl e) = subst (λ n. is_times (times_of_both (Some t) (Some u)) n ≡ (is_times (Some t) n && is_times (Some u) n)) (sym e) (both_two t u)
times_both (Some t) (Some u) m (inr (inl e)) = subst (λ n. is_times (times_of_both (Some t) (Some u)) n ≡ (is_times (Some t) n && is_times (Some u) n)) (sym e) (both_four t u)
times_both (Some t) (Some u) m (inr (inr e)) = subst (λ n. is_times (times_of_both (Some t) (Some u)) n ≡ (is_times (Some t) n && is_times (Some u) n)) (sym e) (both_eight t u)

multiple_both : (o p : Option Times) (m : ℕ) (c : Bool) → is_among m multiples ≡ c → (c && is_times (times_of_both o p) m) ≡ ((c && is_times o m) && (c && is_times p m))
multiple_both o p m true e = times_both o p m (one_of m e)
multiple_both o p m false e = refl

module _ (cs : List ℕ) (ps : List Parameter) where
  pub says_both : AreDifferent ps → (a b : Knowledge) (f : Fact) → says cs ps (meet a b) f ≡ (says cs ps a f && says cs ps b f)
  says_both d a b (Set v) = refl
  says_both d a b (Cell v j) = refl
  says_both d a b (AtLeast v c) = ap (λ x. is_among c cs && x) (at_least_both a.least b.least c) ∙ and_split (is_among c cs) (is_at_least a.least c) (is_at_least b.least c)
  says_both d a b (AtMost v c) = ap (λ x. is_among c cs && x) (at_most_both a.most b.most c) ∙ and_split (is_among c cs) (is_at_most a.most c) (is_at_most b.most c)
  says_both d a b (Under v x) = both_named ps a.under b.under x d
  says_both d a b (Is v x) = both_named ps a.is b.is x d
  says_both d a b (Multiple v m) = multiple_both a.times b.times m (is_among m multiples) refl

  pub nothing_says : (f : Fact) → says cs ps nothing f ≡ false
  nothing_says (Set v) = refl
  nothing_says (Cell v j) = refl
  nothing_says (AtLeast v c) = and_none (is_among c cs)
  nothing_says (AtMost v c) = and_none (is_among c cs)
  nothing_says (Under v x) = none_named ps x
  nothing_says (Is v x) = none_named ps x
  nothing_says (Multiple v m) = and_none (is_among m multiples)

-- ---- where paths meet

module _ {S : Type 0} where
  pub met_everywhere : (a b : IndexMap Named Knowledge S) (old new : Spot → Knowledge) → IsMet a b old new → (k : Spot) → new k ≡ met_at a b old k
  met_everywhere a b old new h k = h k ∙ by (entry_in a k) refl (entry_in b k) refl
    where
      by : (o : Option Knowledge) → entry_in a k ≡ o → (p : Option Knowledge) → entry_in b k ≡ p → known_if (is_some p || is_some o) (met_at a b old k) (old k) ≡ met_at a b old k
      by o e (Some y) f = refl
      by (Some x) e None f = refl
      by None e None f = sym (ap (λ x. meet (or_known (old k) x) (over_known b old k)) e ∙ ap (λ x. meet (old k) (or_known (old k) x)) f ∙ meet_self (old k))

  pub narrowed_everywhere : (m : IndexMap Named Knowledge S) (old : Spot → Knowledge) (k : Spot) → narrowed m old k ≡ meet (old k) (over_known m old k)
  narrowed_everywhere m old k = by (entry_in m k) refl
    where
      by : (o : Option Knowledge) → entry_in m k ≡ o → known_if (is_some o) (meet (old k) (over_known m old k)) (old k) ≡ meet (old k) (over_known m old k)
      by (Some x) e = refl
      by None e = sym (ap (λ x. meet (old k) (or_known (old k) x)) e ∙ meet_self (old k))

pub common_facts : (g : Given) → AreDifferent g.params → (x y new : Spot → Knowledge) → ((k : Spot) → new k ≡ meet (x k) (y k)) → facts_by g new ≡ common (facts_by g x) (facts_by g y)
common_facts g d x y new h = fun_ext (λ f. ap (λ k. says g.constants g.params k f) (h (spot f)) ∙ says_both g.constants g.params d (x (spot f)) (y (spot f)) f)

-- ---- behind a write

either : (P : Knowledge → Bool) (c : Bool) (a b : Knowledge) → P (known_if c a b) ≡ (if c then P a else P b)
either P true a b = refl
either P false a b = refl

turned : (c d : Bool) (x y : Bool) → c ≡ d → (if c then x else y) ≡ (if d then x else y)
turned c d x y e = ap (λ b. if b then x else y) e

module _ (g : Given) (v : Key) (x : Knowledge) (know : Spot → Knowledge) where
  renewed_one : (f : Fact) → facts_by g (renewed_at v x know) f ≡ renewed v (own g x) (facts_by g know) f
  renewed_one (Set w) = either (λ k. k.set) (same_key v w) x (know (record { of = w; index = None })) ∙ turned _ _ _ _ (sym (same_key-back v w (same_key v w) refl))
  renewed_one (Cell a j) = either (λ k. k.set) (same_key v a) nothing (know (record { of = a; index = Some j })) ∙ turned _ _ _ _ (sym (same_key-back v a (same_key v a) refl))
  renewed_one (AtLeast w c) =
      either (λ k. is_among c g.constants && is_at_least k.least c) (same_key v w) x (know (record { of = w; index = None })) ∙ turned _ _ _ _ (sym (same_key-back v w (same_key v w) refl))
  renewed_one (AtMost w c) =
      either (λ k. is_among c g.constants && is_at_most k.most c) (same_key v w) x (know (record { of = w; index = None })) ∙ turned _ _ _ _ (sym (same_key-back v w (same_key v w) refl))
  renewed_one (Under w y) = either (λ k. is_named g.params k.under y) (same_key v w) x (know (record { of = w; index = None })) ∙ turned _ _ _ _ (sym (same_key-back v w (same_key v w) refl))
  renewed_one (Is w y) = either (λ k. is_named g.params k.is y) (same_key v w) x (know (record { of = w; index = None })) ∙ turned _ _ _ _ (sym (same_key-back v w (same_key v w) refl))
  renewed_one (Multiple w m) =
      either (λ k. is_among m multiples && is_times k.times m) (same_key v w) x (know (record { of = w; index = None })) ∙ turned _ _ _ _ (sym (same_key-back v w (same_key v w) refl))

  pub renewed_facts : facts_by g (renewed_at v x know) ≡ renewed v (own g x) (facts_by g know)
  renewed_facts = fun_ext renewed_one

module _ (g : Given) (v : Key) (know : Spot → Knowledge) where
  dropped : (c : Bool) (k : Knowledge) (f : Fact) → says g.constants g.params (known_if c nothing k) f ≡ (says g.constants g.params k f && not c)
  dropped true k f = nothing_says g.constants g.params f ∙ sym (and_none (says g.constants g.params k f))
  dropped false k f = by (says g.constants g.params k f)
    where
      by : (b : Bool) → b ≡ (b && true)
      by true = refl
      by false = refl

  spot_is : (f : Fact) → (spot f).of ≡ subject f
  spot_is (Set w) = refl
  spot_is (Cell a j) = refl
  spot_is (AtLeast w c) = refl
  spot_is (AtMost w c) = refl
  spot_is (Under w y) = refl
  spot_is (Is w y) = refl
  spot_is (Multiple w m) = refl

  pub forgotten_facts : facts_by g (forgotten_at v know) ≡ (λ f. facts_by g know f && not (bytes_eq v.name (subject f).name && (v.copy == (subject f).copy)))
  forgotten_facts = fun_ext (λ f. dropped (bytes_eq v.name (spot f).of.name && (v.copy == (spot f).of.copy)) (know (spot f)) f
      ∙ ap (λ (k : Key). facts_by g know f && not (bytes_eq v.name k.name && (v.copy == k.copy))) (spot_is f))

no_index : (a b c : Bool) → (a && (b && (c && false))) ≡ false
no_index true true true = refl
no_index true true false = refl
no_index true false c = refl
no_index false b c = refl

module _ (g : Given) (a : Key) (i : ℕ) (know : Spot → Knowledge) where
  elsewhere : (w : Key) → same_spot (record { of = a; index = Some i }) (record { of = w; index = None }) ≡ false
  elsewhere w = no_index (bytes_eq a.name w.name) (a.copy == w.copy) (same_cell a.cell w.cell)

  as_before : (P : Knowledge → Bool) (w : Key) → P (with_cell a i know (record { of = w; index = None })) ≡ (P (know (record { of = w; index = None })) || false)
  as_before P w = ap (λ c. P (known_if c (record nothing { set = true }) (know (record { of = w; index = None })))) (elsewhere w) ∙ by (P (know (record { of = w; index = None })))
    where
      by : (b : Bool) → b ≡ (b || false)
      by true = refl
      by false = refl

  one_cell : (k : Knowledge) (p q r s : Bool) → (known_if (p && (q && (r && s))) (record nothing { set = true }) k).set ≡ (k.set || ((p && (q && r)) && s))
  one_cell k true true true true = by k.set
    where
      by : (b : Bool) → true ≡ (b || true)
      by true = refl
      by false = refl
  one_cell k true true true false = by k.set
    where
      by : (b : Bool) → b ≡ (b || false)
      by true = refl
      by false = refl
  one_cell k true true false s = by k.set
    where
      by : (b : Bool) → b ≡ (b || false)
      by true = refl
      by false = refl
  one_cell k true false r s = by k.set
    where
      by : (b : Bool) → b ≡ (b || false)
      by true = refl
      by false = refl
  one_cell k false q r s = by k.set
    where
      by : (b : Bool) → b ≡ (b || false)
      by true = refl
      by false = refl

  same_back : (m n : ℕ) → (m == n) ≡ (n == m)
  same_back m n = grind (arith, rules)

  cell_one : (f : Fact) → facts_by g (with_cell a i know) f ≡ (facts_by g know f || holding.same_cell a i f)
  cell_one (Set w) = as_before (λ k. k.set) w
  cell_one (Cell b j) =
      one_cell (know (record { of = b; index = Some j })) (bytes_eq a.name b.name) (a.copy == b.copy) (same_cell a.cell b.cell) (i == j)
      ∙ ap (λ c. (know (record { of = b; index = Some j })).set || (same_key a b && c)) (same_back i j)
  cell_one (AtLeast w c) = as_before (λ k. is_among c g.constants && is_at_least k.least c) w
  cell_one (AtMost w c) = as_before (λ k. is_among c g.constants && is_at_most k.most c) w
  cell_one (Under w y) = as_before (λ k. is_named g.params k.under y) w
  cell_one (Is w y) = as_before (λ k. is_named g.params k.is y) w
  cell_one (Multiple w m) = as_before (λ k. is_among m multiples && is_times k.times m) w

  pub cell_facts : facts_by g (with_cell a i know) ≡ (λ f. facts_by g know f || holding.same_cell a i f)
  cell_facts = fun_ext cell_one
