-- What is known by one of two, and what is told of a variable.
use Rattle.std.proofs.Common.{◌≡◌, ℕ, ◌<◌, ◌≤◌, Option, Some, None, Bool, true, false, refl, ap, sym, ◌∙◌, arith, rules, min, max}
use Rattle.std.specs.Prelude.{◌==◌, nat_le, ◌&&◌, ◌||◌}
use Rattle.std.proofs.Math.Path.{fun_ext}
use Rattle.jz_tree.specs.declared.expr.Var.{Var}
use Rattle.jz_meaning.specs.States.{Key, same_key, same_cell}
use Rattle.std.specs.Str.{bytes_eq}
use Rattle.jz_layers.specs.Spots.{Spot, same_spot, variable_key}
use Rattle.jz_facts.specs.Facts.{Fact, Set, Cell, AtLeast, AtMost, Under, Is, Multiple, Facts, subject, is_among, multiples}
use Rattle.jz_terms.specs.Terms.{Term}
use Rattle.jz_facts.specs.Tests.{is_var, ◌and◌}
use Rattle.jz_fact_readings.specs.declared.times.Times.{Times}
use Rattle.jz_fact_readings.specs.declared.times.Times.TheVariants.{Two, Four, Eight}
use Rattle.jz_fact_sets.specs.declared.given.Given.{Given}
use Rattle.jz_fact_sets.specs.declared.knowledge.Knowledge.{Knowledge}
use Rattle.jz_fact_sets.specs.Kept.{is_at_least, is_at_most, is_times, is_named, facts_by}
use Rattle.jz_fact_sets.specs.Renewing.{known_if, own}
use Rattle.jz_fact_sets.proofs.KeyLemmas.{as_spot, same_key-true, same_key-back}
use Rattle.jz_fact_sets.proofs.NamedBits.{some_named}
use Rattle.jz_fact_steps.specs.Telling.{least_of_some, most_of_some, times_of_some, join, of_variable, of_term}
use Rattle.jz_fact_steps.proofs.Timing.{each_times}

and_either : (a x y : Bool) → (a && (x || y)) ≡ ((a && x) || (a && y))
and_either true x y = refl
and_either false x y = refl

or_none : (a : Bool) → (a || false) ≡ a
or_none true = refl
or_none false = refl

yes_le : (a b : ℕ) → a ≤ b → nat_le a b ≡ true
yes_le a b h = grind (arith, rules, h)

no_le : (a b : ℕ) → b < a → nat_le a b ≡ false
no_le a b h = grind (arith, rules, h)

le_yes : (a b : ℕ) → nat_le a b ≡ true → a ≤ b
le_yes a b e = grind (arith, rules, e)

le_no : (a b : ℕ) → nat_le a b ≡ false → b < a
le_no a b e = grind (arith, rules, e)

le_max : (c a b : ℕ) → nat_le c (max a b) ≡ (nat_le c a || nat_le c b)
le_max c a b = by (nat_le c a) refl (nat_le c b) refl
  where
    by : (t : Bool) → nat_le c a ≡ t → (u : Bool) → nat_le c b ≡ u → nat_le c (max a b) ≡ (t || u)
    by true e u f = let h = le_yes c a e in let l : c ≤ max a b = omega (arith, h) in yes_le c (max a b) l
    by false e true f = let k = le_yes c b f in let l : c ≤ max a b = omega (arith, k) in yes_le c (max a b) l
    by false e false f = let h = le_no c a e in let k = le_no c b f in let l : max a b < c = omega (arith, h, k) in no_le c (max a b) l

min_le : (a b c : ℕ) → nat_le (min a b) c ≡ (nat_le a c || nat_le b c)
min_le a b c = by (nat_le a c) refl (nat_le b c) refl
  where
    by : (t : Bool) → nat_le a c ≡ t → (u : Bool) → nat_le b c ≡ u → nat_le (min a b) c ≡ (t || u)
    by true e u f = let h = le_yes a c e in let l : min a b ≤ c = omega (arith, h) in yes_le (min a b) c l
    by false e true f = let k = le_yes b c f in let l : min a b ≤ c = omega (arith, k) in yes_le (min a b) c l
    by false e false f = let h = le_no a c e in let k = le_no b c f in let l : c < min a b = omega (arith, h, k) in no_le (min a b) c l

some_least : (o p : Option ℕ) (c : ℕ) → is_at_least (least_of_some o p) c ≡ (is_at_least o c || is_at_least p c)
some_least None p c = refl
some_least (Some a) None c = sym (or_none (nat_le c a))
some_least (Some a) (Some b) c = le_max c a b

some_most : (o p : Option ℕ) (c : ℕ) → is_at_most (most_of_some o p) c ≡ (is_at_most o c || is_at_most p c)
some_most None p c = refl
some_most (Some a) None c = sym (or_none (nat_le a c))
some_most (Some a) (Some b) c = min_le a b c

some_two : (t u : Times) → is_times (times_of_some (Some t) (Some u)) 2 ≡ (is_times (Some t) 2 || is_times (Some u) 2)
some_two Two Two = refl
some_two Two Four = refl
some_two Two Eight = refl
some_two Four Two = refl
some_two Four Four = refl
some_two Four Eight = refl
some_two Eight Two = refl
some_two Eight Four = refl
some_two Eight Eight = refl

some_four : (t u : Times) → is_times (times_of_some (Some t) (Some u)) 4 ≡ (is_times (Some t) 4 || is_times (Some u) 4)
some_four Two Two = refl
some_four Two Four = refl
some_four Two Eight = refl
some_four Four Two = refl
some_four Four Four = refl
some_four Four Eight = refl
some_four Eight Two = refl
some_four Eight Four = refl
some_four Eight Eight = refl

some_eight : (t u : Times) → is_times (times_of_some (Some t) (Some u)) 8 ≡ (is_times (Some t) 8 || is_times (Some u) 8)
some_eight Two Two = refl
some_eight Two Four = refl
some_eight Two Eight = refl
some_eight Four Two = refl
some_eight Four Four = refl
some_eight Four Eight = refl
some_eight Eight Two = refl
some_eight Eight Four = refl
some_eight Eight Eight = refl

some_times : (o p : Option Times) (m : ℕ) → (is_among m multiples && is_times (times_of_some o p) m) ≡ (is_among m multiples && (is_times o m || is_times p m))
some_times None p m = refl
some_times (Some t) None m = ap (λ b. is_among m multiples && b) (sym (or_none (is_times (Some t) m)))
some_times (Some t) (Some u) m = each_times (times_of_some (Some t) (Some u)) (λ n. is_times (Some t) n || is_times (Some u) n) (some_two t u) (some_four t u) (some_eight t u) m

module _ (g : Given) (a b : Knowledge) where
  pub join_says : (f : Fact) → own g (join a b) f ≡ (own g a f || own g b f)
  join_says (Set v) = refl
  join_says (Cell v j) = refl
  join_says (AtLeast v c) = ap (λ x. is_among c g.constants && x) (some_least a.least b.least c) ∙ and_either (is_among c g.constants) (is_at_least a.least c) (is_at_least b.least c)
  join_says (AtMost v c) = ap (λ x. is_among c g.constants && x) (some_most a.most b.most c) ∙ and_either (is_among c g.constants) (is_at_most a.most c) (is_at_most b.most c)
  join_says (Under v x) = some_named g.params a.under b.under x
  join_says (Is v x) = some_named g.params a.is b.is x
  join_says (Multiple v m) = some_times a.times b.times m ∙ and_either (is_among m multiples) (is_times a.times m) (is_times b.times m)

no_index : (a b c : Bool) → (a && (b && (c && false))) ≡ false
no_index true true true = refl
no_index true true false = refl
no_index true false c = refl
no_index false b c = refl

and_none : (a : Bool) → (a && false) ≡ false
and_none true = refl
and_none false = refl

module _ (g : Given) (x : Var) (told : Knowledge) (know new : Spot → Knowledge)
    (put : (k : Spot) → new k ≡ known_if (same_spot (record { of = variable_key x; index = None }) k) (join (know (record { of = variable_key x; index = None })) told) (know k)) where
  abbrev at : Key → Spot
  at v = record { of = v; index = None }

  step : (P : Knowledge → Bool) (v : Key) → P (join (know (at (variable_key x))) told) ≡ (P (know (at (variable_key x))) || P told) → P (new (at v)) ≡ (P (know (at v)) || (same_key v (variable_key x) && P told))
  step P v e = ap P (put (at v) ∙ ap (λ b. known_if b (join (know (at (variable_key x))) told) (know (at v))) (as_spot (variable_key x) v)) ∙ by (same_key (variable_key x) v) refl
    where
      by : (c : Bool) → same_key (variable_key x) v ≡ c → P (known_if c (join (know (at (variable_key x))) told) (know (at v))) ≡ (P (know (at v)) || (same_key v (variable_key x) && P told))
      by true h = e ∙ ap (λ k. P (know (at k)) || P told) (same_key-true (variable_key x) v h) ∙ sym (ap (λ b. P (know (at v)) || (b && P told)) (same_key-back (variable_key x) v true h))
      by false h = sym (ap (λ b. P (know (at v)) || (b && P told)) (same_key-back (variable_key x) v false h) ∙ or_none (P (know (at v))))

  one : (f : Fact) → facts_by g new f ≡ (facts_by g know f || of_variable g x told f)
  one (Set v) = step (λ k. k.set) v (join_says g (know (at (variable_key x))) told (Set v))
  one (Cell a j) =
      ap (λ k. k.set) (put (record { of = a; index = Some j }) ∙ ap (λ b. known_if b (join (know (at (variable_key x))) told) (know (record { of = a; index = Some j }))) (no_index (bytes_eq (variable_key x).name a.name) ((variable_key x).copy == a.copy) (same_cell (variable_key x).cell a.cell)))
      ∙ sym (ap (λ b. (know (record { of = a; index = Some j })).set || b) (and_none (same_key a (variable_key x))) ∙ or_none (know (record { of = a; index = Some j })).set)
  one (AtLeast v c) = step (λ k. is_among c g.constants && is_at_least k.least c) v (join_says g (know (at (variable_key x))) told (AtLeast v c))
  one (AtMost v c) = step (λ k. is_among c g.constants && is_at_most k.most c) v (join_says g (know (at (variable_key x))) told (AtMost v c))
  one (Under v y) = step (λ k. is_named g.params k.under y) v (join_says g (know (at (variable_key x))) told (Under v y))
  one (Is v y) = step (λ k. is_named g.params k.is y) v (join_says g (know (at (variable_key x))) told (Is v y))
  one (Multiple v m) = step (λ k. is_among m multiples && is_times k.times m) v (join_says g (know (at (variable_key x))) told (Multiple v m))

  pub told_facts : facts_by g new ≡ (facts_by g know and of_variable g x told)
  told_facts = fun_ext one

-- nothing is told of what is no variable
pub told_none : (g : Given) (s : Facts) (k : Knowledge) (t u : Term) → t ≡ u → ((v : Key) → is_var u v ≡ false) → s ≡ (s and of_term g t k)
told_none g s k t u e no_var = fun_ext (λ f. by f (is_var t (subject f)) (ap (λ y. is_var y (subject f)) e ∙ no_var (subject f)))
  where
    by : (f : Fact) → (b : Bool) → b ≡ false → s f ≡ (s f || (b && own g k f))
    by f true h = absurd (cc h)
    by f false h = sym (or_none (s f))
