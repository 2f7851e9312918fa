-- What the facts of a set say of variables, by what is kept of them.
use Rattle.std.proofs.Common.{◌≡◌, ℕ, ◌-◌, ◌%◌, List, [], ◌∷◌, map, Option, Some, None, Bool, true, false, refl, ap, sym, ◌∙◌, arith, rules, min, max, if◌then◌else◌}
use Rattle.std.specs.Prelude.{◌==◌, nat_le, ◌&&◌, ◌||◌}
use Rattle.x64_insn.specs.Size.{Size}
use Rattle.jz_intervals.specs.declared.interval.Interval.{Interval}
use Rattle.jz_intervals.specs.Intervals.{greatest_word}
use Rattle.jz_meaning.specs.States.{Key}
use Rattle.jz_facts.specs.Facts.{is_among, greatest, least, hi_of, multiples}
use Rattle.jz_facts.specs.Intervals.{of_variable, under_most, has_multiple}
use Rattle.jz_fact_readings.specs.Multiples.{times_of}
use Rattle.jz_fact_readings.specs.declared.times.Times.{Times}
use Rattle.jz_fact_readings.specs.declared.times.Times.TheVariants.{Two, Four, Eight}
use Rattle.jz_fact_sets.specs.declared.given.Parameter.{Parameter}
use Rattle.jz_fact_sets.specs.declared.knowledge.Knowledge.{Knowledge}
use Rattle.jz_layers.specs.declared.layers.Layers.{Layers}
use Rattle.jz_layers.specs.Spots.{Spot, variable_key}
use Rattle.jz_fact_sets.specs.declared.given.Given.{Given}
use Rattle.jz_fact_sets.specs.Kept.{start_of, given_of, is_at_least, is_at_most, is_times, is_named, least_by, most_by, below_all, known_at, facts_of}

same_number : (c : ℕ) → (c == c) ≡ true
same_number c = grind (arith, rules)

or_true : (a b : Bool) → a ≡ true → (a || b) ≡ true
or_true true b e = refl
or_true false b e = absurd (cc e)

or_right : (a b : Bool) → b ≡ true → (a || b) ≡ true
or_right true b e = refl
or_right false b e = e

-- ---- of constants alone the greatest and the least are asked

module _ (p : ℕ → Bool) (all : List ℕ) where
  greatest_among : (ds : List ℕ) → ((c : ℕ) → is_among c ds ≡ true → is_among c all ≡ true) → greatest (λ c. is_among c all && p c) ds ≡ greatest p ds
  greatest_among [] h = refl
  greatest_among (c ∷ ds) h =
      ap (λ b. if b && p c then max c (greatest (λ c. is_among c all && p c) ds) else greatest (λ c. is_among c all && p c) ds) (h c (or_true (c == c) (is_among c ds) (same_number c)))
      ∙ ap (λ r. if p c then max c r else r) (greatest_among ds (λ d e. h d (or_right (d == c) (is_among d ds) e)))

  least_among : (m : ℕ) (ds : List ℕ) → ((c : ℕ) → is_among c ds ≡ true → is_among c all ≡ true) → least (λ c. is_among c all && p c) m ds ≡ least p m ds
  least_among m [] h = refl
  least_among m (c ∷ ds) h =
      ap (λ b. if b && p c then min c (least (λ c. is_among c all && p c) m ds) else least (λ c. is_among c all && p c) m ds) (h c (or_true (c == c) (is_among c ds) (same_number c)))
      ∙ ap (λ r. if p c then min c r else r) (least_among m ds (λ d e. h d (or_right (d == c) (is_among d ds) e)))

no_greatest : (ds : List ℕ) → greatest (λ c. false) ds ≡ 0
no_greatest [] = refl
no_greatest (c ∷ ds) = no_greatest ds

no_least : (m : ℕ) (ds : List ℕ) → least (λ c. false) m ds ≡ m
no_least m [] = refl
no_least m (c ∷ ds) = no_least m ds

least_is : (cs : List ℕ) (o : Option ℕ) → least_by cs o ≡ greatest (λ c. is_among c cs && is_at_least o c) cs
least_is cs None = sym (greatest_among (λ c. false) cs cs (λ c e. e) ∙ no_greatest cs)
least_is cs (Some l) = sym (greatest_among (λ c. nat_le c l) cs cs (λ c e. e))

most_is : (cs : List ℕ) (o : Option ℕ) (m : ℕ) → most_by cs o m ≡ least (λ c. is_among c cs && is_at_most o c) m cs
most_is cs None m = sym (least_among (λ c. false) cs m cs (λ c e. e) ∙ no_least m cs)
most_is cs (Some h) m = sym (least_among (λ c. nat_le h c) cs m cs (λ c e. e))

-- where what is known of a variable stands
abbrev pub at : Key → Spot
at v = record { of = v; index = None }

module _ (g : Given) (s : Layers Knowledge) (v : Key) where
  below_is : (m : ℕ) (ps : List Parameter) → below_all g.params (known_at s (at v)).under m ps ≡ under_most (given_of g) (facts_of g s) v m (map start_of ps)
  below_is m [] = refl
  below_is m (p ∷ ps) = ap (λ r. if is_named g.params (known_at s (at v)).under (variable_key p.var) then min (hi_of (start_of p) - 1) r else r) (below_is m ps)

  -- the interval of a variable
  pub variable_is : (z : Size) (k : Knowledge) (lo hi : ℕ) → k ≡ known_at s (at v)
      → lo ≡ min (least_by g.constants k.least) (greatest_word z)
      → hi ≡ below_all g.params k.under (most_by g.constants k.most (greatest_word z)) g.params
      → ◌≡◌ {A = Interval} (record { lo = lo; hi = hi }) (of_variable (given_of g) (facts_of g s) z v)
  variable_is z k lo hi e f h = λ i. record { lo = low i; hi = high i }
    where
      low : lo ≡ (of_variable (given_of g) (facts_of g s) z v).lo
      low = f ∙ ap (λ n. min (least_by g.constants n.least) (greatest_word z)) e ∙ ap (λ n. min n (greatest_word z)) (least_is g.constants (known_at s (at v)).least)

      high : hi ≡ (of_variable (given_of g) (facts_of g s) z v).hi
      high =
          h ∙ ap (λ n. below_all g.params n.under (most_by g.constants n.most (greatest_word z)) g.params) e
          ∙ ap (λ m. below_all g.params (known_at s (at v)).under m g.params) (most_is g.constants (known_at s (at v)).most (greatest_word z))
          ∙ below_is (least (λ c. is_among c g.constants && is_at_most (known_at s (at v)).most c) (greatest_word z) g.constants) g.params

-- ---- multiples

abbrev many : Option Times → ℕ → List ℕ → Bool
many o m [] = false
many o m (k ∷ ks) = ((is_among k multiples && is_times o k) && (k % m == 0)) || many o m ks

has_is : (g : Given) (s : Layers Knowledge) (v : Key) (m : ℕ) (ks : List ℕ) → has_multiple (given_of g) (facts_of g s) v m ks ≡ many (known_at s (at v)).times m ks
has_is g s v m [] = refl
has_is g s v m (k ∷ ks) = ap (λ b. ((is_among k multiples && is_times (known_at s (at v)).times k) && (k % m == 0)) || b) (has_is g s v m ks)

none_many : (t : Times) → false ≡ many None (times_of t) multiples
none_many Two = refl
none_many Four = refl
none_many Eight = refl

some_many : (u t : Times) → (times_of u % times_of t == 0) ≡ many (Some u) (times_of t) multiples
some_many Two Two = refl
some_many Two Four = refl
some_many Two Eight = refl
some_many Four Two = refl
some_many Four Four = refl
some_many Four Eight = refl
some_many Eight Two = refl
some_many Eight Four = refl
some_many Eight Eight = refl

module _ (g : Given) (s : Layers Knowledge) (v : Key) (t : Times) (k : Knowledge) (e : k ≡ known_at s (at v)) where
  pub no_times : k.times ≡ None → false ≡ has_multiple (given_of g) (facts_of g s) v (times_of t) multiples
  no_times h = none_many t ∙ ap (λ o. many o (times_of t) multiples) (sym h ∙ ap (λ n. n.times) e) ∙ sym (has_is g s v (times_of t) multiples)

  pub some_times : (u : Times) → k.times ≡ Some u → (times_of u % times_of t == 0) ≡ has_multiple (given_of g) (facts_of g s) v (times_of t) multiples
  some_times u h = some_many u t ∙ ap (λ o. many o (times_of t) multiples) (sym h ∙ ap (λ n. n.times) e) ∙ sym (has_is g s v (times_of t) multiples)
