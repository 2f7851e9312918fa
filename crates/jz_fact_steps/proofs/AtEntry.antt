-- The facts at entry, parameter by parameter.
use Rattle.std.proofs.Common.{◌≡◌, ◌≢◌, ℕ, zero, suc, ◌+◌, ◌<◌, ◌≤◌, ◌^◌, List, [], ◌∷◌, ◌++◌, map, take, length, get_or, Option, Some, None, Bool, true, false, true≢false, refl, ap, sym, ◌∙◌, arith}
use Rattle.std.specs.Prelude.{◌==◌, nat_le, ◌&&◌, ◌||◌}
use Rattle.std.specs.Int.{bit_at}
use Rattle.std.specs.Str.{bytes_eq}
use Rattle.std.proofs.lemmas.Nat.Bits.{bit_at-pow_same, bit_at-pow_other}
use Rattle.std.proofs.Math.Path.{fun_ext}
use Rattle.jz_meaning.specs.States.{Key, same_key, same_cell}
use Rattle.jz_layers.specs.Spots.{Spot, same_spot, variable_key}
use Rattle.jz_facts.specs.Facts.{Fact, Set, Cell, AtLeast, AtMost, Under, Is, Multiple, Facts, Start, is_among, multiples, in_range, is_aligned_by, of_parameter, of_parameters}
use Rattle.jz_intervals.specs.declared.interval.Interval.{Interval}
use Rattle.jz_fact_sets.specs.declared.given.Given.{Given}
use Rattle.jz_fact_sets.specs.declared.given.Parameter.{Parameter}
use Rattle.jz_fact_sets.specs.declared.knowledge.Knowledge.{Knowledge}
use Rattle.jz_fact_sets.specs.Knowing.{nothing}
use Rattle.jz_fact_sets.specs.Kept.{is_at_least, is_at_most, is_times, is_named, is_parameter, AreDifferent, says, spot, facts_by, start_of}
use Rattle.jz_fact_sets.specs.Renewing.{known_if}
use Rattle.jz_fact_sets.proofs.KeyLemmas.{as_spot, same_key-true, same_key-refl, same_key-back}
use Rattle.jz_fact_sets.proofs.NamedBits.{named_by, named_bits, none_named}
use Rattle.jz_fact_sets.proofs.FactLemmas.{nothing_says}
use Rattle.jz_fact_steps.specs.Entering.{lo_in, hi_in, IsEntered}

and_none : (a : Bool) → (a && false) ≡ false
and_none true = refl
and_none false = refl

or_none : (a : Bool) → (a || false) ≡ a
or_none true = refl
or_none false = refl

-- ---- the bit of a parameter

zero_by : (ps : List Parameter) (b : ℕ → ℕ) (x : Key) → ((i : ℕ) → b i ≡ 0) → named_by ps b x ≡ false
zero_by [] b x e = refl
zero_by (p ∷ ps) b x e = ap (λ n. ((n == 1) && same_key (variable_key p.var) x) || named_by ps (λ i. b (suc i)) x) (e 0) ∙ zero_by ps (λ i. b (suc i)) x (λ i. e (suc i))

one_bit : (ps : List Parameter) (j : ℕ) (p : Parameter) (b : ℕ → ℕ) (x : Key) → j < length ps → p ≡ get_or ps j p → b j ≡ 1 → ((i : ℕ) → i ≢ j → b i ≡ 0) → named_by ps b x ≡ same_key (variable_key p.var) x
one_bit [] j p b x l e one none = absurd (omega (arith, l))
one_bit (q ∷ ps) zero p b x l e one none =
    ap (λ n. ((n == 1) && same_key (variable_key q.var) x) || named_by ps (λ i. b (suc i)) x) one
    ∙ ap (λ r. same_key (variable_key q.var) x || r) (zero_by ps (λ i. b (suc i)) x (λ i. none (suc i) (λ h. absurd (omega (arith, h)))))
    ∙ or_none (same_key (variable_key q.var) x)
    ∙ ap (λ (y : Parameter). same_key (variable_key y.var) x) (sym e)
one_bit (q ∷ ps) (suc j) p b x l e one none =
    ap (λ n. ((n == 1) && same_key (variable_key q.var) x) || named_by ps (λ i. b (suc i)) x) (none 0 (λ h. absurd (omega (arith, h))))
    ∙ (let k : j < length ps = omega (arith, l) in one_bit ps j p (λ i. b (suc i)) x k e one (λ i h. none (suc i) (λ k. h (omega (arith, k)))))

named_one : (ps : List Parameter) (j : ℕ) (p : Parameter) (x : Key) → j < length ps → p ≡ get_or ps j p → is_named ps (2 ^ j) x ≡ same_key (variable_key p.var) x
named_one ps j p x l e = named_bits ps (2 ^ j) x ∙ one_bit ps j p (bit_at (2 ^ j)) x l e (bit_at-pow_same j) (bit_at-pow_other j)

-- ---- one parameter

in_least : (r : Option Interval) (c : ℕ) → is_at_least (lo_in r) c ≡ in_range r (λ i. nat_le c i.lo)
in_least None c = refl
in_least (Some i) c = refl

in_most : (r : Option Interval) (c : ℕ) → is_at_most (hi_in r) c ≡ in_range r (λ i. nat_le i.hi c)
in_most None c = refl
in_most (Some i) c = refl

-- ---- one more

parameters_more : (cs : List ℕ) (ps : List Start) (p : Start) (f : Fact) → of_parameters cs (ps ++ p ∷ []) f ≡ (of_parameters cs ps f || of_parameter cs p f)
parameters_more cs [] p f = or_none (of_parameter cs p f)
parameters_more cs (q ∷ ps) p f = ap (λ r. of_parameter cs q f || r) (parameters_more cs ps p f) ∙ by (of_parameter cs q f) (of_parameters cs ps f) (of_parameter cs p f)
  where
    by : (a b c : Bool) → (a || (b || c)) ≡ ((a || b) || c)
    by true b c = refl
    by false b c = refl

take_one : (ps : List Parameter) (i : ℕ) (p : Parameter) → i < length ps → p ≡ get_or ps i p → map start_of (take (suc i) ps) ≡ map start_of (take i ps) ++ start_of p ∷ []
take_one [] i p l e = absurd (omega (arith, l))
take_one (q ∷ ps) zero p l e = ap (λ (y : Parameter). start_of y ∷ []) (sym e)
take_one (q ∷ ps) (suc i) p l e = let k : i < length ps = omega (arith, l) in ap (λ (xs : List Start). start_of q ∷ xs) (take_one ps i p k e)

all_taken : (ps : List Parameter) (i : ℕ) → length ps ≤ i → take i ps ≡ ps
all_taken [] zero l = refl
all_taken [] (suc i) l = refl
all_taken (p ∷ ps) zero l = absurd (omega (arith, l))
all_taken (p ∷ ps) (suc i) l = let m : length ps ≤ i = omega (arith, l) in ap (λ (xs : List Parameter). p ∷ xs) (all_taken ps i m)

-- what is known speaks of the first parameters alone
abbrev pub Untold : List Parameter → (Spot → Knowledge) → Type 0
Untold ps know = (v : Key) → is_parameter ps v ≡ false → know (record { of = v; index = None }) ≡ nothing

-- a parameter is none of those before it
apart : (ps : List Parameter) (i : ℕ) (p : Parameter) → AreDifferent ps → i < length ps → p ≡ get_or ps i p → is_parameter (take i ps) (variable_key p.var) ≡ false
apart [] i p d l e = absurd (omega (arith, l))
apart (q ∷ ps) zero p d l e = refl
apart (q ∷ ps) (suc i) p d l e = let k : i < length ps = omega (arith, l) in by (same_key (variable_key q.var) (variable_key p.var)) refl (apart ps i p d.1 k e) (there ps i p k e)
  where
    or_true : (a b : Bool) → b ≡ true → (a || b) ≡ true
    or_true true b h = refl
    or_true false b h = h

    there : (ps : List Parameter) (i : ℕ) (p : Parameter) → i < length ps → p ≡ get_or ps i p → is_parameter ps (variable_key p.var) ≡ true
    there [] i p l e = absurd (omega (arith, l))
    there (r ∷ ps) zero p l e = ap (λ (y : Parameter). same_key (variable_key r.var) (variable_key y.var) || is_parameter ps (variable_key y.var)) e ∙ ap (λ b. b || is_parameter ps (variable_key r.var)) (same_key-refl (variable_key r.var))
    there (r ∷ ps) (suc i) p l e = let k : i < length ps = omega (arith, l) in or_true (same_key (variable_key r.var) (variable_key p.var)) (is_parameter ps (variable_key p.var)) (there ps i p k e)

    by : (b : Bool) → same_key (variable_key q.var) (variable_key p.var) ≡ b → is_parameter (take i ps) (variable_key p.var) ≡ false → is_parameter ps (variable_key p.var) ≡ true
        → (b || is_parameter (take i ps) (variable_key p.var)) ≡ false
    by true h a t = absurd (true≢false (sym t ∙ ap (is_parameter ps) (sym (same_key-true (variable_key q.var) (variable_key p.var) h)) ∙ d.0))
    by false h a t = a

no_index : (a b c : Bool) → (a && (b && (c && false))) ≡ false
no_index true true true = refl
no_index true true false = refl
no_index true false c = refl
no_index false b c = refl

none_less : (ps : List Parameter) (k : ℕ) (v : Key) → is_parameter (take (suc k) ps) v ≡ false → is_parameter (take k ps) v ≡ false
none_less [] zero v n = refl
none_less [] (suc k) v n = refl
none_less (q ∷ ps) zero v n = refl
none_less (q ∷ ps) (suc k) v n = by (same_key (variable_key q.var) v) n (none_less ps k v)
  where
    by : (b : Bool) → (b || is_parameter (take (suc k) ps) v) ≡ false → (is_parameter (take (suc k) ps) v ≡ false → is_parameter (take k ps) v ≡ false) → (b || is_parameter (take k ps) v) ≡ false
    by true m f = absurd (cc m)
    by false m f = f m

none_last : (ps : List Parameter) (k : ℕ) (q : Parameter) (v : Key) → k < length ps → q ≡ get_or ps k q → is_parameter (take (suc k) ps) v ≡ false → same_key (variable_key q.var) v ≡ false
none_last [] k q v l e n = absurd (omega (arith, l))
none_last (r ∷ ps) zero q v l e n = ap (λ (y : Parameter). same_key (variable_key y.var) v) e ∙ left (same_key (variable_key r.var) v) n
  where
    left : (b : Bool) → (b || is_parameter (take 0 ps) v) ≡ false → b ≡ false
    left true m = absurd (cc m)
    left false m = refl
none_last (r ∷ ps) (suc k) q v l e n = let m : k < length ps = omega (arith, l) in by (same_key (variable_key r.var) v) n (none_last ps k q v m e)
  where
    by : (b : Bool) → (b || is_parameter (take (suc k) ps) v) ≡ false → (is_parameter (take (suc k) ps) v ≡ false → same_key (variable_key q.var) v ≡ false) → same_key (variable_key q.var) v ≡ false
    by true m f = absurd (cc m)
    by false m f = f m

module _ (g : Given) where
  -- as far as the first i parameters
  pub record EnteredTo (i : ℕ) (know : Spot → Knowledge) : Type 0 where
    pub facts : facts_by g know ≡ of_parameters g.constants (map start_of (take i g.params))
    pub rest : Untold (take i g.params) know

  pub entered_none : (know : Spot → Knowledge) → ((k : Spot) → know k ≡ nothing) → EnteredTo 0 know
  entered_none know e = record {
    facts = fun_ext (λ f. ap (λ k. says g.constants g.params k f) (e (spot f)) ∙ nothing_says g.constants g.params f ∙ sym (ap (λ ps. of_parameters g.constants (map start_of ps) f) (none g.params)));
    rest = λ v h. e (record { of = v; index = None });
  }
    where
      none : (ps : List Parameter) → take 0 ps ≡ []
      none [] = refl
      none (p ∷ ps) = refl

  module _ (i : ℕ) (p : Parameter) (x : Knowledge) (know new : Spot → Knowledge) (d : AreDifferent g.params) (l : i < length g.params) (e : p ≡ get_or g.params i p)
      (is : IsEntered p i x) (put : (k : Spot) → new k ≡ known_if (same_spot (record { of = variable_key p.var; index = None }) k) x (know k)) (h : EnteredTo i know) where
    abbrev kp : Key
    kp = variable_key p.var

    at_variable : (v : Key) → new (record { of = v; index = None }) ≡ known_if (same_key kp v) x (know (record { of = v; index = None }))
    at_variable v = put (record { of = v; index = None }) ∙ ap (λ b. known_if b x (know (record { of = v; index = None }))) (as_spot kp v)

    at_cell : (a : Key) (j : ℕ) → new (record { of = a; index = Some j }) ≡ know (record { of = a; index = Some j })
    at_cell a j = put (record { of = a; index = Some j }) ∙ ap (λ b. known_if b x (know (record { of = a; index = Some j }))) (no_index (bytes_eq kp.name a.name) (kp.copy == a.copy) (same_cell kp.cell a.cell))

    unknown : know (record { of = kp; index = None }) ≡ nothing
    unknown = h.rest kp (apart g.params i p d l e)

    step : (P : Knowledge → Bool) (q : Bool) (v : Key) → P nothing ≡ false → P x ≡ q → P (new (record { of = v; index = None })) ≡ (P (know (record { of = v; index = None })) || (same_key v kp && q))
    step P q v none here = ap P (at_variable v) ∙ by (same_key kp v) refl
      where
        by : (c : Bool) → same_key kp v ≡ c → P (known_if c x (know (record { of = v; index = None }))) ≡ (P (know (record { of = v; index = None })) || (same_key v kp && q))
        by true r =
            here
            ∙ sym (ap (λ b. P (know (record { of = v; index = None })) || (b && q)) (same_key-back kp v true r)
            ∙ ap (λ y. P (know (record { of = y; index = None })) || q) (sym (same_key-true kp v r))
            ∙ ap (λ k. P k || q) unknown ∙ ap (λ b. b || q) none)
        by false r = sym (ap (λ b. P (know (record { of = v; index = None })) || (b && q)) (same_key-back kp v false r) ∙ or_none (P (know (record { of = v; index = None }))))

    abbrev old : Facts
    old = facts_by g know

    one : (f : Fact) → facts_by g new f ≡ (old f || of_parameter g.constants (start_of p) f)
    one (Set v) = step (λ k. k.set) true v refl is.set ∙ ap (λ b. (know (record { of = v; index = None })).set || b) (and_yes (same_key v kp))
      where
        and_yes : (a : Bool) → (a && true) ≡ a
        and_yes true = refl
        and_yes false = refl
    one (Cell a j) = ap (λ k. k.set) (at_cell a j) ∙ sym (or_none (know (record { of = a; index = Some j })).set)
    one (AtLeast v c) =
        step (λ k. is_among c g.constants && is_at_least k.least c) (is_among c g.constants && in_range p.range (λ r. nat_le c r.lo)) v (and_none (is_among c g.constants))
        (ap (λ o. is_among c g.constants && is_at_least o c) is.least ∙ ap (λ b. is_among c g.constants && b) (in_least p.range c))
    one (AtMost v c) =
        step (λ k. is_among c g.constants && is_at_most k.most c) (is_among c g.constants && in_range p.range (λ r. nat_le r.hi c)) v (and_none (is_among c g.constants))
        (ap (λ o. is_among c g.constants && is_at_most o c) is.most ∙ ap (λ b. is_among c g.constants && b) (in_most p.range c))
    one (Under v y) =
        step (λ k. is_named g.params k.under y) false v (none_named g.params y) (ap (λ n. is_named g.params n y) is.under ∙ none_named g.params y)
        ∙ ap (λ b. is_named g.params (know (record { of = v; index = None })).under y || b) (and_none (same_key v kp))
    one (Is v y) =
        step (λ k. is_named g.params k.is y) (same_key y kp) v (none_named g.params y)
        (ap (λ n. is_named g.params n y) is.is ∙ named_one g.params i p y l e ∙ sym (same_key-back kp y (same_key kp y) refl))
    one (Multiple v m) =
        step (λ k. is_among m multiples && is_times k.times m) (is_among m multiples && is_aligned_by p.align m) v (and_none (is_among m multiples)) (is.times m)

    pub entered_more : EnteredTo (i + 1) new
    entered_more =
        let j : i + 1 ≡ suc i = omega arith in
        record {
          facts = fun_ext (λ f. one f ∙ ap (λ s. s f || of_parameter g.constants (start_of p) f) h.facts ∙ sym (parameters_more g.constants (map start_of (take i g.params)) (start_of p) f)
              ∙ sym (ap (λ ps. of_parameters g.constants ps f) (ap (λ n. map start_of (take n g.params)) j ∙ take_one g.params i p l e)));
          rest = λ v n. untold v (sym (ap (λ k. is_parameter (take k g.params) v) j) ∙ n);
        }
      where
        untold : (v : Key) → is_parameter (take (suc i) g.params) v ≡ false → new (record { of = v; index = None }) ≡ nothing
        untold v n = at_variable v ∙ ap (λ b. known_if b x (know (record { of = v; index = None }))) (none_last g.params i p v l e n) ∙ h.rest v (none_less g.params i v n)

  pub entered_all : (i : ℕ) (know : Spot → Knowledge) → length g.params ≤ i → EnteredTo i know → facts_by g know ≡ of_parameters g.constants (map start_of g.params)
  entered_all i know l h = h.facts ∙ ap (λ ps. of_parameters g.constants (map start_of ps)) (all_taken g.params i l)
