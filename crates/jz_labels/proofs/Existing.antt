-- Behind each body without calls and `for` there is one set of public scalars, since at each loop
-- there is a greatest kept set: of the scalars that a turn sets there are finitely many.
use Rattle.std.proofs.Common.{◌≡◌, ◌⊎◌, inl, inr, ℕ, zero, suc, ◌≤◌, Bool, true, false, List, [], ◌∷◌, ◌++◌, if◌then◌else◌, refl, arith}
use Rattle.std.proofs.lemmas.Bool.{and_from}
use Rattle.jz_runs.specs.Trees.{Tree, done, op, quiet, choose, loop, each, call}
use Rattle.jz_meaning.specs.States.{Key, same_key}
use Rattle.jz_meaning.specs.Values.{key_of}
use Rattle.jz_flow.specs.Sets.{Below, common}
use Rattle.jz_flow.specs.Flow.{Kept, IsHead, After}
use Rattle.jz_flow.specs.Soundness.{AllAre}
use Rattle.jz_flow.proofs.Ordering.{more, below_self, below_trans, common_left, common_greatest}
use Rattle.jz_terms.specs.Terms.{Term, num, truth, var, cell, load, neg, inv, cast, bin}
use Rattle.jz_labels.specs.Operations.{Left, nothing, scalar, element, bytes, Plain}
use Rattle.jz_labels.specs.Labels.{Publics, labelled, all_labelled, gives_public, leaving, label_steps}
use Rattle.jz_labels.proofs.MoreLabels.{labels_monotone}
use Rattle.jz_labels.proofs.Keys.{is_among, not_head, not_tail, not_left, not_right, count, Stay, stay_or_fewer}

-- what is public in s stays so, but for these
abbrev pub Spares : List Key → Publics → Publics → Type 0
Spares ks s t = (q : Key) → is_among q ks ≡ false → s q ≡ true → t q ≡ true

abbrev pub keys_of : List Left → List Key
keys_of [] = []
keys_of (nothing ∷ ds) = keys_of ds
keys_of (scalar x ∷ ds) = key_of x ∷ keys_of ds
keys_of (element x i ∷ ds) = keys_of ds
keys_of (bytes p a ∷ ds) = keys_of ds

other : (c z u : Bool) → c ≡ false → u ≡ true → (if c then z else u) ≡ true
other true z u e h = absurd (cc e)
other false z u e h = h

pub lefts_spare : (z : Bool) (ds : List Left) (s : Publics) → Spares (keys_of ds) s (all_labelled z ds s)
lefts_spare z [] s = λ q n e. e
lefts_spare z (nothing ∷ ds) s = lefts_spare z ds s
lefts_spare z (scalar x ∷ ds) s = λ q n e.
    lefts_spare z ds (labelled z (scalar x) s) q (not_tail q (key_of x) (keys_of ds) n)
    (other (same_key q (key_of x)) z (s q) (not_head q (key_of x) (keys_of ds) n) e)
lefts_spare z (element x i ∷ ds) s = lefts_spare z ds s
lefts_spare z (bytes p a ∷ ds) s = lefts_spare z ds s

pub leaving_spares : (c : Term) (s : Publics) → Below s (leaving c s)
leaving_spares (num i at) s = λ q e. e
leaving_spares (truth true at) s = λ q e. refl
leaving_spares (truth false at) s = λ q e. e
leaving_spares (var x) s = λ q e. e
leaving_spares (cell x i) s = λ q e. e
leaving_spares (load p i) s = λ q e. e
leaving_spares (neg i at) s = λ q e. e
leaving_spares (inv i at) s = λ q e. e
leaving_spares (cast z sign i at) s = λ q e. e
leaving_spares (bin o i j at) s = λ q e. e

-- ---- a greatest kept set of turns that spare all but these

none_fewer : {A : Type 0} (a b : ℕ) → suc a ≤ b → b ≤ 0 → A
none_fewer a b h k = absurd (omega (arith, h, k))

one_less : (a b n : ℕ) → suc a ≤ b → b ≤ suc n → a ≤ n
one_less a b n h k = omega (arith, h, k)

no_more_than : (a : ℕ) → a ≤ a
no_more_than a = omega (arith)

module _ (ks : List Key) (Turn : Publics → Publics → Type 0) (next : Publics → Publics)
    (turns : (x : Publics) → Turn x (next x)) (spares : (x : Publics) → Spares ks x (next x))
    (grows : (x y z w : Publics) → Below x y → Turn x z → Turn y w → Below z w) (s : Publics) where
  abbrev pub Found : Type 0
  Found = (h : Publics) × IsHead Turn s h × Spares ks s h

  stays_whole : (x y : Publics) → Stay ks x y → Spares ks x y → Below x y
  stays_whole x y f g q e = by (is_among q ks) refl
    where
      by : (c : Bool) → is_among q ks ≡ c → y q ≡ true
      by true i = f q i e
      by false i = g q i e

  abbrev less : Publics → Publics
  less x = common x (next x)

  abbrev IsOver : Publics → Type 0
  IsOver x = (z : Publics) → Kept Turn s z → Below z x

  over_less : (x : Publics) → IsOver x → IsOver (less x)
  over_less x g z k = common_greatest z x (next x) (g z k) (below_trans z k.1 (next x) k.3 (grows z x k.1 (next x) (g z k) k.2 (turns x)))

  spares_less : (x : Publics) → Spares ks s x → Spares ks s (less x)
  spares_less x p q i e = and_from (x q) (next x q) (p q i e) (spares x q i (p q i e))

  at_rest : (x : Publics) → Below x s → Spares ks s x → IsOver x → Stay ks x (next x) → Found
  at_rest x b p g f = (x, ((b, next x, turns x, stays_whole x (next x) f (spares x)), g), p)

  found_in : (n : ℕ) (x : Publics) → count ks x ≤ n → Below x s → Spares ks s x → IsOver x → Found
  found_in zero x m b p g = by (stay_or_fewer ks x (next x))
    where
      by : Stay ks x (next x) ⊎ (suc (count ks (less x)) ≤ count ks x) → Found
      by (inl f) = at_rest x b p g f
      by (inr f) = none_fewer (count ks (less x)) (count ks x) f m
  found_in (suc n) x m b p g =
      by (stay_or_fewer ks x (next x)) (λ k. found_in n (less x) k (below_trans (less x) x s (common_left x (next x)) b) (spares_less x p) (over_less x g))
    where
      by : Stay ks x (next x) ⊎ (suc (count ks (less x)) ≤ count ks x) → (count ks (less x) ≤ n → Found) → Found
      by (inl f) go = at_rest x b p g f
      by (inr f) go = go (one_less (count ks (less x)) (count ks x) n f m)

  pub found : Found
  found = found_in (count ks s) s (no_more_than (count ks s)) (below_self s) (λ q i e. e) (λ z k. k.0)

-- ---- bodies

abbrev pub IsWhole : {O T N C : Type 0} → Tree O T N C → Type 0
IsWhole t = AllAre (λ o. Unit {0}) (λ c. Unit {0}) t

module _ {O T N C : Type 0} (plain : O → Plain) (term : T → Term) (arrays : Publics) where
  -- the scalars that a body sets
  abbrev pub set_in : Tree O T N C → List Key
  set_in done = []
  set_in (op o r) = keys_of (plain o).to ++ set_in r
  set_in (quiet o r) = set_in r
  set_in (choose c a b r) = set_in a ++ (set_in b ++ set_in r)
  set_in (loop w p c b r) = (set_in p ++ set_in b) ++ set_in r
  set_in (each f b r) = []
  set_in (call c b r) = []

  abbrev pub SomeAfter : Tree O T N C → Publics → Type 0
  SomeAfter t s = (x : Publics) × After (label_steps plain term arrays) t s x × Spares (set_in t) s x

  pub some_after : (t : Tree O T N C) → IsWhole t → (s : Publics) → SomeAfter t s
  some_after done w s = (s, refl, λ q n e. e)
  some_after (op o r) w s =
      let z = gives_public arrays s (plain o) in
      let i = some_after r w.1 (all_labelled z (plain o).to s) in
      (i.0, i.1, λ q n e. i.2 q (not_right q (keys_of (plain o).to) (set_in r) n) (lefts_spare z (plain o).to s q (not_left q (keys_of (plain o).to) (set_in r) n) e))
  some_after (quiet o r) w s = some_after r w.1 s
  some_after (choose c a b r) w s =
      let i = some_after a w.1 s in
      let j = some_after b w.2 s in
      let k = some_after r w.3 (common i.0 j.0) in (
        k.0,
        (i.0, j.0, i.1, j.1, k.1),
        λ q n e.
            let m = not_right q (set_in a) (set_in b ++ set_in r) n in
            k.2 q (not_right q (set_in b) (set_in r) m)
            (and_from (i.0 q) (j.0 q) (i.2 q (not_left q (set_in a) (set_in b ++ set_in r) n) e) (j.2 q (not_left q (set_in b) (set_in r) m) e)),
      )
  some_after (loop d p c b r) w s =
      let prologue = λ (x : Publics). some_after p w.1 x in
      let body = λ (x : Publics). some_after b w.2 x in
      let f = found (set_in p ++ set_in b)
      (λ x y. (z : Publics) × After (label_steps plain term arrays) p x z × After (label_steps plain term arrays) b z y)
      (λ x. (body (prologue x).0).0) (λ x. ((prologue x).0, (prologue x).1, (body (prologue x).0).1))
      (λ x q n e. (body (prologue x).0).2 q (not_right q (set_in p) (set_in b) n) ((prologue x).2 q (not_left q (set_in p) (set_in b) n) e))
      (λ x y z v h k l.
      more (label_steps plain term arrays) (labels_monotone plain term arrays) b k.0 l.0 z v
      (more (label_steps plain term arrays) (labels_monotone plain term arrays) p x y k.0 l.0 h k.1 l.1) k.2 l.2) s in
      let i = some_after p w.1 f.0 in
      let k = some_after r w.3 (leaving (term c) i.0) in (
        k.0,
        (f.0, i.0, f.1, i.1, k.1),
        λ q n e.
            let m = not_left q (set_in p ++ set_in b) (set_in r) n in
            k.2 q (not_right q (set_in p ++ set_in b) (set_in r) n) (leaving_spares (term c) i.0 q (i.2 q (not_left q (set_in p) (set_in b) m) (f.2 q m e))),
      )
  some_after (each f b r) w s = absurd w
  some_after (call c b r) w s = absurd w
