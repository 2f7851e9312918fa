-- As many arrays as can be are public: one after another that a secret is written to is left out.
use Rattle.std.proofs.Common.{◌≡◌, ◌⊎◌, inl, inr, ℕ, zero, suc, ◌≤◌, Bool, true, false, not, ◌&&◌, ◌||◌, List, [], ◌∷◌, ◌++◌, Option, Some, None, if◌then◌else◌, refl, sym, ◌∙◌, ap, subst, arith}
use Rattle.std.specs.Prelude.{◌==◌}
use Rattle.std.specs.Str.{bytes_eq}
use Rattle.std.proofs.lemmas.Bool.{and_from}
use Rattle.std.proofs.lemmas.Bool.Decides.{nat_tests}
use Rattle.std.proofs.lemmas.Slice.Eq.{bytes_eq-Decides}
use Rattle.jz_runs.specs.Trees.{Tree, done, op, quiet, choose, loop, each, call}
use Rattle.jz_meaning.specs.States.{Key, same_cell, same_key}
use Rattle.jz_meaning.specs.Values.{key_of}
use Rattle.jz_flow.specs.Sets.{Below, common}
use Rattle.jz_flow.specs.Flow.{Steps}
use Rattle.jz_flow.specs.Alarms.{FirstOf, no_more, First, Meets}
use Rattle.jz_flow.proofs.Ordering.{below_self, common_below}
use Rattle.jz_flow.proofs.Calm.{calm}
use Rattle.jz_terms.specs.Terms.{Term}
use Rattle.jz_labels.specs.Operations.{Left, nothing, scalar, element, bytes, Plain}
use Rattle.jz_labels.specs.Labels.{Publics, gives_public, relabels, leaving, label_steps}
use Rattle.jz_labels.specs.Required.{Breach, into_public, secret_written, write_asks, breach_asks}
use Rattle.jz_labels.specs.ConstantTime.{AreKept, AreMost, IsFirst}
use Rattle.jz_labels.proofs.MoreLabels.{gives_more, relabels_more, leaving_more, labels_monotone}
use Rattle.jz_labels.proofs.Keys.{is_among, keys_same, count, Stay, stay_or_fewer}
use Rattle.jz_labels.proofs.Existing.{IsWhole, some_after}
use Rattle.jz_labels.proofs.Comparing.{meets_below, head_below}
use Rattle.jz_first_breach.proofs.Firsts.{some_first}

number_same : (i : ℕ) → (i == i) ≡ true
number_same i = grind (arith, nat_tests)

cell_same : (c : Option ℕ) → same_cell c c ≡ true
cell_same None = refl
cell_same (Some i) = number_same i

key_same : (k : Key) → same_key k k ≡ true
key_same k =
    and_from (bytes_eq k.name k.name) ((k.copy == k.copy) && same_cell k.cell k.cell) ((bytes_eq-Decides k.name k.name).1 refl)
    (and_from (k.copy == k.copy) (same_cell k.cell k.cell) (number_same k.copy) (cell_same k.cell))

clash : {A B : Type 0} {v : B} → None ≡ Some v → A
clash e = absurd (cc e)

clash_back : {A B : Type 0} {v : B} → Some v ≡ None → A
clash_back e = absurd (cc e)

true_false : {A : Type 0} → true ≡ false → A
true_false e = absurd (cc e)

same_some : {A : Type 0} {v w : A} → Some v ≡ Some w → v ≡ w
same_some e = cc e

-- ---- lists of arrays

or_left : (a b : Bool) → a ≡ true → (a || b) ≡ true
or_left true b e = refl
or_left false b e = absurd (cc e)

or_right : (a b : Bool) → b ≡ true → (a || b) ≡ true
or_right true b e = refl
or_right false b e = e

among_left : (q : Key) (ks ls : List Key) → is_among q ks ≡ true → is_among q (ks ++ ls) ≡ true
among_left q [] ls e = absurd (cc e)
among_left q (k ∷ ks) ls e = by (same_key q k) (among_left q ks ls) e
  where
    by : (c : Bool) → (is_among q ks ≡ true → is_among q (ks ++ ls) ≡ true) → (c || is_among q ks) ≡ true → (c || is_among q (ks ++ ls)) ≡ true
    by true f e = refl
    by false f e = f e

among_right : (q : Key) (ks ls : List Key) → is_among q ls ≡ true → is_among q (ks ++ ls) ≡ true
among_right q [] ls e = e
among_right q (k ∷ ks) ls e = or_right (same_key q k) (is_among q (ks ++ ls)) (among_right q ks ls e)

abbrev arrays_of : List Left → List Key
arrays_of [] = []
arrays_of (nothing ∷ ds) = arrays_of ds
arrays_of (scalar x ∷ ds) = arrays_of ds
arrays_of (element x i ∷ ds) = key_of x ∷ arrays_of ds
arrays_of (bytes p a ∷ ds) = arrays_of ds

-- an array that is told is public, and one of the left sides
abbrev Told : Publics → List Key → Key → Type 0
Told a ks k = (a k ≡ true) × (is_among k ks ≡ true)

into_told : (a : Publics) (ds : List Left) (k : Key) → into_public a ds ≡ Some k → Told a (arrays_of ds) k
into_told a [] k e = clash e
into_told a (nothing ∷ ds) k e = into_told a ds k e
into_told a (scalar x ∷ ds) k e = into_told a ds k e
into_told a (element x i ∷ ds) k e = by (a (key_of x)) refl (into_told a ds k) e
  where
    by : (c : Bool) → a (key_of x) ≡ c → (into_public a ds ≡ Some k → Told a (arrays_of ds) k) → (if c then Some (key_of x) else into_public a ds) ≡ Some k → Told a (key_of x ∷ arrays_of ds) k
    by true t go e = subst (λ (q : Key). Told a (key_of x ∷ arrays_of ds) q) (same_some e) (t, or_left (same_key (key_of x) (key_of x)) (is_among (key_of x) (arrays_of ds)) (key_same (key_of x)))
    by false t go e = let r = go e in (r.0, or_right (same_key k (key_of x)) (is_among k (arrays_of ds)) r.1)
into_told a (bytes p i ∷ ds) k e = into_told a ds k e

-- where other public arrays keep the rule there, it is none of them
into_less : (o a : Publics) (ds : List Left) (k : Key) → into_public o ds ≡ None → into_public a ds ≡ Some k → o k ≡ false
into_less o a [] k n e = clash e
into_less o a (nothing ∷ ds) k n e = into_less o a ds k n e
into_less o a (scalar x ∷ ds) k n e = into_less o a ds k n e
into_less o a (element x i ∷ ds) k n e = by (o (key_of x)) (a (key_of x)) refl (into_less o a ds k) n e
  where
    by : (c d : Bool) → o (key_of x) ≡ c → (into_public o ds ≡ None → into_public a ds ≡ Some k → o k ≡ false)
        → (if c then Some (key_of x) else into_public o ds) ≡ None → (if d then Some (key_of x) else into_public a ds) ≡ Some k → o k ≡ false
    by true d t go n e = clash_back n
    by false true t go n e = subst (λ (q : Key). o q ≡ false) (same_some e) t
    by false false t go n e = go n e
into_less o a (bytes p i ∷ ds) k n e = into_less o a ds k n e

written_told : (a : Publics) (z : Bool) (ds : List Left) (k : Key) → (if z then None else into_public a ds) ≡ Some k → Told a (arrays_of ds) k
written_told a true ds k e = clash e
written_told a false ds k e = into_told a ds k e

written_out : (o a : Publics) (y z : Bool) → (y ≡ true → z ≡ true) → (ds : List Left) (k : Key) → (if y then None else into_public o ds) ≡ None → (if z then None else into_public a ds) ≡ Some k → o k ≡ false
written_out o a y true f ds k n e = clash e
written_out o a true false f ds k n e = true_false (sym (f refl))
written_out o a false false f ds k n e = into_less o a ds k n e

-- what holds of each that is told holds of the first
first_so : (y w : Option Key) (P : Type 0) (G : Key → Type 0) → ((k : Key) → y ≡ Some k → G k) → FirstOf y w P → (P → (k : Key) → w ≡ Some k → G k) → (k : Key) → w ≡ Some k → G k
first_so None w P G g f h k e = h (f.later refl) k e
first_so (Some j) w P G g f h k e = g k (sym (f.now j refl) ∙ e)

none_told : {A : Type 0} → (w : Option Key) (k : Key) → w ≡ None → w ≡ Some k → A
none_told w k e f = clash (sym e ∙ f)

module _ {O T : Type 0} (plain : O → Plain) (term : T → Term) where
  abbrev arrays_in : {N C : Type 0} → Tree O T N C → List Key
  arrays_in done = []
  arrays_in (op o r) = arrays_of (plain o).to ++ arrays_in r
  arrays_in (quiet o r) = arrays_in r
  arrays_in (choose c a b r) = arrays_in a ++ (arrays_in b ++ arrays_in r)
  arrays_in (loop w p c b r) = arrays_in p ++ (arrays_in b ++ arrays_in r)
  arrays_in (each f b r) = []
  arrays_in (call c b r) = []

  module _ (a : Publics) where
    abbrev Q : Steps O T Key
    Q = label_steps plain term a

    in_more : (k : Key) (ks ls : List Key) → Told a ls k → Told a (ks ++ ls) k
    in_more k ks ls t = (t.0, among_right k ks ls t.1)

    in_first : (k : Key) (ks ls : List Key) → Told a ks k → Told a (ks ++ ls) k
    in_first k ks ls t = (t.0, among_left k ks ls t.1)

    first_told : {N C : Type 0} (t : Tree O T N C) (u : Publics) (w : Option Key) → First Q (write_asks plain term a) t u w no_more → (k : Key) → w ≡ Some k → Told a (arrays_in t) k
    first_told done u w f = λ k e. none_told w k f e
    first_told (op o r) u w f =
        first_so (secret_written a (plain o) u) w _ (Told a (arrays_in (op o r)))
        (λ k e. in_first k (arrays_of (plain o).to) (arrays_in r) (written_told a (gives_public a u (plain o)) (plain o).to k e)) f
        (λ g k e. in_more k (arrays_of (plain o).to) (arrays_in r) (first_told r (relabels a (plain o) u) w g k e))
    first_told (quiet o r) u w f = first_told r u w f
    first_told (choose c d b r) u w f =
        let h = f.later refl in
        first_so h.0 w _ (Told a (arrays_in (choose c d b r)))
        (λ k e. in_first k (arrays_in d) (arrays_in b ++ arrays_in r) (first_told d u h.0 h.1 k e)) h.2
        (λ g. first_so g.0 w _ (Told a (arrays_in (choose c d b r)))
        (λ k e. in_more k (arrays_in d) (arrays_in b ++ arrays_in r) (in_first k (arrays_in b) (arrays_in r) (first_told b u g.0 g.1 k e))) g.2
        (λ j k e. in_more k (arrays_in d) (arrays_in b ++ arrays_in r) (in_more k (arrays_in b) (arrays_in r) (first_told r (common j.0 j.1) w j.4 k e))))
    first_told (loop v p c b r) u w f =
        first_so f.2 w _ (Told a (arrays_in (loop v p c b r)))
        (λ k e. in_first k (arrays_in p) (arrays_in b ++ arrays_in r) (first_told p f.0 f.2 f.3 k e)) f.4
        (λ h. let g = h.2.later refl in
        first_so g.0 w _ (Told a (arrays_in (loop v p c b r)))
        (λ k e. in_more k (arrays_in p) (arrays_in b ++ arrays_in r) (in_first k (arrays_in b) (arrays_in r) (first_told b h.0 g.0 g.1 k e))) g.2
        (λ j k e. in_more k (arrays_in p) (arrays_in b ++ arrays_in r) (in_more k (arrays_in b) (arrays_in r) (first_told r (leaving (term c) h.0) w j k e))))
    first_told (each g b r) u w f = absurd f
    first_told (call c b r) u w f = absurd f

    module _ (o : Publics) (less : Below o a) where
      abbrev R : Steps O T Key
      R = label_steps plain term o

      abbrev Out : Key → Type 0
      Out k = o k ≡ false

      first_out : {N C : Type 0} (t : Tree O T N C) (s u x : Publics) (w : Option Key) → Below s u → Meets R (write_asks plain term o) t s x → First Q (write_asks plain term a) t u w no_more → (k : Key) → w ≡ Some k → Out k
      first_out done s u x w l m f = λ k e. none_told w k f e
      first_out (op p r) s u x w l m f =
          first_so (secret_written a (plain p) u) w _ Out
          (λ k e. written_out o a (gives_public o s (plain p)) (gives_public a u (plain p)) (gives_more o a s u less l (plain p)) (plain p).to k m.0 e) f
          (λ g. first_out r (relabels o (plain p) s) (relabels a (plain p) u) x w (relabels_more o a s u less l (plain p)) m.1 g)
      first_out (quiet p r) s u x w l m f = first_out r s u x w l m f
      first_out (choose c d b r) s u x w l m f =
          let h = f.later refl in
          first_so h.0 w _ Out (first_out d s u m.0 h.0 l m.3 h.1) h.2
          (λ g. first_so g.0 w _ Out (first_out b s u m.1 g.0 l m.4 g.1) g.2
          (λ j. first_out r (common m.0 m.1) (common j.0 j.1) x w
          (common_below m.0 m.1 j.0 j.1 (meets_below plain term o a less (write_asks plain term o) d s u m.0 j.0 l m.3 j.2) (meets_below plain term o a less (write_asks plain term o) b s u m.1 j.1 l m.4 j.3)) m.5 j.4))
      first_out (loop v p c b r) s u x w l m f =
          let low = head_below plain term o a less (write_asks plain term o) p c b s u m.0 m.1 m.2 f.0 l m.3 m.4 m.6 m.7 f.1 in
          first_so f.2 w _ Out (first_out p m.0 f.0 m.1 f.2 low m.4 f.3) f.4
          (λ h. let up = meets_below plain term o a less (write_asks plain term o) p m.0 f.0 m.1 h.0 low m.4 h.1 in
          let g = h.2.later refl in
          first_so g.0 w _ Out (first_out b m.1 h.0 m.2 g.0 up m.6 g.1) g.2
          (λ j. first_out r (leaving (term c) m.1) (leaving (term c) h.0) x w (leaving_more m.1 h.0 up (term c)) m.8 j))
      first_out (each g b r) s u x w l m f = absurd m
      first_out (call c b r) s u x w l m f = absurd m

  -- ---- arrays that are left out

  module _ {N C : Type 0} (entry : Publics) (t : Tree O T N C) (whole : IsWhole t) where
    abbrev IsOver : Publics → Type 0
    IsOver a = (o : Publics) → AreKept plain term entry t o → Below o a

    abbrev Most : Type 0
    Most = (a : Publics) × AreMost plain term entry t a

    abbrev without : Key → Publics → Publics
    without k a = common a (λ q. not (same_key q k))

    over_without : (a : Publics) (k : Key) → IsOver a → ((o : Publics) → AreKept plain term entry t o → o k ≡ false) → IsOver (without k a)
    over_without a k g out o kept q e = and_from (a q) (not (same_key q k)) (g o kept q e) (by (same_key q k) refl)
      where
        by : (c : Bool) → same_key q k ≡ c → not c ≡ true
        by true i = true_false (sym e ∙ (ap o (keys_same q k i) ∙ out o kept))
        by false i = refl

    kept_by_none : (a : Publics) → First (label_steps plain term a) (write_asks plain term a) t entry None no_more → AreKept plain term entry t a
    kept_by_none a f =
        let i = some_after plain term a t whole entry in
        (i.0, (calm (label_steps plain term a) (write_asks plain term a) (labels_monotone plain term a) t entry i.0 no_more i.1 f).0)

    lost : (a : Publics) (k : Key) → Told a (arrays_in t) k → Stay (arrays_in t) a (λ q. not (same_key q k)) → {A : Type 0} → A
    lost a k t f = true_false (sym (f k t.1 t.0) ∙ ap not (key_same k))

    most_in : (n : ℕ) (a : Publics) → count (arrays_in t) a ≤ n → IsOver a → Most
    most_in zero a m g = by f.0 f.1
      where
        f : (w : Option Key) × First (label_steps plain term a) (write_asks plain term a) t entry w no_more
        f = some_first plain term a (write_asks plain term a) t whole entry

        by : (w : Option Key) → First (label_steps plain term a) (write_asks plain term a) t entry w no_more → Most
        by None h = (a, (kept_by_none a h, g))
        by (Some k) h = by_count (stay_or_fewer (arrays_in t) a (λ q. not (same_key q k)))
          where
            by_count : Stay (arrays_in t) a (λ q. not (same_key q k)) ⊎ (suc (count (arrays_in t) (without k a)) ≤ count (arrays_in t) a) → Most
            by_count (inl i) = lost a k (first_told a t entry (Some k) h k refl) i
            by_count (inr i) = absurd (omega (arith, i, m))
    most_in (suc n) a m g = by f.0 f.1 (λ b. most_in n b)
      where
        f : (w : Option Key) × First (label_steps plain term a) (write_asks plain term a) t entry w no_more
        f = some_first plain term a (write_asks plain term a) t whole entry

        by : (w : Option Key) → First (label_steps plain term a) (write_asks plain term a) t entry w no_more → ((b : Publics) → count (arrays_in t) b ≤ n → IsOver b → Most) → Most
        by None h go = (a, (kept_by_none a h, g))
        by (Some k) h go = by_count (stay_or_fewer (arrays_in t) a (λ q. not (same_key q k)))
          where
            out : (o : Publics) → AreKept plain term entry t o → o k ≡ false
            out o kept = first_out a o (g o kept) t entry entry kept.0 (Some k) (below_self entry) kept.1 h k refl

            by_count : Stay (arrays_in t) a (λ q. not (same_key q k)) ⊎ (suc (count (arrays_in t) (without k a)) ≤ count (arrays_in t) a) → Most
            by_count (inl i) = lost a k (first_told a t entry (Some k) h k refl) i
            by_count (inr i) = go (without k a) (omega (arith, i, m)) (over_without a k g out)

    pub most : Most
    most = most_in (count (arrays_in t) (λ k. true)) (λ k. true) (omega (arith)) (λ o kept q e. refl)

    pub answer : (w : Option Breach) × IsFirst plain term entry t w
    answer =
        let f = some_first plain term most.0 (breach_asks plain term most.0) t whole entry in
        (f.0, (most.0, most.1, f.1))
