-- Arrows as rows of numbers.
use Rattle.std.proofs.Common.{◌≡◌, ◌⊎◌, inl, inr, ◌<◌, ◌≤◌, ℕ, zero, suc, ◌+◌, Bool, true, false, List, [], ◌∷◌, ◌++◌, length, take, get_or, Option, Some, None, if◌then◌else◌, refl, sym, ap, ◌∙◌, subst, arith, length-append}
use Rattle.std.specs.Prelude.{◌&&◌, ◌||◌, nat_eq, slice_set}
use Rattle.std.proofs.lemmas.Bool.{false≢true, and_parts}
use Rattle.std.proofs.lemmas.Bool.Decides.{nat_tests}
use Rattle.std.proofs.lemmas.List.{take_more, take_all, map-append}
use Rattle.jz_meaning.specs.States.{Key}
use Rattle.jz_layers.specs.Spots.{Spot, same_spot, put_in, entry_in}
use Rattle.jz_layers.proofs.TableLemmas.{none_in}
use Rattle.jz_layers.proofs.SpotLemmas.{same_spot-true, same_spot-refl}
use Rattle.jz_secrets.specs.declared.graph.Graph.{Graph}
use Rattle.jz_secrets.specs.declared.edge.Edge.{Edge}
use Rattle.jz_secrets.specs.Graphs.{Vertex, hidden, drawn, array, Arrow, arrow_of, arrows_of, IsBelow, IsEnd, AreBelow}
use Rattle.jz_secrets.specs.InnerGraphs.{has, row_at, whole, number_in, IsFine, Grows, AddsArrow, Occurs, IsGraphOf}
use Rattle.jz_secrets.proofs.Rows.{itself, either, left_or, right_or, row_more, row_longer, rows_long}

both_of : (a b : Bool) → a ≡ true → b ≡ true → (a && b) ≡ true
both_of true b p q = q
both_of false b p q = absurd (false≢true p)

occurs_last : (xs : List Arrow) (x : Arrow) → Occurs (xs ++ x ∷ []) x
occurs_last [] x = inl refl
occurs_last (y ∷ xs) x = inr (occurs_last xs x)

occurs_more : (xs : List Arrow) (x y : Arrow) → Occurs xs y → Occurs (xs ++ x ∷ []) y
occurs_more (z ∷ xs) x y (inl e) = inl e
occurs_more (z ∷ xs) x y (inr o) = inr (occurs_more xs x y o)
occurs_more [] x y o = absurd o

occurs_one : (xs : List Arrow) (x y : Arrow) → Occurs (xs ++ x ∷ []) y → Occurs xs y ⊎ (x ≡ y)
occurs_one [] x y (inl e) = inr e
occurs_one [] x y (inr o) = absurd o
occurs_one (z ∷ xs) x y (inl e) = inl (inl e)
occurs_one (z ∷ xs) x y (inr o) = by (occurs_one xs x y o)
  where
    by : Occurs xs y ⊎ (x ≡ y) → Occurs (z ∷ xs) y ⊎ (x ≡ y)
    by (inl p) = inl (inr p)
    by (inr e) = inr e

abbrev number_or : ℕ → Option ℕ → ℕ
number_or d None = d
number_or d (Some x) = x

pub some_is : (a b : ℕ) → Some a ≡ Some b → a ≡ b
some_is a b e = ap (number_or a) e

pub none_begun : (g : Graph) → IsFine g → ((u v : ℕ) → has (row_at g.rows.items u) v ≡ false) → IsGraphOf [] g
none_begun g f e = record {
  fine = f;
  there = λ x o. absurd o;
  only = λ u v h. absurd (false≢true (sym (e u v) ∙ h));
}

end_number : (g : Graph) → IsFine g → (v : Vertex) (n : ℕ) → IsEnd g.count v → number_in g v ≡ Some n → n < length g.rows.items
end_number g f hidden n b e = absurd b
end_number g f (drawn i) n b e = let x = some_is i n e in let y = f.long in omega (arith, x, y, b.1)
end_number g f (array k) n b e = (f.within k n e).1

same_number : (n m : ℕ) → nat_eq n m ≡ true → n ≡ m
same_number n m e = grind (arith, nat_tests, e)

-- an arrow stands in a row
abbrev There : Graph → Arrow → Type 0
There h y =
    (u : ℕ) × (v : ℕ) × (number_in h y.from ≡ Some u) × (number_in h y.to ≡ Some v) × (has (row_at h.rows.items u) v ≡ true)

-- what stands in a row is one of these arrows
abbrev Only : List Arrow → Graph → ℕ → ℕ → Type 0
Only xs h u v = (y : Arrow) × Occurs xs y × (number_in h y.from ≡ Some u) × (number_in h y.to ≡ Some v) × (v < length h.rows.items)

module _ (xs : List Arrow) (x : Arrow) (g h : Graph) (end : IsEnd g.count x.to) (p : IsGraphOf xs g) (f : IsFine h) (a : AddsArrow x g h) where
  last : There h x
  last = (
    a.from,
    a.to,
    a.from_is,
    a.to_is,
    a.rows a.from a.to ∙ right_or (has (row_at g.rows.items a.from) a.to) (nat_eq a.from a.from && nat_eq a.to a.to) (both_of (nat_eq a.from a.from) (nat_eq a.to a.to) (itself a.from) (itself a.to)),
  )

  there_is : (y : Arrow) → Occurs xs y ⊎ (x ≡ y) → There h y
  there_is y (inl o) =
      let t = p.there y o in
      (t.0, t.1, a.numbers y.from t.0 t.2, a.numbers y.to t.1 t.3, a.rows t.0 t.1 ∙ left_or (has (row_at g.rows.items t.0) t.1) (nat_eq a.from t.0 && nat_eq a.to t.1) t.4)
  there_is y (inr e) = subst (λ (z : Arrow). There h z) e last

  only_these : (u v : ℕ) → (has (row_at g.rows.items u) v ≡ true) ⊎ ((nat_eq a.from u && nat_eq a.to v) ≡ true) → Only (xs ++ x ∷ []) h u v
  only_these u v (inl e) =
      let o = p.only u v e in
      let l = o.4 in
      let m = a.longer in
      (o.0, occurs_more xs x o.0 o.1, a.numbers o.0.from u o.2, a.numbers o.0.to v o.3, omega (arith, l, m))
  only_these u v (inr e) =
      let b = and_parts (nat_eq a.from u) (nat_eq a.to v) e in
      let from : a.from ≡ u = same_number a.from u b.0 in
      let to : a.to ≡ v = same_number a.to v b.1 in
      (x, occurs_last xs x, a.from_is ∙ ap Some from, a.to_is ∙ ap Some to, end_number h f x.to v (subst (λ (c : ℕ). IsEnd c x.to) (sym a.count) end) (a.to_is ∙ ap Some to))

  pub one_more : IsGraphOf (xs ++ x ∷ []) h
  one_more = record {
    fine = f;
    there = λ y o. there_is y (occurs_one xs x y o);
    only = λ u v e. only_these u v (either (has (row_at g.rows.items u) v) (nat_eq a.from u && nat_eq a.to v) (sym (a.rows u v) ∙ e));
  }

-- ---- the number of an array

same_spot_no : {A : Type 0} (f : Spot → Option ℕ) (s : Spot) (k : Key) (m : ℕ) → f s ≡ None → f (whole k) ≡ Some m → same_spot s (whole k) ≡ true → A
same_spot_no f s k m e h i = absurd (cc (sym e ∙ (ap f (same_spot-true s (whole k) i) ∙ h)))

module _ (g h : Graph) (s : Spot) (n : ℕ) (f : IsFine g) (index : s.index ≡ None) (count : h.count ≡ g.count) (rows : h.rows.items ≡ g.rows.items ++ [] ∷ [])
    (arrays : entry_in h.arrays ≡ put_in (entry_in g.arrays) s n) (absent : entry_in g.arrays s ≡ None) (at : n ≡ length g.rows.items) where
  longer : length h.rows.items ≡ length g.rows.items + 1
  longer = ap length rows ∙ length-append g.rows.items ([] ∷ [])

  entry_is : (k : Key) → entry_in h.arrays (whole k) ≡ put_in (entry_in g.arrays) s n (whole k)
  entry_is k = ap (λ (e : Spot → Option ℕ). e (whole k)) arrays

  stays : (k : Key) (m : ℕ) → entry_in g.arrays (whole k) ≡ Some m → entry_in h.arrays (whole k) ≡ Some m
  stays k m e = entry_is k ∙ by (same_spot s (whole k)) refl
    where
      by : (c : Bool) → same_spot s (whole k) ≡ c → (if c then Some n else entry_in g.arrays (whole k)) ≡ Some m
      by true i = same_spot_no (entry_in g.arrays) s k m absent e i
      by false i = e

  numbers : (v : Vertex) (m : ℕ) → number_in g v ≡ Some m → number_in h v ≡ Some m
  numbers hidden m e = ap Some count ∙ e
  numbers (drawn i) m e = e
  numbers (array k) m e = stays k m e

  -- an entry is the new one or an old one
  entry_by : (k : Key) (m : ℕ) → entry_in h.arrays (whole k) ≡ Some m → ((s ≡ whole k) × (m ≡ n)) ⊎ (entry_in g.arrays (whole k) ≡ Some m)
  entry_by k m e = by (same_spot s (whole k)) refl (sym (entry_is k) ∙ e)
    where
      by : (c : Bool) → same_spot s (whole k) ≡ c → (if c then Some n else entry_in g.arrays (whole k)) ≡ Some m → ((s ≡ whole k) × (m ≡ n)) ⊎ (entry_in g.arrays (whole k) ≡ Some m)
      by true i h = inl (same_spot-true s (whole k) i, sym (some_is n m h))
      by false i h = inr h

  pub array_fine : IsFine h
  array_fine = record {
    long = let x = f.long in omega (arith, x, longer, count);
    within = λ k m e. within_by k m (entry_by k m e);
    apart = λ j k m p q. apart_by j k m (entry_by j m p) (entry_by k m q);
  }
    where
      within_by : (k : Key) (m : ℕ) → ((s ≡ whole k) × (m ≡ n)) ⊎ (entry_in g.arrays (whole k) ≡ Some m) → (h.count < m) × (m < length h.rows.items)
      within_by k m (inl e) = let x = f.long in let y = e.1 in (omega (arith, x, y, at, count), omega (arith, y, at, longer))
      within_by k m (inr e) = let x = f.within k m e in (omega (arith, x.0, count), omega (arith, x.1, longer))

      key : (j k : Key) → s ≡ whole j → s ≡ whole k → j ≡ k
      key j k p q = ap (λ (x : Spot). x.of) (sym p ∙ q)

      old_new : (j k : Key) (m : ℕ) → m ≡ n → entry_in g.arrays (whole k) ≡ Some m → j ≡ k
      old_new j k m e q = let x = f.within k m q in absurd (omega (arith, x.1, e, at))

      apart_by : (j k : Key) (m : ℕ) → ((s ≡ whole j) × (m ≡ n)) ⊎ (entry_in g.arrays (whole j) ≡ Some m) → ((s ≡ whole k) × (m ≡ n)) ⊎ (entry_in g.arrays (whole k) ≡ Some m) → j ≡ k
      apart_by j k m (inl p) (inl q) = key j k p.0 q.0
      apart_by j k m (inl p) (inr q) = old_new j k m p.1 q
      apart_by j k m (inr p) (inl q) = sym (old_new k j m q.1 p)
      apart_by j k m (inr p) (inr q) = f.apart j k m p q

  pub array_grows : Grows g h
  array_grows = record {
    count = count;
    longer = omega (arith, longer);
    numbers = numbers;
    rows = λ u v. ap (λ (rs : List (List ℕ)). has (row_at rs u) v) rows ∙ row_more g.rows.items u v;
  }

  pub array_number : entry_in h.arrays s ≡ Some n
  array_number = ap (λ (e : Spot → Option ℕ). e s) arrays ∙ ap (λ (c : Bool). if c then Some n else entry_in g.arrays s) (same_spot-refl s)

pub array_added : (g h : Graph) (s : Spot) (k : Key) (n : ℕ) → IsFine g → s ≡ whole k → h.count ≡ g.count → h.rows.items ≡ g.rows.items ++ [] ∷ [] → entry_in h.arrays ≡ put_in (entry_in g.arrays) s n → None ≡ entry_in g.arrays s → n ≡ length g.rows.items
    → IsFine h × Grows g h × (number_in h (array k) ≡ Some n)
array_added g h s k n f e c r a none at =
    let i : s.index ≡ None = ap (λ (x : Spot). x.index) e in (
      array_fine g h s n f i c r a (sym none) at,
      array_grows g h s n f i c r a (sym none) at,
      ap (λ (x : Spot). entry_in h.arrays x) (sym e) ∙ array_number g h s n f i c r a (sym none) at,
    )

-- it has one
pub array_had : (g : Graph) (s : Spot) (k : Key) (n : ℕ) → s ≡ whole k → Some n ≡ entry_in g.arrays s → number_in g (array k) ≡ Some n
array_had g s k n e h = ap (λ (x : Spot). entry_in g.arrays x) (sym e) ∙ sym h

pub stays_fine : (g : Graph) → Grows g g
stays_fine g = record { count = refl; longer = omega (arith); numbers = λ v n e. e; rows = λ u v. refl }

-- both ends have their numbers, and the row has one more
pub adds : (x : Arrow) (g h i j : Graph) (from to : ℕ) → Grows g h → Grows h i → number_in h x.from ≡ Some from → number_in i x.to ≡ Some to → j.count ≡ i.count → length j.rows.items ≡ length i.rows.items → ((v : Vertex) → number_in j v ≡ number_in i v)
    → ((u v : ℕ) → has (row_at j.rows.items u) v ≡ (has (row_at i.rows.items u) v || (nat_eq from u && nat_eq to v))) → AddsArrow x g j
adds x g h i j from to p q a b c l s r = record {
  count = c ∙ q.count ∙ p.count;
  longer = let y = p.longer in let z = q.longer in omega (arith, y, z, l);
  numbers = λ v n e. s v ∙ q.numbers v n (p.numbers v n e);
  from = from;
  to = to;
  from_is = s x.from ∙ q.numbers x.from from a;
  to_is = s x.to ∙ b;
  rows = λ u v. r u v ∙ ap (λ z. z || (nat_eq from u && nat_eq to v)) (q.rows u v ∙ p.rows u v);
}

same_numbers : (i j : Graph) → j.count ≡ i.count → j.arrays ≡ i.arrays → (v : Vertex) → number_in j v ≡ number_in i v
same_numbers i j c a hidden = ap Some c
same_numbers i j c a (drawn n) = refl
same_numbers i j c a (array k) = ap (λ m. entry_in m (whole k)) a

same_fine : (i j : Graph) → IsFine i → j.count ≡ i.count → length j.rows.items ≡ length i.rows.items → j.arrays ≡ i.arrays → IsFine j
same_fine i j f c l a = record {
  long = let x = f.long in omega (arith, x, c, l);
  within = λ k n e. let p = f.within k n (back k n e) in (omega (arith, p.0, c), omega (arith, p.1, l));
  apart = λ p q n e h. f.apart p q n (back p n e) (back q n h);
}
  where
    back : (k : Key) (n : ℕ) → entry_in j.arrays (whole k) ≡ Some n → entry_in i.arrays (whole k) ≡ Some n
    back k n e = ap (λ m. entry_in m (whole k)) (sym a) ∙ e

pub edge_added : (x : Arrow) (g h i j : Graph) (from to : ℕ) (row new : List ℕ) → Grows g h → Grows h i → IsFine i → number_in h x.from ≡ Some from → number_in i x.to ≡ Some to → j.count ≡ i.count → j.arrays ≡ i.arrays → from < length i.rows.items
    → row ≡ get_or i.rows.items from row → new ≡ row ++ to ∷ [] → j.rows.items ≡ slice_set i.rows.items from new → IsFine j × AddsArrow x g j
edge_added x g h i j from to row new p q f a b c m l e n r =
    let k : j.rows.items ≡ slice_set i.rows.items from (row ++ to ∷ []) = r ∙ ap (slice_set i.rows.items from) n in
    let long : length j.rows.items ≡ length i.rows.items = ap length k ∙ rows_long i.rows.items from (row ++ to ∷ []) in (
      same_fine i j f c long m,
      adds x g h i j from to p q a b c long (same_numbers i j c m) (λ u v. ap (λ (z : List (List ℕ)). has (row_at z u) v) k ∙ row_longer i.rows.items from to row l e u v),
    )

-- ---- a list of edges, as far as a loop has come

pub begun : (g : Graph) → g.count < length g.rows.items → g.arrays.entries ≡ [] → ((u v : ℕ) → has (row_at g.rows.items u) v ≡ false) → IsGraphOf [] g
begun g l e f =
    none_begun g (record {
      long = l;
      within = λ k n h. absurd (cc (sym (none k) ∙ h));
      apart = λ j k n h i. absurd (cc (sym (none j) ∙ h));
    }) f
  where
    none : (k : Key) → entry_in g.arrays (whole k) ≡ None
    none k = ap (λ (h : Spot → Option ℕ). h (whole k)) (none_in g.arrays e)

pub below_at : (n : ℕ) (xs : List Edge) (i : ℕ) (x : Edge) → i < length xs → x ≡ get_or xs i x → AreBelow n (arrows_of xs) → IsBelow n (arrow_of x).from × IsEnd n (arrow_of x).to
below_at n [] i x lt is b = absurd (omega (arith, lt))
below_at n (y ∷ xs) zero x lt is b = subst (λ (z : Edge). IsBelow n (arrow_of z).from × IsEnd n (arrow_of z).to) (sym is) b.0
below_at n (y ∷ xs) (suc i) x lt is b = let h : i < length xs = omega (arith, lt) in below_at n xs i x h is b.1

arrows_next : (xs : List Edge) (i : ℕ) (x : Edge) → i < length xs → x ≡ get_or xs i x → arrows_of (take (i + 1) xs) ≡ arrows_of (take i xs) ++ arrow_of x ∷ []
arrows_next xs i x lt is = ap arrows_of (take_more xs i x lt ∙ ap (λ y. take i xs ++ y ∷ []) (sym is)) ∙ map-append arrow_of (take i xs) (x ∷ [])

pub graph_more : (n : ℕ) (xs : List Edge) (i : ℕ) (x : Edge) (g h : Graph) → i < length xs → x ≡ get_or xs i x → AreBelow n (arrows_of xs) → g.count ≡ n → IsGraphOf (arrows_of (take i xs)) g → IsFine h → AddsArrow (arrow_of x) g h
    → (h.count ≡ n) × IsGraphOf (arrows_of (take (i + 1) xs)) h
graph_more n xs i x g h lt is b c p f a =
    let e = subst (λ (m : ℕ). IsEnd m (arrow_of x).to) (sym c) (below_at n xs i x lt is b).1 in
    (a.count ∙ c, subst (λ (z : List Arrow). IsGraphOf z h) (sym (arrows_next xs i x lt is)) (one_more (arrows_of (take i xs)) (arrow_of x) g h e p f a))

pub graph_all : (xs : List Edge) (i : ℕ) (g : Graph) → length xs ≤ i → IsGraphOf (arrows_of (take i xs)) g → IsGraphOf (arrows_of xs) g
graph_all xs i g l p = subst (λ (z : List Edge). IsGraphOf (arrows_of z) g) (take_all i xs l) p

-- the number of what is below stands in the rows
pub number_within : (g : Graph) → IsFine g → (m : ℕ) → g.count ≡ m → (v : Vertex) (n : ℕ) → number_in g v ≡ Some n → IsBelow m v → n < length g.rows.items
number_within g f m c hidden n e b = let x = some_is g.count n e in let y = f.long in omega (arith, x, y)
number_within g f m c (drawn i) n e b = let x = some_is i n e in let y = f.long in omega (arith, x, y, b, c)
number_within g f m c (array k) n e b = (f.within k n e).1

-- and those behind it, which have more rows
pub number_behind : (g h i : Graph) (m : ℕ) (v : Vertex) (n : ℕ) → IsFine h → Grows g h → Grows h i → g.count ≡ m → number_in h v ≡ Some n → IsBelow m v → n < length i.rows.items
number_behind g h i m v n f p q c e b =
    let x = number_within h f m (p.count ∙ c) v n e b in
    let y = q.longer in
    omega (arith, x, y)
