-- What is not reached has the labels with the fewest secrets.
use Rattle.std.proofs.Common.{◌≡◌, inl, inr, ◌<◌, ℕ, Bool, true, false, not, List, [], ◌∷◌, Option, Some, None, refl, sym, ap, ◌∙◌, subst, arith}
use Rattle.std.proofs.lemmas.Bool.{false≢true}
use Rattle.jz_meaning.specs.States.{Key}
use Rattle.jz_layers.specs.Spots.{Spot, entry_in}
use Rattle.jz_labels.specs.Labels.{Publics}
use Rattle.jz_secrets.specs.declared.graph.Graph.{Graph}
use Rattle.jz_secrets.specs.declared.secrets.Secrets.{Secrets}
use Rattle.jz_secrets.specs.Graphs.{Vertex, hidden, drawn, array, Arrow, label, Keeps, IsLabelling, IsBelow, IsEnd, AreBelow, AreFewest}
use Rattle.jz_secrets.specs.Kept.{marked_at, unless_marked, public_by}
use Rattle.jz_secrets.specs.InnerGraphs.{whole, number_in, IsFine, Occurs, IsGraphOf, Path, here, on, AreReached}
use Rattle.jz_secrets.proofs.Graphing.{some_is}

below_of : (n : ℕ) (v : Vertex) → IsEnd n v → IsBelow n v
below_of n hidden e = absurd e
below_of n (drawn i) e = e.1
below_of n (array k) e = tt

-- what holds of each arrow
keeps_each : (a : Publics) (t : ℕ → Bool) (xs : List Arrow) → ((x : Arrow) → Occurs xs x → label a t x.to ≡ true → label a t x.from ≡ true) → Keeps a t xs
keeps_each a t [] f = tt
keeps_each a t (x ∷ xs) f = (f x (inl refl), keeps_each a t xs (λ y o. f y (inr o)))

kept_each : (a : Publics) (t : ℕ → Bool) (xs : List Arrow) → Keeps a t xs → (x : Arrow) → Occurs xs x → label a t x.to ≡ true → label a t x.from ≡ true
kept_each a t (y ∷ xs) k x (inl e) = subst (λ (z : Arrow). label a t z.to ≡ true → label a t z.from ≡ true) e k.0
kept_each a t (y ∷ xs) k x (inr o) = kept_each a t xs k.1 x o
kept_each a t [] k x o = absurd o

below_each : (n : ℕ) (xs : List Arrow) → AreBelow n xs → (x : Arrow) → Occurs xs x → IsBelow n x.from × IsEnd n x.to
below_each n (y ∷ xs) b x (inl e) = subst (λ (z : Arrow). IsBelow n z.from × IsEnd n z.to) e b.0
below_each n (y ∷ xs) b x (inr o) = below_each n xs b.1 x o
below_each n [] b x o = absurd o

same_vertex : (g : Graph) → IsFine g → (v w : Vertex) (n : ℕ) → IsBelow g.count v → IsBelow g.count w → number_in g v ≡ Some n → number_in g w ≡ Some n → v ≡ w
same_vertex g f hidden hidden n b c p q = refl
same_vertex g f hidden (drawn j) n b c p q = let x = some_is g.count n p in let y = some_is j n q in absurd (omega (arith, x, y, c))
same_vertex g f hidden (array k) n b c p q = let x = some_is g.count n p in let y = f.within k n q in absurd (omega (arith, x, y.0))
same_vertex g f (drawn i) hidden n b c p q = let x = some_is g.count n q in let y = some_is i n p in absurd (omega (arith, x, y, b))
same_vertex g f (drawn i) (drawn j) n b c p q = ap drawn (some_is i n p ∙ sym (some_is j n q))
same_vertex g f (drawn i) (array k) n b c p q = let x = some_is i n p in let y = f.within k n q in absurd (omega (arith, x, y.0, b))
same_vertex g f (array k) hidden n b c p q = let x = some_is g.count n q in let y = f.within k n p in absurd (omega (arith, x, y.0))
same_vertex g f (array k) (drawn j) n b c p q = let x = some_is j n q in let y = f.within k n p in absurd (omega (arith, x, y.0, c))
same_vertex g f (array k) (array l) n b c p q = ap array (f.apart k l n p q)

module _ (xs : List Arrow) (g : Graph) (graph : IsGraphOf xs g) (below : AreBelow g.count xs) where
  -- what is reached is secret
  reached_secret : (a : Publics) (t : ℕ → Bool) → IsLabelling a t xs → (n : ℕ) → Path g.rows.items g.count n → (v : Vertex) → IsBelow g.count v → number_in g v ≡ Some n → label a t v ≡ false
  reached_secret a t l n here v b e = by v b e
    where
      by : (v : Vertex) → IsBelow g.count v → number_in g v ≡ Some g.count → label a t v ≡ false
      by hidden b e = refl
      by (drawn i) b e = let x = some_is i g.count e in absurd (omega (arith, x, b))
      by (array k) b e = let x = graph.fine.within k g.count e in absurd (omega (arith, x.0))
  reached_secret a t l n (on {u} p h) v b e =
      let o = graph.only u n h in
      let c = below_each g.count xs below o.0 o.1 in
      let from = reached_secret a t l u p o.0.from c.0 o.2 in
      let at : o.0.to ≡ v = same_vertex g graph.fine o.0.to v n (below_of g.count o.0.to c.1) b o.3 e in
      by o.0 (label a t o.0.to) refl (kept_each a t xs l.keeps o.0 o.1) from at
    where
      by : (x : Arrow) (c : Bool) → label a t x.to ≡ c → (label a t x.to ≡ true → label a t x.from ≡ true) → label a t x.from ≡ false → x.to ≡ v → label a t v ≡ false
      by x true i f d at = absurd (false≢true (sym d ∙ f i))
      by x false i f d at = ap (label a t) (sym at) ∙ i

  module _ (some : 0 < g.count) (marked : List Bool) (reach : AreReached g.rows.items g.count marked) (s : Secrets) (is : s.marked.items ≡ marked) (same : (k : Key) → entry_in s.arrays (whole k) ≡ entry_in g.arrays (whole k)) where
    abbrev public : Vertex → Bool
    public v = public_by s v

    at_number : (v : Vertex) (n : ℕ) → number_in g v ≡ Some n → public v ≡ not (marked_at marked n)
    at_number hidden n e = sym (ap (λ m. not (marked_at marked m)) (sym (some_is g.count n e)) ∙ ap not reach.begun)
    at_number (drawn i) n e = ap (λ ms. not (marked_at ms i)) is ∙ ap (λ m. not (marked_at marked m)) (some_is i n e)
    at_number (array k) n e = ap (λ ms. unless_marked ms (entry_in s.arrays (whole k))) is ∙ ap (unless_marked marked) (same k ∙ e)

    label_is : (v : Vertex) → label (λ k. public (array k)) (λ i. public (drawn i)) v ≡ public v
    label_is hidden = refl
    label_is (drawn i) = refl
    label_is (array k) = refl

    unmarked_back : (b c : Bool) → (b ≡ true → c ≡ true) → not c ≡ true → not b ≡ true
    unmarked_back true c f e = f_clash (ap not (f refl)) e
      where
        f_clash : {A : Type 0} {d : Bool} → d ≡ false → d ≡ true → A
        f_clash p q = absurd (false≢true (sym p ∙ q))
    unmarked_back false c f e = refl

    arrow_kept : (x : Arrow) → Occurs xs x → public x.to ≡ true → public x.from ≡ true
    arrow_kept x o e =
        let t = graph.there x o in
        at_number x.from t.0 t.2
        ∙ unmarked_back (marked_at marked t.0) (marked_at marked t.1) (λ h. reach.closed t.0 t.1 h t.4) (sym (at_number x.to t.1 t.3) ∙ e)

    first_unmarked : (b : Bool) → marked_at marked 0 ≡ b → not b ≡ true
    first_unmarked false e = refl
    first_unmarked true e = by (reach.forced 0 e)
      where
        no_end : (v : Vertex) → IsEnd g.count v → number_in g v ≡ Some 0 → ⊥
        no_end hidden b h = b
        no_end (drawn i) b h = let x = some_is i 0 h in absurd (omega (arith, x, b.0))
        no_end (array k) b h = let x = graph.fine.within k 0 h in absurd (omega (arith, x.0))

        by_path : (n : ℕ) → Path g.rows.items g.count n → n ≡ 0 → ⊥
        by_path n here z = absurd (omega (arith, z, some))
        by_path n (on {u} p h) z =
            let o = graph.only u n h in
            no_end o.0.to (below_each g.count xs below o.0 o.1).1 (o.3 ∙ ap Some z)

        by : Path g.rows.items g.count 0 → not true ≡ true
        by p = absurd (by_path 0 p refl)

    most_public : (a : Publics) (t : ℕ → Bool) (v : Vertex) → IsLabelling a t xs → IsBelow g.count v → label a t v ≡ true → public v ≡ true
    most_public a t v l b e = by (number_in g v) refl
      where
        unmarked_at : (n : ℕ) (c : Bool) → marked_at marked n ≡ c → number_in g v ≡ Some n → not c ≡ true
        unmarked_at n false h p = refl
        unmarked_at n true h p = absurd (false≢true (sym (reached_secret a t l n (reach.forced n h) v b p) ∙ e))

        none : (w : Vertex) → number_in g w ≡ None → public w ≡ true
        none hidden h = absurd (cc h)
        none (drawn i) h = absurd (cc h)
        none (array k) h = ap (unless_marked s.marked.items) (same k ∙ h)

        by : (o : Option ℕ) → number_in g v ≡ o → public v ≡ true
        by None h = none v h
        by (Some n) h = at_number v n h ∙ unmarked_at n (marked_at marked n) refl h

    pub fewest : AreFewest g.count xs (public_by s)
    fewest = record {
      secret = refl;
      labelling = record {
        first = at_number (drawn 0) 0 refl ∙ first_unmarked (marked_at marked 0) refl;
        keeps = keeps_each (λ k. public (array k)) (λ i. public (drawn i)) xs (λ x o e. label_is x.from ∙ arrow_kept x o (sym (label_is x.to) ∙ e));
      };
      most = most_public;
    }

-- of a graph that has so many drawn labels
pub fewest_of : (n : ℕ) (xs : List Arrow) (g : Graph) → g.count ≡ n → IsGraphOf xs g → AreBelow n xs → 0 < n → (marked : List Bool) → AreReached g.rows.items g.count marked → (s : Secrets) → s.marked.items ≡ marked
    → ((k : Key) → entry_in s.arrays (whole k) ≡ entry_in g.arrays (whole k)) → AreFewest n xs (public_by s)
fewest_of n xs g c graph below some marked reach s is same =
    let b : AreBelow g.count xs = subst (λ (m : ℕ). AreBelow m xs) (sym c) below in
    let p : 0 < g.count = subst (λ (m : ℕ). 0 < m) (sym c) some in
    subst (λ (m : ℕ). AreFewest m xs (public_by s)) c (fewest xs g graph b p marked reach s is same)

-- whether a label is public
pub no_number : (s : Secrets) (q : Spot) (k : Key) → q ≡ whole k → None ≡ entry_in s.arrays q → true ≡ public_by s (array k)
no_number s q k e h = ap (unless_marked s.marked.items) (h ∙ ap (λ (x : Spot). entry_in s.arrays x) e)

pub its_number : (s : Secrets) (q : Spot) (k : Key) (n : ℕ) (b : Bool) → q ≡ whole k → Some n ≡ entry_in s.arrays q → b ≡ marked_at s.marked.items n → not b ≡ public_by s (array k)
its_number s q k n b e h m = ap not m ∙ ap (unless_marked s.marked.items) (h ∙ ap (λ (x : Spot). entry_in s.arrays x) e)
