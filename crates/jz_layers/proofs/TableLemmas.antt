-- Tables, and tables over tables.
use Rattle.std.proofs.Common.{◌≡◌, ℕ, zero, suc, ◌+◌, ◌-◌, ◌<◌, ◌≤◌, List, [], ◌∷◌, ◌++◌, take, length, get_or, Option, Some, None, Bool, true, false, refl, ap, sym, ◌∙◌, if◌then◌else◌, arith}
use Rattle.std.specs.Prelude.{◌||◌, cond, slice_get, is_some}
use Rattle.std.proofs.Math.Path.{fun_ext}
use Rattle.std.specs.Map.{lookup}
use Rattle.indexmap.specs.IndexMap.{IndexMap, get}
use Rattle.jz_layers.specs.declared.named.Named.{Named}
use Rattle.jz_layers.specs.Spots.{Spot, same_spot, spot_of, or_below, nowhere, put_in, entry_in, over, seen_from, seen_in}
use Rattle.jz_layers.proofs.SpotLemmas.{same_spot-true, same_spot-back}

abbrev pub same_named : Named → Named → Bool
same_named a b = same_spot (spot_of a) (spot_of b)

-- what is at that spot, by something that there is
abbrev pub at_spot : Named → Spot → Named
at_spot n k = record { name = record n.name { now = k.of.name }; copy = k.of.copy; cell = k.of.cell; index = k.index }

or_put : {V : Type 0} (f : Spot → Option V) (g : Spot → Option V) (n : Spot) (v : V) → (k : Spot) → or_below (put_in g n v k) (f k) ≡ put_in (λ q. or_below (g q) (f q)) n v k
or_put {V} f g n v k = by (same_spot n k)
  where
    by : (b : Bool) → or_below (if b then Some v else g k) (f k) ≡ (if b then Some v else or_below (g k) (f k))
    by true = refl
    by false = refl

module _ {V S : Type 0} where
  pub put_is : (m t : IndexMap Named V S) (n : Named) (v : V)
      → ((q : Named) → get same_named t q ≡ (if same_named n q then Some v else get same_named m q))
      → entry_in t ≡ put_in (entry_in m) (spot_of n) v
  put_is m t n v h = fun_ext (λ k. h (at_spot n k))

  pub over_put : (f : Spot → Option V) (m t : IndexMap Named V S) (n : Spot) (v : V) → entry_in t ≡ put_in (entry_in m) n v → over t f ≡ put_in (over m f) n v
  over_put f m t n v e = ap {B = Spot → Option V} (λ g k. or_below (g k) (f k)) e ∙ fun_ext (or_put f (entry_in m) n v)

  pub seen_more : (f : Spot → Option V) (ms : List (IndexMap Named V S)) (m : IndexMap Named V S) → seen_from f (ms ++ m ∷ []) ≡ over m (seen_from f ms)
  seen_more f [] m = refl
  seen_more f (x ∷ ms) m = seen_more (over x f) ms m

  pub none_in : (m : IndexMap Named V S) → m.entries ≡ [] → entry_in m ≡ nowhere
  none_in m e = ap {B = Spot → Option V} (λ es k. lookup (λ n. same_spot k (spot_of n)) es) e

  pub over_none : (m : IndexMap Named V S) (f : Spot → Option V) → entry_in m ≡ nowhere → over m f ≡ f
  over_none m f e = ap {B = Spot → Option V} (λ g k. or_below (g k) (f k)) e

  -- ---- the first tables of a list

  take_more : (f : Spot → Option V) (ms : List (IndexMap Named V S)) (i : ℕ) (m : IndexMap Named V S) → i < length ms → m ≡ get_or ms i m → seen_from f (take (suc i) ms) ≡ over m (seen_from f (take i ms))
  take_more f [] i m l e = absurd (omega (arith, l))
  take_more f (x ∷ ms) zero m l e = ap {B = Spot → Option V} (λ y. over y f) (sym e)
  take_more f (x ∷ ms) (suc i) m l e = let h : i < length ms = omega (arith, l) in take_more (over x f) ms i m h e

  pub take_next : (f : Spot → Option V) (ms : List (IndexMap Named V S)) (i : ℕ) (m : IndexMap Named V S) → i < length ms → m ≡ get_or ms i m → seen_from f (take (i + 1) ms) ≡ over m (seen_from f (take i ms))
  take_next f ms i m l e = let j : i + 1 ≡ suc i = omega arith in ap (λ n. seen_from f (take n ms)) j ∙ take_more f ms i m l e

  pub found_one : (ms : List (IndexMap Named V S)) (i : ℕ) (m : IndexMap Named V S) (k : Spot) (v : V) → 0 < i → i ≤ length ms → m ≡ get_or ms (i - 1) m
      → Some v ≡ entry_in m k → seen_in (take i ms) k ≡ seen_in ms k → Some v ≡ seen_in ms k
  found_one ms zero m k v p l e h t = absurd (omega (arith, p))
  found_one ms (suc i) m k v p l e h t =
      let s : i < length ms = omega (arith, l) in
      let j : suc i - 1 ≡ i = omega arith in
      ap (λ o. or_below o (seen_in (take i ms) k)) h ∙ sym (ap (λ g. g k) (take_more nowhere ms i m s (e ∙ ap (λ n. get_or ms n m) j))) ∙ t

  pub found_none : (ms : List (IndexMap Named V S)) (i : ℕ) (m : IndexMap Named V S) (k : Spot) → 0 < i → i ≤ length ms → m ≡ get_or ms (i - 1) m
      → None ≡ entry_in m k → seen_in (take i ms) k ≡ seen_in ms k → seen_in (take (i - 1) ms) k ≡ seen_in ms k
  found_none ms zero m k p l e h t = absurd (omega (arith, p))
  found_none ms (suc i) m k p l e h t =
      let s : i < length ms = omega (arith, l) in
      let j : suc i - 1 ≡ i = omega arith in
      ap (λ n. seen_in (take n ms) k) j
      ∙ ap (λ o. or_below o (seen_in (take i ms) k)) h ∙ sym (ap (λ g. g k) (take_more nowhere ms i m s (e ∙ ap (λ n. get_or ms n m) j))) ∙ t
