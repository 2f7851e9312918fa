-- What is noted of the cells of tables.
use Rattle.std.proofs.Common.{◌≡◌, ◌⊎◌, inl, inr, List, [], ◌∷◌, ◌++◌, Option, Some, None, Result, Ok, Err, Bool, true, false, refl, ap, sym, ◌∙◌, subst, if◌then◌else◌}
use Rattle.std.specs.Prelude.{◌||◌, is_some, OnOk, OnErr}
use Rattle.std.specs.Map.{lookup}
use Rattle.indexmap.specs.IndexMap.{IndexMap, Updates}
use Rattle.jz_layers.specs.declared.named.Named.{Named}
use Rattle.jz_layers.specs.Spots.{Spot, same_spot, spot_of, or_below, nowhere, put_in, entry_in, over, seen_from, seen_in, is_plain, is_noted, IsListed, Occurs, AreListed}
use Rattle.jz_layers.proofs.TableLemmas.{put_is, same_named}
use Rattle.jz_layers.proofs.SpotLemmas.{same_spot-true, same_spot-refl}

or_right : (a b : Bool) → b ≡ true → (a || b) ≡ true
or_right true b e = refl
or_right false b e = e

module _ {U T : Type 0} (r s : IndexMap Named U T) (n : Spot) (u : U) (e : entry_in s ≡ put_in (entry_in r) n u) where
  pub note_grows : (k : Spot) → is_noted r k ≡ true → is_noted s k ≡ true
  note_grows k h = ap (λ f. is_plain k || is_some (f k)) e ∙ by (same_spot n k) (is_plain k) h
    where
      by : (b p : Bool) → (p || is_some (entry_in r k)) ≡ true → (p || is_some (if b then Some u else entry_in r k)) ≡ true
      by true p h = or_right p true refl
      by false p h = h

  pub note_there : is_noted s n ≡ true
  note_there = or_right (is_plain n) (is_some (entry_in s n)) (ap (λ f. is_some (f n)) e ∙ ap (λ b. is_some (if b then Some u else entry_in r n)) (same_spot-refl n))

module _ {U V S T : Type 0} (r s : IndexMap Named U T) (grows : (k : Spot) → is_noted r k ≡ true → is_noted s k ≡ true) where
  pub all_listed_more : (ms : List (IndexMap Named V S)) → AreListed r ms → AreListed s ms
  all_listed_more ms h m o k v e = grows k (h m o k v e)

occurs_push : {A : Type 0} (xs : List A) (y x : A) → Occurs (xs ++ y ∷ []) x → Occurs xs x ⊎ (y ≡ x)
occurs_push [] y x (inl e) = inr e
occurs_push [] y x (inr e) = absurd e
occurs_push (z ∷ xs) y x (inl e) = inl (inl e)
occurs_push (z ∷ xs) y x (inr e) = by (occurs_push xs y x e)
  where
    by : Occurs xs x ⊎ (y ≡ x) → Occurs (z ∷ xs) x ⊎ (y ≡ x)
    by (inl h) = inl (inr h)
    by (inr h) = inr h

occurs_last : {A : Type 0} (xs : List A) (y : A) → Occurs (xs ++ y ∷ []) y
occurs_last [] y = inl refl
occurs_last (z ∷ xs) y = inr (occurs_last xs y)

occurs_before : {A : Type 0} (xs : List A) (y x : A) → Occurs xs x → Occurs (xs ++ y ∷ []) x
occurs_before [] y x o = absurd o
occurs_before (z ∷ xs) y x (inl e) = inl e
occurs_before (z ∷ xs) y x (inr o) = inr (occurs_before xs y x o)

module _ {U V S T : Type 0} (r : IndexMap Named U T) where
  -- a table of which one spot more is known, in the place of the first
  pub listed_put : (m t : IndexMap Named V S) (ms : List (IndexMap Named V S)) (n : Spot) (v : V) → entry_in t ≡ put_in (entry_in m) n v → is_noted r n ≡ true → AreListed r (m ∷ ms) → AreListed r (t ∷ ms)
  listed_put m t ms n v e here h x (inr o) k w is = h x (inr o) k w is
  listed_put m t ms n v e here h x (inl p) k w is = by (same_spot n k) refl (sym (ap (λ f. f k) e) ∙ ap (λ y. entry_in y k) p ∙ is)
    where
      by : (b : Bool) → same_spot n k ≡ b → (if b then Some v else entry_in m k) ≡ Some w → is_noted r k ≡ true
      by true a q = subst (λ y. is_noted r y ≡ true) (same_spot-true n k a) here
      by false a q = h m (inl refl) k w q

  pub listed_none : (m : IndexMap Named V S) (ms : List (IndexMap Named V S)) → entry_in m ≡ nowhere → AreListed r ms → AreListed r (m ∷ ms)
  listed_none m ms e h x (inr o) k v is = h x o k v is
  listed_none m ms e h x (inl p) k v is = let q : None ≡ Some v = sym (ap (λ f. f k) e) ∙ ap (λ y. entry_in y k) p ∙ is in absurd (cc q)

  listed_same : (m t : IndexMap Named V S) (ms : List (IndexMap Named V S)) → t.entries ≡ m.entries → AreListed r (m ∷ ms) → AreListed r (t ∷ ms)
  listed_same m t ms e h x (inr o) k v is = h x (inr o) k v is
  listed_same m t ms e h x (inl p) k v is = h m (inl refl) k v (sym (ap (λ es. lookup (λ n. same_spot k (spot_of n)) es) e) ∙ ap (λ y. entry_in y k) p ∙ is)

  -- behind an insertion, whether there was memory or not
  pub listed_insert : {A E : Type 0} (res : Result A E) (m t : IndexMap Named V S) (ms : List (IndexMap Named V S)) (n : Named) (v : V)
      → OnOk res (Updates same_named m t n (Some v)) → OnErr res (t.entries ≡ m.entries) → is_noted r (spot_of n) ≡ true → AreListed r (m ∷ ms) → AreListed r (t ∷ ms)
  listed_insert (Ok a) m t ms n v u e here h = listed_put m t ms (spot_of n) v (put_is m t n v u.0) here h
  listed_insert (Err a) m t ms n v u e here h = listed_same m t ms e h

  -- the first becomes the last, or the last the first
  pub listed_push : (m : IndexMap Named V S) (ms : List (IndexMap Named V S)) → AreListed r (m ∷ ms) → AreListed r (ms ++ m ∷ [])
  listed_push m ms h x o k v is = by (occurs_push ms m x o)
    where
      by : Occurs ms x ⊎ (m ≡ x) → is_noted r k ≡ true
      by (inl q) = h x (inr q) k v is
      by (inr q) = h x (inl q) k v is

  pub listed_popped : (m : IndexMap Named V S) (ms : List (IndexMap Named V S)) → AreListed r (ms ++ m ∷ []) → AreListed r (m ∷ ms)
  listed_popped m ms h x (inl p) k v is = h x (subst (Occurs (ms ++ m ∷ [])) p (occurs_last ms m)) k v is
  listed_popped m ms h x (inr o) k v is = h x (occurs_before ms m x o) k v is

  -- without the first
  pub listed_rest : (m : IndexMap Named V S) (ms : List (IndexMap Named V S)) → AreListed r (m ∷ ms) → AreListed r ms
  listed_rest m ms h x o = h x (inr o)

  -- a table is laid over the others, if there was memory
  pub listed_opened : (table t : IndexMap Named V S) (ms new : List (IndexMap Named V S)) (ok : Bool) → new ≡ (if ok then ms ++ table ∷ [] else ms) → entry_in t ≡ nowhere
      → AreListed r (table ∷ ms) → AreListed r (t ∷ new)
  listed_opened table t ms new true e n h = listed_none t new n (subst (AreListed r) (sym e) (listed_push table ms h))
  listed_opened table t ms new false e n h = listed_none t new n (subst (AreListed r) (sym e) (listed_rest table ms h))

  -- the uppermost table is taken away
  pub listed_closed : (top table t : IndexMap Named V S) (ms new : List (IndexMap Named V S)) → ms ≡ new ++ table ∷ [] → t ≡ table → AreListed r (top ∷ ms) → AreListed r (t ∷ new)
  listed_closed top table t ms new e q h =
      subst (λ y. AreListed r (y ∷ new)) (sym q) (listed_popped table new (subst (AreListed r) e (listed_rest top ms h)))

  over_listed : (m : IndexMap Named V S) (f : Spot → Option V) → IsListed r (entry_in m) → IsListed r f → IsListed r (over m f)
  over_listed m f h g k v e = by (entry_in m k) refl e
    where
      by : (o : Option V) → entry_in m k ≡ o → or_below o (f k) ≡ Some v → is_noted r k ≡ true
      by None p q = g k v q
      by (Some w) p q = h k w p

  from_listed : (f : Spot → Option V) (ms : List (IndexMap Named V S)) → AreListed r ms → IsListed r f → IsListed r (seen_from f ms)
  from_listed f [] h g = g
  from_listed f (m ∷ ms) h g = from_listed (over m f) ms (λ x o. h x (inr o)) (over_listed m f (h m (inl refl)) g)

  pub seen_listed : (m : IndexMap Named V S) (ms : List (IndexMap Named V S)) → AreListed r (m ∷ ms) → IsListed r (over m (seen_in ms))
  seen_listed m ms h = over_listed m (seen_in ms) (h m (inl refl)) (from_listed nowhere ms (λ x o. h x (inr o)) (λ k v e. absurd (cc e)))
