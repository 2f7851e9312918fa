-- The arrays of noted cells.
use Rattle.std.proofs.Common.{◌≡◌, ◌⊎◌, inl, inr, ℕ, List, [], ◌∷◌, Option, Some, None, Bool, true, false, true≢false, refl, ap, sym, ◌∙◌, subst, if◌then◌else◌}
use Rattle.std.specs.Prelude.{◌&&◌, ◌||◌, is_some, is_none}
use Rattle.std.specs.Map.{lookup}
use Rattle.indexmap.specs.IndexMap.{IndexMap}
use Rattle.jz_layers.specs.declared.named.Named.{Named}
use Rattle.jz_layers.specs.Spots.{Spot, same_spot, spot_of, put_in, entry_in, over, seen_in, is_noted, AreListed, without_index, cell_at, AreHeld}
use Rattle.jz_layers.proofs.SpotLemmas.{same_spot-true, same_spot-refl}
use Rattle.jz_layers.proofs.Listing.{seen_listed}

module _ {U T : Type 0} where
  -- what is there where one spot more is
  abbrev pub Grows : IndexMap Named U T → IndexMap Named U T → Type 0
  Grows a b = (k : Spot) → is_some (entry_in a k) ≡ true → is_some (entry_in b k) ≡ true

  pub same_grows : (a b : IndexMap Named U T) → b.entries ≡ a.entries → Grows a b
  same_grows a b e k h = ap (λ es. is_some (lookup (λ n. same_spot k (spot_of n)) es)) e ∙ h

  module _ (a b : IndexMap Named U T) (n : Spot) (u : U) (e : entry_in b ≡ put_in (entry_in a) n u) where
    pub put_grows : Grows a b
    put_grows k h = ap (λ f. is_some (f k)) e ∙ by (same_spot n k)
      where
        by : (c : Bool) → is_some (if c then Some u else entry_in a k) ≡ true
        by true = refl
        by false = h

    pub put_there : is_some (entry_in b n) ≡ true
    put_there = ap (λ f. is_some (f n)) e ∙ ap (λ c. is_some (if c then Some u else entry_in a n)) (same_spot-refl n)

    pub put_alone : (k : Spot) → is_some (entry_in b k) ≡ true → (is_some (entry_in a k) ≡ true) ⊎ (same_spot n k ≡ true)
    put_alone k h = by (same_spot n k) refl (sym (ap (λ f. is_some (f k)) e) ∙ h)
      where
        by : (c : Bool) → same_spot n k ≡ c → is_some (if c then Some u else entry_in a k) ≡ true → (is_some (entry_in a k) ≡ true) ⊎ (same_spot n k ≡ true)
        by true p q = inr p
        by false p q = inl q

  pub same_alone : (a b : IndexMap Named U T) (n : Spot) → b.entries ≡ a.entries → (k : Spot) → is_some (entry_in b k) ≡ true → (is_some (entry_in a k) ≡ true) ⊎ (same_spot n k ≡ true)
  same_alone a b n e k h = inl (sym (ap (λ es. is_some (lookup (λ m. same_spot k (spot_of m)) es)) e) ∙ h)

  pub held_more : (r a b : IndexMap Named U T) → Grows a b → AreHeld r a → AreHeld r b
  held_more r a b g h k i e = g (without_index k) (h k i e)

  -- one spot more is noted, whose array is there
  pub held_noted : (r s a b : IndexMap Named U T) (n : Named)
      → ((k : Spot) → is_some (entry_in s k) ≡ true → (is_some (entry_in r k) ≡ true) ⊎ (same_spot (spot_of n) k ≡ true))
      → Grows a b → ((i : ℕ) → n.index ≡ Some i → is_some (entry_in b (without_index (spot_of n))) ≡ true)
      → AreHeld r a → AreHeld s b
  held_noted r s a b n alone grows there h k i e = by (alone (cell_at k i) e)
    where
      by : (is_some (entry_in r (cell_at k i)) ≡ true) ⊎ (same_spot (spot_of n) (cell_at k i) ≡ true) → is_some (entry_in b (without_index k)) ≡ true
      by (inl q) = grows (without_index k) (h k i q)
      by (inr q) =
          let p = same_spot-true (spot_of n) (cell_at k i) q in
          subst (λ x. is_some (entry_in b (without_index x)) ≡ true) p (there i (ap (λ x. x.index) p))

is_the_cell : (c : Option ℕ) (b : Bool) → ((is_none c && false) || b) ≡ true → b ≡ true
is_the_cell None b e = e
is_the_cell (Some j) b e = e

module _ {U V S T : Type 0} (r a : IndexMap Named U T) where
  -- an array that is not there has no cell
  pub no_cell : (m : IndexMap Named V S) (ms : List (IndexMap Named V S)) → AreListed r (m ∷ ms) → AreHeld r a → (n : Spot) → entry_in a (without_index n) ≡ None
      → (i : ℕ) → over m (seen_in ms) (cell_at n i) ≡ None
  no_cell m ms listed held n e i = by (over m (seen_in ms) (cell_at n i)) refl
    where
      by : (o : Option V) → over m (seen_in ms) (cell_at n i) ≡ o → o ≡ None
      by None p = refl
      by (Some v) p =
          let here : is_some (entry_in r (cell_at n i)) ≡ true = is_the_cell n.of.cell (is_some (entry_in r (cell_at n i))) (seen_listed r m ms listed (cell_at n i) v p) in
          absurd (true≢false (sym (held n i here) ∙ ap (λ o. is_some o) e))
