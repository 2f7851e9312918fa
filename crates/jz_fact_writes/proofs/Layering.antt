-- A table that was laid over others and is taken away.
use Rattle.std.proofs.Common.{BuildHasherDefault, FoldHasher, ◌≡◌, List, [], ◌∷◌, ◌++◌, Option, Some, None, refl, ap, sym, ◌∙◌}
use Rattle.std.proofs.Math.Path.{fun_ext}
use Rattle.indexmap.specs.IndexMap.{IndexMap}
use Rattle.jz_layers.specs.declared.named.Named.{Named}
use Rattle.jz_layers.specs.declared.layers.Layers.{Layers}
use Rattle.jz_layers.specs.Spots.{Spot, entry_in, over, or_below, nowhere, seen_in}
use Rattle.jz_layers.specs.Layered.{seen}
use Rattle.jz_layers.proofs.TableLemmas.{seen_more}
use Rattle.jz_fact_sets.specs.declared.knowledge.Knowledge.{Knowledge}
use Rattle.jz_fact_sets.specs.Kept.{known_at, known_or}
use Rattle.jz_fact_sets.specs.Meeting.{or_known, over_known}

-- ---- a list and its last item

abbrev last_or : {A : Type 0} → A → List A → A
last_or d [] = d
last_or d (x ∷ xs) = last_or x xs

abbrev before_last : {A : Type 0} → List A → List A
before_last [] = []
before_last (x ∷ []) = []
before_last (x ∷ y ∷ xs) = x ∷ before_last (y ∷ xs)

last_is : {A : Type 0} (xs : List A) (x d : A) → last_or d (xs ++ x ∷ []) ≡ x
last_is [] x d = refl
last_is (y ∷ xs) x d = last_is xs x y

before_is : {A : Type 0} (xs : List A) (x : A) → before_last (xs ++ x ∷ []) ≡ xs
before_is [] x = refl
before_is (y ∷ []) x = refl
before_is {A} (y ∷ z ∷ xs) x = ap (λ (ys : List A). y ∷ ys) (before_is (z ∷ xs) x)

same_end : {A : Type 0} (xs ys : List A) (x y : A) → xs ++ x ∷ [] ≡ ys ++ y ∷ [] → (xs ≡ ys) × (x ≡ y)
same_end xs ys x y e = (sym (before_is xs x) ∙ ap before_last e ∙ before_is ys y, sym (last_is xs x x) ∙ ap (last_or x) e ∙ last_is ys y x)

module _ {V : Type 0} where
  -- what stands below is as it was
  pub back : (old new : Layers V) (ms : List (IndexMap Named V (BuildHasherDefault FoldHasher))) → ms ≡ old.below.items ++ old.top ∷ [] → ms ≡ new.below.items ++ new.top ∷ [] → (new.below.items ≡ old.below.items) × (seen new ≡ seen old)
  back old new ms e h =
      let p = same_end new.below.items old.below.items new.top old.top (sym h ∙ e) in
      (p.0, (λ i. over (p.1 i) (seen_in (p.0 i))))

-- what was seen with it is it over what is seen without it
pub over_is : (with without : Layers Knowledge) (table : IndexMap Named Knowledge (BuildHasherDefault FoldHasher)) → table ≡ with.top → with.below.items ≡ without.below.items ++ without.top ∷ [] → over_known table (known_at without) ≡ known_at with
over_is with without table t e = fun_ext (λ k. by k (entry_in table k) ∙ ap (λ m. known_or (or_below (entry_in m k) (seen without k))) t ∙ sym (ap (λ f. known_or (or_below (entry_in with.top k) (f k))) (ap (λ ms. seen_in ms) e ∙ seen_more nowhere without.below.items without.top)))
  where
    by : (k : Spot) → (o : Option Knowledge) → or_known (known_at without k) o ≡ known_or (or_below o (seen without k))
    by k None = refl
    by k (Some x) = refl

pub over_empty : {S : Type 0} (table : IndexMap Named Knowledge S) (know : Spot → Knowledge) → entry_in table ≡ nowhere → over_known table know ≡ know
over_empty table know e = fun_ext (λ k. ap (λ f. or_known (know k) (f k)) e)
