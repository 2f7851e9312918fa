-- The first value that items give, item by item.
use Rattle.std.proofs.Common.{◌≡◌, ℕ, ◌+◌, ◌<◌, ◌≤◌, List, ◌∷◌, drop, length, get_or, Option, Some, None, true, false, refl, ap, sym, ◌∙◌}
use Rattle.std.specs.Prelude.{option_map, is_some}
use Rattle.std.specs.Option.{option_or}
use Rattle.std.proofs.lemmas.List.{at_drop_more}
use Rattle.std.proofs.Math.ListN.{drop_of_length-le}
use Rattle.jz_preconditions.specs.Bounds.{first_of}

module _ {A B : Type 0} (f : A → Option B) (xs : List A) (i : ℕ) (x : A) (all : Option B) (l : i < length xs) (e : x ≡ get_or xs i x) (before : first_of f (drop i xs) ≡ all) where
  here : option_or (f x) (first_of f (drop (i + 1) xs)) ≡ all
  here = sym (ap (first_of f) (at_drop_more (λ ys. ys) xs i x l ∙ ap (λ (y : A). y ∷ drop (i + 1) xs) (sym e))) ∙ before

  -- where it gives none
  pub first_more : is_some (f x) ≡ false → first_of f (drop (i + 1) xs) ≡ all
  first_more h = by (f x) refl
    where
      by : (o : Option B) → f x ≡ o → first_of f (drop (i + 1) xs) ≡ all
      by None q = sym (ap (λ (o : Option B). option_or o (first_of f (drop (i + 1) xs))) q) ∙ here
      by (Some y) q = absurd (cc (h, q))

  pub first_here : is_some (f x) ≡ true → f x ≡ all
  first_here h = by (f x) refl
    where
      by : (o : Option B) → f x ≡ o → f x ≡ all
      by None q = absurd (cc (h, q))
      by (Some y) q = q ∙ sym (ap (λ (o : Option B). option_or o (first_of f (drop (i + 1) xs))) q) ∙ here

pub first_end : {A B : Type 0} (f : A → Option B) (xs : List A) (i : ℕ) (all : Option B) → length xs ≤ i → first_of f (drop i xs) ≡ all → None ≡ all
first_end f xs i all l h = sym (ap (first_of f) (drop_of_length-le xs l)) ∙ h

pub some_mapped : {A B : Type 0} (g : A → B) (o : Option A) → is_some (option_map g o) ≡ is_some o
some_mapped g None = refl
some_mapped g (Some x) = refl
