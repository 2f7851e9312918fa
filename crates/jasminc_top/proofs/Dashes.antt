-- Texts of a list, or a dash.
use Rattle.std.proofs.Common.{◌≡◌, ℕ, List, [], ◌∷◌, refl}
use Rattle.std.specs.Prelude.{map}
use Rattle.std.specs.List.{concat}
use Rattle.jasminc_top.specs.Lines.{texts_or_dash}

pub some_texts : {A : Type 0} (f : A → List ℕ) (xs : List A) → (xs ≡ [] → ⊥) → concat (map f xs) ≡ texts_or_dash (map f xs)
some_texts f [] h = absurd (h refl)
some_texts f (x ∷ xs) h = refl
