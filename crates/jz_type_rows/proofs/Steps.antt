-- Two lists in step.
use Rattle.std.proofs.Common.{◌≡◌, List, [], ◌∷◌, ◌++◌, ◌⊎◌, inl, inr, refl, sym, ap, ◌∙◌, append-nil}
use Rattle.std.specs.List.{zip}

pub zip-nil : {A B : Type 0} (xs : List A) → zip {K = A} {X = B} xs [] ≡ []
zip-nil [] = refl
zip-nil (x ∷ xs) = refl

pub one_ended : {A B : Type 0} (done : List (A × B)) (xs : List A) (ys : List B) (all : List (A × B))
    → (xs ≡ []) ⊎ (ys ≡ []) → done ++ zip xs ys ≡ all → done ≡ all
one_ended done xs ys all (inl e) h = sym (append-nil done) ∙ (sym (ap (λ q. done ++ zip q ys) e) ∙ h)
one_ended done xs ys all (inr e) h = sym (append-nil done) ∙ (ap (λ q. done ++ q) (sym (zip-nil xs)) ∙ (sym (ap (λ q. done ++ zip xs q) e) ∙ h))
