-- A sort keeps what is among the numbers.
use Rattle.std.proofs.Common.{◌≡◌, ℕ, List, [], ◌∷◌, refl, ap, sym, ◌∙◌}
use Rattle.std.specs.Prelude.{◌==◌, ◌||◌}
use Rattle.std.specs.List.{list_any}
use Rattle.std.specs.List.Sorted.{IsPermutation}
use Rattle.std.proofs.lemmas.List.Sorted.{list_any-IsPermutation}
use Rattle.jz_intervals.specs.Constants.{is_among}

among_any : (c : ℕ) (ks : List ℕ) → is_among c ks ≡ list_any (λ k. c == k) ks
among_any c [] = refl
among_any c (k ∷ ks) = ap (λ b. (c == k) || b) (among_any c ks)

pub among_permutation : (xs ys : List ℕ) → IsPermutation xs ys → (c : ℕ) → is_among c ys ≡ is_among c xs
among_permutation xs ys h c = among_any c ys ∙ sym (list_any-IsPermutation (λ k. c == k) xs ys h) ∙ sym (among_any c xs)
