-- What a search in ascending constants says of the nearest ones.
use Rattle.std.proofs.Common.{◌≡◌, ◌≢◌, ℕ, zero, suc, ◌-◌, ◌<◌, ◌≤◌, List, length, refl, subst, sym, arith, min}
use Rattle.std.specs.Prelude.{nat_le, get_or, Result, Ok, Err, MatchResult}
use Rattle.std.specs.List.Sorted.{IsNonDecreasing, IsBinarySearchResult}
use Rattle.std.specs.Ordering.{nat_cmp}
use Rattle.std.proofs.lemmas.List.Sorted.{searched}
use Rattle.jz_intervals.specs.Constants.{greatest, least}
use Rattle.jz_intervals.proofs.Nearest.{greatest_found, greatest_none, greatest_before, least_found, least_none, least_at}

one_less : (i : ℕ) → suc i - 1 ≡ i
one_less i = omega arith

module _ (cs : List ℕ) (n : ℕ) (r : Result ℕ ℕ) (h : IsBinarySearchResult (λ y. nat_cmp y n) cs r) (up : IsNonDecreasing cs) where
  ascends : (i j : ℕ) → i ≤ j → j < length cs → get_or cs i 0 ≤ get_or cs j 0
  ascends i j l m = up i j 0 l m

  Here : Result ℕ ℕ → Type 0
  Here r = MatchResult r (λ i. (i < length cs) × (get_or cs i 0 ≡ n)) (λ i. (i ≤ length cs) × ((k : ℕ) → k < i → get_or cs k 0 < n) × ((k : ℕ) → i ≤ k → k < length cs → n < get_or cs k 0))

  here : Here r
  unfolding Here
  here = searched cs n r h ascends

  pub greatest_ok : (k : ℕ) → r ≡ Ok k → n ≡ greatest (λ c. nat_le c n) cs
  unfolding Here
  greatest_ok k e = let p : Here (Ok k) = subst Here e here in greatest_found cs n k p.0 p.1

  pub greatest_zero : (i : ℕ) → r ≡ Err i → i ≡ 0 → 0 ≡ greatest (λ c. nat_le c n) cs
  unfolding Here
  greatest_zero i e z = let p : Here (Err i) = subst Here e here in greatest_none cs n i p.0 p.1 p.2 z

  pub greatest_at : (i : ℕ) → r ≡ Err i → i ≢ 0 → get_or cs (i - 1) 0 ≡ greatest (λ c. nat_le c n) cs
  unfolding Here
  greatest_at zero e z = absurd (z refl)
  greatest_at (suc i) e z = let p : Here (Err (suc i)) = subst Here e here in subst (λ j. get_or cs j 0 ≡ greatest (λ c. nat_le c n) cs) (sym (one_less i)) (greatest_before cs n (suc i) p.0 p.1 p.2 i refl ascends)

  pub least_ok : (m k : ℕ) → r ≡ Ok k → min n m ≡ least (λ c. nat_le n c) m cs
  unfolding Here
  least_ok m k e = let p : Here (Ok k) = subst Here e here in least_found cs n m k p.0 p.1

  pub least_end : (m i : ℕ) → r ≡ Err i → length cs ≤ i → m ≡ least (λ c. nat_le n c) m cs
  unfolding Here
  least_end m i e l = let p : Here (Err i) = subst Here e here in least_none cs n i p.0 p.1 p.2 m l

  pub least_there : (m i : ℕ) → r ≡ Err i → i < length cs → min (get_or cs i 0) m ≡ least (λ c. nat_le n c) m cs
  unfolding Here
  least_there m i e l = let p : Here (Err i) = subst Here e here in least_at cs n i p.0 p.1 p.2 m l ascends
