-- What holds of each item, as far as a loop has come.
use Rattle.std.proofs.Common.{◌≡◌, ℕ, ◌+◌, ◌<◌, ◌≤◌, List, [], ◌∷◌, ◌++◌, length, get_or, take, sym, ap, ◌∙◌, subst}
use Rattle.std.specs.Prelude.{All}
use Rattle.std.proofs.lemmas.List.Elements.{All-push}
use Rattle.std.proofs.lemmas.List.{take_more, take_all}

pub all_more : {A : Type 0} (P : A → Type 0) (xs : List A) (i : ℕ) (x : A) → i < length xs → x ≡ get_or xs i x → All P (take i xs) → P x → All P (take (i + 1) xs)
all_more P xs i x lt is before here =
    subst (All P) (sym (take_more xs i x lt ∙ ap (λ y. take i xs ++ y ∷ []) (sym is))) (All-push P (take i xs) x before here)

pub all_seen : {A : Type 0} (P : A → Type 0) (xs : List A) (i : ℕ) → length xs ≤ i → All P (take i xs) → All P xs
all_seen P xs i le h = subst (All P) (take_all i xs le) h
