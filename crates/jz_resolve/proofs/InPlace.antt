-- A list whose items are changed one after another where they stand.
use Rattle.std.proofs.Common.{◌≡◌, ℕ, ◌+◌, ◌<◌, List, ◌++◌, map, take, drop, set, length, get_or, ap, ◌∙◌}
use Rattle.std.proofs.lemmas.List.Edits.{map_over_more}

-- one item more
pub next_changed : {X : Type 0} (f : X → X) (xs ys : List X) (i : ℕ) (before after : X)
    → i < length xs → ys ≡ map f (take i xs) ++ drop i xs → before ≡ get_or ys i before → after ≡ f before
    → set ys i after ≡ map f (take (i + 1) xs) ++ drop (i + 1) xs
next_changed f xs ys i before after within held is made = ap (set ys i) made ∙ map_over_more f xs ys i before within held is
