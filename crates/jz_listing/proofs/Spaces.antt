-- Pieces with a space between them, one after another.
use Rattle.std.proofs.Common.{◌≡◌, ℕ, zero, suc, ◌+◌, ◌<◌, List, [], ◌∷◌, ◌++◌, length, get_or, take, refl, sym, ap, ◌∙◌, arith, append_assoc, add-one, false}
use Rattle.std.specs.Prelude.{map, ◌==◌}
use Rattle.std.proofs.lemmas.Bool.Decides.{nat_tests}
use Rattle.jz_listing.specs.Transformers.{spaced_pieces, separator}

-- one more piece
more : {A : Type 0} (f : A → List ℕ) (xs : List A) (i : ℕ) (d : A) → i < length xs
    → spaced_pieces (map f (take (suc i) xs)) ≡ spaced_pieces (map f (take i xs)) ++ (separator i ++ f (get_or xs i d))
more f [] i d h = absurd (omega arith)
more f (y ∷ ys) zero d h = refl
more f (y ∷ []) (suc i) d h = absurd (omega arith)
more f (y ∷ (z ∷ zs)) (suc zero) d h = refl
more f (y ∷ (z ∷ zs)) (suc (suc i)) d h =
    let later : (suc (suc i) == 0) ≡ false = grind (arith, nat_tests) in
    let late : (suc i == 0) ≡ false = grind (arith, nat_tests) in
    let rest = more f (z ∷ zs) (suc i) d (omega arith) in
    let x = get_or (z ∷ zs) (suc i) d in
    rw later
    (ap (λ w. f y ++ (32 ∷ w)) (rw late at rest) ∙ sym (append_assoc (f y) (32 ∷ spaced_pieces (map f (take (suc i) (z ∷ zs)))) (32 ∷ f x)))

-- a text to which a separator and one more piece are added; ys is the list as the loop goes over it
pub next_piece : {A : Type 0} (f : A → List ℕ) (xs : List A) (ys : List A) (i : ℕ) (d : A) (start before between after : List ℕ)
    → ys ≡ xs → i < length xs → before ≡ start ++ spaced_pieces (map f (take i xs)) → between ≡ before ++ separator i
    → after ≡ between ++ f (get_or ys i d) → after ≡ start ++ spaced_pieces (map f (take (i + 1) xs))
next_piece f xs ys i d start before between after same h b m a =
    let all : spaced_pieces (map f (take (i + 1) xs)) ≡ spaced_pieces (map f (take i xs)) ++ (separator i ++ f (get_or xs i d)) = rw add-one (more f xs i d h) in
    let pieces = spaced_pieces (map f (take i xs)) in
    let last = f (get_or xs i d) in
    a ∙ ap (λ zs. between ++ f (get_or zs i d)) same ∙ ap (λ t. t ++ last) (m ∙ ap (λ t. t ++ separator i) b)
    ∙ append_assoc (start ++ pieces) (separator i) last
    ∙ append_assoc start pieces (separator i ++ last)
    ∙ ap (λ t. start ++ t) (sym all)
