-- Lines that are added one after another.
use Rattle.std.proofs.Common.{◌≡◌, ℕ, zero, suc, ◌+◌, ◌<◌, List, [], ◌∷◌, ◌++◌, length, get_or, take, sym, ap, ◌∙◌, arith, append_assoc, add-one}
use Rattle.std.specs.Prelude.{map}
use Rattle.std.specs.List.{concat}
use Rattle.std.proofs.lemmas.List.{append-nil}

-- one more line
pub concat-next : {A : Type 0} (f : A → List ℕ) (xs : List A) (i : ℕ) (d : A) → i < length xs
    → concat (map f (take (i + 1) xs)) ≡ concat (map f (take i xs)) ++ f (get_or xs i d)
concat-next f xs i d h = rw add-one (lines f xs i d h)
  where
    lines : {A : Type 0} (f : A → List ℕ) (xs : List A) (i : ℕ) (d : A) → i < length xs
        → concat (map f (take (suc i) xs)) ≡ concat (map f (take i xs)) ++ f (get_or xs i d)
    lines f [] i d h = absurd (omega arith)
    lines f (y ∷ ys) zero d h = append-nil (f y)
    lines f (y ∷ ys) (suc i) d h = ap (λ w. f y ++ w) (lines f ys i d (omega arith)) ∙ sym (append_assoc (f y) _ _)

-- a text to which one more line is added; ys is the list as the loop goes over it
pub next_line : {A : Type 0} (f : A → List ℕ) (xs : List A) (ys : List A) (i : ℕ) (x d : A) (start before after : List ℕ)
    → ys ≡ xs → i < length xs → before ≡ start ++ concat (map f (take i xs)) → after ≡ before ++ f x → x ≡ get_or ys i d
    → after ≡ start ++ concat (map f (take (i + 1) xs))
next_line f xs ys i x d start before after same h b a e =
    a ∙ ap (λ t. t ++ f x) b ∙ ap (λ y. (start ++ concat (map f (take i xs))) ++ f y) (e ∙ ap (λ zs. get_or zs i d) same)
    ∙ append_assoc start (concat (map f (take i xs))) (f (get_or xs i d))
    ∙ ap (λ t. start ++ t) (sym (concat-next f xs i d h))
