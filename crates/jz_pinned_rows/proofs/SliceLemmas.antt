-- A slice by its length and its items.
use Rattle.std.proofs.Common.{◌≡◌, ◌≤◌, ◌<◌, List, [], ◌∷◌, length, get_or, refl, ap, sym, ◌∙◌, arith}

module _ {A : Type 0} where
  pub none_is : (xs : List A) → length xs < 1 → xs ≡ []
  none_is [] l = refl
  none_is (a ∷ xs) l = absurd (omega (arith, l))

  pub one_is : (xs : List A) (a : A) → 1 ≤ length xs → length xs < 2 → a ≡ get_or xs 0 a → xs ≡ a ∷ []
  one_is [] a l m e = absurd (omega (arith, l))
  one_is (x ∷ []) a l m e = ap (λ u. u ∷ []) (sym e)
  one_is (x ∷ y ∷ xs) a l m e = absurd (omega (arith, m))

  pub two_is : (xs : List A) (a b : A) → 2 ≤ length xs → length xs < 3 → a ≡ get_or xs 0 a → b ≡ get_or xs 1 b → xs ≡ a ∷ b ∷ []
  two_is [] a b l m e f = absurd (omega (arith, l))
  two_is (x ∷ []) a b l m e f = absurd (omega (arith, l))
  two_is (x ∷ y ∷ []) a b l m e f = ap (λ u. u ∷ y ∷ []) (sym e) ∙ ap (λ u. a ∷ u ∷ []) (sym f)
  two_is (x ∷ y ∷ z ∷ xs) a b l m e f = absurd (omega (arith, m))

  pub three_is : (xs : List A) (a b c : A) → 3 ≤ length xs → length xs < 4 → a ≡ get_or xs 0 a → b ≡ get_or xs 1 b → c ≡ get_or xs 2 c → xs ≡ a ∷ b ∷ c ∷ []
  three_is [] a b c l m e f g = absurd (omega (arith, l))
  three_is (x ∷ []) a b c l m e f g = absurd (omega (arith, l))
  three_is (x ∷ y ∷ []) a b c l m e f g = absurd (omega (arith, l))
  three_is (x ∷ y ∷ z ∷ []) a b c l m e f g = ap (λ u. u ∷ y ∷ z ∷ []) (sym e) ∙ ap (λ u. a ∷ u ∷ z ∷ []) (sym f) ∙ ap (λ u. a ∷ b ∷ u ∷ []) (sym g)
  three_is (x ∷ y ∷ z ∷ w ∷ xs) a b c l m e f g = absurd (omega (arith, m))

  -- so many it has not
  pub not_one : (xs : List A) → (length xs ≡ 1 → ⊥) → (a : A) → xs ≡ a ∷ [] → ⊥
  not_one xs n a e = n (ap length e)

  pub not_two : (xs : List A) → (length xs ≡ 2 → ⊥) → (a b : A) → xs ≡ a ∷ b ∷ [] → ⊥
  not_two xs n a b e = n (ap length e)

  pub not_three : (xs : List A) → (length xs ≡ 3 → ⊥) → (a b c : A) → xs ≡ a ∷ b ∷ c ∷ [] → ⊥
  not_three xs n a b c e = n (ap length e)
