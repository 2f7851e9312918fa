-- Two lists in step, as far as a loop has come: whether each pair of them is related.
use Rattle.std.proofs.Common.{◌≡◌, ℕ, suc, ◌+◌, ◌<◌, ◌≤◌, List, [], ◌∷◌, length, drop, get_or, Bool, true, false, Some, None, refl, sym, ap, arith, rules, subst, length-drop}
use Rattle.std.specs.Prelude.{◌↔◌, map, slice_get}
use Rattle.std.specs.List.{AllZip}
use Rattle.std.proofs.lemmas.List.{drop_all}
use Rattle.jz_run_assign.proofs.RestLemmas.{rest_at, rest_some, rest_none}

module _ {X Y Z : Type 0} (R : X → Z → Type 0) (v : Y → Z) (xs : List X) (ys : List Y) (i : ℕ)
    (so : AllZip R (drop i xs) (map v (drop i ys)) ↔ AllZip R xs (map v ys)) where
  taken : (x : X) (y : Y) → i < length xs → x ≡ get_or xs i x → slice_get ys i ≡ Some y
      → AllZip R (drop i xs) (map v (drop i ys)) → R x (v y) × AllZip R (drop (i + 1) xs) (map v (drop (i + 1) ys))
  taken x y lt ix iy p =
      subst (λ l. AllZip R (x ∷ drop (i + 1) xs) (map v l)) (rest_some ys i y iy) (subst (λ l. AllZip R l (map v (drop i ys))) (rest_at xs i x lt ix) p)

  given : (x : X) (y : Y) → i < length xs → x ≡ get_or xs i x → slice_get ys i ≡ Some y
      → R x (v y) × AllZip R (drop (i + 1) xs) (map v (drop (i + 1) ys)) → AllZip R (drop i xs) (map v (drop i ys))
  given x y lt ix iy p =
      subst (λ l. AllZip R l (map v (drop i ys))) (sym (rest_at xs i x lt ix)) (subst (λ l. AllZip R (x ∷ drop (i + 1) xs) (map v l)) (sym (rest_some ys i y iy)) p)

  pub one_more : (x : X) (y : Y) → i < length xs → x ≡ get_or xs i x → slice_get ys i ≡ Some y → R x (v y)
      → AllZip R (drop (i + 1) xs) (map v (drop (i + 1) ys)) ↔ AllZip R xs (map v ys)
  one_more x y lt ix iy r = ((λ p. so.0 (given x y lt ix iy (r, p))), (λ p. (taken x y lt ix iy (so.1 p)).1))

  pub not_one : (x : X) (y : Y) → i < length xs → x ≡ get_or xs i x → slice_get ys i ≡ Some y → (R x (v y) → ⊥) → AllZip R xs (map v ys) → ⊥
  not_one x y lt ix iy apart p = apart (taken x y lt ix iy (so.1 p)).0

  pub all_of : length xs ≤ i → length ys ≡ length xs → AllZip R xs (map v ys)
  all_of le same =
      so.0 (subst (λ l. AllZip R l (map v (drop i ys))) (sym (drop_all i xs le)) (subst (λ l. AllZip R [] (map v l)) (sym (drop_all i ys (omega (arith, le, same)))) (search rules)))

pub lengths_agree : {X Y Z : Type 0} (R : X → Z → Type 0) (v : Y → Z) (xs : List X) (ys : List Y) → AllZip R xs (map v ys) → length xs ≡ length ys
lengths_agree R v [] [] p = refl
lengths_agree R v [] (y ∷ ys) p = absurd p
lengths_agree R v (x ∷ xs) [] p = absurd p
lengths_agree R v (x ∷ xs) (y ∷ ys) p = ap suc (lengths_agree R v xs ys p.1)

-- an answer is not both
pub clash : {A : Type 0} (b : Bool) → b ≡ false → b ≡ true → A
clash false p q = absurd cc
clash true p q = absurd cc

pub never_none : {X Y : Type 0} (xs : List X) (ys : List Y) (i : ℕ) → i < length xs → length xs ≡ length ys → slice_get ys i ≡ None → ⊥
never_none xs ys i lt same e = let none : length (drop i ys) ≡ 0 = ap length (rest_none ys i e) in absurd (omega (arith, length-drop i ys, none, lt, same))
