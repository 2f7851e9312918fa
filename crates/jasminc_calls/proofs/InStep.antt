-- Two lists in step, from a place on.
use Rattle.std.proofs.Common.{◌≡◌, ℕ, ◌+◌, ◌<◌, ◌≤◌, List, [], ◌∷◌, ◌++◌, length, drop, get_or, map, Some, None, refl, sym, ap, ◌∙◌, append-nil, append_assoc}
use Rattle.std.specs.Prelude.{slice_get}
use Rattle.std.specs.List.{concat, zip}
use Rattle.std.proofs.lemmas.List.{drop_all}
use Rattle.jz_run_assign.proofs.RestLemmas.{rest_at, rest_some, rest_none}

zip_none : {X Z : Type 0} (xs : List X) (zs : List Z) → zs ≡ [] → zip xs zs ≡ []
zip_none [] zs e = refl
zip_none (x ∷ xs) [] e = refl
zip_none (x ∷ xs) (z ∷ zs) e = cc

-- ---- one more of both, or no more of one
module _ {X Y : Type 0} (xs : List X) (ys : List Y) (i : ℕ) where
  pub pair_more : (x : X) (y : Y) → i < length xs → x ≡ get_or xs i x → slice_get ys i ≡ Some y
      → zip (drop i xs) (drop i ys) ≡ (x, y) ∷ zip (drop (i + 1) xs) (drop (i + 1) ys)
  pair_more x y lt ix iy =
      ap (λ l. zip l (drop i ys)) (rest_at xs i x lt ix) ∙ ap (λ l. zip (x ∷ drop (i + 1) xs) l) (rest_some ys i y iy)

  pub pair_ended : slice_get ys i ≡ None → zip (drop i xs) (drop i ys) ≡ []
  pair_ended e = zip_none (drop i xs) (drop i ys) (rest_none ys i e)

  pub pair_over : length xs ≤ i → zip (drop i xs) (drop i ys) ≡ []
  pair_over le = ap (λ l. zip l (drop i ys)) (drop_all i xs le)

-- the same, the second list seen by a function
module _ {X Y Z : Type 0} (v : Y → Z) (xs : List X) (ys : List Y) (i : ℕ) where
  pub zip_more : (x : X) (y : Y) → i < length xs → x ≡ get_or xs i x → slice_get ys i ≡ Some y
      → zip (drop i xs) (map v (drop i ys)) ≡ (x, v y) ∷ zip (drop (i + 1) xs) (map v (drop (i + 1) ys))
  zip_more x y lt ix iy =
      ap (λ l. zip l (map v (drop i ys))) (rest_at xs i x lt ix) ∙ ap (λ l. zip (x ∷ drop (i + 1) xs) (map v l)) (rest_some ys i y iy)

  pub zip_ended : slice_get ys i ≡ None → zip (drop i xs) (map v (drop i ys)) ≡ []
  zip_ended e = zip_none (drop i xs) (map v (drop i ys)) (ap (map v) (rest_none ys i e))

  pub zip_over : length xs ≤ i → zip (drop i xs) (map v (drop i ys)) ≡ []
  zip_over le = ap (λ l. zip l (map v (drop i ys))) (drop_all i xs le)

-- ---- what is made of them
-- a text with one more line
pub lined : {P : Type 0} (line : P → List ℕ) (before after whole : List ℕ) (p : P) (ps rest : List P) → ps ≡ p ∷ rest
    → before ++ concat (map line ps) ≡ whole → after ≡ before ++ line p → after ++ concat (map line rest) ≡ whole
lined line before after whole p ps rest e so is =
    ap (λ t. t ++ concat (map line rest)) is ∙ append_assoc before (line p) (concat (map line rest)) ∙ sym (ap (λ l. before ++ concat (map line l)) e) ∙ so

pub lines_end : {P : Type 0} (line : P → List ℕ) (before whole : List ℕ) (ps : List P) → ps ≡ [] → before ++ concat (map line ps) ≡ whole → before ≡ whole
lines_end line before whole ps e so = sym (ap (λ l. before ++ concat (map line l)) e ∙ append-nil before) ∙ so

-- a list with one more value
pub pushed : {P V : Type 0} (g : P → V) (before after whole : List V) (p : P) (ps rest : List P) → ps ≡ p ∷ rest
    → before ++ map g ps ≡ whole → after ≡ before ++ g p ∷ [] → after ++ map g rest ≡ whole
pushed g before after whole p ps rest e so is =
    ap (λ t. t ++ map g rest) is ∙ append_assoc before (g p ∷ []) (map g rest) ∙ sym (ap (λ l. before ++ map g l) e) ∙ so

pub values_end : {P V : Type 0} (g : P → V) (before whole : List V) (ps : List P) → ps ≡ [] → before ++ map g ps ≡ whole → before ≡ whole
values_end g before whole ps e so = sym (ap (λ l. before ++ map g l) e ∙ append-nil before) ∙ so
