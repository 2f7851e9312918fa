-- Lists that are mapped.
use Rattle.std.proofs.Common.{◌≡◌, ◌<◌, ℕ, ◌+◌, List, [], ◌∷◌, ◌++◌, map, take, drop, length, get_or, refl, sym, ap, ◌∙◌, subst, append_assoc, Result, Ok, Err}
use Rattle.std.specs.List.{AllZip}
use Rattle.std.proofs.lemmas.List.{take_more, drop_more, take-append-drop}
use Rattle.jz_data.specs.Maps.{Maps, FailsFirst}
use Rattle.std.proofs.lemmas.List.{append-nil, nil_from_length}

pub AllZip-more : {A B : Type 0} (R : A → B → Type 0) (xs : List A) (ys : List B) (x : A) (y : B)
    → AllZip R xs ys → R x y → AllZip R (xs ++ x ∷ []) (ys ++ y ∷ [])
AllZip-more R [] [] x y h one = (one, tt)
AllZip-more R [] (w ∷ ws) x y h one = absurd h
AllZip-more R (v ∷ vs) [] x y h one = absurd h
AllZip-more R (v ∷ vs) (w ∷ ws) x y h one = (h.0, AllZip-more R vs ws x y h.1 one)

pub AllZip-image : {A B : Type 0} (R : A → B → Type 0) (g : A → B) → ((x : A) (y : B) → R x y → y ≡ g x)
    → (xs : List A) (ys : List B) → AllZip R xs ys → ys ≡ map g xs
AllZip-image R g is [] [] h = refl
AllZip-image R g is [] (w ∷ ws) h = absurd h
AllZip-image R g is (v ∷ vs) [] h = absurd h
AllZip-image R g is (v ∷ vs) (w ∷ ws) h = ap (λ z. z ∷ ws) (is v w h.0) ∙ ap (λ zs. g v ∷ zs) (AllZip-image R g is vs ws h.1)

module _ {A B E : Type 0} (R : A → Result B E → Type 0) (xs : List A) (i : ℕ) (ys : List B) (x : A) where
  -- a turn of the loop
  pub one_more : (y : B) → i < length xs → x ≡ get_or xs i x → Maps R (take i xs) ys → R x (Ok y) → Maps R (take (i + 1) xs) (ys ++ y ∷ [])
  one_more y lt is so one =
      let more : take (i + 1) xs ≡ take i xs ++ x ∷ [] = take_more xs i x lt ∙ ap (λ z. take i xs ++ z ∷ []) (sym is) in
      subst (λ zs. Maps R zs (ys ++ y ∷ [])) (sym more) (AllZip-more (λ v w. R v (Ok w)) (take i xs) ys x y so one)

  -- and its end at a failure
  pub failed : (e : E) → i < length xs → x ≡ get_or xs i x → Maps R (take i xs) ys → R x (Err e) → FailsFirst R xs e
  failed e lt is so one = record {
    before = take i xs;
    values = ys;
    item = x;
    after = drop (i + 1) xs;
    parts = sym (take-append-drop i xs) ∙ ap (λ z. take i xs ++ z) (drop_more xs i x lt ∙ ap (λ z. z ∷ drop (i + 1) xs) (sym is));
    maps = so;
    fails = one;
  }

module _ {A B E : Type 0} (R : A → Result B E → Type 0) where
  -- the same, where the list is what came and then what is left
  pub next_one : (came left xs : List A) (x : A) (ys : List B) (y : B)
      → came ++ x ∷ left ≡ xs → Maps R came ys → R x (Ok y) → Maps R (came ++ x ∷ []) (ys ++ y ∷ []) × (came ++ x ∷ [] ++ left ≡ xs)
  next_one came left xs x ys y is so one = (AllZip-more (λ v w. R v (Ok w)) came ys x y so one, append_assoc came (x ∷ []) left ∙ is)

  pub fails_next : (came left xs : List A) (x : A) (ys : List B) (e : E)
      → came ++ x ∷ left ≡ xs → Maps R came ys → R x (Err e) → FailsFirst R xs e
  fails_next came left xs x ys e is so one = record { before = came; values = ys; item = x; after = left; parts = sym is; maps = so; fails = one }

  pub image_of : (xs : List A) (ys : List B) → Maps R xs ys → (g : A → B) → ((x : A) (y : B) → R x (Ok y) → y ≡ g x) → ys ≡ map g xs
  image_of xs ys so g is = AllZip-image (λ x y. R x (Ok y)) g is xs ys so

pub no_more : {A : Type 0} (came left xs : List A) → came ++ left ≡ xs → length left ≡ 0 → came ≡ xs
no_more came left xs is none = sym (append-nil came) ∙ ap (λ l. came ++ l) (sym (nil_from_length left none)) ∙ is
