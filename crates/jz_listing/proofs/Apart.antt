-- Texts that are told apart: what two of them, with something behind each, have in common.
use Rattle.std.proofs.Common.{◌≡◌, ℕ, suc, ◌<◌, ◌^◌, Bool, true, false, List, [], ◌∷◌, ◌++◌, refl, sym, ap, ◌∙◌, append_assoc, arith, length, subst}
use Rattle.std.specs.Prelude.{map, decimal, nat_lt, ℤ, pos, negsuc, All}
use Rattle.std.specs.Fmt.{signed_decimal}
use Rattle.std.specs.List.{concat, list_all}
use Rattle.std.specs.Char.{digit_value}
use Rattle.std.specs.Str.Parse.{AllDigits}
use Rattle.std.proofs.lemmas.Fmt.{decimal_is_IsNumeral, decimal_injective}
use Rattle.std.proofs.lemmas.Bool.{and_parts, and_from, lt-ltb, ltb-true}
use Rattle.std.proofs.lemmas.List.Elements.{All-head, All-tail}
use Rattle.jz_listing.specs.Listable.{offset_fits}
use Rattle.jz_listing.specs.Transformers.{spaced_pieces}

-- ---- the first byte, and the others
abbrev pub first : List ℕ → ℕ
first [] = 0
first (c ∷ cs) = c

abbrev pub rest : List ℕ → List ℕ
rest [] = []
rest (c ∷ cs) = cs

-- the same front is taken away
pub without_front : (p x y : List ℕ) → p ++ x ≡ p ++ y → x ≡ y
without_front [] x y e = e
without_front (c ∷ p) x y e = without_front p x y (ap rest e)

no_longer : (P : ℕ → Bool) (c d : ℕ) → P c ≡ true → P d ≡ false → c ≡ d → ⊥
no_longer P c d h k e = cc

-- two texts of an alphabet, each with something behind it that begins otherwise
pub spans : (P : ℕ → Bool) (us vs x y : List ℕ) → list_all P us ≡ true → list_all P vs ≡ true → P (first x) ≡ false → P (first y) ≡ false → us ++ x ≡ vs ++ y → (us ≡ vs) × (x ≡ y)
spans P [] [] x y h k p q e = (refl, e)
spans P [] (v ∷ vs) x y h k p q e = absurd (no_longer P v (first x) (and_parts _ _ k).0 p (sym (ap first e)))
spans P (u ∷ us) [] x y h k p q e = absurd (no_longer P u (first y) (and_parts _ _ h).0 q (ap first e))
spans P (u ∷ us) (v ∷ vs) x y h k p q e =
    let more = spans P us vs x y (and_parts _ _ h).1 (and_parts _ _ k).1 p q (ap rest e) in
    (ap (λ c. c ∷ us) (ap first e) ∙ ap (λ cs. v ∷ cs) more.0, more.1)

-- ---- numbers
abbrev pub is_digit : ℕ → Bool
is_digit c = nat_lt (digit_value c) 10

all_digits : (ds : List ℕ) → AllDigits 10 ds → list_all is_digit ds ≡ true
all_digits [] h = refl
all_digits (c ∷ cs) h = and_from _ _ (lt-ltb (digit_value c) 10 h.0) (all_digits cs h.1)

pub decimal_apart : (m n : ℕ) (x y : List ℕ) → m < 2 ^ 64 → n < 2 ^ 64 → is_digit (first x) ≡ false → is_digit (first y) ≡ false
    → decimal m ++ x ≡ decimal n ++ y → (m ≡ n) × (x ≡ y)
decimal_apart m n x y h k p q e =
    let both = spans is_digit (decimal m) (decimal n) x y (all_digits (decimal m) (decimal_is_IsNumeral m h).0.1) (all_digits (decimal n) (decimal_is_IsNumeral n k).0.1) p q e in
    (decimal_injective m n h k both.0, both.1)

-- the first byte of a number is a digit
pub digit_first : (n : ℕ) (x : List ℕ) → n < 2 ^ 64 → is_digit (first (decimal n ++ x)) ≡ true
digit_first n x h =
    let numeral = (decimal_is_IsNumeral n h).0 in
    of_digits (decimal n) x numeral.0 (all_digits (decimal n) numeral.1)
  where
    of_digits : (ds x : List ℕ) → 0 < length ds → list_all is_digit ds ≡ true → is_digit (first (ds ++ x)) ≡ true
    of_digits [] x h k = absurd (omega (arith, h))
    of_digits (d ∷ ds) x h k = (and_parts _ _ k).0

-- no number begins with this byte
pub not_first : (n c : ℕ) (x y : List ℕ) → n < 2 ^ 64 → is_digit c ≡ false → decimal n ++ x ≡ c ∷ y → ⊥
not_first n c x y h k e = no_longer is_digit (first (decimal n ++ x)) c (digit_first n x h) k (ap first e)

pub signed_apart : (o p : ℤ) (x y : List ℕ) → offset_fits o ≡ true → offset_fits p ≡ true → is_digit (first x) ≡ false → is_digit (first y) ≡ false
    → signed_decimal o ++ x ≡ signed_decimal p ++ y → (o ≡ p) × (x ≡ y)
signed_apart (pos m) (pos n) x y h k p q e =
    let b = decimal_apart m n x y (omega (arith, ltb-true m (2 ^ 63) h)) (omega (arith, ltb-true n (2 ^ 63) k)) p q e in (ap pos b.0, b.1)
signed_apart (pos m) (negsuc n) x y h k p q e = absurd (not_first m 45 x _ (omega (arith, ltb-true m (2 ^ 63) h)) refl e)
signed_apart (negsuc m) (pos n) x y h k p q e = absurd (not_first n 45 y _ (omega (arith, ltb-true n (2 ^ 63) k)) refl (sym e))
signed_apart (negsuc m) (negsuc n) x y h k p q e =
    let b = decimal_apart (suc m) (suc n) x y (omega (arith, ltb-true m (2 ^ 63) h)) (omega (arith, ltb-true n (2 ^ 63) k)) p q (ap rest e) in
    let same : m ≡ n = omega (arith, b.0) in (ap negsuc same, b.1)

-- ---- lists of pieces
-- pieces with a space between them, up to a byte that ends them; each piece on the left is told apart from all others
pub spaced_apart : {P A : Type 0} (f : P → A) (t : A → List ℕ) (fits : A → Bool) (Ends : ℕ → Type 0) (end : ℕ) → Ends 32 → Ends end → (end ≡ 32 → ⊥)
    → ((p : P) (b : A) (x y : List ℕ) → fits (f p) ≡ true → fits b ≡ true → Ends (first x) → Ends (first y) → t (f p) ++ x ≡ t b ++ y → (f p ≡ b) × (x ≡ y))
    → ((a : A) (x : List ℕ) → fits a ≡ true → first (t a ++ x) ≡ end → ⊥)
    → (ps : List P) (bs : List A) (x y : List ℕ) → list_all fits (map f ps) ≡ true → list_all fits bs ≡ true
    → spaced_pieces (map t (map f ps)) ++ (end ∷ x) ≡ spaced_pieces (map t bs) ++ (end ∷ y) → (map f ps ≡ bs) × (x ≡ y)
spaced_apart f t fits Ends end sp en ne one begins [] [] x y h k e = (refl, ap rest e)
spaced_apart f t fits Ends end sp en ne one begins [] (b ∷ []) x y h k e = absurd (begins b (end ∷ y) (and_parts _ _ k).0 (sym (ap first e)))
spaced_apart f t fits Ends end sp en ne one begins [] (b ∷ (d ∷ bs)) x y h k e =
    absurd (begins b (32 ∷ (spaced_pieces (map t (d ∷ bs)) ++ (end ∷ y))) (and_parts _ _ k).0 (sym (ap first (e ∙ append_assoc (t b) (32 ∷ spaced_pieces (map t (d ∷ bs))) (end ∷ y)))))
spaced_apart f t fits Ends end sp en ne one begins (p ∷ []) [] x y h k e = absurd (begins (f p) (end ∷ x) (and_parts _ _ h).0 (ap first e))
spaced_apart f t fits Ends end sp en ne one begins (p ∷ (q ∷ ps)) [] x y h k e =
    absurd (begins (f p) (32 ∷ (spaced_pieces (map t (map f (q ∷ ps))) ++ (end ∷ x))) (and_parts _ _ h).0 (ap first (sym (append_assoc (t (f p)) (32 ∷ spaced_pieces (map t (map f (q ∷ ps)))) (end ∷ x)) ∙ e)))
spaced_apart f t fits Ends end sp en ne one begins (p ∷ []) (b ∷ []) x y h k e =
    let r = one p b (end ∷ x) (end ∷ y) (and_parts _ _ h).0 (and_parts _ _ k).0 en en e in (ap (λ a. a ∷ []) r.0, ap rest r.1)
spaced_apart f t fits Ends end sp en ne one begins (p ∷ []) (b ∷ (d ∷ bs)) x y h k e =
    let r = one p b (end ∷ x) (32 ∷ (spaced_pieces (map t (d ∷ bs)) ++ (end ∷ y))) (and_parts _ _ h).0 (and_parts _ _ k).0 en sp (e ∙ append_assoc (t b) (32 ∷ spaced_pieces (map t (d ∷ bs))) (end ∷ y)) in
    absurd (ne (ap first r.1))
spaced_apart f t fits Ends end sp en ne one begins (p ∷ (q ∷ ps)) (b ∷ []) x y h k e =
    let r = one p b (32 ∷ (spaced_pieces (map t (map f (q ∷ ps))) ++ (end ∷ x))) (end ∷ y) (and_parts _ _ h).0 (and_parts _ _ k).0 sp en (sym (append_assoc (t (f p)) (32 ∷ spaced_pieces (map t (map f (q ∷ ps)))) (end ∷ x)) ∙ e) in
    absurd (ne (sym (ap first r.1)))
spaced_apart f t fits Ends end sp en ne one begins (p ∷ (q ∷ ps)) (b ∷ (d ∷ bs)) x y h k e =
    let r = one p b (32 ∷ (spaced_pieces (map t (map f (q ∷ ps))) ++ (end ∷ x))) (32 ∷ (spaced_pieces (map t (d ∷ bs)) ++ (end ∷ y))) (and_parts _ _ h).0 (and_parts _ _ k).0 sp sp
    (sym (append_assoc (t (f p)) (32 ∷ spaced_pieces (map t (map f (q ∷ ps)))) (end ∷ x)) ∙ e ∙ append_assoc (t b) (32 ∷ spaced_pieces (map t (d ∷ bs))) (end ∷ y)) in
    let more = spaced_apart f t fits Ends end sp en ne one begins (q ∷ ps) (d ∷ bs) x y (and_parts _ _ h).1 (and_parts _ _ k).1 (ap rest r.1) in
    (ap (λ a. a ∷ map f (q ∷ ps)) r.0 ∙ ap (λ zs. b ∷ zs) more.0, more.1)

-- lines that begin with a byte, up to something that begins otherwise
lines_first : {A : Type 0} (t : A → List ℕ) (tag : ℕ) (Ends : ℕ → Type 0) → ((a : A) (x : List ℕ) → first (t a ++ x) ≡ tag) → Ends tag
    → (us : List A) (x : List ℕ) → Ends (first x) → Ends (first (concat (map t us) ++ x))
lines_first t tag Ends begins h [] x k = k
lines_first t tag Ends begins h (u ∷ us) x k =
    subst Ends (sym (ap first (append_assoc (t u) (concat (map t us)) x) ∙ begins u (concat (map t us) ++ x))) h

pub lines_apart : {A : Type 0} (Good : A → Type 0) (t : A → List ℕ) (tag : ℕ) (Ends : ℕ → Type 0) → ((a : A) (x : List ℕ) → first (t a ++ x) ≡ tag) → Ends tag
    → ((a b : A) (x y : List ℕ) → Good a → Good b → Ends (first x) → Ends (first y) → t a ++ x ≡ t b ++ y → (a ≡ b) × (x ≡ y))
    → (us vs : List A) (x y : List ℕ) → All Good us → All Good vs → Ends (first x) → Ends (first y) → (first x ≡ tag → ⊥) → (first y ≡ tag → ⊥)
    → concat (map t us) ++ x ≡ concat (map t vs) ++ y → (us ≡ vs) × (x ≡ y)
lines_apart Good t tag Ends begins m one [] [] x y h k f g p q e = (refl, e)
lines_apart Good t tag Ends begins m one [] (v ∷ vs) x y h k f g p q e =
    absurd (p (ap first (e ∙ append_assoc (t v) (concat (map t vs)) y) ∙ begins v (concat (map t vs) ++ y)))
lines_apart Good t tag Ends begins m one (u ∷ us) [] x y h k f g p q e =
    absurd (q (sym (ap first (sym (append_assoc (t u) (concat (map t us)) x) ∙ e)) ∙ begins u (concat (map t us) ++ x)))
lines_apart Good t tag Ends begins m one (u ∷ us) (v ∷ vs) x y h k f g p q e =
    let r = one u v (concat (map t us) ++ x) (concat (map t vs) ++ y) (All-head Good u us h) (All-head Good v vs k) (lines_first t tag Ends begins m us x f) (lines_first t tag Ends begins m vs y g)
    (sym (append_assoc (t u) (concat (map t us)) x) ∙ e ∙ append_assoc (t v) (concat (map t vs)) y) in
    let more = lines_apart Good t tag Ends begins m one us vs x y (All-tail Good u us h) (All-tail Good v vs k) f g p q r.1 in
    (ap (λ a. a ∷ us) r.0 ∙ ap (λ zs. v ∷ zs) more.0, more.1)
