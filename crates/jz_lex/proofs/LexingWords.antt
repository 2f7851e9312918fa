-- The lexeme found at the front of a text is the longest.
use Rattle.std.proofs.Common.{◌≡◌, ◌⊎◌, inl, inr, ⊎_elim, if◌then◌else◌, ℕ, zero, suc, ◌+◌, ◌<◌, ◌≤◌, List, [], ◌∷◌, ◌++◌, length, take, drop, Bool, true, false, not, ◌&&◌, ◌||◌, ◌==◌, nat_le, nat_lt, Option, Some, None, refl, sym, ap, ap₂, ◌∙◌, subst, arith, length-append}
use Rattle.std.specs.List.{list_all, take_while}
use Rattle.std.proofs.lemmas.List.Sums.{take_while-cons}
use Rattle.std.specs.Str.{IsAscii}
use Rattle.std.specs.Str.{bytes_eq}
use Rattle.std.proofs.lemmas.Slice.Eq.{bytes_eq-Decides}
use Rattle.std.proofs.lemmas.Bool.{and_parts, or_left, or_right}
use Rattle.jz_lex.specs.LexingWords.{casts, signs, suffixed_signs, is_among, begins, heads, begins_word, in_word, is_digit, in_decimal, is_hex_digit, in_hexadecimal, is_word, is_decimal, is_hexadecimal, is_numeral, in_string, inner, is_string, is_sign, is_lexeme}
use Rattle.jz_lex.specs.Lexing.{is_blank, Longest}
use Rattle.jz_lex.specs.InnerFront.{fits, first_of, longer, sign_of, numeral_length}

-- ---- tests
pub by_cases : (P : Type 0) (b : Bool) → (b ≡ true → P) → (b ≡ false → P) → P
by_cases P true f g = f refl
by_cases P false f g = g refl

pub true_false : (b : Bool) (P : Type 0) → b ≡ true → b ≡ false → P
true_false b P h k = cc

pub if_true : {A : Type 0} (b : Bool) (x y : A) → b ≡ true → (if b then x else y) ≡ x
if_true b x y h = rw h refl

pub if_false : {A : Type 0} (b : Bool) (x y : A) → b ≡ false → (if b then x else y) ≡ y
if_false b x y h = rw h refl

pub or_true : (a b : Bool) → (a || b) ≡ true → (a ≡ true) ⊎ (b ≡ true)
or_true true b h = inl refl
or_true false b h = inr h

pub eq_is : (a b : ℕ) → (a == b) ≡ true → a ≡ b
eq_is a b h = grind arith

eq_self : (a : ℕ) → (a == a) ≡ true
eq_self a = grind arith

pub le_is : (a b : ℕ) → nat_le a b ≡ true → a ≤ b
le_is a b h = grind arith

-- ---- words at the front
pub same_is : (a b : List ℕ) → bytes_eq a b ≡ true → a ≡ b
same_is a b = (bytes_eq-Decides a b).0

pub same_self : (s : List ℕ) → bytes_eq s s ≡ true
same_self s = (bytes_eq-Decides s s).1 refl

pub begins_split : (w text : List ℕ) → begins w text ≡ true → text ≡ w ++ drop (length w) text
begins_split [] text h = refl
begins_split (a ∷ w) [] h = cc
begins_split (a ∷ w) (b ∷ bs) h = let p = and_parts (a == b) (begins w bs) h in ap₂ (λ x ys. x ∷ ys) (sym (eq_is a b p.0)) (begins_split w bs p.1)

pub begins_self : (w rest : List ℕ) → begins w (w ++ rest) ≡ true
begins_self [] rest = refl
begins_self (a ∷ w) rest = rw (eq_self a) (begins_self w rest)

pub drop_self : (w rest : List ℕ) → drop (length w) (w ++ rest) ≡ rest
drop_self [] rest = refl
drop_self (a ∷ w) rest = drop_self w rest

-- the same rest, cut after as many bytes
pub cut : (w v more rest : List ℕ) → w ++ more ≡ v ++ rest → length w ≡ length v → (w ≡ v) × (more ≡ rest)
cut [] [] more rest h e = (refl, h)
cut [] (b ∷ v) more rest h e = absurd (omega (arith, e))
cut (a ∷ w) [] more rest h e = absurd (omega (arith, e))
cut (a ∷ w) (b ∷ v) more rest h e =
    let x : a ≡ b = cc in
    let t : w ++ more ≡ v ++ rest = cc in
    let i = cut w v more rest t (omega (arith, e)) in
    (ap₂ (λ y ys. y ∷ ys) x i.0, i.1)

-- what is not longer is a beginning of the other
pub beginning : (w v more rest : List ℕ) → w ++ more ≡ v ++ rest → length w ≤ length v → (z : List ℕ) × (v ≡ w ++ z) × (more ≡ z ++ rest)
beginning [] v more rest h e = (v, refl, h)
beginning (a ∷ w) [] more rest h e = absurd (omega (arith, e))
beginning (a ∷ w) (b ∷ v) more rest h e =
    let x : b ≡ a = cc in
    let t : w ++ more ≡ v ++ rest = cc in
    let i = beginning w v more rest t (omega (arith, e)) in
    (i.0, ap₂ (λ y ys. y ∷ ys) x i.1, i.2)

-- ---- tables of words
pub entry_in : (test : List ℕ → Bool) (ws : List (List ℕ)) (v : List ℕ) → list_all test ws ≡ true → is_among ws v ≡ true → test v ≡ true
entry_in test [] v a h = cc
entry_in test (w ∷ ws) v a h =
    let p = and_parts (test w) (list_all test ws) a in
    ⊎_elim
    (λ j. subst (λ z. test z ≡ true) (same_is w v j) p.0)
    (λ j. entry_in test ws v p.1 j)
    (or_true (bytes_eq w v) (is_among ws v) h)

-- w is none of these words
abbrev pub IsNone : List (List ℕ) → List ℕ → Type 0
IsNone [] w = Unit {0}
IsNone (v ∷ vs) w = (w ≡ v → ⊥) × IsNone vs w

pub none_among : (ws : List (List ℕ)) (w : List ℕ) → IsNone ws w → is_among ws w ≡ false
none_among [] w h = refl
none_among (v ∷ vs) w h = by_cases _ (bytes_eq v w)
    (λ e. absurd (h.0 (sym (same_is v w e))))
    (λ e. rw e (none_among vs w h.1))

abbrev pub falling : List (List ℕ) → Bool
falling [] = true
falling (w ∷ ws) = list_all (λ v. nat_le (length v) (length w)) ws && falling ws

-- what follows does not go on with the word, where the words are to stand apart
abbrev pub stands_apart : Bool → List ℕ → Bool
stands_apart apart more = not (apart && heads in_word more)

fits_parts : (apart : Bool) (w text : List ℕ) → fits apart w text ≡ true → (begins w text ≡ true) × (stands_apart apart (drop (length w) text) ≡ true)
fits_parts apart w text h = and_parts (begins w text) (stands_apart apart (drop (length w) text)) h

fits_self : (apart : Bool) (w more : List ℕ) → stands_apart apart more ≡ true → fits apart w (w ++ more) ≡ true
fits_self apart w more h = rw (begins_self w more) (ap (λ z. stands_apart apart z) (drop_self w more) ∙ h)

-- the first word found stands there
pub first_stands : (apart : Bool) (ws : List (List ℕ)) (text w : List ℕ) → first_of apart ws text ≡ Some w → (rest : List ℕ) × (text ≡ w ++ rest) × (is_among ws w ≡ true) × (stands_apart apart rest ≡ true)
first_stands apart [] text w h = cc
first_stands apart (s ∷ ss) text w h = by_cases _ (fits apart s text)
    (λ e. let f : ◌≡◌ {A = Option (List ℕ)} (Some s) (Some w) = sym (if_true (fits apart s text) (Some s) (first_of apart ss text) e) ∙ h in
    let g : s ≡ w = cc in
    let p = fits_parts apart s text e in
    subst (λ z. (rest : List ℕ) × (text ≡ z ++ rest) × (is_among (s ∷ ss) z ≡ true) × (stands_apart apart rest ≡ true)) g
    (drop (length s) text, begins_split s text p.0, or_left _ _ (same_self s), p.1))
    (λ e. let q = first_stands apart ss text w (sym (if_false (fits apart s text) (Some s) (first_of apart ss text) e) ∙ h) in
    (q.0, q.1, or_right (bytes_eq s w) (is_among ss w) q.2, q.3))

-- and none that stands there is longer
pub first_longest : (apart : Bool) (ws : List (List ℕ)) (text v more : List ℕ) → falling ws ≡ true → v ++ more ≡ text → is_among ws v ≡ true → stands_apart apart more ≡ true → (w : List ℕ) × (first_of apart ws text ≡ Some w) × (length v ≤ length w)
first_longest apart [] text v more f e h a = cc
first_longest apart (s ∷ ss) text v more f e h a =
    let p = and_parts (list_all (λ u. nat_le (length u) (length s)) ss) (falling ss) f in
    ⊎_elim
    (λ j.
    let same : s ≡ v = same_is s v j in
    let t : text ≡ s ++ more = sym e ∙ ap (λ z. z ++ more) (sym same) in
    let fit : fits apart s text ≡ true = ap (fits apart s) t ∙ fits_self apart s more a in
    (s, if_true (fits apart s text) _ _ fit, omega (arith, ap length same)))
    (λ j. by_cases _ (fits apart s text)
    (λ c. (s, if_true (fits apart s text) _ _ c, le_is (length v) (length s) (entry_in (λ u. nat_le (length u) (length s)) ss v p.0 j)))
    (λ c. let i = first_longest apart ss text v more p.1 e j a in (i.0, if_false (fits apart s text) _ _ c ∙ i.1, i.2)))
    (or_true (bytes_eq s v) (is_among ss v) h)

same_some : (a b : List ℕ) → ◌≡◌ {A = Option (List ℕ)} (Some a) (Some b) → a ≡ b
same_some a b h = cc

some_none : (a : List ℕ) → ◌≡◌ {A = Option (List ℕ)} (Some a) None → ⊥
some_none a h = cc

-- one found is the longest, and where none is found, none stands
found_longest : (apart : Bool) (ws : List (List ℕ)) (text w : List ℕ) → falling ws ≡ true → first_of apart ws text ≡ Some w → (v more : List ℕ) → v ++ more ≡ text → is_among ws v ≡ true → stands_apart apart more ≡ true → length v ≤ length w
found_longest apart ws text w f e v more h i a =
    let j = first_longest apart ws text v more f h i a in
    subst (λ z. length v ≤ length z) (same_some j.0 w (sym j.1 ∙ e)) j.2

none_found : (apart : Bool) (ws : List (List ℕ)) (text : List ℕ) → falling ws ≡ true → first_of apart ws text ≡ None → (v more : List ℕ) → v ++ more ≡ text → is_among ws v ≡ true → stands_apart apart more ≡ true → ⊥
none_found apart ws text f e v more h i a =
    let j = first_longest apart ws text v more f h i a in
    some_none j.0 (sym j.1 ∙ e)

-- ---- runs of bytes
-- what stands behind the bytes from the front that pass
unfoldable pub behind : (ℕ → Bool) → List ℕ → List ℕ
behind test [] = []
behind test (b ∷ bs) = if test b then behind test bs else b ∷ bs

pub while_true : (test : ℕ → Bool) (b : ℕ) (bs : List ℕ) → test b ≡ true → take_while test (b ∷ bs) ≡ b ∷ take_while test bs
while_true test b bs h = take_while-cons test b bs ∙ rw h refl

while_false : (test : ℕ → Bool) (b : ℕ) (bs : List ℕ) → test b ≡ false → take_while test (b ∷ bs) ≡ []
while_false test b bs h = take_while-cons test b bs ∙ rw h refl

pub run : (test : ℕ → Bool) (bs : List ℕ) → (bs ≡ take_while test bs ++ behind test bs) × (list_all test (take_while test bs) ≡ true)
unfolding behind
run test [] = (refl, refl)
run test (b ∷ bs) = by_cases _ (test b)
    (λ e. let i = run test bs in let w = while_true test b bs e in (
      subst (λ z. b ∷ bs ≡ z ++ behind test (b ∷ bs)) (sym w) (rw e (ap (λ z. b ∷ z) i.0)),
      subst (λ z. list_all test z ≡ true) (sym w) (rw e i.1),
    ))
    (λ e. let w = while_false test b bs e in
    (subst (λ z. b ∷ bs ≡ z ++ behind test (b ∷ bs)) (sym w) (rw e refl), subst (λ z. list_all test z ≡ true) (sym w) refl))

pub run_longest : (test : ℕ → Bool) (vs more bs : List ℕ) → vs ++ more ≡ bs → list_all test vs ≡ true → length vs ≤ length (take_while test bs)
run_longest test [] more bs e h = omega arith
run_longest test (v ∷ vs) more [] e h = cc
run_longest test (v ∷ vs) more (b ∷ bs) e h =
    let p = and_parts (test v) (list_all test vs) h in
    let x : v ≡ b = cc in
    let y : vs ++ more ≡ bs = cc in
    let i = run_longest test vs more bs y p.1 in
    let t : test b ≡ true = ap test (sym x) ∙ p.0 in
    omega (arith, i, ap length (while_true test b bs t))

pub run_within : (test : ℕ → Bool) (bs : List ℕ) → length (take_while test bs) ≤ length bs
run_within test bs = let r = run test bs in omega (arith, ap length r.0, length-append (take_while test bs) (behind test bs))

-- two runs of one text that end where a byte does not pass
pub same_run : (test : ℕ → Bool) (w v more rest : List ℕ) → list_all test w ≡ true → list_all test v ≡ true → heads test more ≡ false → heads test rest ≡ false → w ++ more ≡ v ++ rest → w ≡ v
same_run test [] [] more rest a b x y e = refl
same_run test [] (c ∷ v) more rest a b x y e = true_false (test c) _ (and_parts (test c) (list_all test v) b).0 (ap (heads test) (sym e) ∙ x)
same_run test (c ∷ w) [] more rest a b x y e = true_false (test c) _ (and_parts (test c) (list_all test w) a).0 (ap (heads test) e ∙ y)
same_run test (c ∷ w) (d ∷ v) more rest a b x y e =
    let h : c ≡ d = cc in
    let t : w ++ more ≡ v ++ rest = cc in
    ap₂ (λ z zs. z ∷ zs) h (same_run test w v more rest (and_parts (test c) (list_all test w) a).1 (and_parts (test d) (list_all test v) b).1 x y t)

pub behind_ends : (test : ℕ → Bool) (bs : List ℕ) → heads test (behind test bs) ≡ false
unfolding behind
behind_ends test [] = refl
behind_ends test (b ∷ bs) = by_cases _ (test b) (λ e. rw e (behind_ends test bs)) (λ e. rw e e)

all_front : (test : ℕ → Bool) (w z : List ℕ) → list_all test (w ++ z) ≡ true → list_all test w ≡ true
all_front test [] z h = refl
all_front test (b ∷ w) z h = let p = and_parts (test b) (list_all test (w ++ z)) h in rw p.0 (all_front test w z p.1)

all_also : (test other : ℕ → Bool) (w : List ℕ) → ((b : ℕ) → test b ≡ true → other b ≡ true) → list_all test w ≡ true → list_all other w ≡ true
all_also test other [] f h = refl
all_also test other (b ∷ w) f h = let p = and_parts (test b) (list_all test w) h in rw (f b p.0) (all_also test other w f p.1)

-- ---- what a lexeme begins with
abbrev other : ℕ → Bool
other b = not (begins_word b) && (not (is_digit b) && (not (is_blank b) && not (b == 34)))

abbrev sign_begins : List ℕ → Bool
sign_begins w = heads other w

signs_begin : list_all sign_begins signs ≡ true
unfolding begins_word is_digit is_blank signs
signs_begin = refl

suffixed_signs_begin : list_all sign_begins suffixed_signs ≡ true
unfolding begins_word is_digit is_blank suffixed_signs
suffixed_signs_begin = refl

casts_begin : list_all (λ w. heads is_digit w) casts ≡ true
unfolding is_digit casts
casts_begin = refl

casts_fall : falling casts ≡ true
unfolding casts
casts_fall = refl

signs_fall : falling signs ≡ true
unfolding signs
signs_fall = refl

suffixed_signs_fall : falling suffixed_signs ≡ true
unfolding suffixed_signs
suffixed_signs_fall = refl

pub apart : (b : ℕ) (P : Type 0) → begins_word b ≡ true → is_digit b ≡ true → P
unfolding begins_word is_digit
apart b P h i = absurd (let e : ⊥ = grind arith in e)

word_blank : (b : ℕ) → begins_word b ≡ true → is_blank b ≡ false
unfolding begins_word is_blank
word_blank b h = grind arith

digit_blank : (b : ℕ) → is_digit b ≡ true → is_blank b ≡ false
unfolding is_digit is_blank
digit_blank b h = grind arith

pub quote_is : (begins_word 34 ≡ false) × (is_digit 34 ≡ false) × (is_blank 34 ≡ false)
unfolding begins_word is_digit is_blank
quote_is = (refl, refl, refl)

pub not_true : (a : Bool) → not a ≡ true → a ≡ false
not_true true h = cc
not_true false h = refl

pub word_head : (b : ℕ) (bs : List ℕ) → is_word (b ∷ bs) ≡ true → (begins_word b ≡ true) × (list_all in_word bs ≡ true)
word_head b bs h = and_parts (begins_word b) (list_all in_word bs) h

pub hexadecimal_parts : (b : ℕ) (bs : List ℕ) → is_hexadecimal (b ∷ bs) ≡ true → (d : ℕ) × (ds : List ℕ) × (bs ≡ 120 ∷ d ∷ ds) × (b ≡ 48) × (is_hex_digit d ≡ true) × (list_all in_hexadecimal ds ≡ true)
hexadecimal_parts b [] h = cc
hexadecimal_parts b (x ∷ []) h = let p = and_parts ((b == 48) && (x == 120)) false h in cc
hexadecimal_parts b (x ∷ d ∷ ds) h =
    let p = and_parts ((b == 48) && (x == 120)) (is_hex_digit d && list_all in_hexadecimal ds) h in
    let q = and_parts (b == 48) (x == 120) p.0 in
    let r = and_parts (is_hex_digit d) (list_all in_hexadecimal ds) p.1 in
    (d, ds, ap (λ z. z ∷ d ∷ ds) (eq_is x 120 q.1), eq_is b 48 q.0, r.0, r.1)

pub numeral_head : (b : ℕ) (bs : List ℕ) → is_numeral (b ∷ bs) ≡ true → is_digit b ≡ true
unfolding is_digit
numeral_head b bs h = ⊎_elim
    (λ j. (and_parts (is_digit b) (list_all in_decimal bs) j).0)
    (λ j. let q = hexadecimal_parts b bs j in subst (λ z. is_digit z ≡ true) (sym q.3) refl)
    (or_true (is_decimal (b ∷ bs)) (is_hexadecimal (b ∷ bs)) h)

pub cast_head : (b : ℕ) (bs : List ℕ) → is_among casts (b ∷ bs) ≡ true → is_digit b ≡ true
cast_head b bs h = entry_in (λ w. heads is_digit w) casts (b ∷ bs) casts_begin h

pub string_is : (w : List ℕ) → is_string w ≡ true → (w ≡ 34 ∷ (inner w ++ 34 ∷ [])) × (list_all in_string (inner w) ≡ true)
string_is w h = let p = and_parts (bytes_eq w (34 ∷ (inner w ++ 34 ∷ []))) (list_all in_string (inner w)) h in (same_is w _ p.0, p.1)

pub string_head : (b : ℕ) (bs : List ℕ) → is_string (b ∷ bs) ≡ true → b ≡ 34
string_head b bs h = let p = string_is (b ∷ bs) h in let e : b ∷ bs ≡ 34 ∷ (inner (b ∷ bs) ++ 34 ∷ []) = p.0 in cc

-- what every sign passes
sign_entry : (test : List ℕ → Bool) (w more : List ℕ) → list_all test signs ≡ true → list_all test suffixed_signs ≡ true → is_sign w more ≡ true → test w ≡ true
sign_entry test w more f g h = ⊎_elim
    (λ i. entry_in test signs w f i)
    (λ i. entry_in test suffixed_signs w g (and_parts (is_among suffixed_signs w) (not (heads in_word more)) i).0)
    (or_true (is_among signs w) (is_among suffixed_signs w && not (heads in_word more)) h)

pub sign_head : (b : ℕ) (bs more : List ℕ) → is_sign (b ∷ bs) more ≡ true → (begins_word b ≡ false) × (is_digit b ≡ false) × (is_blank b ≡ false) × ((b == 34) ≡ false)
sign_head b bs more h =
    let p = sign_entry sign_begins (b ∷ bs) more signs_begin suffixed_signs_begin h in
    let q = and_parts (not (begins_word b)) (not (is_digit b) && (not (is_blank b) && not (b == 34))) p in
    let r = and_parts (not (is_digit b)) (not (is_blank b) && not (b == 34)) q.1 in
    let t = and_parts (not (is_blank b)) (not (b == 34)) r.1 in
    (not_true _ q.0, not_true _ r.0, not_true _ t.0, not_true _ t.1)

pub no_empty : (more : List ℕ) → is_lexeme [] more ≡ false
unfolding casts signs suffixed_signs
no_empty more = refl

pub no_empty_cast : is_among casts [] ≡ false
unfolding casts
no_empty_cast = refl

-- a lexeme is a word, a numeral, a cast, a string or a sign
pub lexeme_cases : (P : Type 0) (w more : List ℕ) → is_lexeme w more ≡ true → (is_word w ≡ true → P) → (is_numeral w ≡ true → P) → (is_among casts w ≡ true → P) → (is_string w ≡ true → P) → (is_sign w more ≡ true → P) → P
lexeme_cases P w more h f g j k l =
    ⊎_elim
    (λ a. ⊎_elim
    (λ b. ⊎_elim
    (λ c. ⊎_elim f g (or_true (is_word w) (is_numeral w) c))
    j
    (or_true (is_word w || is_numeral w) (is_among casts w) b))
    k
    (or_true (is_word w || is_numeral w || is_among casts w) (is_string w) a))
    l
    (or_true (is_word w || is_numeral w || is_among casts w || is_string w) (is_sign w more) h)

pub word_lexeme : (w more : List ℕ) → is_word w ≡ true → is_lexeme w more ≡ true
word_lexeme w more h = or_left _ _ (or_left _ _ (or_left _ _ (or_left _ _ h)))

pub numeral_lexeme : (w more : List ℕ) → is_numeral w ≡ true → is_lexeme w more ≡ true
numeral_lexeme w more h = or_left _ _ (or_left _ _ (or_left _ _ (or_right (is_word w) _ h)))

pub cast_lexeme : (w more : List ℕ) → is_among casts w ≡ true → is_lexeme w more ≡ true
cast_lexeme w more h = or_left _ _ (or_left _ _ (or_right (is_word w || is_numeral w) _ h))

pub string_lexeme : (w more : List ℕ) → is_string w ≡ true → is_lexeme w more ≡ true
string_lexeme w more h = or_left _ _ (or_right (is_word w || is_numeral w || is_among casts w) _ h)

pub sign_lexeme : (w more : List ℕ) → is_sign w more ≡ true → is_lexeme w more ≡ true
sign_lexeme w more h = or_right (is_word w || is_numeral w || is_among casts w || is_string w) _ h

pub lexeme_blank : (b : ℕ) (bs more : List ℕ) → is_lexeme (b ∷ bs) more ≡ true → is_blank b ≡ false
lexeme_blank b bs more h = lexeme_cases _ (b ∷ bs) more h
    (λ i. word_blank b (word_head b bs i).0)
    (λ i. digit_blank b (numeral_head b bs i))
    (λ i. digit_blank b (cast_head b bs i))
    (λ i. ap is_blank (string_head b bs i) ∙ quote_is.2)
    (λ i. (sign_head b bs more i).2)

-- ---- the sort of a lexeme, by the first byte
only_word : (b : ℕ) (bs v rest : List ℕ) (P : Type 0) → begins_word b ≡ true → v ++ rest ≡ b ∷ bs → is_lexeme v rest ≡ true → (is_word v ≡ true → P) → P
only_word b bs [] rest P l e h f = true_false (is_lexeme [] rest) _ h (no_empty rest)
only_word b bs (c ∷ v) rest P l e h f =
    let x : b ≡ c = cc in
    let k : begins_word c ≡ true = ap begins_word (sym x) ∙ l in
    lexeme_cases P (c ∷ v) rest h f
    (λ i. apart c P k (numeral_head c v i))
    (λ i. apart c P k (cast_head c v i))
    (λ i. true_false (begins_word c) P k (ap begins_word (string_head c v i) ∙ quote_is.0))
    (λ i. true_false (begins_word c) P k (sign_head c v rest i).0)

only_digit : (b : ℕ) (bs v rest : List ℕ) (P : Type 0) → is_digit b ≡ true → v ++ rest ≡ b ∷ bs → is_lexeme v rest ≡ true → (is_numeral v ≡ true → P) → (is_among casts v ≡ true → P) → P
only_digit b bs [] rest P l e h f g = true_false (is_lexeme [] rest) _ h (no_empty rest)
only_digit b bs (c ∷ v) rest P l e h f g =
    let x : b ≡ c = cc in
    let k : is_digit c ≡ true = ap is_digit (sym x) ∙ l in
    lexeme_cases P (c ∷ v) rest h
    (λ i. apart c P (word_head c v i).0 k)
    f
    g
    (λ i. true_false (is_digit c) P k (ap is_digit (string_head c v i) ∙ quote_is.1))
    (λ i. true_false (is_digit c) P k (sign_head c v rest i).1)

pub only_string : (bs v rest : List ℕ) (P : Type 0) → v ++ rest ≡ 34 ∷ bs → is_lexeme v rest ≡ true → (is_string v ≡ true → P) → P
only_string bs [] rest P e h f = true_false (is_lexeme [] rest) _ h (no_empty rest)
only_string bs (c ∷ v) rest P e h f =
    let x : c ≡ 34 = cc in
    lexeme_cases P (c ∷ v) rest h
    (λ i. true_false (begins_word c) P (word_head c v i).0 (ap begins_word x ∙ quote_is.0))
    (λ i. true_false (is_digit c) P (numeral_head c v i) (ap is_digit x ∙ quote_is.1))
    (λ i. true_false (is_digit c) P (cast_head c v i) (ap is_digit x ∙ quote_is.1))
    f
    (λ i. true_false (c == 34) P (ap (λ z. z == 34) x) (sign_head c v rest i).3)

only_sign : (b : ℕ) (bs v rest : List ℕ) (P : Type 0) → begins_word b ≡ false → is_digit b ≡ false → (b == 34) ≡ false → v ++ rest ≡ b ∷ bs → is_lexeme v rest ≡ true → (is_sign v rest ≡ true → P) → P
only_sign b bs [] rest P l d q e h f = true_false (is_lexeme [] rest) _ h (no_empty rest)
only_sign b bs (c ∷ v) rest P l d q e h f =
    let x : c ≡ b = cc in
    lexeme_cases P (c ∷ v) rest h
    (λ i. true_false (begins_word c) P (word_head c v i).0 (ap begins_word x ∙ l))
    (λ i. true_false (is_digit c) P (numeral_head c v i) (ap is_digit x ∙ d))
    (λ i. true_false (is_digit c) P (cast_head c v i) (ap is_digit x ∙ d))
    (λ i. true_false (c == 34) P (ap (λ z. z == 34) (string_head c v i)) (ap (λ z. z == 34) x ∙ q))
    f

-- ---- the longest word
word_most : (b : ℕ) (bs v rest : List ℕ) → begins_word b ≡ true → v ++ rest ≡ b ∷ bs → is_lexeme v rest ≡ true → length v ≤ 1 + length (take_while in_word bs)
word_most b bs [] rest l e h = omega arith
word_most b bs (c ∷ v) rest l e h =
    let t : v ++ rest ≡ bs = cc in
    only_word b bs (c ∷ v) rest _ l e h (λ i. let m = run_longest in_word v rest bs t (word_head c v i).1 in omega (arith, m))

pub word_stands : (b : ℕ) (bs : List ℕ) → begins_word b ≡ true → Longest (b ∷ take_while in_word bs) (behind in_word bs) × (is_word (b ∷ take_while in_word bs) ≡ true) × (b ∷ bs ≡ (b ∷ take_while in_word bs) ++ behind in_word bs)
word_stands b bs l =
    let r = run in_word bs in
    let w : is_word (b ∷ take_while in_word bs) ≡ true = rw l r.1 in
    let e : b ∷ bs ≡ (b ∷ take_while in_word bs) ++ behind in_word bs = ap (λ z. b ∷ z) r.0 in
    ((word_lexeme (b ∷ take_while in_word bs) (behind in_word bs) w, λ v rest f h. let m = word_most b bs v rest l (f ∙ sym e) h in omega (arith, m)), w, e)

-- ---- the longest cast
-- a byte that a numeral may have
abbrev numeral_byte : ℕ → Bool
numeral_byte b = in_hexadecimal b || (b == 120)

abbrev no_numeral : List ℕ → Bool
no_numeral w = not (list_all numeral_byte w)

casts_no_numeral : list_all no_numeral casts ≡ true
unfolding casts in_hexadecimal
casts_no_numeral = refl

decimal_byte : (b : ℕ) → in_decimal b ≡ true → numeral_byte b ≡ true
unfolding in_decimal in_hexadecimal
decimal_byte b h = grind arith

digit_byte : (b : ℕ) → is_digit b ≡ true → numeral_byte b ≡ true
unfolding is_digit in_hexadecimal
digit_byte b h = grind arith

hex_byte : (b : ℕ) → is_hex_digit b ≡ true → numeral_byte b ≡ true
unfolding is_hex_digit in_hexadecimal
hex_byte b h = rw h refl

more_hex_byte : (b : ℕ) → in_hexadecimal b ≡ true → numeral_byte b ≡ true
more_hex_byte b h = rw h refl

start_bytes : (numeral_byte 48 ≡ true) × (numeral_byte 120 ≡ true)
unfolding in_hexadecimal
start_bytes = (refl, refl)

numeral_bytes : (w : List ℕ) → is_numeral w ≡ true → list_all numeral_byte w ≡ true
numeral_bytes [] h = refl
numeral_bytes (b ∷ bs) h = ⊎_elim
    (λ i. let p = and_parts (is_digit b) (list_all in_decimal bs) i in rw (digit_byte b p.0) (all_also in_decimal numeral_byte bs decimal_byte p.1))
    (λ i. let q = hexadecimal_parts b bs i in
    let t : list_all numeral_byte (120 ∷ q.0 ∷ q.1) ≡ true = rw start_bytes.1 (rw (hex_byte q.0 q.4) (all_also in_hexadecimal numeral_byte q.1 more_hex_byte q.5)) in
    rw (q.3, start_bytes.0) (subst (λ z. list_all numeral_byte z ≡ true) (sym q.2) t))
    (or_true (is_decimal (b ∷ bs)) (is_hexadecimal (b ∷ bs)) h)

pub cast_no_numeral : (w : List ℕ) → is_among casts w ≡ true → is_numeral w ≡ true → ⊥
cast_no_numeral w h i = true_false (list_all numeral_byte w) _ (numeral_bytes w i) (not_true _ (entry_in no_numeral casts w casts_no_numeral h))

-- a numeral where a cast stands is shorter
numeral_cast : (v w rest more : List ℕ) → is_numeral v ≡ true → is_among casts w ≡ true → v ++ rest ≡ w ++ more → length v ≤ length w
numeral_cast v w rest more h i e = by_cases _ (nat_le (length w) (length v))
    (λ c. let q = beginning w v more rest (sym e) (le_is (length w) (length v) c) in
    let a : list_all numeral_byte w ≡ true = all_front numeral_byte w q.0 (subst (λ z. list_all numeral_byte z ≡ true) q.1 (numeral_bytes v h)) in
    true_false (list_all numeral_byte w) _ a (not_true _ (entry_in no_numeral casts w casts_no_numeral i)))
    (λ c. grind arith)

pub cast_stands : (b : ℕ) (bs w : List ℕ) → is_digit b ≡ true → first_of false casts (b ∷ bs) ≡ Some w → (rest : List ℕ) × (b ∷ bs ≡ w ++ rest) × Longest w rest × (is_among casts w ≡ true)
cast_stands b bs w d e =
    let q = first_stands false casts (b ∷ bs) w e in (
      q.0,
      q.1,
      (
        cast_lexeme w q.0 q.2,
        λ v rest f h. only_digit b bs v rest _ d (f ∙ sym q.1) h
            (λ i. numeral_cast v w rest q.0 i q.2 f)
            (λ i. found_longest false casts (b ∷ bs) w casts_fall e v rest (f ∙ sym q.1) i refl),
      ),
      q.2,
    )

-- no cast stands at the front
abbrev pub HasNoCast : List ℕ → Type 0
HasNoCast text = (v rest : List ℕ) → v ++ rest ≡ text → is_among casts v ≡ true → ⊥

pub no_cast : (text : List ℕ) → first_of false casts text ≡ None → HasNoCast text
no_cast text e v rest f h = none_found false casts text casts_fall e v rest f h refl

-- ---- the longest numeral
decimal_x : in_decimal 120 ≡ false
unfolding in_decimal
decimal_x = refl

zero_is : is_digit 48 ≡ true
unfolding is_digit
zero_is = refl

-- `0x` and a hexadecimal digit
pub hexadecimal_stands : (d : ℕ) (bs : List ℕ) → is_hex_digit d ≡ true → HasNoCast (48 ∷ 120 ∷ d ∷ bs) → (w : List ℕ) × (w ≡ 48 ∷ 120 ∷ d ∷ take_while in_hexadecimal bs) × Longest w (behind in_hexadecimal bs) × (is_numeral w ≡ true)
hexadecimal_stands d bs h free =
    let r = run in_hexadecimal bs in
    let w = 48 ∷ 120 ∷ d ∷ take_while in_hexadecimal bs in
    let n : is_numeral w ≡ true = or_right (is_decimal w) (is_hexadecimal w) (rw h r.1) in
    (w, refl, (numeral_lexeme w _ n, λ v rest e i. most v rest (e ∙ sym (ap (λ z. 48 ∷ 120 ∷ d ∷ z) r.0)) i), n)
  where
    at_x : (v rest : List ℕ) → v ++ rest ≡ 120 ∷ d ∷ bs → list_all in_decimal v ≡ true → length v ≤ 2
    at_x [] rest e i = omega arith
    at_x (c ∷ v) rest e i =
        let x : c ≡ 120 = cc in
        true_false (in_decimal c) _ (and_parts (in_decimal c) (list_all in_decimal v) i).0 (ap in_decimal x ∙ decimal_x)

    most : (v rest : List ℕ) → v ++ rest ≡ 48 ∷ 120 ∷ d ∷ bs → is_lexeme v rest ≡ true → length v ≤ length (48 ∷ 120 ∷ d ∷ take_while in_hexadecimal bs)
    most [] rest e i = omega arith
    most (c ∷ v) rest e i =
        let t : v ++ rest ≡ 120 ∷ d ∷ bs = cc in
        only_digit 48 (120 ∷ d ∷ bs) (c ∷ v) rest _ zero_is e i
        (λ j. ⊎_elim
        (λ k. let m = at_x v rest t (and_parts (is_digit c) (list_all in_decimal v) k).1 in omega (arith, m))
        (λ k. let q = hexadecimal_parts c v k in
        let u : (120 ∷ q.0 ∷ q.1) ++ rest ≡ 120 ∷ d ∷ bs = subst (λ z. z ++ rest ≡ 120 ∷ d ∷ bs) q.2 t in
        let y : q.1 ++ rest ≡ bs = cc in
        let m = run_longest in_hexadecimal q.1 rest bs y q.5 in
        omega (arith, m, ap length q.2))
        (or_true (is_decimal (c ∷ v)) (is_hexadecimal (c ∷ v)) j))
        (λ j. absurd (free (c ∷ v) rest e j))

-- a digit, with no such `0x`
pub decimal_stands : (b : ℕ) (bs : List ℕ) → is_digit b ≡ true → is_hexadecimal (take 3 (b ∷ bs)) ≡ false → HasNoCast (b ∷ bs) → (w : List ℕ) × (w ≡ b ∷ take_while in_decimal bs) × Longest w (behind in_decimal bs) × (is_numeral w ≡ true)
decimal_stands b bs h g free =
    let r = run in_decimal bs in
    let w = b ∷ take_while in_decimal bs in
    let n : is_numeral w ≡ true = or_left (is_decimal w) (is_hexadecimal w) (rw h r.1) in
    (w, refl, (numeral_lexeme w _ n, λ v rest e i. most v rest (e ∙ sym (ap (λ z. b ∷ z) r.0)) i), n)
  where
    front : (d : ℕ) (ds : List ℕ) → is_hex_digit d ≡ true → is_hexadecimal (take 3 (48 ∷ 120 ∷ d ∷ ds)) ≡ true
    front d ds i = rw i refl

    most : (v rest : List ℕ) → v ++ rest ≡ b ∷ bs → is_lexeme v rest ≡ true → length v ≤ length (b ∷ take_while in_decimal bs)
    most [] rest e i = omega arith
    most (c ∷ v) rest e i =
        let x : c ≡ b = cc in
        let t : v ++ rest ≡ bs = cc in
        only_digit b bs (c ∷ v) rest _ h e i
        (λ j. ⊎_elim
        (λ k. let m = run_longest in_decimal v rest bs t (and_parts (is_digit c) (list_all in_decimal v) k).1 in omega (arith, m))
        (λ k. let q = hexadecimal_parts c v k in
        let y : b ∷ bs ≡ 48 ∷ 120 ∷ q.0 ∷ (q.1 ++ rest) = ap₂ (λ z zs. z ∷ zs) (sym x ∙ q.3) (sym t ∙ ap (λ z. z ++ rest) q.2) in
        true_false (is_hexadecimal (take 3 (b ∷ bs))) _ (ap (λ z. is_hexadecimal (take 3 z)) y ∙ front q.0 (q.1 ++ rest) q.4) g)
        (or_true (is_decimal (c ∷ v)) (is_hexadecimal (c ∷ v)) j))
        (λ j. absurd (free (c ∷ v) rest e j))

-- a numeral that stands at the front, and what follows it
abbrev NumeralStands : List ℕ → Type 0
NumeralStands text = (w : List ℕ) × (more : List ℕ) × (text ≡ w ++ more) × (length w ≡ numeral_length text) × Longest w more × (is_numeral w ≡ true)

hexadecimal_from : (text : List ℕ) (d : ℕ) (ds w : List ℕ) → text ≡ 48 ∷ 120 ∷ d ∷ ds → is_hexadecimal (take 3 text) ≡ true → w ≡ 48 ∷ 120 ∷ d ∷ take_while in_hexadecimal ds → Longest w (behind in_hexadecimal ds) → is_numeral w ≡ true → NumeralStands text
unfolding numeral_length
hexadecimal_from text d ds w t g e l n =
    let split : 48 ∷ 120 ∷ d ∷ ds ≡ w ++ behind in_hexadecimal ds = ap (λ us. 48 ∷ 120 ∷ d ∷ us) (run in_hexadecimal ds).0 ∙ ap (λ u. u ++ behind in_hexadecimal ds) (sym e) in
    (w, behind in_hexadecimal ds, t ∙ split, ap length e ∙ rw (g, t) (omega arith), l, n)

hexadecimal_at : (b : ℕ) (bs : List ℕ) → is_hexadecimal (take 3 (b ∷ bs)) ≡ true → HasNoCast (b ∷ bs) → NumeralStands (b ∷ bs)
hexadecimal_at b [] g free = cc
hexadecimal_at b (x ∷ []) g free = let p = hexadecimal_parts b (x ∷ []) g in cc
hexadecimal_at b (x ∷ d ∷ ds) g free =
    let p = hexadecimal_parts b (x ∷ d ∷ []) g in
    let y : x ≡ 120 = cc in
    let z : d ≡ p.0 = cc in
    let i : is_hex_digit d ≡ true = ap is_hex_digit z ∙ p.4 in
    let t : b ∷ x ∷ d ∷ ds ≡ 48 ∷ 120 ∷ d ∷ ds = ap₂ (λ u us. u ∷ us ∷ d ∷ ds) p.3 y in
    let q = hexadecimal_stands d ds i (subst HasNoCast t free) in
    hexadecimal_from (b ∷ x ∷ d ∷ ds) d ds q.0 t g q.1 q.2 q.3

pub number_stands : (text : List ℕ) → heads is_digit text ≡ true → HasNoCast text → (w : List ℕ) × (more : List ℕ) × (text ≡ w ++ more) × (length w ≡ numeral_length text) × Longest w more × (is_numeral w ≡ true)
unfolding numeral_length
number_stands [] h free = cc
number_stands (b ∷ bs) h free = by_cases _ (is_hexadecimal (take 3 (b ∷ bs)))
    (λ g. hexadecimal_at b bs g free)
    (λ g. let q = decimal_stands b bs h g free in
    (q.0, behind in_decimal bs, ap (λ z. b ∷ z) (run in_decimal bs).0 ∙ ap (λ z. z ++ behind in_decimal bs) (sym q.1), ap length q.1 ∙ rw g (omega arith), q.2, q.3))

-- ---- the longest sign
lt_is : (a b : ℕ) → nat_lt a b ≡ true → a < b
lt_is a b h = grind arith

ge_is : (a b : ℕ) → nat_lt a b ≡ false → b ≤ a
ge_is a b h = grind arith

-- what stands of two is the longer one, and it is no shorter than either
pub longer_is : (a b : Option (List ℕ)) (w : List ℕ) → longer a b ≡ Some w → (P : List ℕ → Type 0) → ((v : List ℕ) → a ≡ Some v → P v) → ((v : List ℕ) → b ≡ Some v → P v) → P w
longer_is None b w e P f g = g w e
longer_is (Some v) None w e P f g = f w e
longer_is (Some v) (Some u) w e P f g = by_cases _ (nat_lt (length v) (length u))
    (λ c. g w (sym (if_true (nat_lt (length v) (length u)) (Some u) (Some v) c) ∙ e))
    (λ c. f w (sym (if_false (nat_lt (length v) (length u)) (Some u) (Some v) c) ∙ e))

pub longer_left : (a b : Option (List ℕ)) (v w : List ℕ) → longer a b ≡ Some w → a ≡ Some v → length v ≤ length w
longer_left None b v w e f = absurd (some_none v (sym f))
longer_left (Some t) None v w e f = let x : t ≡ v = same_some t v f in let y : t ≡ w = same_some t w e in omega (arith, ap length x, ap length y)
longer_left (Some t) (Some u) v w e f = by_cases _ (nat_lt (length t) (length u))
    (λ c. let y : u ≡ w = same_some u w (sym (if_true (nat_lt (length t) (length u)) (Some u) (Some t) c) ∙ e) in
    let x : t ≡ v = same_some t v f in
    let l = lt_is (length t) (length u) c in
    omega (arith, ap length x, ap length y, l))
    (λ c. let y : t ≡ w = same_some t w (sym (if_false (nat_lt (length t) (length u)) (Some u) (Some t) c) ∙ e) in
    let x : t ≡ v = same_some t v f in
    omega (arith, ap length x, ap length y))

pub longer_right : (a b : Option (List ℕ)) (v w : List ℕ) → longer a b ≡ Some w → b ≡ Some v → length v ≤ length w
longer_right None b v w e f = let x : v ≡ w = same_some v w (sym f ∙ e) in omega (arith, ap length x)
longer_right (Some t) None v w e f = absurd (some_none v (sym f))
longer_right (Some t) (Some u) v w e f = by_cases _ (nat_lt (length t) (length u))
    (λ c. let y : u ≡ w = same_some u w (sym (if_true (nat_lt (length t) (length u)) (Some u) (Some t) c) ∙ e) in
    let x : u ≡ v = same_some u v f in
    omega (arith, ap length x, ap length y))
    (λ c. let y : t ≡ w = same_some t w (sym (if_false (nat_lt (length t) (length u)) (Some u) (Some t) c) ∙ e) in
    let x : u ≡ v = same_some u v f in
    let l = ge_is (length t) (length u) c in
    omega (arith, ap length x, ap length y, l))

pub longer_none : (a b : Option (List ℕ)) → longer a b ≡ None → (a ≡ None) × (b ≡ None)
longer_none None b e = (refl, e)
longer_none (Some v) None e = absurd (some_none v e)
longer_none (Some v) (Some u) e = by_cases _ (nat_lt (length v) (length u))
    (λ c. absurd (some_none u (sym (if_true (nat_lt (length v) (length u)) (Some u) (Some v) c) ∙ e)))
    (λ c. absurd (some_none v (sym (if_false (nat_lt (length v) (length u)) (Some u) (Some v) c) ∙ e)))

abbrev Stands : List ℕ → List ℕ → Type 0
Stands text w = (rest : List ℕ) × (text ≡ w ++ rest) × (is_sign w rest ≡ true)

pub sign_stands : (b : ℕ) (bs w : List ℕ) → begins_word b ≡ false → is_digit b ≡ false → (b == 34) ≡ false → sign_of (b ∷ bs) ≡ Some w → (rest : List ℕ) × (b ∷ bs ≡ w ++ rest) × Longest w rest × (is_sign w rest ≡ true)
sign_stands b bs w l d q e =
    let text = b ∷ bs in
    let p = first_of false signs text in
    let s = first_of true suffixed_signs text in
    let here : Stands text w = longer_is p s w e (Stands text)
    (λ v f. let i = first_stands false signs text v f in (i.0, i.1, or_left _ _ i.2))
    (λ v f. let i = first_stands true suffixed_signs text v f in (i.0, i.1, or_right (is_among signs v) _ (rw i.2 i.3))) in
    let most : (v more : List ℕ) → v ++ more ≡ text → is_sign v more ≡ true → length v ≤ length w = λ v more f h. ⊎_elim
    (λ i. let j = first_longest false signs text v more signs_fall f i refl in
    let k = longer_left p s j.0 w e j.1 in omega (arith, j.2, k))
    (λ i. let a = and_parts (is_among suffixed_signs v) (not (heads in_word more)) i in
    let j = first_longest true suffixed_signs text v more suffixed_signs_fall f a.0 a.1 in
    let k = longer_right p s j.0 w e j.1 in omega (arith, j.2, k))
    (or_true (is_among signs v) (is_among suffixed_signs v && not (heads in_word more)) h) in
    (here.0, here.1, (sign_lexeme w here.0 here.2, λ v rest f h. only_sign b bs v rest _ l d q (f ∙ sym here.1) h (λ i. most v rest (f ∙ sym here.1) i)), here.2)

pub no_sign : (b : ℕ) (bs : List ℕ) → begins_word b ≡ false → is_digit b ≡ false → (b == 34) ≡ false → sign_of (b ∷ bs) ≡ None → (v more : List ℕ) → v ++ more ≡ b ∷ bs → is_lexeme v more ≡ true → ⊥
no_sign b bs l d q e v more f h =
    let text = b ∷ bs in
    let n = longer_none (first_of false signs text) (first_of true suffixed_signs text) e in
    only_sign b bs v more _ l d q f h
    (λ i. ⊎_elim
    (λ j. none_found false signs text signs_fall n.0 v more f j refl)
    (λ j. let a = and_parts (is_among suffixed_signs v) (not (heads in_word more)) j in
    none_found true suffixed_signs text suffixed_signs_fall n.1 v more f a.0 a.1)
    (or_true (is_among signs v) (is_among suffixed_signs v && not (heads in_word more)) i))

-- ---- bytes below 128
below : (test : ℕ → Bool) → ((b : ℕ) → test b ≡ true → b < 128) → (bs : List ℕ) → list_all test bs ≡ true → IsAscii bs
below test f [] h i = omega arith
below test f (b ∷ bs) h zero = f b (and_parts (test b) (list_all test bs) h).0
below test f (b ∷ bs) h (suc i) = below test f bs (and_parts (test b) (list_all test bs) h).1 i

in_word_below : (b : ℕ) → in_word b ≡ true → b < 128
unfolding in_word
in_word_below b h = grind arith

begins_word_below : (b : ℕ) → begins_word b ≡ true → b < 128
unfolding begins_word
begins_word_below b h = grind arith

abbrev is_low : ℕ → Bool
is_low b = nat_le b 127

is_low_below : (b : ℕ) → is_low b ≡ true → b < 128
is_low_below b h = grind arith

signs_low : list_all (λ w. list_all is_low w) signs ≡ true
unfolding signs
signs_low = refl

suffixed_signs_low : list_all (λ w. list_all is_low w) suffixed_signs ≡ true
unfolding suffixed_signs
suffixed_signs_low = refl

pub word_ascii : (w : List ℕ) → is_word w ≡ true → IsAscii w
word_ascii [] h i = cc
word_ascii (b ∷ bs) h zero = begins_word_below b (word_head b bs h).0
word_ascii (b ∷ bs) h (suc i) = below in_word in_word_below bs (word_head b bs h).1 i

pub sign_ascii : (w more : List ℕ) → is_sign w more ≡ true → IsAscii w
sign_ascii w more h = below is_low is_low_below w (sign_entry (λ v. list_all is_low v) w more signs_low suffixed_signs_low h)
