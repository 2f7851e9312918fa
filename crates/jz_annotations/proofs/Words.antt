-- Words, numerals and signs at the front of bytes.
use Rattle.std.proofs.Common.{◌≡◌, ℕ, ◌<◌, ◌≤◌, ◌^◌, Bool, true, false, ◌&&◌, ◌||◌, ◌==◌, nat_lt, List, [], ◌∷◌, ◌++◌, length, take, drop, Option, Some, None, refl, sym, ap, ◌∙◌, subst, arith, append-nil, if◌then◌else◌}
use Rattle.std.specs.Prelude.{option_map}
use Rattle.std.specs.Char.{is_ascii_alphabetic, is_ascii_digit, is_ascii_hexdigit}
use Rattle.std.specs.Str.{IsAscii}
use Rattle.std.specs.List.{list_all, take_while}
use Rattle.std.proofs.Math.Seq.{take-append_seam}
use Rattle.std.proofs.lemmas.List.{take-append-drop}
use Rattle.std.proofs.lemmas.Bool.{and_parts, and_from, or_cases, or_left, or_right, lt-ltb, ltb-true}
use Rattle.std.proofs.lemmas.Bool.Decides.{nat_tests}
use Rattle.std.proofs.Common.{⊎_elim}
use Rattle.jz_lex.specs.LexingWords.{begins, heads, begins_word, in_word, is_digit, in_decimal, is_hex_digit, in_hexadecimal, is_word, is_decimal, are_hex_digits, is_hexadecimal, is_numeral, value_of_numeral}
use Rattle.jz_lex.proofs.LexingWords.{by_cases, if_true, if_false, run, behind_ends, same_run, drop_self, begins_self, begins_split, word_ascii, numeral_head, hexadecimal_parts, eq_is}
use Rattle.jz_lex.proofs.LexingWords as runs
use Rattle.jz_annotations.specs.Shapes.{is_space, Numbers}
use Rattle.jz_annotations.specs.InnerReaders.{Answer, ◌>>=◌, front_of, rest_of, name, number, wide_value, numeral_below, sign, final}

-- ---- answers
abbrev some_or : {A : Type 0} → A → Option A → A
some_or d (Some x) = x
some_or d None = d

pub some_same : {A : Type 0} (x y : A) → ◌≡◌ {A = Option A} (Some x) (Some y) → x ≡ y
some_same x y e = ap (some_or x) e

pub none_some : {A : Type 0} (x : A) (P : Type 0) → ◌≡◌ {A = Option A} None (Some x) → P
none_some x P e = absurd (let no : ⊥ = cc in no)

pub bind_parts : {A B : Type 0} (o : Answer A) (k : A × List ℕ → Answer B) (y : B × List ℕ) → (o >>= k) ≡ Some y → (x : A × List ℕ) × (o ≡ Some x) × (k x ≡ Some y)
bind_parts None k y e = none_some y _ e
bind_parts (Some x) k y e = (x, refl, e)

pub final_parts : {A : Type 0} (o : Answer A) (a : A) → final o ≡ Some a → o ≡ Some (a, [])
final_parts None a e = none_some a _ e
final_parts (Some (x, [])) a e = ap (λ z. Some (z, [])) (some_same x a e)
final_parts (Some (x, b ∷ bs)) a e = none_some a _ e

-- the part of a choice whose test is known, where the whole gives a value
pub if_some : {A : Type 0} (b : Bool) (o : Option A) (a : A) → (if b then o else None) ≡ Some a → (b ≡ true) × (o ≡ Some a)
if_some true o a e = (refl, e)
if_some false o a e = none_some a _ e

-- ---- runs of bytes
-- a run that ends is read whole
pub run_of : (test : ℕ → Bool) (w rest : List ℕ) → list_all test w ≡ true → heads test rest ≡ false → (front_of test (w ++ rest) ≡ w) × (rest_of test (w ++ rest) ≡ rest)
run_of test w rest h s =
    let r = run test (w ++ rest) in
    let same : w ≡ take_while test (w ++ rest) =
    same_run test w (take_while test (w ++ rest)) rest (runs.behind test (w ++ rest)) h r.1 s (behind_ends test (w ++ rest)) r.0 in
    (ap (λ z. take (length z) (w ++ rest)) (sym same) ∙ take-append_seam w rest, ap (λ z. drop (length z) (w ++ rest)) (sym same) ∙ drop_self w rest)

pub cut_at : (test : ℕ → Bool) (bs : List ℕ) → bs ≡ front_of test bs ++ rest_of test bs
cut_at test bs = sym (take-append-drop (length (take_while test bs)) bs)

pub front_passes : (test : ℕ → Bool) (bs : List ℕ) → list_all test (front_of test bs) ≡ true
front_passes test bs =
    let r = run test bs in
    let same : front_of test bs ≡ take_while test bs =
    ap (take (length (take_while test bs))) r.0 ∙ take-append_seam (take_while test bs) (runs.behind test bs) in
    ap (list_all test) same ∙ r.1

all_also : (test other : ℕ → Bool) (w : List ℕ) → ((b : ℕ) → test b ≡ true → other b ≡ true) → list_all test w ≡ true → list_all other w ≡ true
all_also test other [] f h = refl
all_also test other (b ∷ w) f h = let p = and_parts (test b) (list_all test w) h in and_from (other b) (list_all other w) (f b p.0) (all_also test other w f p.1)

-- ---- words
digit_in_word : (b : ℕ) → is_ascii_digit b ≡ true → in_word b ≡ true
unfolding in_word
digit_in_word b h = or_left (is_ascii_alphabetic b || is_ascii_digit b) (b == 95) (or_right (is_ascii_alphabetic b) (is_ascii_digit b) h)

under_in_word : (b : ℕ) → (b == 95) ≡ true → in_word b ≡ true
unfolding in_word
under_in_word b h = or_right (is_ascii_alphabetic b || is_ascii_digit b) (b == 95) h

begins_in_word : (b : ℕ) → begins_word b ≡ true → in_word b ≡ true
unfolding begins_word in_word
begins_in_word b h = ⊎_elim
    (λ a. or_left (is_ascii_alphabetic b || is_ascii_digit b) (b == 95) (or_left (is_ascii_alphabetic b) (is_ascii_digit b) a))
    (λ u. or_right (is_ascii_alphabetic b || is_ascii_digit b) (b == 95) u)
    (or_cases (is_ascii_alphabetic b) (b == 95) h)

decimal_in_word : (b : ℕ) → in_decimal b ≡ true → in_word b ≡ true
unfolding in_decimal
decimal_in_word b h = ⊎_elim (digit_in_word b) (under_in_word b) (or_cases (is_ascii_digit b) (b == 95) h)

hex_in_word : (b : ℕ) → is_ascii_hexdigit b ≡ true → in_word b ≡ true
unfolding in_word
hex_in_word b h = grind arith

hexadecimal_in_word : (b : ℕ) → in_hexadecimal b ≡ true → in_word b ≡ true
unfolding in_hexadecimal
hexadecimal_in_word b h = ⊎_elim (hex_in_word b) (under_in_word b) (or_cases (is_ascii_hexdigit b) (b == 95) h)

-- a space is in no word
pub space_ends : (b : ℕ) → is_space b ≡ true → in_word b ≡ false
unfolding is_space in_word
space_ends b h = grind arith

pub word_no_space : (b : ℕ) → in_word b ≡ true → is_space b ≡ false
unfolding is_space in_word
word_no_space b h = grind arith

pub word_bytes : (w : List ℕ) → is_word w ≡ true → list_all in_word w ≡ true
word_bytes [] h = refl
word_bytes (b ∷ bs) h = let p = and_parts (begins_word b) (list_all in_word bs) h in and_from (in_word b) (list_all in_word bs) (begins_in_word b p.0) p.1

pub word_of : (w : List ℕ) → list_all in_word w ≡ true → heads begins_word w ≡ true → is_word w ≡ true
word_of [] a h = absurd (let no : ⊥ = cc in no)
word_of (b ∷ bs) a h = and_from (begins_word b) (list_all in_word bs) h (and_parts (in_word b) (list_all in_word bs) a).1

pub word_begins : (w : List ℕ) → is_word w ≡ true → heads begins_word w ≡ true
word_begins [] h = absurd (let no : ⊥ = cc in no)
word_begins (b ∷ bs) h = (and_parts (begins_word b) (list_all in_word bs) h).0

pub front_ascii : (bs : List ℕ) → heads begins_word (front_of in_word bs) ≡ true → IsAscii (front_of in_word bs)
front_ascii bs h = word_ascii (front_of in_word bs) (word_of (front_of in_word bs) (front_passes in_word bs) h)

-- ---- numerals
decimal_bytes : (w : List ℕ) → is_decimal w ≡ true → list_all in_word w ≡ true
unfolding is_digit
decimal_bytes [] h = refl
decimal_bytes (b ∷ bs) h =
    let p = and_parts (is_ascii_digit b) (list_all in_decimal bs) h in
    and_from (in_word b) (list_all in_word bs) (digit_in_word b p.0) (all_also in_decimal in_word bs decimal_in_word p.1)

hex_bytes : (w : List ℕ) → are_hex_digits w ≡ true → list_all in_word w ≡ true
unfolding is_hex_digit
hex_bytes [] h = refl
hex_bytes (b ∷ bs) h =
    let p = and_parts (is_ascii_hexdigit b) (list_all in_hexadecimal bs) h in
    and_from (in_word b) (list_all in_word bs) (hex_in_word b p.0) (all_also in_hexadecimal in_word bs hexadecimal_in_word p.1)

prefix_in_word : (in_word 48 ≡ true) × (in_word 120 ≡ true)
unfolding in_word
prefix_in_word = (refl, refl)

hexadecimal_bytes : (w : List ℕ) → is_hexadecimal w ≡ true → list_all in_word w ≡ true
hexadecimal_bytes [] h = refl
hexadecimal_bytes (a ∷ []) h = absurd (let no : ⊥ = cc in no)
hexadecimal_bytes (a ∷ (b ∷ bs)) h =
    let p = and_parts ((a == 48) && (b == 120)) (are_hex_digits bs) h in
    let q = and_parts (a == 48) (b == 120) p.0 in
    and_from (in_word a) (in_word b && list_all in_word bs)
    (ap in_word (eq_is a 48 q.0) ∙ prefix_in_word.0)
    (and_from (in_word b) (list_all in_word bs) (ap in_word (eq_is b 120 q.1) ∙ prefix_in_word.1) (hex_bytes bs p.1))

pub numeral_bytes : (w : List ℕ) → is_numeral w ≡ true → list_all in_word w ≡ true
numeral_bytes w h = ⊎_elim (decimal_bytes w) (hexadecimal_bytes w) (or_cases (is_decimal w) (is_hexadecimal w) h)

pub numeral_begins : (w : List ℕ) → is_numeral w ≡ true → heads is_digit w ≡ true
numeral_begins [] h = absurd (let no : ⊥ = cc in no)
numeral_begins (b ∷ bs) h = numeral_head b bs h

-- ---- what stands behind a word
-- behind spaces, and these bytes, nothing of a word goes on
pub gap_ends : (gap more : List ℕ) → list_all is_space gap ≡ true → heads in_word more ≡ false → heads in_word (gap ++ more) ≡ false
gap_ends [] more h k = k
gap_ends (b ∷ gap) more h k = space_ends b (and_parts (is_space b) (list_all is_space gap) h).0

-- what begins with a part of a word begins with no space
pub part_begins : (w more : List ℕ) (test : ℕ → Bool) → heads test w ≡ true → list_all in_word w ≡ true → heads is_space (w ++ more) ≡ false
part_begins [] more test h a = absurd (let no : ⊥ = cc in no)
part_begins (b ∷ bs) more test h a = word_no_space b (and_parts (in_word b) (list_all in_word bs) a).0

-- ---- names
pub name_only : (bs : List ℕ) (x : List ℕ × List ℕ) → name bs ≡ Some x → (is_word x.0 ≡ true) × (bs ≡ x.0 ++ x.1)
unfolding name
name_only bs x e =
    let p = if_some (heads begins_word (front_of in_word bs)) (Some (front_of in_word bs, rest_of in_word bs)) x e in
    let Is : List ℕ × List ℕ → Type 0 = λ z. (is_word z.0 ≡ true) × (bs ≡ z.0 ++ z.1) in
    subst Is (some_same (front_of in_word bs, rest_of in_word bs) x p.1) (word_of (front_of in_word bs) (front_passes in_word bs) p.0, cut_at in_word bs)

pub name_back : (w rest : List ℕ) → is_word w ≡ true → heads in_word rest ≡ false → name (w ++ rest) ≡ Some (w, rest)
unfolding name
name_back w rest h s =
    let r = run_of in_word w rest (word_bytes w h) s in
    if_true (heads begins_word (front_of in_word (w ++ rest))) _ None (ap (heads begins_word) r.0 ∙ word_begins w h) ∙ (λ i. Some (r.0 i, r.1 i))

-- ---- numbers
below_only : (limit : ℕ) (w : List ℕ) (n : ℕ) → numeral_below limit w ≡ Some n → Numbers limit w n
unfolding numeral_below
below_only limit w n e =
    let p = if_some (is_numeral w && nat_lt (value_of_numeral w) limit) (Some (value_of_numeral w)) n e in
    let q = and_parts (is_numeral w) (nat_lt (value_of_numeral w) limit) p.0 in
    let v = some_same (value_of_numeral w) n p.1 in
    record { numeral = q.0; value = v; below = subst (λ z. z < limit) v (ltb-true (value_of_numeral w) limit q.1) }

below_back : (limit : ℕ) (w : List ℕ) (n : ℕ) → Numbers limit w n → numeral_below limit w ≡ Some n
unfolding numeral_below
below_back limit w n h =
    if_true (is_numeral w && nat_lt (value_of_numeral w) limit) (Some (value_of_numeral w)) None
    (and_from (is_numeral w) (nat_lt (value_of_numeral w) limit) h.numeral (lt-ltb (value_of_numeral w) limit (subst (λ z. z < limit) (sym h.value) h.below)))
    ∙ ap (λ z. Some z) h.value

map_parts : (o : Option ℕ) (rest : List ℕ) (x : ℕ × List ℕ) → option_map (λ n. (n, rest)) o ≡ Some x → (o ≡ Some x.0) × (rest ≡ x.1)
map_parts None rest x e = none_some x _ e
map_parts (Some n) rest x e = let s = some_same (n, rest) x e in (ap (λ z. Some z.0) s, ap (λ z. z.1) s)

pub number_only : (limit : ℕ) (bs : List ℕ) (x : ℕ × List ℕ) → number limit bs ≡ Some x → (w : List ℕ) × Numbers limit w x.0 × (bs ≡ w ++ x.1)
unfolding number
number_only limit bs x e =
    let p = map_parts (numeral_below limit (front_of in_word bs)) (rest_of in_word bs) x e in
    (front_of in_word bs, below_only limit (front_of in_word bs) x.0 p.0, cut_at in_word bs ∙ ap (λ z. front_of in_word bs ++ z) p.1)

pub number_back : (limit : ℕ) (w rest : List ℕ) (n : ℕ) → Numbers limit w n → heads in_word rest ≡ false → number limit (w ++ rest) ≡ Some (n, rest)
unfolding number
number_back limit w rest n h s =
    let r = run_of in_word w rest (numeral_bytes w h.numeral) s in
    ap (λ z. option_map (λ m. (m, rest_of in_word (w ++ rest))) (numeral_below limit z)) r.0
    ∙ ap (option_map (λ m. (m, rest_of in_word (w ++ rest)))) (below_back limit w n h)
    ∙ ap (λ z. Some (n, z)) r.1

-- with nothing behind it
pub number_end : (limit : ℕ) (w : List ℕ) (n : ℕ) → Numbers limit w n → number limit w ≡ Some (n, [])
number_end limit w n h = ap (number limit) (sym (append-nil w)) ∙ number_back limit w [] n h refl

pub name_end : (w : List ℕ) → is_word w ≡ true → name w ≡ Some (w, [])
name_end w h = ap name (sym (append-nil w)) ∙ name_back w [] h refl

-- ---- signs
-- the bytes of a sign between gaps
abbrev pub about : List ℕ → List ℕ → List ℕ → List ℕ → List ℕ
about g w h more = g ++ (w ++ (h ++ more))

abbrev pub AreSpaces : List ℕ → Type 0
AreSpaces g = list_all is_space g ≡ true

pub sign_only : (w bs : List ℕ) (x : Unit {0} × List ℕ) → sign w bs ≡ Some x → (g : List ℕ) × (h : List ℕ) × AreSpaces g × AreSpaces h × (bs ≡ about g w h x.1)
unfolding sign
sign_only w bs x e =
    let r = rest_of is_space bs in
    let d = drop (length w) r in
    let p = if_some (begins w r) (Some (tt, rest_of is_space d)) x e in
    let m : rest_of is_space d ≡ x.1 = ap (λ z. z.1) (some_same (tt, rest_of is_space d) x p.1) in (
      front_of is_space bs,
      front_of is_space d,
      front_passes is_space bs,
      front_passes is_space d,
      cut_at is_space bs ∙ ap (λ z. front_of is_space bs ++ z)
          (begins_split w r p.0 ∙ ap (λ z. w ++ z) (cut_at is_space d ∙ ap (λ z. front_of is_space d ++ z) m)),
    )

pub sign_back : (g w h more : List ℕ) → AreSpaces g → AreSpaces h → heads is_space (w ++ (h ++ more)) ≡ false → heads is_space more ≡ false → sign w (about g w h more) ≡ Some (tt, more)
unfolding sign
sign_back g w h more a b s t =
    let e = (run_of is_space g (w ++ (h ++ more)) a s).1 in
    let of : List ℕ → Answer (Unit {0}) = λ r. if begins w r then Some (tt, rest_of is_space (drop (length w) r)) else None in
    ap of e
    ∙ if_true (begins w (w ++ (h ++ more))) _ None (begins_self w (h ++ more))
    ∙ ap (λ z. Some (tt, rest_of is_space z)) (drop_self w (h ++ more))
    ∙ ap (λ z. Some (tt, z)) (run_of is_space h more b t).1

-- ---- numbers that are computed
pub not_below : (limit : ℕ) (w : List ℕ) → is_numeral w ≡ false → numeral_below limit w ≡ None
unfolding numeral_below
not_below limit w h = ap (λ b. if b && nat_lt (value_of_numeral w) limit then Some (value_of_numeral w) else None) h

too_wide : (n limit : ℕ) (b : Bool) → limit ≤ 2 ^ 64 → nat_lt n (2 ^ 128) ≡ b → ◌≡◌ {A = Option ℕ} (if b then Some n else None) None → nat_lt n limit ≡ false
too_wide n limit true h e k = absurd (let no : ⊥ = cc in no)
too_wide n limit false h e k = grind (arith, nat_tests, h, e)

pub wide_not_below : (limit : ℕ) (w : List ℕ) → limit ≤ 2 ^ 64 → wide_value w ≡ None → numeral_below limit w ≡ None
unfolding numeral_below
wide_not_below limit w h e =
    let n = value_of_numeral w in
    let small = too_wide n limit (nat_lt n (2 ^ 128)) h refl e in
    ap (λ b. if is_numeral w && b then Some n else None) small ∙ elim (is_numeral w) as (λ b. ◌≡◌ {A = Option ℕ} (if b && false then Some n else None) None) [ true ↦ refl | false ↦ refl ]

wide_is : (n v : ℕ) (b : Bool) → ◌≡◌ {A = Option ℕ} (if b then Some n else None) (Some v) → n ≡ v
wide_is n v true e = some_same n v e
wide_is n v false e = none_some v _ e

pub value_below : (limit : ℕ) (w : List ℕ) (v : ℕ) → is_numeral w ≡ true → wide_value w ≡ Some v → v < limit → numeral_below limit w ≡ Some v
value_below limit w v h e l =
    below_back limit w v (record { numeral = h; value = wide_is (value_of_numeral w) v (nat_lt (value_of_numeral w) (2 ^ 128)) e; below = l })

pub value_past : (limit : ℕ) (w : List ℕ) (v : ℕ) → wide_value w ≡ Some v → limit ≤ v → numeral_below limit w ≡ None
unfolding numeral_below
value_past limit w v e l =
    let n = value_of_numeral w in
    let is : n ≡ v = wide_is n v (nat_lt n (2 ^ 128)) e in
    let past : nat_lt n limit ≡ false = (let k : limit ≤ n = omega (arith, is, l) in grind (arith, nat_tests, k)) in
    ap (λ b. if is_numeral w && b then Some n else None) past ∙ elim (is_numeral w) as (λ b. ◌≡◌ {A = Option ℕ} (if b && false then Some n else None) None) [ true ↦ refl | false ↦ refl ]
