-- The part at the front of a text.
use Rattle.std.proofs.Common.{◌≡◌, inl, ⊎_elim, if◌then◌else◌, ℕ, ℤ, pos, ◌+◌, ◌<◌, ◌≤◌, ◌-◌, ◌^◌, List, [], ◌∷◌, ◌++◌, length, take, drop, get_or, Bool, true, false, not, ◌&&◌, ◌||◌, ◌==◌, nat_lt, Option, Some, None, option_map, refl, sym, ap, ap₂, ◌∙◌, subst, arith, length-append, take-append-drop, append_assoc}
use Rattle.std.specs.List.{list_all, take_while}
use Rattle.std.proofs.lemmas.List.{take_all}
use Rattle.std.proofs.lemmas.Int.{ints}
use mir.Val.{to_z, of_z}
use mir.Syntax.{w128}
use Rattle.std.specs.Char.{is_ascii_alphabetic}
use Rattle.std.proofs.lemmas.Bool.{and_parts, or_left, or_right}
use Rattle.jz_lex.specs.LexingWords.{keywords, casts, signs, suffixed_signs, is_among, heads, begins_word, in_word, is_digit, is_word, is_numeral, in_string, inner, is_string, is_sign, is_lexeme, value_of_numeral, word_kind, cast_kind, kind_of_word}
use Rattle.jz_lex.specs.Lexing.{is_blank, begins_comment, Longest, is_no_number, HasNone}
use Rattle.jz_lex.specs.InnerFront.{kept_number, first_of, sign_of, string_length, numeral_length, shape_of, IsFront}
use Rattle.jz_lex.specs.declared.token.TokenKind.{TokenKind}
use Rattle.jz_lex.specs.declared.token.TokenKind.TheVariants.{Ident, Keyword, Num, Cast, Str, Sign}
use Rattle.jz_words.specs.declared.size.Size.{Size}
use Rattle.jz_lex.specs.declared.token.LexKind.TheVariants.{BadByte, BadNumber}
use Rattle.jz_lex.specs.declared.front.Shape.{Shape}
use Rattle.jz_lex.specs.declared.front.Shape.TheVariants as shape
use Rattle.jz_lex.specs.declared.front.Front.TheVariants as front
use Rattle.jz_lex.proofs.LexingWords.{by_cases, true_false, if_true, if_false, eq_is, same_self, cut, drop_self, behind, behind_ends, run, same_run, apart, quote_is, word_head, numeral_head, cast_head, string_is, string_head, sign_head, no_empty, no_empty_cast, or_true, cast_no_numeral, lexeme_cases, word_lexeme, numeral_lexeme, cast_lexeme, string_lexeme, sign_lexeme, only_string, word_stands, no_cast, cast_stands, number_stands, sign_stands, no_sign}

pub split_is : (n : ℕ) (text w more : List ℕ) → w ≡ take n text → more ≡ drop n text → text ≡ w ++ more
split_is n text w more e f = sym (take-append-drop n text) ∙ ap₂ (λ x y. x ++ y) (sym e) (sym f)

false_if : (b : Bool) → (b ≡ true → ⊥) → b ≡ false
false_if true h = absurd (h refl)
false_if false h = refl

-- ---- the sort of a lexeme
word_no_digit : (b : ℕ) → is_digit b ≡ true → begins_word b ≡ false
word_no_digit b h = false_if (begins_word b) (λ i. apart b _ i h)

not_word : (b : ℕ) (bs : List ℕ) → begins_word b ≡ false → is_word (b ∷ bs) ≡ false
not_word b bs h = false_if (is_word (b ∷ bs)) (λ i. true_false (begins_word b) _ (word_head b bs i).0 h)

not_numeral : (b : ℕ) (bs : List ℕ) → is_digit b ≡ false → is_numeral (b ∷ bs) ≡ false
not_numeral b bs h = false_if (is_numeral (b ∷ bs)) (λ i. true_false (is_digit b) _ (numeral_head b bs i) h)

not_cast : (b : ℕ) (bs : List ℕ) → is_digit b ≡ false → is_among casts (b ∷ bs) ≡ false
not_cast b bs h = false_if (is_among casts (b ∷ bs)) (λ i. true_false (is_digit b) _ (cast_head b bs i) h)

not_string : (b : ℕ) (bs : List ℕ) → (b == 34) ≡ false → is_string (b ∷ bs) ≡ false
not_string b bs h = false_if (is_string (b ∷ bs)) (λ i. true_false (b == 34) _ (ap (λ z. z == 34) (string_head b bs i)) h)

word_shape : (w : List ℕ) → is_word w ≡ true → (is_numeral w ≡ false) × (shape_of w ≡ shape.Word)
word_shape [] h = cc
word_shape (b ∷ bs) h = (not_numeral b bs (false_if (is_digit b) (λ i. apart b _ (word_head b bs h).0 i)), rw h refl)

numeral_shape : (w : List ℕ) → is_numeral w ≡ true → shape_of w ≡ shape.Number (pos (value_of_numeral w))
numeral_shape [] h = cc
numeral_shape (b ∷ bs) h = rw (not_word b bs (word_no_digit b (numeral_head b bs h)), h) refl

cast_shape : (w : List ℕ) → is_among casts w ≡ true → (is_numeral w ≡ false) × (shape_of w ≡ shape.Cast)
cast_shape [] h = true_false (is_among casts []) _ h no_empty_cast
cast_shape (b ∷ bs) h =
    let n = false_if (is_numeral (b ∷ bs)) (λ i. cast_no_numeral (b ∷ bs) h i) in
    (n, rw (not_word b bs (word_no_digit b (cast_head b bs h)), n, h) refl)

string_shape : (w : List ℕ) → is_string w ≡ true → (is_numeral w ≡ false) × (shape_of w ≡ shape.Str)
string_shape [] h = cc
string_shape (b ∷ bs) h =
    let x = string_head b bs h in
    let l : begins_word b ≡ false = ap begins_word x ∙ quote_is.0 in
    let d : is_digit b ≡ false = ap is_digit x ∙ quote_is.1 in
    let n = not_numeral b bs d in
    (n, rw (not_word b bs l, n, not_cast b bs d, h) refl)

sign_shape : (w more : List ℕ) → is_sign w more ≡ true → (is_numeral w ≡ false) × (shape_of w ≡ shape.Sign)
sign_shape [] more h = true_false (is_lexeme [] more) _ (sign_lexeme [] more h) (no_empty more)
sign_shape (b ∷ bs) more h =
    let p = sign_head b bs more h in
    let n = not_numeral b bs p.1 in
    (n, rw (not_word b bs p.0, n, not_cast b bs p.1, not_string b bs p.3) refl)

no_number_false : (w more : List ℕ) → is_numeral w ≡ false → is_no_number w more ≡ false
no_number_false w more h = rw h refl

-- ---- what is skipped
pub blank_part : (text : List ℕ) → 0 < length text → is_blank (get_or text 0 0) ≡ true → IsFront text (front.Skipped 1)
blank_part [] z h = absurd (omega (arith, z))
blank_part (b ∷ bs) z h = (b ∷ [], bs, refl, refl, inl (b, refl, h))

-- ---- words
pub word_part : (text : List ℕ) (n : ℕ) → 0 < length text → begins_comment text ≡ false → begins_word (get_or text 0 0) ≡ true → n ≡ length (take_while in_word (take (length text - 1) (drop 1 text))) → IsFront text (front.Lexeme shape.Word (1 + n))
word_part [] n z m h e = absurd (omega (arith, z))
word_part (b ∷ bs) n z m h f =
    let e : n ≡ length (take_while in_word bs) = f ∙ ap (λ z. length (take_while in_word z)) (take_all (length (b ∷ bs) - 1) bs (omega arith)) in
    let q = word_stands b bs h in
    let w = b ∷ take_while in_word bs in
    let s = word_shape w q.1 in
    (w, behind in_word bs, q.2, omega (arith, e), m, q.0, no_number_false w (behind in_word bs) s.0, s.1)

-- ---- strings
take_self : (xs ys : List ℕ) → take (length xs) (xs ++ ys) ≡ xs
take_self [] ys = refl
take_self (x ∷ xs) ys = ap (λ z. x ∷ z) (take_self xs ys)

inner_is : (xs : List ℕ) → inner (34 ∷ (xs ++ 34 ∷ [])) ≡ xs
inner_is xs =
    let n : length (34 ∷ (xs ++ 34 ∷ [])) - 2 ≡ length xs = omega (arith, length-append xs (34 ∷ [])) in
    ap (λ k. take k (xs ++ 34 ∷ [])) n ∙ take_self xs (34 ∷ [])

quoted : (xs : List ℕ) → list_all in_string xs ≡ true → is_string (34 ∷ (xs ++ 34 ∷ [])) ≡ true
quoted xs h = rw (inner_is xs, same_self (34 ∷ (xs ++ 34 ∷ [])), h) refl

quote_ends : in_string 34 ≡ false
unfolding in_string
quote_ends = refl

headed : (more : List ℕ) → heads (λ b. b == 34) more ≡ true → (rest : List ℕ) × (more ≡ 34 ∷ rest)
headed [] h = cc
headed (b ∷ rest) h = (rest, ap (λ z. z ∷ rest) (eq_is b 34 h))

-- a string that stands here has all the bytes that it may
string_run : (bs v more : List ℕ) → v ++ more ≡ 34 ∷ bs → is_string v ≡ true → (v ≡ 34 ∷ (take_while in_string bs ++ 34 ∷ [])) × (behind in_string bs ≡ 34 ∷ more)
string_run bs v more e h =
    let q = string_is v h in
    let t : 34 ∷ (inner v ++ 34 ∷ more) ≡ 34 ∷ bs = ap (λ z. 34 ∷ z) (sym (append_assoc (inner v) (34 ∷ []) more)) ∙ ap (λ z. z ++ more) (sym q.0) ∙ e in
    let u : inner v ++ 34 ∷ more ≡ bs = cc in
    let r = run in_string bs in
    let k : inner v ≡ take_while in_string bs = same_run in_string (inner v) (take_while in_string bs) (34 ∷ more) (behind in_string bs) q.1 r.1 quote_ends (behind_ends in_string bs) (u ∙ r.0) in
    let c = cut (inner v) (take_while in_string bs) (34 ∷ more) (behind in_string bs) (u ∙ r.0) (ap length k) in
    (q.0 ∙ ap (λ z. 34 ∷ (z ++ 34 ∷ [])) k, sym c.1)

behind_is : (test : ℕ → Bool) (bs : List ℕ) → drop (length (take_while test bs)) bs ≡ behind test bs
behind_is test bs = let r = run test bs in ap (λ z. drop (length (take_while test bs)) z) r.0 ∙ drop_self (take_while test bs) (behind test bs)

pub string_part : (bs : List ℕ) (n : ℕ) → begins_comment (34 ∷ bs) ≡ false → string_length bs ≡ Some n → IsFront (34 ∷ bs) (front.Lexeme shape.Str (1 + n))
unfolding string_length
string_part bs n m h = by_cases _ (heads (λ b. b == 34) (drop (length (take_while in_string bs)) bs))
    (λ g. here (headed (behind in_string bs) (sym (ap (heads (λ b. b == 34)) (behind_is in_string bs)) ∙ g)) (some (sym (if_true _ _ _ g) ∙ h)))
    (λ g. absurd (none (sym (if_false _ _ _ g) ∙ h)))
  where
    some : ◌≡◌ {A = Option ℕ} (Some (length (take_while in_string bs) + 1)) (Some n) → length (take_while in_string bs) + 1 ≡ n
    some e = cc

    none : ◌≡◌ {A = Option ℕ} None (Some n) → ⊥
    none e = cc

    here : (rest : List ℕ) × (behind in_string bs ≡ 34 ∷ rest) → length (take_while in_string bs) + 1 ≡ n → IsFront (34 ∷ bs) (front.Lexeme shape.Str (1 + n))
    here p e =
        let xs = take_while in_string bs in
        let w = 34 ∷ (xs ++ 34 ∷ []) in
        let r = run in_string bs in
        let i = quoted xs r.1 in
        let s = string_shape w i in
        let t : 34 ∷ bs ≡ w ++ p.0 = ap (λ z. 34 ∷ z) (r.0 ∙ ap (λ z. xs ++ z) p.1 ∙ sym (append_assoc xs (34 ∷ []) p.0)) in
        let most : (v more : List ℕ) → v ++ more ≡ w ++ p.0 → is_lexeme v more ≡ true → length v ≤ length w =
        λ v more f k. only_string bs v more _ (f ∙ sym t) k (λ j. let q = string_run bs v more (f ∙ sym t) j in omega (arith, ap length q.0)) in
        (w, p.0, t, omega (arith, length-append xs (34 ∷ []), e), m, (string_lexeme w p.0 i, most), no_number_false w p.0 s.0, s.1)

pub no_string_part : (bs : List ℕ) → begins_comment (34 ∷ bs) ≡ false → string_length bs ≡ None → HasNone BadByte (34 ∷ bs)
unfolding string_length
no_string_part bs m h = by_cases _ (heads (λ b. b == 34) (drop (length (take_while in_string bs)) bs))
    (λ g. absurd (some (sym (if_true _ _ _ g) ∙ h)))
    (λ g. (
      34,
      bs,
      refl,
      quote_is.2,
      m,
      λ v more f k. only_string bs v more _ f k
          (λ j. let q = string_run bs v more f j in
          true_false (heads (λ b. b == 34) (drop (length (take_while in_string bs)) bs)) _ (ap (heads (λ b. b == 34)) (behind_is in_string bs ∙ q.1)) g),
    ))
  where
    some : ◌≡◌ {A = Option ℕ} (Some (length (take_while in_string bs) + 1)) None → ⊥
    some e = cc

pub quoted_part : (text : List ℕ) (n : ℕ) → 0 < length text → begins_comment text ≡ false → get_or text 0 0 ≡ 34 → Some n ≡ string_length (take (length text - 1) (drop 1 text)) → IsFront text (front.Lexeme shape.Str (1 + n))
quoted_part [] n z m h e = absurd (omega (arith, z))
quoted_part (b ∷ bs) n z m h e =
    let k : take (length (b ∷ bs) - 1) bs ≡ bs = take_all (length (b ∷ bs) - 1) bs (omega arith) in
    subst (λ x. IsFront (x ∷ bs) (front.Lexeme shape.Str (1 + n))) (sym h)
    (string_part bs n (sym (ap (λ x. begins_comment (x ∷ bs)) h) ∙ m) (sym (e ∙ ap string_length k)))

pub unquoted_part : (text : List ℕ) → 0 < length text → begins_comment text ≡ false → get_or text 0 0 ≡ 34 → None ≡ string_length (take (length text - 1) (drop 1 text)) → HasNone BadByte text
unquoted_part [] z m h e = absurd (omega (arith, z))
unquoted_part (b ∷ bs) z m h e =
    let k : take (length (b ∷ bs) - 1) bs ≡ bs = take_all (length (b ∷ bs) - 1) bs (omega arith) in
    subst (λ x. HasNone BadByte (x ∷ bs)) (sym h)
    (no_string_part bs (sym (ap (λ x. begins_comment (x ∷ bs)) h) ∙ m) (sym (e ∙ ap string_length k)))

-- ---- signs
no_quote : (b : ℕ) → (b ≡ 34 → ⊥) → (b == 34) ≡ false
no_quote b h = false_if (b == 34) (λ i. h (eq_is b 34 i))

pub sign_part : (text : List ℕ) (n : ℕ) → 0 < length text → begins_comment text ≡ false → begins_word (get_or text 0 0) ≡ false → is_digit (get_or text 0 0) ≡ false → (get_or text 0 0 ≡ 34 → ⊥) → option_map (λ w. length w) (sign_of text) ≡ Some n → IsFront text (front.Lexeme shape.Sign n)
sign_part [] n z m l d k e = absurd (omega (arith, z))
sign_part (b ∷ bs) n z m l d k e = go (sign_of (b ∷ bs)) refl e
  where
    go : (o : Option (List ℕ)) → sign_of (b ∷ bs) ≡ o → option_map (λ w. length w) o ≡ Some n → IsFront (b ∷ bs) (front.Lexeme shape.Sign n)
    go None f g = cc
    go (Some w) f g =
        let q = sign_stands b bs w l d (no_quote b k) f in
        let t : length w ≡ n = cc in
        let s = sign_shape w q.0 q.3 in
        (w, q.0, q.1, t, m, q.2, no_number_false w q.0 s.0, s.1)

is_none : (o : Option (List ℕ)) → option_map (λ w. length w) o ≡ None → o ≡ None
is_none None f = refl
is_none (Some w) f = cc

pub none_part : (text : List ℕ) → 0 < length text → begins_comment text ≡ false → is_blank (get_or text 0 0) ≡ false → begins_word (get_or text 0 0) ≡ false → is_digit (get_or text 0 0) ≡ false → (get_or text 0 0 ≡ 34 → ⊥) → option_map (λ w. length w) (sign_of text) ≡ None → HasNone BadByte text
none_part [] z m s l d k e = absurd (omega (arith, z))
none_part (b ∷ bs) z m s l d k e = (b, bs, refl, s, m, no_sign b bs l d (no_quote b k) (is_none (sign_of (b ∷ bs)) e))

-- ---- casts and numbers
pub digit_no_slash : (text : List ℕ) → heads is_digit text ≡ true → begins_comment text ≡ false
unfolding is_digit
digit_no_slash [] h = cc
digit_no_slash (b ∷ bs) h = let n : (47 == b) ≡ false = grind arith in rw n refl

pub cast_part : (text : List ℕ) (n : ℕ) → heads is_digit text ≡ true → option_map (λ w. length w) (first_of false casts text) ≡ Some n → IsFront text (front.Lexeme shape.Cast n)
cast_part [] n h e = cc
cast_part (b ∷ bs) n h e = go (first_of false casts (b ∷ bs)) refl e
  where
    go : (o : Option (List ℕ)) → first_of false casts (b ∷ bs) ≡ o → option_map (λ w. length w) o ≡ Some n → IsFront (b ∷ bs) (front.Lexeme shape.Cast n)
    go None f g = cc
    go (Some w) f g =
        let q = cast_stands b bs w h f in
        let t : length w ≡ n = cc in
        let s = cast_shape w q.3 in
        (w, q.0, q.1, t, digit_no_slash (b ∷ bs) h, q.2, no_number_false w q.0 s.0, s.1)

-- no cast is found at the front
abbrev pub FindsNoCast : List ℕ → Type 0
FindsNoCast text = option_map (λ w. length w) (first_of false casts text) ≡ None

numeral_here : (text w more : List ℕ) → heads is_digit text ≡ true → FindsNoCast text → text ≡ w ++ more → length w ≡ numeral_length text → Longest w more × (is_numeral w ≡ true)
numeral_here text w more h c e l =
    let q = number_stands text h (no_cast text (is_none (first_of false casts text) c)) in
    let k = cut q.0 w q.1 more (sym q.2 ∙ e) (q.3 ∙ sym l) in
    let m : Longest w more = subst (λ z. Longest w z) k.1 (subst (λ z. Longest z q.1) k.0 q.4) in
    (m, subst (λ z. is_numeral z ≡ true) k.0 q.5)

pub letter_part : (text w more : List ℕ) → heads is_digit text ≡ true → FindsNoCast text → text ≡ w ++ more → length w ≡ numeral_length text → heads is_ascii_alphabetic more ≡ true → HasNone BadNumber text
letter_part text w more h c e l a =
    let q = numeral_here text w more h c e l in
    (w, more, e, q.0, rw q.1 (or_left (heads is_ascii_alphabetic more) (not (nat_lt (value_of_numeral w) (2 ^ 127))) a))

kept_none : (n : ℕ) → kept_number n ≡ None → nat_lt n (2 ^ 127) ≡ false
kept_none n h = false_if (nat_lt n (2 ^ 127)) (λ i. let e = sym h ∙ if_true (nat_lt n (2 ^ 127)) (Some (pos n)) None i in some_none (pos n) (sym e))
  where
    some_none : (z : ℤ) → ◌≡◌ {A = Option ℤ} (Some z) None → ⊥
    some_none z e = cc

kept_some : (n : ℕ) (z : ℤ) → kept_number n ≡ Some z → (nat_lt n (2 ^ 127) ≡ true) × (pos n ≡ z)
kept_some n z h = by_cases _ (nat_lt n (2 ^ 127))
    (λ i. let e : ◌≡◌ {A = Option ℤ} (Some (pos n)) (Some z) = sym (if_true (nat_lt n (2 ^ 127)) (Some (pos n)) None i) ∙ h in (i, same (pos n) z e))
    (λ i. let e : ◌≡◌ {A = Option ℤ} None (Some z) = sym (if_false (nat_lt n (2 ^ 127)) (Some (pos n)) None i) ∙ h in absurd (none z e))
  where
    same : (y z : ℤ) → ◌≡◌ {A = Option ℤ} (Some y) (Some z) → y ≡ z
    same y z e = cc

    none : (z : ℤ) → ◌≡◌ {A = Option ℤ} None (Some z) → ⊥
    none z e = cc

pub large_part : (text w more : List ℕ) → heads is_digit text ≡ true → FindsNoCast text → text ≡ w ++ more → length w ≡ numeral_length text → kept_number (value_of_numeral w) ≡ None → HasNone BadNumber text
large_part text w more h c e l a =
    let q = numeral_here text w more h c e l in
    let t : not (nat_lt (value_of_numeral w) (2 ^ 127)) ≡ true = ap not (kept_none (value_of_numeral w) a) in
    (w, more, e, q.0, rw q.1 (or_right (heads is_ascii_alphabetic more) (not (nat_lt (value_of_numeral w) (2 ^ 127))) t))

pub number_part : (text w more : List ℕ) (z : ℤ) → heads is_digit text ≡ true → FindsNoCast text → text ≡ w ++ more → length w ≡ numeral_length text → heads is_ascii_alphabetic more ≡ false → kept_number (value_of_numeral w) ≡ Some z → IsFront text (front.Lexeme (shape.Number z) (numeral_length text))
number_part text w more z h c e l a k =
    let q = numeral_here text w more h c e l in
    let v = kept_some (value_of_numeral w) z k in
    let n : is_no_number w more ≡ false = rw q.1 (rw a (rw v.0 refl)) in
    (w, more, e, l, digit_no_slash text h, q.0, n, numeral_shape w q.1 ∙ ap (λ y. shape.Number y) v.1)

-- a number that is kept is the same as a signed one of 128 bits
pub kept_signed : (n : ℕ) (z : ℤ) → kept_number n ≡ Some z → to_z w128 (of_z w128 z) ≡ z
kept_signed n z h =
    let v = kept_some n z h in
    let l : n < 2 ^ 127 = lt_is n (2 ^ 127) v.0 in
    let e : to_z w128 (of_z w128 (pos n)) ≡ pos n = omega (arith, ints) in
    subst (λ y. to_z w128 (of_z w128 y) ≡ y) v.1 e
  where
    lt_is : (a b : ℕ) → nat_lt a b ≡ true → a < b
    lt_is a b e = grind arith

pub number_fits : (text : List ℕ) → heads is_digit text ≡ true → FindsNoCast text → numeral_length text ≤ length text
number_fits text h c = let q = number_stands text h (no_cast text (is_none (first_of false casts text) c)) in omega (arith, ap length q.2, length-append q.0 q.1, q.3)

-- ---- what a shape tells
abbrev shape_by : Bool → Bool → Bool → Bool → List ℕ → Shape
shape_by a b c d w = if a then shape.Word else if b then shape.Number (pos (value_of_numeral w)) else if c then shape.Cast else if d then shape.Str else shape.Sign

abbrev kind_by : Bool → Bool → Bool → Bool → List ℕ → TokenKind
kind_by a b c d w = if a then word_kind w else if b then Num (pos (value_of_numeral w)) else if c then cast_kind w else if d then Str (inner w) else Sign w

pub shape_word : (w : List ℕ) → shape_of w ≡ shape.Word → (is_word w ≡ true) × (kind_of_word w ≡ word_kind w)
shape_word w h = go (is_word w) (is_numeral w) (is_among casts w) (is_string w) h
  where
    go : (a b c d : Bool) → shape_by a b c d w ≡ shape.Word → (a ≡ true) × (kind_by a b c d w ≡ word_kind w)
    go true b c d e = (refl, refl)
    go false true c d e = cc
    go false false true d e = cc
    go false false false true e = cc
    go false false false false e = cc

pub shape_number : (w : List ℕ) (n : ℤ) → shape_of w ≡ shape.Number n → kind_of_word w ≡ Num n
shape_number w n h = go (is_word w) (is_numeral w) (is_among casts w) (is_string w) h
  where
    go : (a b c d : Bool) → shape_by a b c d w ≡ shape.Number n → kind_by a b c d w ≡ Num n
    go true b c d e = cc
    go false true c d e = cc
    go false false true d e = cc
    go false false false true e = cc
    go false false false false e = cc

pub shape_cast : (w : List ℕ) → shape_of w ≡ shape.Cast → kind_of_word w ≡ cast_kind w
shape_cast w h = go (is_word w) (is_numeral w) (is_among casts w) (is_string w) h
  where
    go : (a b c d : Bool) → shape_by a b c d w ≡ shape.Cast → kind_by a b c d w ≡ cast_kind w
    go true b c d e = cc
    go false true c d e = cc
    go false false true d e = refl
    go false false false true e = cc
    go false false false false e = cc

pub shape_string : (w : List ℕ) → shape_of w ≡ shape.Str → (2 ≤ length w) × (kind_of_word w ≡ Str (inner w))
shape_string w h = let p = go (is_word w) (is_numeral w) (is_among casts w) (is_string w) h in (omega (arith, ap length (string_is w p.0).0, length-append (inner w) (34 ∷ [])), p.1)
  where
    go : (a b c d : Bool) → shape_by a b c d w ≡ shape.Str → (d ≡ true) × (kind_by a b c d w ≡ Str (inner w))
    go true b c d e = cc
    go false true c d e = cc
    go false false true d e = cc
    go false false false true e = (refl, refl)
    go false false false false e = cc

pub shape_sign : (w more : List ℕ) → is_lexeme w more ≡ true → shape_of w ≡ shape.Sign → (is_sign w more ≡ true) × (kind_of_word w ≡ Sign w)
shape_sign w more l h = go (is_word w) (is_numeral w) (is_among casts w) (is_string w) (is_sign w more) l h
  where
    go : (a b c d s : Bool) → (a || b || c || d || s) ≡ true → shape_by a b c d w ≡ shape.Sign → (s ≡ true) × (kind_by a b c d w ≡ Sign w)
    go true b c d s l e = cc
    go false true c d s l e = cc
    go false false true d s l e = cc
    go false false false true s l e = cc
    go false false false false s l e = (l, refl)

-- the token of a lexeme is of one of six kinds
pub kind_cases : (P : TokenKind → Type 0) (w : List ℕ) → (is_word w ≡ true → P (Keyword w)) → (is_word w ≡ true → is_among keywords w ≡ false → P (Ident w)) → ((n : ℤ) → P (Num n)) → ((s : Size) (g : Bool) → P (Cast s g)) → ((bs : List ℕ) → P (Str bs)) → P (Sign w) → P (kind_of_word w)
kind_cases P w f g h i j k = go (is_word w) (is_numeral w) (is_among casts w) (is_string w) (is_among keywords w) refl refl
  where
    go : (a b c d e : Bool) → is_word w ≡ a → is_among keywords w ≡ e → P (if a then (if e then Keyword w else Ident w) else if b then Num (pos (value_of_numeral w)) else if c then cast_kind w else if d then Str (inner w) else Sign w)
    go true b c d true x y = f x
    go true b c d false x y = g x y
    go false true c d e x y = h (pos (value_of_numeral w))
    go false false true d e x y = i _ _
    go false false false true e x y = j (inner w)
    go false false false false e x y = k

-- a lexeme is one too where nothing follows
pub lexeme_alone : (w more : List ℕ) → is_lexeme w more ≡ true → is_lexeme w [] ≡ true
lexeme_alone w more h = lexeme_cases _ w more h
    (λ i. word_lexeme w [] i)
    (λ i. numeral_lexeme w [] i)
    (λ i. cast_lexeme w [] i)
    (λ i. string_lexeme w [] i)
    (λ i. sign_lexeme w [] (⊎_elim
    (λ j. or_left _ _ j)
    (λ j. or_right (is_among signs w) (is_among suffixed_signs w && not (heads in_word [])) (rw (and_parts (is_among suffixed_signs w) (not (heads in_word more)) j).0 refl))
    (or_true (is_among signs w) (is_among suffixed_signs w && not (heads in_word more)) i)))
