-- The digits of a text, byte by byte, and where a text is no hexadecimal text.
use Rattle.std.proofs.Common.{◌≡◌, ℕ, suc, ◌+◌, ◌<◌, ◌%◌, Bool, true, false, ◌||◌, ◌==◌, cond, List, [], ◌∷◌, ◌++◌, length, take, drop, get_or, refl, sym, ap, ◌∙◌, arith, subst, append_assoc, append-nil, add-one, ◌⊎◌, inl, inr, Ok, Option, Some, None, if◌then◌else◌}
use Rattle.std.specs.List.{AllPass}
use Rattle.std.proofs.lemmas.Bool.{or_cases, or_left, or_right, or_from, eqb-true}
use Rattle.std.proofs.lemmas.List.{take_more, length-take-le, take-append-drop, drop_more}
use Rattle.std.proofs.lemmas.List.Elements.{All-nil, All-cons, All-head, All-tail, All-push, All-append, All-more, All-weaker, filter_more}
use Rattle.hex.specs.Hex.{is_hex_digit, decode_of}
use Rattle.hex.proofs.HexLemmas.{decode_of-odd}
use Rattle.jz_disasm.specs.Hexadecimal.{is_blank, is_hex_byte, digits_of, IsHexOf, IsFirstOther, IsOdd, IsHexFault}
use Rattle.jz_disasm.specs.InnerDigits.{HasLastDigit, AreDigits, after_byte}

-- ---- one byte more
pub no_bytes : (text : List ℕ) → AreDigits (take 0 text) [] 0
no_bytes text = record { allowed = All-nil (λ c. is_hex_byte c ≡ true); digits_are = refl; last = inl (All-nil (λ c. is_blank c ≡ true), refl) }

pub digit_more : (text digits new : List ℕ) (i end : ℕ) (d : ℕ) → i < length text → AreDigits (take i text) digits end
    → is_hex_digit (get_or text i d) ≡ true → new ≡ digits ++ get_or text i d ∷ [] → AreDigits (take (i + 1) text) new (i + 1)
digit_more text digits new i end d h a k e =
    let x = get_or text i d in
    let kept : cond (is_hex_digit x) (x ∷ []) [] ≡ x ∷ [] = ap (λ b. cond b (x ∷ []) []) k in
    record {
      allowed = All-more (λ c. is_hex_byte c ≡ true) text i d h a.allowed (or_left (is_hex_digit x) (is_blank x) k);
      digits_are = e ∙ ap (λ ds. ds ++ x ∷ []) a.digits_are ∙ ap (λ ds. digits_of (take i text) ++ ds) (sym kept) ∙ sym (filter_more is_hex_digit text i d h);
      last = inr (record {
        front = take i text;
        digit = x;
        rest = [];
        splits = take_more text i d h;
        allowed = a.allowed;
        is_digit = k;
        blanks = All-nil (λ c. is_blank c ≡ true);
        offset_is = add-one i ∙ ap suc (sym (length-take-le i text (omega (arith, h))));
      });
    }

pub blank_more : (text digits : List ℕ) (i end : ℕ) (d : ℕ) → i < length text → AreDigits (take i text) digits end
    → is_hex_digit (get_or text i d) ≡ false → is_blank (get_or text i d) ≡ true → AreDigits (take (i + 1) text) digits end
blank_more text digits i end d h a k b =
    let x = get_or text i d in
    let none : cond (is_hex_digit x) (x ∷ []) [] ≡ [] = ap (λ t. cond t (x ∷ []) []) k in
    record {
      allowed = All-more (λ c. is_hex_byte c ≡ true) text i d h a.allowed (or_right (is_hex_digit x) (is_blank x) b);
      digits_are = a.digits_are ∙ sym (append-nil (digits_of (take i text))) ∙ ap (λ ds. digits_of (take i text) ++ ds) (sym none) ∙ sym (filter_more is_hex_digit text i d h);
      last = still a.last;
    }
  where
    still : (AllPass is_blank (take i text) × (digits ≡ [])) ⊎ HasLastDigit (take i text) end
        → (AllPass is_blank (take (i + 1) text) × (digits ≡ [])) ⊎ HasLastDigit (take (i + 1) text) end
    still (inl p) = inl (All-more (λ c. is_blank c ≡ true) text i d h p.0 b, p.1)
    still (inr l) = inr (record {
      front = l.front;
      digit = l.digit;
      rest = l.rest ++ get_or text i d ∷ [];
      splits = take_more text i d h ∙ ap (λ t. t ++ get_or text i d ∷ []) l.splits ∙ append_assoc l.front (l.digit ∷ l.rest) (get_or text i d ∷ []);
      allowed = l.allowed;
      is_digit = l.is_digit;
      blanks = All-push (λ c. is_blank c ≡ true) l.rest (get_or text i d) l.blanks b;
      offset_is = l.offset_is;
    })

pub other_here : (text digits : List ℕ) (i end d : ℕ) → i < length text → AreDigits (take i text) digits end
    → is_hex_digit (get_or text i d) ≡ false → is_blank (get_or text i d) ≡ false → IsFirstOther text i
other_here text digits i end d h a k b = record {
  front = take i text;
  other = get_or text i d;
  rest = drop (i + 1) text;
  splits = sym (take-append-drop i text) ∙ ap (λ r. take i text ++ r) (drop_more text i d h);
  allowed = a.allowed;
  is_other = or_from (is_hex_digit (get_or text i d)) (is_blank (get_or text i d)) k b;
  offset_is = sym (length-take-le i text (omega (arith, h)));
}

if_true : {A : Type 0} (b : Bool) (x y : A) → b ≡ true → (if b then x else y) ≡ x
if_true b x y h = ap (λ z. if z then x else y) h

if_false : {A : Type 0} (b : Bool) (x y : A) → b ≡ false → (if b then x else y) ≡ y
if_false b x y h = ap (λ z. if z then x else y) h

either_way : (P : Type 0) (b : Bool) → (b ≡ true → P) → (b ≡ false → P) → P
either_way P true f g = f refl
either_way P false f g = g refl

pair_is : (a b : List ℕ) (m n : ℕ) → ◌≡◌ {A = Option (List ℕ × ℕ)} (Some (a, m)) (Some (b, n)) → (a ≡ b) × (m ≡ n)
pair_is a b m n e = (ap (λ o. (got o).0) e, ap (λ o. (got o).1) e)
  where
    got : Option (List ℕ × ℕ) → List ℕ × ℕ
    got None = ([], 0)
    got (Some p) = p

no_pair : (b : List ℕ) (n : ℕ) (P : Type 0) → ◌≡◌ {A = Option (List ℕ × ℕ)} None (Some (b, n)) → P
no_pair b n P e = absurd (let no : ⊥ = cc in no)

-- what is known behind one byte more
pub byte_more : (text digits new : List ℕ) (i end last : ℕ) → i < length text → AreDigits (take i text) digits end → after_byte digits end i (get_or text i 0) ≡ Some (new, last)
    → AreDigits (take (i + 1) text) new last
unfolding after_byte
byte_more text digits new i end last h a e =
    let x = get_or text i 0 in
    either_way (AreDigits (take (i + 1) text) new last) (is_hex_digit x)
    (λ k.
    let same = pair_is (digits ++ x ∷ []) new (i + 1) last (sym (if_true (is_hex_digit x) (Some (digits ++ x ∷ [], i + 1)) (if is_blank x then Some (digits, end) else None) k) ∙ e) in
    subst (λ z. AreDigits (take (i + 1) text) new z) same.1 (digit_more text digits new i end 0 h a k (sym same.0)))
    (λ k. either_way (AreDigits (take (i + 1) text) new last) (is_blank x)
    (λ b.
    let same = pair_is digits new end last
    (sym (if_false (is_hex_digit x) (Some (digits ++ x ∷ [], i + 1)) (if is_blank x then Some (digits, end) else None) k ∙ if_true (is_blank x) (Some (digits, end)) None b) ∙ e) in
    let made = blank_more text digits i end 0 h a k b in
    subst (λ z. AreDigits (take (i + 1) text) new z) same.1 (subst (λ z. AreDigits (take (i + 1) text) z end) same.0 made))
    (λ b. no_pair new last _
    (sym (if_false (is_hex_digit x) (Some (digits ++ x ∷ [], i + 1)) (if is_blank x then Some (digits, end) else None) k ∙ if_false (is_blank x) (Some (digits, end)) None b) ∙ e)))

some_pair : (b : List ℕ) (n : ℕ) (P : Type 0) → ◌≡◌ {A = Option (List ℕ × ℕ)} (Some (b, n)) None → P
some_pair b n P e = absurd (let no : ⊥ = cc in no)

pub byte_other : (text digits : List ℕ) (i end : ℕ) → i < length text → AreDigits (take i text) digits end → after_byte digits end i (get_or text i 0) ≡ None → IsFirstOther text i
unfolding after_byte
byte_other text digits i end h a e =
    let x = get_or text i 0 in
    either_way (IsFirstOther text i) (is_hex_digit x)
    (λ k. some_pair (digits ++ x ∷ []) (i + 1) _ (sym (if_true (is_hex_digit x) (Some (digits ++ x ∷ [], i + 1)) (if is_blank x then Some (digits, end) else None) k) ∙ e))
    (λ k. either_way (IsFirstOther text i) (is_blank x)
    (λ b. some_pair digits end _
    (sym (if_false (is_hex_digit x) (Some (digits ++ x ∷ [], i + 1)) (if is_blank x then Some (digits, end) else None) k ∙ if_true (is_blank x) (Some (digits, end)) None b) ∙ e))
    (λ b. other_here text digits i end 0 h a k b))

-- ---- the whole
pub odd_here : (text digits : List ℕ) (end : ℕ) → AreDigits text digits end → length digits % 2 ≡ 1 → IsOdd text end
odd_here text digits end a odd = by_last a.last
  where
    by_last : (AllPass is_blank text × (digits ≡ [])) ⊎ HasLastDigit text end → IsOdd text end
    by_last (inl p) = absurd (omega (arith, ap length p.1, odd))
    by_last (inr l) = record {
      front = l.front;
      digit = l.digit;
      rest = l.rest;
      splits = l.splits;
      allowed = l.allowed;
      is_digit = l.is_digit;
      blanks = l.blanks;
      odd = ap (λ ds. length ds % 2) (sym a.digits_are) ∙ odd;
      offset_is = l.offset_is;
    }

pub bytes_here : (text digits bytes : List ℕ) (end : ℕ) → AreDigits text digits end → decode_of digits ≡ Ok bytes → IsHexOf text bytes
bytes_here text digits bytes end a h = record { allowed = a.allowed; digits = ap decode_of (sym a.digits_are) ∙ h }

-- ---- one fault
abbrev first : List ℕ → ℕ
first [] = 0
first (c ∷ cs) = c

abbrev rest_of : List ℕ → List ℕ
rest_of [] = []
rest_of (c ∷ cs) = cs

differ : (P : ℕ → Bool) (c d : ℕ) → P c ≡ true → P d ≡ false → c ≡ d → ⊥
differ P c d h k e = cc

-- what stands in the middle passes too
middle : (P : ℕ → Bool) (xs : List ℕ) (b : ℕ) (ys : List ℕ) → AllPass P (xs ++ b ∷ ys) → P b ≡ true
middle P [] b ys h = All-head (λ c. P c ≡ true) b ys h
middle P (x ∷ xs) b ys h = middle P xs b ys (All-tail (λ c. P c ≡ true) x (xs ++ b ∷ ys) h)

-- the first that does not pass stands at one place
first_apart : (P : ℕ → Bool) (xs ys : List ℕ) (a b : ℕ) (x y : List ℕ) → AllPass P xs → AllPass P ys → P a ≡ false → P b ≡ false
    → xs ++ a ∷ x ≡ ys ++ b ∷ y → length xs ≡ length ys
first_apart P [] [] a b x y h k f g e = refl
first_apart P [] (v ∷ ys) a b x y h k f g e = absurd (differ P v a (All-head (λ c. P c ≡ true) v ys k) f (sym (ap first e)))
first_apart P (u ∷ xs) [] a b x y h k f g e = absurd (differ P u b (All-head (λ c. P c ≡ true) u xs h) g (ap first e))
first_apart P (u ∷ xs) (v ∷ ys) a b x y h k f g e =
    ap suc (first_apart P xs ys a b x y (All-tail (λ c. P c ≡ true) u xs h) (All-tail (λ c. P c ≡ true) v ys k) f g (ap rest_of e))

-- the last that passes stands at one place: behind it all pass a test that it does not
last_apart : (P : ℕ → Bool) (xs ys : List ℕ) (a b : ℕ) (x y : List ℕ) → P a ≡ false → P b ≡ false → AllPass P x → AllPass P y
    → xs ++ a ∷ x ≡ ys ++ b ∷ y → length xs ≡ length ys
last_apart P [] [] a b x y f g h k e = refl
last_apart P [] (v ∷ ys) a b x y f g h k e =
    absurd (differ P b b (middle P ys b y (subst (λ z. AllPass P z) (ap rest_of e) h)) g refl)
last_apart P (u ∷ xs) [] a b x y f g h k e =
    absurd (differ P a a (middle P xs a x (subst (λ z. AllPass P z) (sym (ap rest_of e)) k)) f refl)
last_apart P (u ∷ xs) (v ∷ ys) a b x y f g h k e = ap suc (last_apart P xs ys a b x y f g h k (ap rest_of e))

-- a digit is no blank
digit_by : (c : ℕ) → is_hex_digit c ≡ true → (is_blank c ≡ true) ⊎ (is_blank c ≡ false) → is_blank c ≡ false
digit_by c h (inr k) = k
digit_by c h (inl k) = absurd (no_blank c h (or_cases (c == 9) ((c == 10) || ((c == 13) || (c == 32))) k))
  where
    at : (n : ℕ) → is_hex_digit n ≡ false → (c == n) ≡ true → ⊥
    at n f e = differ is_hex_digit c n h f (eqb-true c n e)

    last_two : ((c == 13) ≡ true) ⊎ ((c == 32) ≡ true) → ⊥
    last_two (inl e) = at 13 refl e
    last_two (inr e) = at 32 refl e

    last_three : ((c == 10) ≡ true) ⊎ (((c == 13) || (c == 32)) ≡ true) → ⊥
    last_three (inl e) = at 10 refl e
    last_three (inr e) = last_two (or_cases (c == 13) (c == 32) e)

    no_blank : (c' : ℕ) → is_hex_digit c' ≡ true → ((c == 9) ≡ true) ⊎ (((c == 10) || ((c == 13) || (c == 32))) ≡ true) → ⊥
    no_blank c' h' (inl e) = at 9 refl e
    no_blank c' h' (inr e) = last_three (or_cases (c == 10) ((c == 13) || (c == 32)) e)

either : (b : Bool) → (b ≡ true) ⊎ (b ≡ false)
either true = inl refl
either false = inr refl

digit_no_blank : (c : ℕ) → is_hex_digit c ≡ true → is_blank c ≡ false
digit_no_blank c h = digit_by c h (either (is_blank c))

blanks_allowed : (xs : List ℕ) → AllPass is_blank xs → AllPass is_hex_byte xs
blanks_allowed xs h = All-weaker (λ c. is_blank c ≡ true) (λ c. is_hex_byte c ≡ true) (λ c k. or_right (is_hex_digit c) (is_blank c) k) xs h

odd_allowed : (text : List ℕ) (n : ℕ) → IsOdd text n → AllPass is_hex_byte text
odd_allowed text n o =
    subst (λ t. AllPass is_hex_byte t) (sym o.splits)
    (All-append (λ c. is_hex_byte c ≡ true) o.front (o.digit ∷ o.rest) o.allowed
    (All-cons (λ c. is_hex_byte c ≡ true) o.digit o.rest (or_left (is_hex_digit o.digit) (is_blank o.digit) o.is_digit) (blanks_allowed o.rest o.blanks)))

other_apart : (text : List ℕ) (n : ℕ) → AllPass is_hex_byte text → IsFirstOther text n → ⊥
other_apart text n h o =
    differ is_hex_byte o.other o.other (middle is_hex_byte o.front o.other o.rest (subst (λ t. AllPass is_hex_byte t) o.splits h)) o.is_other refl

pub one_hex_fault : (text : List ℕ) (m n : ℕ) → IsHexFault text m → IsHexFault text n → m ≡ n
one_hex_fault text m n (inl a) (inl b) =
    a.offset_is ∙ first_apart is_hex_byte a.front b.front a.other b.other a.rest b.rest a.allowed b.allowed a.is_other b.is_other (sym a.splits ∙ b.splits) ∙ sym b.offset_is
one_hex_fault text m n (inl a) (inr b) = absurd (other_apart text m (odd_allowed text n b) a)
one_hex_fault text m n (inr a) (inl b) = absurd (other_apart text n (odd_allowed text m a) b)
one_hex_fault text m n (inr a) (inr b) =
    let same = last_apart is_blank a.front b.front a.digit b.digit a.rest b.rest (digit_no_blank a.digit a.is_digit) (digit_no_blank b.digit b.is_digit) a.blanks b.blanks (sym a.splits ∙ b.splits) in
    a.offset_is ∙ ap suc same ∙ sym b.offset_is

pub hex_or_fault : (text bytes : List ℕ) (n : ℕ) → IsHexOf text bytes → IsHexFault text n → ⊥
hex_or_fault text bytes n h (inl a) = other_apart text n h.allowed a
hex_or_fault text bytes n h (inr b) =
    let odd = decode_of-odd (digits_of text) b.odd in
    let even = h.digits in
    absurd cc
