-- Reading bytes from the left: what was read and the bytes behind it, or nothing.
use Rattle.std.specs.Prelude.{◌≡◌, ℕ, zero, suc, ◌*◌, ◌-◌, ◌^◌, ◌==◌, nat_lt, nat_le, List, [], ◌∷◌, length, take, drop, Bool, true, false, not, ◌&&◌, ◌||◌, if◌then◌else◌, Option, Some, None, Result, Ok, Err, ◌++◌, ℤ, pos, negsuc, codes}
use Rattle.std.specs.Char.{is_ascii_digit}
use Rattle.std.specs.List.{take_while}
use Rattle.std.specs.Str.Parse.{digits_value}
use Rattle.jz_data.specs.declared.failure.Failure.{Failure}
use Rattle.jz_data.specs.declared.failure.Failure.TheVariants.{Refused, OutOfMemory}
use Rattle.jz_lex.specs.LexingWords.{begins, heads, begins_word, in_word, is_among, keywords}
use Rattle.jz_listing_lines.specs.declared.cursor.Unread.{Unread}

abbrev pub Answer : Type 0 → Type 0
Answer A = Option (A × List ℕ)

-- what reads a value from the left
abbrev pub Reader : Type 0 → Type 0
Reader A = List ℕ → Answer A

infixl 10 ◌>>=◌
abbrev pub ◌>>=◌ : {A B : Type 0} → Answer A → (A × List ℕ → Answer B) → Answer B
(Some x) >>= f = f x
None >>= f = None

-- what was read, seen by a function
abbrev pub through : {A B : Type 0} → (A → B) → Answer A → Answer B
through to (Some x) = Some (to x.0, x.1)
through to None = None

-- these bytes
unfoldable pub literal : List ℕ → Reader (Unit {0})
literal w bs = if begins w bs then Some (tt, drop (length w) bs) else None

-- these bytes, and then a value
abbrev pub behind : {A : Type 0} → List ℕ → Reader A → Reader A
behind w f bs = literal w bs >>= λ x. f x.1

-- one after the other
abbrev pub follow : {A B : Type 0} → Reader A → Reader B → Reader (A × B)
follow f g bs = f bs >>= λ x. g x.1 >>= λ y. Some ((x.0, y.0), y.1)

-- the first where these bytes stand there, else the second
abbrev pub pick : {A : Type 0} → List ℕ → Reader A → Reader A → Reader A
pick w f g bs = if begins w bs then f bs else g bs

-- no value is read
abbrev pub nothing : {A : Type 0} → Reader A
nothing bs = None

-- nothing is left
abbrev pub is_end : List ℕ → Bool
is_end [] = true
is_end (b ∷ bs) = false

-- the whole of the bytes
abbrev pub final : {A : Type 0} → Answer A → Option A
final None = None
final (Some x) = if is_end x.1 then Some x.0 else None

-- as often as these bytes stand there: they, and then a value; at most so many
abbrev pub many_at : {A : Type 0} → ℕ → List ℕ → Reader A → Reader (List A)
many_at zero w f bs = Some ([], bs)
many_at (suc n) w f bs =
    if begins w bs then through (λ p. p.0 ∷ p.1) (follow (behind w f) (many_at n w f) bs)
    else Some ([], bs)

unfoldable pub many : {A : Type 0} → List ℕ → Reader A → Reader (List A)
many w f bs = many_at (length bs) w f bs

-- the rest of a list, behind what is out already
abbrev pub more_of : {A : Type 0} → List ℕ → Reader A → List A → Reader (List A)
more_of w f out bs = through (λ rest. out ++ rest) (many w f bs)

-- the first of these values whose text stands there
abbrev pub one_of : {A : Type 0} → (A → List ℕ) → List A → Reader A
one_of text [] bs = None
one_of text (a ∷ rest) bs =
    if begins (text a) bs then Some (a, drop (length (text a)) bs) else one_of text rest bs

-- what the code read, beside what a reader reads; now is what it left
abbrev pub Gave : {A : Type 0} → Result A (Failure Unread) → List ℕ → Answer A → Type 0
Gave (Ok a) now read = read ≡ Some (a, now)
Gave (Err (Refused e)) now read = read ≡ None
Gave (Err OutOfMemory) now read = Unit {0}

-- ---- words and numbers
-- a word's bytes that begin as one and are no keyword
abbrev pub is_identifier : List ℕ → Bool
is_identifier w = heads begins_word w && not (is_among keywords w)

-- the bytes from the front on that pass a test, and those behind them
abbrev pub front_of : (ℕ → Bool) → List ℕ → List ℕ
front_of test bs = take (length (take_while test bs)) bs

abbrev pub rest_of : (ℕ → Bool) → List ℕ → List ℕ
rest_of test bs = drop (length (take_while test bs)) bs

-- the longest word, which is an identifier
unfoldable pub name : Reader (List ℕ)
name bs =
    if is_identifier (front_of in_word bs) then Some (front_of in_word bs, rest_of in_word bs)
    else None

-- digits without a leading zero
abbrev pub is_written : List ℕ → Bool
is_written [] = false
is_written (d ∷ []) = true
is_written (d ∷ e ∷ ds) = not (d == 48)

-- the same, of a number below a limit
abbrev pub is_number : ℕ → List ℕ → Bool
is_number limit w = is_written w && nat_lt (digits_value 10 w) limit

-- the number of digits, where it is one of 64 bits
abbrev pub value_of : List ℕ → Option ℕ
value_of w = if is_number (2 ^ 64) w then Some (digits_value 10 w) else None

-- the longest run of digits, which is a number of 64 bits
unfoldable pub number : Reader ℕ
number bs =
    if is_number (2 ^ 64) (front_of is_ascii_digit bs)
    then Some (digits_value 10 (front_of is_ascii_digit bs), rest_of is_ascii_digit bs) else None

-- one of 32 bits
unfoldable pub small_number : Reader ℕ
small_number bs = number bs >>= λ x. if nat_lt x.0 (2 ^ 32) then Some x else None

-- a number below 0, without its sign
abbrev pub negative : ℕ × List ℕ → Answer ℤ
negative x =
    if (x.0 == 0) || nat_lt (2 ^ 63) x.0 then None else Some (negsuc (x.0 - 1), x.1)

abbrev pub positive : ℕ × List ℕ → Answer ℤ
positive x = if nat_lt x.0 (2 ^ 63) then Some (pos x.0, x.1) else None

-- a number of 64 bits with a sign where it is below 0
unfoldable pub signed_number : Reader ℤ
signed_number bs =
    if begins (codes "-") bs then behind (codes "-") number bs >>= negative
    else number bs >>= positive

-- a value, and then these bytes
abbrev pub closed : {A : Type 0} → Reader A → List ℕ → Reader A
closed f w bs = f bs >>= λ x. literal w x.1 >>= λ y. Some (x.0, y.1)
