-- Reading the string of an annotation from the left: what was read and the bytes behind it, or
-- nothing.
use Rattle.std.specs.Prelude.{◌≡◌, ℕ, ◌^◌, List, [], ◌∷◌, length, take, drop, Bool, true, false, ◌&&◌, nat_lt, if◌then◌else◌, Option, Some, None, option_map, Result, Ok, Err, codes}
use Rattle.std.specs.List.{take_while}
use Rattle.std.specs.Str.{bytes_eq}
use Rattle.jz_tree.specs.Failure.{Failure}
use Rattle.jz_tree.specs.Failure.TheVariants.{Refused, OutOfMemory}
use Rattle.jz_lex.specs.LexingWords.{begins, begins_word, heads, in_word, is_digit, is_numeral, value_of_numeral}
use Rattle.jz_lex.specs.InnerFront.{wide_number}
use Rattle.jz_annotations.specs.declared.cursor.Unread.{Unread}
use Rattle.jz_annotations.specs.declared.precondition.Pre.{Pre}
use Rattle.jz_annotations.specs.declared.precondition.Pre.TheVariants.{Region, Range, Align}
use Rattle.jz_annotations.specs.Shapes.{is_space, is_alignment}

abbrev pub Answer : Type 0 → Type 0
Answer A = Option (A × List ℕ)

-- what reads a value from the left
abbrev pub Reader : Type 0 → Type 0
Reader A = List ℕ → Answer A

infixl 10 ◌>>=◌
abbrev pub ◌>>=◌ : {A B : Type 0} → Answer A → (A × List ℕ → Answer B) → Answer B
(Some x) >>= f = f x
None >>= f = None

-- nothing is left
abbrev pub is_end : List ℕ → Bool
is_end [] = true
is_end (b ∷ bs) = false

-- the whole of the bytes
abbrev pub final : {A : Type 0} → Answer A → Option A
final None = None
final (Some x) = if is_end x.1 then Some x.0 else None

-- what the code read, beside what a reader reads; now is what it left
abbrev pub Gave : {A : Type 0} → Result A (Failure Unread) → List ℕ → Answer A → Type 0
Gave (Ok a) now read = read ≡ Some (a, now)
Gave (Err (Refused e)) now read = read ≡ None
Gave (Err OutOfMemory) now read = Unit {0}

-- the bytes from the front on that pass a test, and those behind them
abbrev pub front_of : (ℕ → Bool) → List ℕ → List ℕ
front_of test bs = take (length (take_while test bs)) bs

abbrev pub rest_of : (ℕ → Bool) → List ℕ → List ℕ
rest_of test bs = drop (length (take_while test bs)) bs

-- the longest word, which is a name
unfoldable pub name : Reader (List ℕ)
name bs =
    if heads begins_word (front_of in_word bs)
    then Some (front_of in_word bs, rest_of in_word bs)
    else None

-- the number of a numeral below 2 ^ 128
abbrev pub wide_value : List ℕ → Option ℕ
wide_value w = wide_number (value_of_numeral w)

-- the number of a numeral, where it is below a limit
unfoldable pub numeral_below : ℕ → List ℕ → Option ℕ
numeral_below limit w =
    if is_numeral w && nat_lt (value_of_numeral w) limit then Some (value_of_numeral w) else None

-- the longest word, which writes a number below a limit
unfoldable pub number : ℕ → Reader ℕ
number limit bs =
    option_map (λ n. (n, rest_of in_word bs)) (numeral_below limit (front_of in_word bs))

-- a sign, with the spaces and tabs about it
unfoldable pub sign : List ℕ → Reader (Unit {0})
sign w bs =
    if begins w (rest_of is_space bs)
    then Some (tt, rest_of is_space (drop (length w) (rest_of is_space bs)))
    else None

-- ---- how many bytes a region has: a factor, a variable and a constant
abbrev pub Extent : Type 0
Extent = ℕ × (Option (List ℕ) × ℕ)

-- a number or a variable alone
unfoldable pub alone : Reader Extent
alone bs =
    if heads is_digit bs then (number (2 ^ 32) bs >>= λ x. Some ((0, (None, x.0)), x.1))
    else (name bs >>= λ x. Some ((1, (Some x.0, 0)), x.1))

-- what stands behind a factor and a variable
unfoldable pub extent_rest : ℕ → List ℕ → Reader Extent
extent_rest factor variable bs =
    if is_end bs then Some ((factor, (Some variable, 0)), bs)
    else sign (codes "+") bs >>= λ x.
    number (2 ^ 32) x.1 >>= λ y. Some ((factor, (Some variable, y.0)), y.1)

unfoldable pub extent : Reader Extent
extent bs =
    if is_end (rest_of in_word bs) then alone bs
    else number (2 ^ 32) bs >>= λ x.
    sign (codes "*") x.1 >>= λ y. name y.1 >>= λ z. extent_rest x.0 z.0 z.1

-- ---- preconditions
-- a name and a colon
unfoldable pub named : Reader (List ℕ)
named bs = name bs >>= λ x. sign (codes ":") x.1 >>= λ y. Some (x.0, y.1)

unfoldable pub region : Reader Pre
region bs =
    named bs >>= λ x. extent x.1 >>= λ y. Some (Region x.0 y.0.0 y.0.1.0 y.0.1.1, y.1)

unfoldable pub range : Reader Pre
range bs =
    named bs >>= λ x. number (2 ^ 64) x.1 >>= λ y.
    sign (codes "..") y.1 >>= λ z. number (2 ^ 64) z.1 >>= λ w. Some (Range x.0 y.0 w.0, w.1)

unfoldable pub align : Reader Pre
align bs =
    named bs >>= λ x. number (2 ^ 64) x.1 >>= λ y.
    if is_alignment y.0 then Some (Align x.0 y.0, y.1) else None

-- what the string of an entry of that name says
unfoldable pub precondition : List ℕ → Reader Pre
precondition name bs =
    if bytes_eq name (codes "region") then region bs
    else if bytes_eq name (codes "range") then range bs
    else if bytes_eq name (codes "align") then align bs
    else None
