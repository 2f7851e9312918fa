-- What the operators give on words, on whole numbers and on flags. What typing excludes has no
-- value.
use Rattle.std.specs.Prelude.{ℕ, ◌-◌, ◌*◌, ◌/◌, ◌%◌, ◌==◌, nat_lt, nat_le, bit_and, bit_or, bit_xor, Bool, false, not, ◌&&◌, ◌||◌, [], ◌∷◌, Option, Some, None, option_map, if◌then◌else◌, ℤ, pos, int_lt, int_le, int_div, int_rem}
use Rattle.std.specs.Option.{option_and_then}
use Rattle.jz_tree.specs.Span.{Span}
use Rattle.x64_insn.specs.Size.{Size}
use Rattle.x64_insn.specs.Sizes.{bits_of, modulus, half, signed}
use Rattle.x64_insn.specs.Words.{sum_of, difference_of, residue, shl_of, shr_of, sar_of, rol_of, ror_of}
pub use Rattle.jz_tree.specs.Operators.{is_shift, joins}
use Rattle.jz_tree.specs.declared.expr.BinOp.{BinOp}
use Rattle.jz_tree.specs.declared.expr.BinOp.TheVariants as o
use Rattle.jz_integers.specs.declared.constant.Constant.{Constant}
use Rattle.jz_integers.specs.declared.constant.Constant.TheVariants as constant
use Rattle.jz_integers.specs.Integers as numbers
use Rattle.jz_integers.specs.Integers.{on_integers}
use Rattle.jz_meaning.specs.declared.value.Why.TheVariants.{Init, Divide}
use Rattle.jz_runs.specs.Rules.{went}
use Rattle.jz_meaning.specs.Attempts.{Evaluation, stuck_at, defined}
use Rattle.jz_meaning.specs.States.{Value, word, boolean, integer}

-- a whole number, or the answer of a comparison
abbrev pub of_constant : Constant → Value
of_constant (constant.Int n) = integer n
of_constant (constant.Bool c) = boolean c

-- ---- words

abbrev pub same_size : Size → Size → Bool
same_size s z = bits_of s == bits_of z

-- a value in the place of a word of a size: a whole number is taken modulo 2 to the bits
abbrev pub word_of : Size → Value → Option ℕ
word_of s (word z a) = if same_size s z then Some a else None
word_of s (integer i) = Some (residue s i)
word_of s (boolean c) = None

abbrev pub word_at : Span → Size → Value → Evaluation ℕ
word_at at s v = defined at (word_of s v)

-- all bits equal to the sign of a
abbrev pub sign_word : Size → ℕ → ℕ
sign_word s a = if nat_lt a (half s) then 0 else modulus s - 1

-- a division shows the high word, the low word and the divisor
abbrev pub divided : Span → Size → ℕ → ℕ → ℕ → ℕ → Evaluation Value
divided at s high a b r = if b == 0 then stuck_at at Divide else went (high ∷ a ∷ b ∷ []) (word s r)

abbrev pub is_least_by_minus_one : Size → ℕ → ℕ → Bool
is_least_by_minus_one s a b = (a == half s) && (b == modulus s - 1)

-- of the signed readings, whose quotient is rounded towards 0; the least word by -1 has none
abbrev pub signed_divided : Span → Size → ℕ → ℕ → ℤ → Evaluation Value
signed_divided at s a b r = if b == 0 || is_least_by_minus_one s a b then stuck_at at Divide else went (sign_word s a ∷ a ∷ b ∷ []) (word s (residue s r))

-- two words of a size compared; the names with S are of the signed readings
abbrev pub compared : BinOp → Size → ℕ → ℕ → Option Bool
compared o.Eq s a b = Some (a == b)
compared o.Ne s a b = Some (not (a == b))
compared o.Lt s a b = Some (nat_lt a b)
compared o.Le s a b = Some (nat_le a b)
compared o.Gt s a b = Some (nat_lt b a)
compared o.Ge s a b = Some (nat_le b a)
compared o.LtS s a b = Some (int_lt (signed s a) (signed s b))
compared o.LeS s a b = Some (int_le (signed s a) (signed s b))
compared o.GtS s a b = Some (int_lt (signed s b) (signed s a))
compared o.GeS s a b = Some (int_le (signed s b) (signed s a))
compared _ s a b = None

-- on two words of a size, where nothing is leaked
abbrev pub plain : BinOp → Size → ℕ → ℕ → Option Value
plain o.Or s a b = Some (word s (bit_or a b))
plain o.Xor s a b = Some (word s (bit_xor a b))
plain o.And s a b = Some (word s (bit_and a b))
plain o.Add s a b = Some (word s (sum_of s a b false))
plain o.Sub s a b = Some (word s (difference_of s a b false))
plain o.Mul s a b = Some (word s (a * b % modulus s))
plain op s a b = option_map boolean (compared op s a b)

abbrev pub on_words : BinOp → Span → Size → ℕ → ℕ → Evaluation Value
on_words o.Div at s a b = divided at s 0 a b (a / b)
on_words o.Rem at s a b = divided at s 0 a b (a % b)
on_words o.DivS at s a b = signed_divided at s a b (int_div (signed s a) (signed s b))
on_words o.RemS at s a b = signed_divided at s a b (int_rem (signed s a) (signed s b))
on_words op at s a b = defined at (plain op s a b)

-- a word shifted or rotated by the value of a count
abbrev pub by_count : BinOp → Size → ℕ → ℕ → Option ℕ
by_count o.Shl s a n = Some (shl_of s a n)
by_count o.Shr s a n = Some (shr_of a n)
by_count o.Sar s a n = Some (sar_of s a n)
by_count o.Rol s a n = Some (rol_of s a n)
by_count o.Ror s a n = Some (ror_of s a n)
by_count _ s a n = None

abbrev pub shifted_word : BinOp → Size → ℕ → ℕ → Option Value
shifted_word op s a n = option_map (word s) (by_count op s a n)

-- a word and a flag: `a + c`, `a - c`
abbrev pub by_flag : BinOp → Size → ℕ → Bool → Option Value
by_flag o.Add s a c = Some (word s (sum_of s a 0 c))
by_flag o.Sub s a c = Some (word s (difference_of s a 0 c))
by_flag _ s a c = None

-- ---- values

-- `&&` and `||`: the left part alone may give the answer, else the right one does
abbrev pub joined : BinOp → Bool → Option Value
joined op right = if joins op then Some (boolean right) else None

abbrev pub is_settled : BinOp → Value → Bool
is_settled o.AndThen (boolean c) = not c
is_settled o.OrElse (boolean c) = c
is_settled _ v = false

-- beside a word a whole number is a word of its size
unfoldable pub combined : BinOp → Span → Value → Value → Evaluation Value
combined op at (word s a) (word z b) = if same_size s z then on_words op at s a b else stuck_at at Init
combined op at (word s a) (integer j) = on_words op at s a (residue s j)
combined op at (word s a) (boolean c) = defined at (by_flag op s a c)
combined op at (integer i) (word s b) = on_words op at s (residue s i) b
combined op at (integer i) (integer j) = defined at (option_map of_constant (on_integers op i j))
combined op at (boolean a) (boolean c) = defined at (joined op c)
combined op at _ _ = stuck_at at Init

-- how far a word is shifted
abbrev pub count_of : Value → Option ℕ
count_of (word z n) = Some n
count_of (integer (pos n)) = Some n
count_of _ = None

-- what is shifted has the size that is wanted, whatever the size of the count; both may be whole
-- numbers
unfoldable pub shifted : BinOp → Option Size → Value → Value → Option Value
shifted op w (word s a) y = option_and_then (shifted_word op s a) (count_of y)
shifted op w (integer i) (integer j) = option_map of_constant (on_integers op i j)
shifted op (Some s) (integer i) (word z n) = shifted_word op s (residue s i) n
shifted op w _ _ = None

-- an operation on two values where a word of a size is wanted
unfoldable pub binary : BinOp → Span → Option Size → Value → Value → Evaluation Value
binary op at w x y = if is_shift op then defined at (shifted op w x y) else combined op at x y

-- 0 less the value
unfoldable pub negated : Value → Option Value
negated (word s a) = Some (word s (difference_of s 0 a false))
negated (integer i) = option_map integer (numbers.negated i)
negated (boolean c) = None

-- each bit turned over, of a flag its answer
unfoldable pub inverted : Value → Value
inverted (word s a) = word s (modulus s - 1 - a)
inverted (integer i) = integer (numbers.inverted i)
inverted (boolean c) = boolean (not c)

-- the word of that size that a word becomes, cut off, or with zeros or copies of its sign in front
unfoldable pub cast : Size → Bool → Value → Option Value
cast z sign (word s a) = Some (word z (if sign then residue z (signed s a) else a % modulus z))
cast z sign _ = None
