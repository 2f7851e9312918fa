-- Intervals, multiples, what assignments and tests add: small cases, worked by hand from the rules.
use Rattle.std.proofs.Common.{◌≡◌, ℕ, List, [], ◌∷◌, Option, Some, None, Bool, true, false, refl}
use Rattle.std.specs.Prelude.{pos, negsuc}
use Rattle.jz_tree.specs.Span.{Span}
use Rattle.x64_insn.specs.Size.{Size}
use Rattle.x64_insn.specs.Size.TheVariants.{S8, S64}
use Rattle.jz_intervals.specs.declared.interval.Interval.{Interval}
use Rattle.jz_intervals.specs.Constants.{constants}
use Rattle.jz_tree.specs.declared.expr.BinOp.{BinOp}
use Rattle.jz_tree.specs.declared.expr.BinOp.TheVariants as o
use Rattle.jz_meaning.specs.declared.access.Kind.TheVariants as kind
use Rattle.jz_meaning.specs.Values.{Ref, key_of}
use Rattle.jz_terms.specs.Terms.{Term, num, var, load, neg, inv, cast, bin}
use Rattle.jz_facts.specs.Facts.{Set, AtLeast, AtMost, Under, Is, Multiple, Facts, Start, Given, at_entry, entails}
use Rattle.jz_facts.specs.Intervals.{interval, is_multiple}
use Rattle.jz_facts.specs.Holding.{the_word, some_value, none, gained, renewed, instruction_gets}
use Rattle.jz_facts.specs.Tests.{adds, ◌and◌}
use Rattle.jz_tree.specs.declared.intrinsic.Intrinsic.TheVariants as name

abbrev pub here : Span
here = record { line = 1; col = 1 }

abbrev pub named : ℕ → Size → Ref
named n z = record { name = n ∷ []; copy = 0; cell = None; kind = kind.Word z; span = here }

-- words of 64 bits: x, y, v, n; and of 8 bits: a, b
abbrev pub x : Ref
x = named 120 S64

abbrev pub y : Ref
y = named 121 S64

abbrev pub v : Ref
v = named 118 S64

abbrev pub n : Ref
n = named 110 S64

abbrev pub a : Ref
a = named 97 S8

abbrev pub b : Ref
b = named 98 S8

abbrev pub word_most : ℕ
word_most = 18446744073709551615

abbrev pub from_to : ℕ → ℕ → Option Interval
from_to lo hi = Some (record { lo = lo; hi = hi })

abbrev pub start : Ref → Size → Option Interval → Start
start r z range = record { key = key_of r; size = z; range = range; align = None }

-- K has 0 .. 11, 23 .. 25, 32 .. 34 and the ends of words
abbrev numbers : List ℕ
numbers = constants (pos 1 ∷ pos 4 ∷ pos 7 ∷ pos 10 ∷ pos 24 ∷ pos 33 ∷ [])

abbrev two : Option Interval → Option Interval → Given
two i j = record { consts = numbers; params = start x S64 i ∷ start y S64 j ∷ []; regions = [] }

abbrev of_two : Option Interval → Option Interval → Term → Interval
of_two i j t = interval (two i j) (at_entry (two i j)) S64 t

abbrev op : BinOp → Term
op p = bin p (var x) (var y) here

abbrev number : ℕ → Term
number k = num (pos k) here

abbrev just : ℕ → ℕ → Interval
just lo hi = record { lo = lo; hi = hi }

-- ---- intervals

without_range : of_two None None (var x) ≡ just 0 word_most
without_range = refl

-- entry has no more than a range gives
no_least : at_entry (two None None) (AtLeast (key_of x) 0) ≡ false
no_least = refl

entry_is : at_entry (two None None) (Is (key_of x) (key_of x)) ≡ true
entry_is = refl

in_range : of_two (from_to 3 10) None (var x) ≡ just 3 10
in_range = refl

-- K has 9, 10 and 11, of 11 the fact holds too
most_above : at_entry (two (from_to 3 10) None) (AtMost (key_of x) 11) ≡ true
most_above = refl

most_below : at_entry (two (from_to 3 10) None) (AtMost (key_of x) 9) ≡ false
most_below = refl

sum_of_two : of_two (from_to 3 10) (from_to 1 4) (op o.Add) ≡ just 4 14
sum_of_two = refl

sum_too_long : of_two (from_to 3 10) None (op o.Add) ≡ just 0 word_most
sum_too_long = refl

difference_below : of_two (from_to 3 10) (from_to 1 4) (op o.Sub) ≡ just 0 word_most
difference_below = refl

difference_at_zero : of_two (from_to 4 10) (from_to 1 4) (op o.Sub) ≡ just 0 9
difference_at_zero = refl

product_of_two : of_two (from_to 3 10) (from_to 1 4) (op o.Mul) ≡ just 3 40
product_of_two = refl

mask_of_two : of_two (from_to 3 10) (from_to 4 7) (op o.And) ≡ just 0 7
mask_of_two = refl

mask_by_number : of_two None None (bin o.And (var x) (number 7) here) ≡ just 0 7
mask_by_number = refl

shifted : of_two (from_to 8 33) None (bin o.Shr (var x) (number 2) here) ≡ just 2 8
shifted = refl

shifted_signed : of_two (from_to 8 33) None (bin o.Sar (var x) (number 2) here) ≡ just 0 word_most
shifted_signed = refl

shifted_left : of_two (from_to 8 33) None (bin o.Shl (var x) (number 2) here) ≡ just 0 word_most
shifted_left = refl

quotient_of_two : of_two (from_to 10 33) (from_to 3 5) (op o.Div) ≡ just 2 11
quotient_of_two = refl

quotient_by_zero : of_two (from_to 10 33) (from_to 0 5) (op o.Div) ≡ just 0 word_most
quotient_by_zero = refl

remainder_of_two : of_two None (from_to 3 5) (op o.Rem) ≡ just 0 4
remainder_of_two = refl

remainder_by_zero : of_two None (from_to 0 5) (op o.Rem) ≡ just 0 word_most
remainder_by_zero = refl

xor_of_two : of_two (from_to 3 10) (from_to 1 4) (op o.Xor) ≡ just 0 word_most
xor_of_two = refl

negated : of_two (from_to 3 10) None (neg (var x) here) ≡ just 0 word_most
negated = refl

below_zero : of_two None None (num (negsuc 0) here) ≡ just word_most word_most
below_zero = refl

below_zero_short : interval (two None None) (at_entry (two None None)) S8 (num (negsuc 0) here) ≡ just 255 255
below_zero_short = refl

-- ---- shorter words

abbrev bytes : Option Interval → Option Interval → Given
bytes i j = record { consts = constants (pos 1 ∷ pos 100 ∷ pos 128 ∷ []); params = start a S8 i ∷ start b S8 j ∷ []; regions = [] }

abbrev of_bytes : Option Interval → Option Interval → Size → Term → Interval
of_bytes i j z t = interval (bytes i j) (at_entry (bytes i j)) z t

abbrev a_plus_b : Term
a_plus_b = bin o.Add (var a) (var b) here

byte_without_range : of_bytes None None S8 (var a) ≡ just 0 255
byte_without_range = refl

byte_sum_fits : of_bytes (from_to 1 127) (from_to 1 128) S8 a_plus_b ≡ just 2 255
byte_sum_fits = refl

byte_sum_not : of_bytes (from_to 1 127) (from_to 1 129) S8 a_plus_b ≡ just 0 255
byte_sum_not = refl

byte_longer : of_bytes (from_to 1 127) None S64 (cast S64 false (var a) here) ≡ just 1 127
byte_longer = refl

byte_longer_signed : of_bytes (from_to 1 127) None S64 (cast S64 true (var a) here) ≡ just 0 word_most
byte_longer_signed = refl

word_shorter : interval (two (from_to 3 255) None) (at_entry (two (from_to 3 255) None)) S8 (cast S8 false (var x) here) ≡ just 3 255
word_shorter = refl

word_shorter_not : interval (two (from_to 3 256) None) (at_entry (two (from_to 3 256) None)) S8 (cast S8 false (var x) here) ≡ just 0 255
word_shorter_not = refl

byte_loaded : interval (two None None) (at_entry (two None None)) S8 (load (record { size = Some S8; unaligned = false; span = here }) (var x)) ≡ just 0 255
byte_loaded = refl

-- ---- below a parameter

abbrev counted : Option Interval → Given
counted i = record { consts = numbers; params = start n S64 i ∷ []; regions = [] }

abbrev below_n : Facts
below_n (Under k m) = true
below_n f = false

under_range : interval (counted (from_to 0 8)) below_n S64 (var v) ≡ just 0 7
under_range = refl

under_any : interval (counted None) below_n S64 (var v) ≡ just 0 18446744073709551614
under_any = refl

under_zero : interval (counted (from_to 0 0)) below_n S64 (var v) ≡ just 0 0
under_zero = refl

-- a range may end past the size: the end less 1 is cut at the greatest word
abbrev short_bound : Given
short_bound = record { consts = numbers; params = start b S8 (from_to 0 1000) ∷ []; regions = [] }

under_long_range : interval short_bound below_n S8 (var a) ≡ just 0 255
under_long_range = refl

-- with a flag a sum and a difference say nothing, whatever is known of the word: here that it is at
-- least and at most 0 at once
abbrev flag : Ref
flag = record { name = 99 ∷ []; copy = 0; cell = None; kind = kind.Bool; span = here }

abbrev against_itself : Facts
against_itself (AtLeast k m) = true
against_itself (AtMost k m) = true
against_itself f = false

sum_with_flag : interval (two None None) against_itself S64 (bin o.Add (var x) (var flag) here) ≡ just 0 word_most
sum_with_flag = refl

difference_with_flag : interval (two None None) against_itself S64 (bin o.Sub (var x) (var flag) here) ≡ just 0 word_most
difference_with_flag = refl

-- ---- multiples

abbrev aligned : ℕ → Given
aligned m = record { consts = numbers; params = record { key = key_of x; size = S64; range = None; align = Some m } ∷ start y S64 None ∷ []; regions = [] }

abbrev of_aligned : ℕ → Term → ℕ → Bool
of_aligned k t m = is_multiple (aligned k) (at_entry (aligned k)) t m

any_is_of_one : of_aligned 8 (inv (var y) here) 1 ≡ true
any_is_of_one = refl

eight_is_of_four : of_aligned 8 (var x) 4 ≡ true
eight_is_of_four = refl

four_is_not_of_eight : of_aligned 4 (var x) 8 ≡ false
four_is_not_of_eight = refl

number_of_eight : of_aligned 1 (number 24) 8 ≡ true
number_of_eight = refl

minus_eight : of_aligned 1 (num (negsuc 7) here) 8 ≡ true
minus_eight = refl

sum_of_four : of_aligned 8 (bin o.Add (var x) (number 4) here) 4 ≡ true
sum_of_four = refl

sum_not_of_eight : of_aligned 8 (bin o.Add (var x) (number 4) here) 8 ≡ false
sum_not_of_eight = refl

difference_with_any : of_aligned 8 (bin o.Sub (var x) (var y) here) 2 ≡ false
difference_with_any = refl

product_with_eight : of_aligned 1 (bin o.Mul (number 8) (var y) here) 8 ≡ true
product_with_eight = refl

shifted_by_three : of_aligned 1 (bin o.Shl (var y) (number 3) here) 8 ≡ true
shifted_by_three = refl

masked_by_24 : of_aligned 1 (bin o.And (var y) (number 24) here) 8 ≡ true
masked_by_24 = refl

-- the number stands on the right
mask_on_the_left : of_aligned 1 (bin o.And (number 24) (var y) here) 8 ≡ false
mask_on_the_left = refl

joined_with_eight : of_aligned 8 (bin o.Or (var x) (number 8) here) 8 ≡ false
joined_with_eight = refl

-- ---- what a fact says beside itself

says_less : entails (AtLeast (key_of x) 3) (AtLeast (key_of x) 2) ≡ true
says_less = refl

says_no_more : entails (AtLeast (key_of x) 3) (AtLeast (key_of x) 4) ≡ false
says_no_more = refl

says_at_most : entails (AtMost (key_of x) 3) (AtMost (key_of x) 4) ≡ true
says_at_most = refl

says_divisor : entails (Multiple (key_of x) 8) (Multiple (key_of x) 4) ≡ true
says_divisor = refl

says_no_multiple : entails (Multiple (key_of x) 4) (Multiple (key_of x) 8) ≡ false
says_no_multiple = refl

says_nothing_else : entails (AtLeast (key_of x) 1) (Set (key_of x)) ≡ false
says_nothing_else = refl

-- ---- assignments

abbrev behind : Given → Term → Facts
behind g t = renewed (key_of v) (gained g (at_entry g) (kind.Word S64) (the_word S64 t)) (at_entry g)

copy_is : behind (two (from_to 3 10) None) (var x) (Is (key_of v) (key_of x)) ≡ true
copy_is = refl

sum_is_not : behind (two (from_to 3 10) None) (bin o.Add (var x) (number 1) here) (Is (key_of v) (key_of x)) ≡ false
sum_is_not = refl

sum_at_least : behind (two (from_to 3 10) None) (bin o.Add (var x) (number 1) here) (AtLeast (key_of v) 4) ≡ true
sum_at_least = refl

-- 11 is in K, and 12 is not
sum_at_most : behind (two (from_to 3 10) None) (bin o.Add (var x) (number 1) here) (AtMost (key_of v) 11) ≡ true
sum_at_most = refl

-- a load is set, and no more
load_is_set : behind (two None None) (load (record { size = None; unaligned = false; span = here }) (var x)) (Set (key_of v)) ≡ true
load_is_set = refl

load_at_most : behind (two None None) (load (record { size = None; unaligned = false; span = here }) (var x)) (AtMost (key_of v) 18446744073709551615) ≡ false
load_at_most = refl

-- flags of a shift by 3: OF is unset; by a count at run time each is; by 1 none is
flags_by_three : instruction_gets name.Shl (Some 3) ≡ none ∷ some_value ∷ some_value ∷ some_value ∷ some_value ∷ some_value ∷ []
flags_by_three = refl

flags_by_any : instruction_gets name.Shl None ≡ none ∷ none ∷ none ∷ none ∷ none ∷ some_value ∷ []
flags_by_any = refl

flags_by_one : instruction_gets name.Ror (Some 1) ≡ some_value ∷ some_value ∷ some_value ∷ []
flags_by_one = refl

flags_of_product : instruction_gets name.Mul None ≡ some_value ∷ some_value ∷ none ∷ none ∷ none ∷ some_value ∷ some_value ∷ []
flags_of_product = refl

-- ---- tests

abbrev tested : Given → Term → Bool → Facts
tested g t z = at_entry g and adds g (at_entry g) t z

abbrev after : Given → Term → Bool → Term → Interval
after g t z e = interval g (tested g t z) S64 e

below_eight : after (two None None) (bin o.Lt (var x) (number 8) here) true (var x) ≡ just 0 7
below_eight = refl

-- of 13 the next constant is 23
below_fourteen : after (two None None) (bin o.Lt (var x) (number 14) here) true (var x) ≡ just 0 23
below_fourteen = refl

abbrev eight : Given
eight = record { consts = constants (pos 8 ∷ []); params = start x S64 None ∷ start y S64 (from_to 0 5) ∷ []; regions = [] }

below_eight_by_seven : after eight (bin o.Lt (var x) (number 8) here) true (var x) ≡ just 0 7
below_eight_by_seven = refl

not_below_eight : after eight (bin o.Lt (var x) (number 8) here) false (var x) ≡ just 8 word_most
not_below_eight = refl

inverted_test : after eight (inv (bin o.Lt (var x) (number 8) here) here) true (var x) ≡ just 8 word_most
inverted_test = refl

under_what_is : tested eight (bin o.Lt (var x) (var y) here) true (Under (key_of x) (key_of y)) ≡ true
under_what_is = refl

not_under_if_same : tested eight (bin o.Le (var x) (var y) here) true (Under (key_of x) (key_of y)) ≡ false
not_under_if_same = refl

not_zero : after eight (bin o.Ne (var x) (number 0) here) true (var x) ≡ just 1 word_most
not_zero = refl

not_one : after eight (bin o.Ne (var x) (number 1) here) true (var x) ≡ just 0 word_most
not_one = refl

is_zero : after eight (bin o.Ne (var x) (number 0) here) false (var x) ≡ just 0 0
is_zero = refl

signed_test : after eight (bin o.LtS (var x) (number 8) here) true (var x) ≡ just 0 word_most
signed_test = refl

equal_multiple : tested eight (bin o.Eq (var x) (number 8) here) true (Multiple (key_of x) 8) ≡ true
equal_multiple = refl

equal_is : tested eight (bin o.Eq (var x) (var y) here) true (Is (key_of x) (key_of y)) ≡ true
equal_is = refl

-- all is added from the facts before: y is at most 5
at_once : after eight (bin o.Lt (var x) (var y) here) true (var y) ≡ just 1 7
at_once = refl
