-- Edges of the rules, each worked by hand from the rules before the definitions were read.
use Rattle.std.proofs.Common.{◌≡◌, ℕ, List, [], ◌∷◌, Option, Some, None, Bool, true, false, refl}
use Rattle.std.specs.Prelude.{pos, ◌&&◌, ◌==◌, nat_lt}
use Rattle.jz_tree.specs.Span.{Span}
use Rattle.x64_insn.specs.Size.{Size}
use Rattle.x64_insn.specs.Size.TheVariants.{S8, S16, S64}
use Rattle.jz_intervals.specs.declared.interval.Interval.{Interval}
use Rattle.jz_intervals.specs.Constants.{constants, is_among}
use Rattle.jz_tree.specs.declared.expr.BinOp.TheVariants as o
use Rattle.jz_tree.specs.declared.stmt.Lval.TheVariants as lval
use Rattle.jz_tree.specs.declared.intrinsic.Intrinsic.TheVariants as name
use Rattle.jz_meaning.specs.declared.access.Kind.TheVariants as kind
use Rattle.jz_meaning.specs.declared.value.Why.{Why}
use Rattle.jz_meaning.specs.declared.value.Why.TheVariants.{Address, Init}
use Rattle.jz_meaning.specs.States.{Key, same_key}
use Rattle.jz_meaning.specs.Values.{Ref, key_of}
use Rattle.jz_flow.specs.Sets.{common}
use Rattle.jz_terms.specs.Terms.{Term, num, var, cell, load, inv, bin}
use Rattle.jz_facts.specs.Facts.{Set, Cell, AtLeast, AtMost, Under, Is, Multiple, Facts, Start, Given, subject, at_entry}
use Rattle.jz_facts.specs.Intervals.{interval}
use Rattle.jz_facts.specs.Holding.{renewed, gained, none, some_value, the_word, in_cell, instruction_gets, results, is_of}
use Rattle.jz_facts.specs.Tests.{adds, ◌and◌}
use Rattle.jz_alarms.specs.Conditions.{Alarm, Target, memory, named, asks}

abbrev here : Span
here = record { line = 1; col = 1 }

abbrev word_named : ℕ → Size → Ref
word_named n z = record { name = n ∷ []; copy = 0; cell = None; kind = kind.Word z; span = here }

-- words v, x, y, i, n, p; the flag c; the array s of two cells
abbrev v : Ref
v = word_named 118 S64

abbrev x : Ref
x = word_named 120 S64

abbrev y : Ref
y = word_named 121 S64

abbrev i : Ref
i = word_named 105 S64

abbrev n : Ref
n = word_named 110 S64

abbrev p : Ref
p = word_named 112 S64

abbrev c : Ref
c = record { name = 99 ∷ []; copy = 0; cell = None; kind = kind.Bool; span = here }

abbrev s : Ref
s = record { name = 115 ∷ []; copy = 0; cell = None; kind = kind.Array S64 2; span = here }

abbrev key : Ref → Key
key r = key_of r

abbrev term : Ref → Term
term r = var r

abbrev number : ℕ → Term
number k = num (pos k) here

abbrev start : Ref → Option Interval → Option ℕ → Start
start r range align = record { key = key r; size = S64; range = range; align = align }

abbrev from_to : ℕ → ℕ → Option Interval
from_to lo hi = Some (record { lo = lo; hi = hi })

abbrev just : ℕ → ℕ → Interval
just lo hi = record { lo = lo; hi = hi }

abbrev alarm : Why → Target → Option Alarm
alarm why target = Some (record { span = here; why = why; target = target })

-- ---- the constants

-- the greatest word and it less 1, and not what lies beyond
last_constant : is_among 18446744073709551614 (constants (pos 18446744073709551615 ∷ [])) ≡ true
last_constant = refl

past_constant : is_among 18446744073709551616 (constants (pos 18446744073709551615 ∷ [])) ≡ false
past_constant = refl

-- of 2^64 only it less 1, of -1 only it plus 1
below_past : is_among 18446744073709551615 (constants (pos 18446744073709551616 ∷ [])) ≡ true
below_past = refl

-- the six fixed ones stand alone
fixed_alone : is_among 254 (constants []) ≡ false
fixed_alone = refl

-- ---- entry

abbrev given : Option Interval → Option ℕ → Given
given range align = record { consts = constants (pos 5 ∷ pos 9 ∷ []); params = start x range align ∷ start n (from_to 5 9) None ∷ []; regions = [] }

abbrev entry : Option Interval → Option ℕ → Facts
entry range align = at_entry (given range align)

-- the range's end and the next one are in K, and what is below the end is not said
entry_at_most : entry (from_to 5 9) None (AtMost (key x) 9) ≡ true
entry_at_most = refl

entry_not_below : entry (from_to 5 9) None (AtMost (key x) 8) ≡ false
entry_not_below = refl

entry_at_least : entry (from_to 5 9) None (AtLeast (key x) 5) ≡ true
entry_at_least = refl

entry_not_above : entry (from_to 5 9) None (AtLeast (key x) 6) ≡ false
entry_not_above = refl

entry_by_eight : entry None (Some 8) (Multiple (key x) 4) ≡ true
entry_by_eight = refl

entry_by_four : entry None (Some 4) (Multiple (key x) 8) ≡ false
entry_by_four = refl

-- a variable is nothing, and no parameter is another one
entry_no_variable : entry None None (Set (key v)) ≡ false
entry_no_variable = refl

entry_is_not : entry None None (Is (key x) (key n)) ≡ false
entry_is_not = refl

-- ---- intervals at their edges

abbrev range_of : Option Interval → Option Interval → Term → Interval
range_of h k t = let g : Given = record { consts = constants (pos 1 ∷ pos 9223372036854775807 ∷ pos 4294967297 ∷ []); params = start x h None ∷ start y k None ∷ []; regions = [] } in interval g (at_entry g) S64 t

sum_at_most : range_of (from_to 1 9223372036854775807) (from_to 1 9223372036854775808) (bin o.Add (term x) (term y) here) ≡ just 2 18446744073709551615
sum_at_most = refl

product_at_most : range_of (from_to 1 4294967295) (from_to 1 4294967297) (bin o.Mul (term x) (term y) here) ≡ just 1 18446744073709551615
product_at_most = refl

product_too_long : range_of (from_to 1 4294967296) (from_to 1 4294967297) (bin o.Mul (term x) (term y) here) ≡ just 0 18446744073709551615
product_too_long = refl

remainder_by_one : range_of None (from_to 1 1) (bin o.Rem (term x) (term y) here) ≡ just 0 0
remainder_by_one = refl

shifted_by_none : range_of (from_to 1 4294967296) None (bin o.Shr (term x) (number 0) here) ≡ just 1 4294967296
shifted_by_none = refl

-- a count at run time says nothing
shifted_by_any : range_of (from_to 1 1) (from_to 0 0) (bin o.Shr (term x) (term y) here) ≡ just 0 18446744073709551615
shifted_by_any = refl

-- ---- assignments

-- v becomes the word of a term
abbrev behind : Facts → Term → Facts
behind f t = renewed (key v) (gained (given (from_to 5 9) None) f (kind.Word S64) (the_word S64 t)) f

abbrev at_first : Facts
at_first = entry (from_to 5 9) None

-- v is below n, and i is
abbrev are_under : Facts
are_under (Set k) = true
are_under (Under k m) = same_key m (key n)
are_under f = false

-- a copy is below what its value is below; what is computed is not, and what was known of it goes
copy_is_under : behind are_under (term i) (Under (key v) (key n)) ≡ true
copy_is_under = refl

sum_is_not_under : behind are_under (bin o.Add (term v) (number 1) here) (Under (key v) (key n)) ≡ false
sum_is_not_under = refl

other_is_under : behind are_under (number 1) (Under (key i) (key n)) ≡ true
other_is_under = refl

-- the value is that of the facts before
sum_of_itself : behind at_first (bin o.Sub (term x) (number 5) here) (AtMost (key v) 4) ≡ true
sum_of_itself = refl

-- a condition keeps what holds of both: v had no value
conditional_unset : common (behind at_first (term x)) at_first (Set (key v)) ≡ false
conditional_unset = refl

-- a carry is set, and no more; the sum behind it has its interval
carry_is_set : gained (given (from_to 5 9) None) at_first kind.Bool some_value (Set (key c)) ≡ true
carry_is_set = refl

carry_no_more : gained (given (from_to 5 9) None) at_first kind.Bool some_value (AtMost (key c) 18446744073709551615) ≡ false
carry_no_more = refl

carry_before_sum : results S64 (term x) (lval.Skip here ∷ lval.Skip here ∷ []) ≡ some_value ∷ the_word S64 (term x) ∷ []
carry_before_sum = refl

sum_beside_carry : behind at_first (bin o.Add (term x) (term n) here) (AtLeast (key v) 10) ≡ true
sum_beside_carry = refl

-- a write to a cell by a number, and by a variable
cell_by_number : in_cell s (number 1) at_first (Cell (key s) 1) ≡ true
cell_by_number = refl

cell_other : in_cell s (number 1) at_first (Cell (key s) 0) ≡ false
cell_other = refl

cell_by_variable : in_cell s (term x) at_first (Cell (key s) 1) ≡ false
cell_by_variable = refl

-- a flag that is unset by a count at run time has no fact behind it, whatever was known
carry_unset : renewed (key c) (gained (given None None) (λ f. true) kind.Bool none) (λ f. true) (Set (key c)) ≡ false
carry_unset = refl

carry_by_count : instruction_gets name.Shl None ≡ none ∷ none ∷ none ∷ none ∷ none ∷ some_value ∷ []
carry_by_count = refl

-- ---- marks

mark_drops : is_of v (subject (AtLeast (key v) 0)) ≡ true
mark_drops = refl

mark_drops_cells : is_of s (subject (Cell (key s) 1)) ≡ true
mark_drops_cells = refl

mark_keeps : is_of v (subject (Set (key x))) ≡ false
mark_keeps = refl

-- what is said of a parameter's value at entry stays
mark_keeps_under : is_of n (subject (Under (key v) (key n))) ≡ false
mark_keeps_under = refl

-- ---- tests

abbrev tested : Facts → Term → Bool → Facts
tested f t z = f and adds (given (from_to 5 9) None) f t z

-- what is at most x is below what x is below; what is equal too
at_most_under : tested are_under (bin o.Le (term y) (term i) here) true (Under (key y) (key n)) ≡ true
at_most_under = refl

greater_or_same : tested at_first (bin o.Ge (term v) (term x) here) true (AtLeast (key v) 5) ≡ true
greater_or_same = refl

greater : tested at_first (bin o.Gt (term v) (term x) here) true (AtLeast (key v) 6) ≡ true
greater = refl

greater_not : tested at_first (bin o.Gt (term v) (term x) here) true (AtLeast (key v) 8) ≡ false
greater_not = refl

-- the opposite of a comparison, twice
not_not : tested at_first (inv (inv (bin o.Lt (term v) (term x) here) here) here) true (AtMost (key v) 8) ≡ true
not_not = refl

not_below : tested at_first (bin o.Lt (term v) (term x) here) false (AtMost (key v) 8) ≡ false
not_below = refl

flags_say_nothing : tested at_first (term c) true (AtMost (key c) 1) ≡ false
flags_say_nothing = refl

-- ---- arrays

abbrev asked : Facts → Term → Option Alarm
asked f t = asks (given (from_to 5 9) None) f (Some S64) t

abbrev cells : ℕ → Facts
cells most (Set k) = true
cells most (Cell a j) = same_key a (key s) && nat_lt j most
cells most (AtMost k m) = same_key k (key i) && (m == 1)
cells most f = false

-- an index at run time reads each cell
one_cell_set : asked (cells 1) (cell s (term i)) ≡ alarm Init (named (115 ∷ []) None)
one_cell_set = refl

both_cells_set : asked (cells 2) (cell s (term i)) ≡ None
both_cells_set = refl

-- a scalar that was a cell of an array in registers is told with the cell
abbrev third : Ref
third = record { name = 97 ∷ []; copy = 0; cell = Some 3; kind = kind.Word S64; span = here }

scalar_of_array : asked (λ f. false) (var third) ≡ alarm Init (named (97 ∷ []) (Some 3))
scalar_of_array = refl

-- ---- addresses: a region of 4 * n + 2 bytes, n in 5 .. 9

abbrev region : Given
region = record {
  consts = constants (pos 5 ∷ pos 9 ∷ pos 3 ∷ []);
  params = start p None None ∷ start n (from_to 5 9) None ∷ start i None None ∷ start x (from_to 3 5) None ∷ [];
  regions = record { of = key p; times = 4; by = Some (key n); plus = 2 } ∷ [];
}

abbrev below_n : Facts
below_n = at_entry region and adds region (at_entry region) (bin o.Lt (term i) (term n) here) true

abbrev bytes : Size → Facts → Term → Option Alarm
bytes z f t = asks region f (Some z) (load (record { size = Some z; unaligned = true; span = here }) t)

-- 4 * 5 + 2 = 22 bytes at least, without an index
last_bytes : bytes S64 below_n (bin o.Add (term p) (number 14) here) ≡ None
last_bytes = refl

past_bytes : bytes S64 below_n (bin o.Add (term p) (number 15) here) ≡ alarm Address memory
past_bytes = refl

before_bytes : bytes S64 below_n (bin o.Sub (term p) (number 1) here) ≡ alarm Address memory
before_bytes = refl

-- i below n: d + k at most 2 + 4
last_element : bytes S16 below_n (bin o.Add (bin o.Add (term p) (bin o.Mul (term i) (number 4) here) here) (number 4) here) ≡ None
last_element = refl

past_element : bytes S16 below_n (bin o.Add (bin o.Add (term p) (bin o.Mul (term i) (number 4) here) here) (number 5) here) ≡ alarm Address memory
past_element = refl

-- x from 3: x - 3 bytes in front of it, in any nesting of the sum
from_three : bytes S8 below_n (bin o.Add (term p) (bin o.Sub (term x) (number 3) here) here) ≡ None
from_three = refl

before_three : bytes S8 below_n (bin o.Add (term p) (bin o.Sub (term x) (number 4) here) here) ≡ alarm Address memory
before_three = refl

-- 4 * 5 - 12 + 8 = 16 bytes at most
by_range : bytes S64 below_n (bin o.Add (term p) (bin o.Sub (bin o.Mul (number 4) (term x) here) (number 12) here) here) ≡ None
by_range = refl

-- a product of two variables is no reading
no_reading : bytes S8 below_n (bin o.Add (term p) (bin o.Mul (term x) (term x) here) here) ≡ alarm Address memory
no_reading = refl

-- what is no longer the parameter is no base
no_base : bytes S8 (renewed (key p) (gained region below_n (kind.Word S64) (the_word S64 (bin o.Add (term p) (number 0) here))) below_n) (term p) ≡ alarm Address memory
no_base = refl

copied_base : bytes S8 (renewed (key v) (gained region below_n (kind.Word S64) (the_word S64 (term p))) below_n) (term v) ≡ None
copied_base = refl
