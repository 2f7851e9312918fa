-- The conditions of small programs, worked by hand from the rules.
use Rattle.std.proofs.Common.{◌≡◌, ℕ, [], ◌∷◌, Option, Some, None, true, false, refl}
use Rattle.std.specs.Prelude.{pos, negsuc, ◌||◌, ◌&&◌, ◌==◌}
use Rattle.jz_tree.specs.Span.{Span}
use Rattle.x64_insn.specs.Size.TheVariants.{S8, S64}
use Rattle.jz_intervals.specs.declared.interval.Interval.{Interval}
use Rattle.jz_intervals.specs.Constants.{constants}
use Rattle.jz_tree.specs.declared.expr.BinOp.TheVariants as o
use Rattle.jz_meaning.specs.declared.access.Kind.TheVariants as kind
use Rattle.jz_meaning.specs.declared.value.Why.TheVariants.{Bounds, Address, Align, Init, Divide}
use Rattle.jz_meaning.specs.States.{same_key}
use Rattle.jz_meaning.specs.Values.{Ref, key_of}
use Rattle.jz_terms.specs.Terms.{Term, num, var, cell, load, bin}
use Rattle.jz_facts.specs.Facts.{Cell, Facts, Start, Given, at_entry}
use Rattle.jz_facts.specs.Tests.{adds, ◌and◌}
use Rattle.jz_alarms.specs.Conditions.{Alarm, memory, division, named, asks, asks_index}

abbrev here : Span
here = record { line = 1; col = 1 }

abbrev word_named : ℕ → Ref
word_named n = record { name = n ∷ []; copy = 0; cell = None; kind = kind.Word S64; span = here }

-- words x, y, i, p and n, and the array s of eight cells
abbrev x : Ref
x = word_named 120

abbrev y : Ref
y = word_named 121

abbrev i : Ref
i = word_named 105

abbrev p : Ref
p = word_named 112

abbrev n : Ref
n = word_named 110

abbrev s : Ref
s = record { name = 115 ∷ []; copy = 0; cell = None; kind = kind.Array S64 8; span = here }

abbrev from_to : ℕ → ℕ → Option Interval
from_to lo hi = Some (record { lo = lo; hi = hi })

abbrev start : Ref → Option Interval → Option ℕ → Start
start r range align = record { key = key_of r; size = S64; range = range; align = align }

abbrev number : ℕ → Term
number k = num (pos k) here

-- ---- an index below 8

abbrev eight : Given
eight = record { consts = constants (pos 0 ∷ pos 1 ∷ pos 8 ∷ []); params = start x None None ∷ start i None None ∷ []; regions = [] }

abbrev behind : Given → Term → Facts
behind g t = at_entry g and adds g (at_entry g) t true

index_is_met : asks_index eight (behind eight (bin o.Lt (var i) (number 8) here)) s (var i) ≡ None
index_is_met = refl

index_is_not : asks_index eight (behind eight (bin o.Le (var i) (number 8) here)) s (var i) ≡ Some (record { span = here; why = Bounds; target = named (115 ∷ []) None })
index_is_not = refl

index_less_one : asks_index eight (behind eight (bin o.Le (var i) (number 8) here)) s (bin o.Sub (var i) (number 1) here) ≡ Some (record { span = here; why = Bounds; target = named (115 ∷ []) None })
index_less_one = refl

constant_index : asks_index eight (at_entry eight) s (number 7) ≡ None
constant_index = refl

constant_index_past : asks_index eight (at_entry eight) s (number 8) ≡ Some (record { span = here; why = Bounds; target = named (115 ∷ []) None })
constant_index_past = refl

constant_index_below : asks_index eight (at_entry eight) s (num (negsuc 0) here) ≡ Some (record { span = here; why = Bounds; target = named (115 ∷ []) None })
constant_index_below = refl

masked_index : asks_index eight (at_entry eight) s (bin o.And (var i) (number 7) here) ≡ None
masked_index = refl

-- ---- what is read has a value; of an index outside and a cell without one Bounds is told

variable_unset : asks eight (λ f. false) (Some S64) (var i) ≡ Some (record { span = here; why = Init; target = named (105 ∷ []) None })
variable_unset = refl

cell_unset : asks eight (at_entry eight) (Some S64) (cell s (number 3)) ≡ Some (record { span = here; why = Init; target = named (115 ∷ []) None })
cell_unset = refl

outside_first : asks eight (at_entry eight) (Some S64) (cell s (number 8)) ≡ Some (record { span = here; why = Bounds; target = named (115 ∷ []) None })
outside_first = refl

-- the index is read before the cell is
index_unset : asks eight (λ f. false) (Some S64) (cell s (var i)) ≡ Some (record { span = here; why = Init; target = named (105 ∷ []) None })
index_unset = refl

abbrev with_cells : ℕ → Facts
with_cells k (Cell b j) = same_key b (key_of s) && (j == k) || false
with_cells k f = false

cell_is_set : asks eight (with_cells 3) (Some S64) (cell s (number 3)) ≡ None
cell_is_set = refl

-- ---- divisions

abbrev divisor : ℕ → ℕ → Given
divisor lo hi = record { consts = constants (pos lo ∷ pos hi ∷ []); params = start x None None ∷ start y (from_to lo hi) None ∷ []; regions = [] }

abbrev asked : Given → Term → Option Alarm
asked g t = asks g (at_entry g) (Some S64) t

divisor_from_one : asked (divisor 1 9) (bin o.Div (var x) (var y) here) ≡ None
divisor_from_one = refl

divisor_from_zero : asked (divisor 0 9) (bin o.Div (var x) (var y) here) ≡ Some (record { span = here; why = Divide; target = division })
divisor_from_zero = refl

remainder_from_zero : asked (divisor 0 9) (bin o.Rem (var x) (var y) here) ≡ Some (record { span = here; why = Divide; target = division })
remainder_from_zero = refl

signed_positive : asked (divisor 1 9223372036854775807) (bin o.DivS (var x) (var y) here) ≡ None
signed_positive = refl

signed_negative : asked (divisor 1 9223372036854775808) (bin o.DivS (var x) (var y) here) ≡ Some (record { span = here; why = Divide; target = division })
signed_negative = refl

-- ---- addresses: [p + 8*i + more] where i is below n, over regions of 8*n + plus bytes

abbrev table : Option ℕ → ℕ → Given
table align plus = record {
  consts = constants (pos 0 ∷ pos 8 ∷ pos 1024 ∷ []);
  params = start p None align ∷ start n (from_to 0 1024) None ∷ start i None None ∷ [];
  regions = record { of = key_of p; times = 8; by = Some (key_of n); plus = plus } ∷ [];
}

abbrev word_at : Term → Term
word_at t = load (record { size = Some S64; unaligned = false; span = here }) t

abbrev scaled : ℕ → Term
scaled k = bin o.Add (var p) (bin o.Mul (number k) (var i) here) here

abbrev is_below : Term
is_below = bin o.Lt (var i) (var n) here

abbrev in_turn : Given → Term → Option Alarm
in_turn g t = asks g (behind g is_below) (Some S64) t

element_inside : in_turn (table (Some 8) 0) (word_at (scaled 8)) ≡ None
element_inside = refl

element_not_below : asked (table (Some 8) 0) (word_at (scaled 8)) ≡ Some (record { span = here; why = Address; target = memory })
element_not_below = refl

element_not_aligned : in_turn (table None 0) (word_at (scaled 8)) ≡ Some (record { span = here; why = Align; target = memory })
element_not_aligned = refl

element_next : in_turn (table (Some 8) 0) (word_at (bin o.Add (scaled 8) (number 8) here)) ≡ Some (record { span = here; why = Address; target = memory })
element_next = refl

element_next_inside : in_turn (table (Some 8) 8) (word_at (bin o.Add (scaled 8) (number 8) here)) ≡ None
element_next_inside = refl

element_before : in_turn (table (Some 8) 0) (word_at (bin o.Sub (scaled 8) (number 8) here)) ≡ Some (record { span = here; why = Address; target = memory })
element_before = refl

scale_of_four : in_turn (table (Some 8) 0) (word_at (scaled 4)) ≡ Some (record { span = here; why = Align; target = memory })
scale_of_four = refl

scale_past : in_turn (table (Some 8) 0) (word_at (scaled 16)) ≡ Some (record { span = here; why = Address; target = memory })
scale_past = refl

-- a region of so many bytes, an index in 0 .. 7
abbrev fixed : ℕ → Given
fixed plus = record {
  consts = constants (pos 0 ∷ pos 7 ∷ pos plus ∷ []);
  params = start p None (Some 8) ∷ start i (from_to 0 7) None ∷ [];
  regions = record { of = key_of p; times = 0; by = None; plus = plus } ∷ [];
}

fixed_64 : asked (fixed 64) (word_at (scaled 8)) ≡ None
fixed_64 = refl

fixed_63 : asked (fixed 63) (word_at (scaled 8)) ≡ Some (record { span = here; why = Address; target = memory })
fixed_63 = refl

-- either of two plain variables may be the base
other_base : asked (record { consts = constants (pos 7 ∷ []); params = start p None (Some 8) ∷ start i (from_to 0 7) None ∷ []; regions = record { of = key_of p; times = 0; by = None; plus = 8 } ∷ [] }) (load (record { size = Some S8; unaligned = false; span = here }) (bin o.Add (var i) (var p) here)) ≡ None
other_base = refl
