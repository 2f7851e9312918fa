-- Small cases, each worked by hand from the rules before the definitions were read.
use Rattle.std.proofs.Common.{◌≡◌, ℕ, List, [], ◌∷◌, Option, Some, None, Bool, true, false, refl}
use Rattle.std.specs.Prelude.{pos, codes}
use Rattle.jz_tree.specs.Span.{Span}
use Rattle.jz_tree.specs.Size.TheVariants.{S64}
use Rattle.jz_tree.specs.declared.expr.BinOp.{BinOp}
use Rattle.jz_tree.specs.declared.expr.BinOp.TheVariants as o
use Rattle.jz_tree.specs.declared.program.Note.{Note}
use Rattle.jz_tree.specs.declared.program.NoteValue.{NoteValue}
use Rattle.jz_tree.specs.declared.program.NoteValue.TheVariants as value
use Rattle.jz_meaning.specs.declared.access.Kind.TheVariants as kind
use Rattle.jz_meaning.specs.States.{Key}
use Rattle.jz_meaning.specs.Values.{Ref, key_of}
use Rattle.jz_flow.specs.Sets.{common}
use Rattle.jz_terms.specs.Terms.{Term, num, truth, var, cell, load, neg, inv, cast, bin}
use Rattle.jz_labels.specs.Operations.{Left, nothing, scalar, element, bytes, Plain}
use Rattle.jz_labels.specs.Labels.{Publics, Secret, named, memory, secret_in, relabels, leaving}
use Rattle.jz_labels.specs.Required.{Reason, Branch, Address, Divide, Breach, breach_in_operation, breach_in_test, secret_written}
use Rattle.jz_labels.specs.ConstantTime.{is_labelled_public, all_but}

-- ---- a text: the place is the column

abbrev at : ℕ → Span
at n = record { line = 1; col = n }

abbrev word_at : ℕ → ℕ → Ref
word_at name n = record { name = name ∷ []; copy = 0; cell = None; kind = kind.Word S64; span = at n }

-- secret words x and k; public words p, y and i; the public flag c; the public array s and the
-- secret array t
abbrev x : ℕ → Ref
x = word_at 120

abbrev k : ℕ → Ref
k = word_at 107

abbrev p : ℕ → Ref
p = word_at 112

abbrev y : ℕ → Ref
y = word_at 121

abbrev i : ℕ → Ref
i = word_at 105

abbrev c : ℕ → Ref
c n = record { name = 99 ∷ []; copy = 0; cell = None; kind = kind.Bool; span = at n }

abbrev s : ℕ → Ref
s n = record { name = 115 ∷ []; copy = 0; cell = None; kind = kind.Array S64 8; span = at n }

abbrev t : ℕ → Ref
t n = record { name = 116 ∷ []; copy = 0; cell = None; kind = kind.Array S64 8; span = at n }

-- a scalar that was the cell 3 of an array in registers, secret
abbrev a3 : ℕ → Ref
a3 n = record { name = 97 ∷ []; copy = 0; cell = Some 3; kind = kind.Word S64; span = at n }

abbrev scalars : Publics
scalars = all_but (key_of (x 0) ∷ key_of (k 0) ∷ key_of (a3 0) ∷ [])

abbrev arrays : Publics
arrays = all_but (key_of (t 0) ∷ [])

abbrev number : ℕ → Term
number n = num (pos n) (at 0)

abbrev loaded : ℕ → Term → Term
loaded n a = load (record { size = Some S64; unaligned = false; span = at n }) a

abbrev stored : ℕ → Term → Left
stored n a = bytes (record { size = Some S64; unaligned = false; span = at n }) a

abbrev of : BinOp → ℕ → Term → Term → Term
of op n a b = bin op a b (at n)

-- ---- secrets of terms

abbrev secret : Term → Option Secret
secret e = secret_in arrays scalars e

abbrev x_itself : Option Secret
x_itself = Some (named (120 ∷ []) None)

of_number : secret (number 5) ≡ None
of_number = refl

of_truth : secret (truth true (at 1)) ≡ None
of_truth = refl

of_public : secret (var (y 1)) ≡ None
of_public = refl

of_secret : secret (var (x 1)) ≡ x_itself
of_secret = refl

of_scalar_cell : secret (var (a3 1)) ≡ Some (named (97 ∷ []) (Some 3))
of_scalar_cell = refl

-- also from a public address
of_load : secret (loaded 1 (var (p 2))) ≡ Some memory
of_load = refl

of_public_array : secret (cell (s 1) (var (i 3))) ≡ None
of_public_array = refl

of_secret_array : secret (cell (t 1) (number 0)) ≡ Some (named (116 ∷ []) None)
of_secret_array = refl

by_index : secret (cell (s 1) (var (x 3))) ≡ x_itself
by_index = refl

left_first : secret (of o.Add 1 (var (x 1)) (loaded 5 (var (p 6)))) ≡ x_itself
left_first = refl

right_too : secret (of o.Add 1 (loaded 1 (var (p 2))) (var (x 5))) ≡ Some memory
right_too = refl

of_compared : secret (of o.LtS 1 (var (y 1)) (neg (inv (cast S64 true (var (x 5)) (at 4)) (at 3)) (at 2))) ≡ x_itself
of_compared = refl

of_product_with_zero : secret (of o.Mul 1 (number 0) (var (x 5))) ≡ x_itself
of_product_with_zero = refl

-- ---- what an operation makes public

abbrev assigned : List Left → Term → Plain
assigned to e = record { reads = e ∷ []; division = None; to = to }

abbrev with : List Left → List Term → Plain
with to es = record { reads = es; division = None; to = to }

abbrev behind : Plain → Ref → Bool
behind d v = relabels arrays d scalars (key_of v)

copied : behind (assigned (scalar (y 1) ∷ []) (var (x 5))) (y 0) ≡ false
copied = refl

others_stay : behind (assigned (scalar (y 1) ∷ []) (var (x 5))) (i 0) ≡ true
others_stay = refl

others_stay_secret : behind (assigned (scalar (y 1) ∷ []) (number 0)) (x 0) ≡ false
others_stay_secret = refl

overwritten : behind (assigned (scalar (x 1) ∷ []) (number 0)) (x 0) ≡ true
overwritten = refl

loaded_word : behind (assigned (scalar (y 1) ∷ []) (loaded 5 (var (p 6)))) (y 0) ≡ false
loaded_word = refl

-- `y = i if x == 0`: the condition counts; `x = i if c`: the old value counts; `y = i if c`
by_condition : behind (with (scalar (y 1) ∷ []) (var (i 5) ∷ of o.Eq 10 (var (x 10)) (number 0) ∷ var (y 1) ∷ [])) (y 0) ≡ false
by_condition = refl

by_old_value : behind (with (scalar (x 1) ∷ []) (var (i 5) ∷ var (c 10) ∷ var (x 1) ∷ [])) (x 0) ≡ false
by_old_value = refl

all_three_public : behind (with (scalar (y 1) ∷ []) (var (i 5) ∷ var (c 10) ∷ var (y 1) ∷ [])) (y 0) ≡ true
all_three_public = refl

-- `c, y = x + 1`: the carry is as secret as the sum; `c, y = #ADC(i, 1, c)`: as public
carry : behind (assigned (scalar (c 1) ∷ scalar (y 4) ∷ []) (of o.Add 8 (var (x 8)) (number 1))) (c 0) ≡ false
carry = refl

sum_beside_carry : behind (assigned (scalar (c 1) ∷ scalar (y 4) ∷ []) (of o.Add 8 (var (x 8)) (number 1))) (y 0) ≡ false
sum_beside_carry = refl

public_carry : behind (with (scalar (c 1) ∷ scalar (x 4) ∷ []) (var (i 13) ∷ number 1 ∷ var (c 20) ∷ [])) (x 0) ≡ true
public_carry = refl

of_one_operand : behind (with (scalar (c 1) ∷ scalar (y 4) ∷ []) (var (i 13) ∷ number 1 ∷ var (x 20) ∷ [])) (c 0) ≡ false
of_one_operand = refl

-- a cell and memory have no label at a point
cell_written : behind (assigned (element (s 1) (number 0) ∷ []) (var (x 9))) (s 0) ≡ true
cell_written = refl

memory_written : behind (assigned (stored 1 (var (p 2)) ∷ nothing ∷ []) (var (x 9))) (p 0) ≡ true
memory_written = refl

-- ---- writes to arrays

abbrev written : Plain → Option Key
written d = secret_written arrays d scalars

secret_to_public : written (assigned (element (s 1) (number 0) ∷ []) (var (x 9))) ≡ Some (key_of (s 0))
secret_to_public = refl

secret_to_secret : written (assigned (element (t 1) (number 0) ∷ []) (var (x 9))) ≡ None
secret_to_secret = refl

public_to_public : written (assigned (element (s 1) (var (i 3)) ∷ []) (var (y 9))) ≡ None
public_to_public = refl

-- a public value leaves a secret array secret: what is read of it is
public_to_secret : secret (cell (t 1) (number 3)) ≡ Some (named (116 ∷ []) None)
public_to_secret = refl

second_left : written (assigned (scalar (c 1) ∷ element (s 4) (number 0) ∷ []) (of o.Add 9 (var (x 9)) (number 1))) ≡ Some (key_of (s 0))
second_left = refl

-- ---- conditions

abbrev told : ℕ → Reason → Option Secret → Option Breach
told n why None = None
told n why (Some e) = Some (record { span = at n; why = why; secret = e })

abbrev tested : Term → Option Breach
tested e = breach_in_test arrays e scalars

branch : tested (of o.Eq 7 (var (x 7)) (number 0)) ≡ told 7 Branch x_itself
branch = refl

branch_public : tested (of o.Lt 7 (var (i 7)) (var (y 11))) ≡ None
branch_public = refl

-- the place is that of the condition
branch_right : tested (of o.AndThen 7 (var (c 7)) (of o.Eq 12 (var (x 12)) (number 0))) ≡ told 7 Branch x_itself
branch_right = refl

branch_load : tested (of o.Eq 7 (loaded 7 (var (p 8))) (number 0)) ≡ told 7 Branch (Some memory)
branch_load = refl

branch_not : tested (inv (of o.Eq 9 (var (k 9)) (var (x 12))) (at 7)) ≡ told 7 Branch (Some (named (107 ∷ []) None))
branch_not = refl

-- the index is evaluated before the condition is known
index_first : tested (of o.Eq 7 (var (k 7)) (cell (s 12) (var (x 14)))) ≡ told 12 Address x_itself
index_first = refl

-- ---- indices, addresses, divisions

abbrev asked : Plain → Option Breach
asked d = breach_in_operation arrays d scalars

abbrev of_right : Term → Option Breach
of_right e = asked (assigned (scalar (y 1) ∷ []) e)

address : of_right (loaded 5 (of o.Add 6 (var (p 6)) (of o.Mul 10 (number 8) (var (x 12))))) ≡ told 5 Address x_itself
address = refl

address_public : of_right (loaded 5 (of o.Add 6 (var (p 6)) (of o.Mul 10 (number 8) (var (i 12))))) ≡ None
address_public = refl

-- a loaded word as an address, and the address that it is loaded from
address_loaded : of_right (loaded 5 (loaded 6 (var (p 7)))) ≡ told 5 Address (Some memory)
address_loaded = refl

inner_address : of_right (loaded 5 (loaded 6 (var (x 7)))) ≡ told 6 Address x_itself
inner_address = refl

-- what is stored may be secret, where not
stored_secret : asked (assigned (stored 1 (var (p 2)) ∷ []) (var (x 6))) ≡ None
stored_secret = refl

stored_at : asked (assigned (stored 1 (var (x 2)) ∷ []) (var (y 6))) ≡ told 1 Address x_itself
stored_at = refl

index_read : of_right (cell (s 5) (var (x 7))) ≡ told 5 Address x_itself
index_read = refl

index_written : asked (assigned (element (s 1) (var (x 3)) ∷ []) (var (y 8))) ≡ told 1 Address x_itself
index_written = refl

index_by_secret_array : of_right (cell (s 5) (cell (t 7) (number 0))) ≡ told 5 Address (Some (named (116 ∷ []) None))
index_by_secret_array = refl

dividend : of_right (of o.Div 5 (var (x 5)) (var (y 9))) ≡ told 5 Divide x_itself
dividend = refl

divisor : of_right (of o.RemS 5 (var (y 5)) (var (x 9))) ≡ told 5 Divide x_itself
divisor = refl

left_operand_first : of_right (of o.DivS 5 (var (k 5)) (var (x 9))) ≡ told 5 Divide (Some (named (107 ∷ []) None))
left_operand_first = refl

division_public : of_right (of o.Rem 5 (var (y 5)) (number 9)) ≡ None
division_public = refl

-- a count, a product, an argument of `#LEA` and a condition of an assignment are not asked of
count : of_right (of o.Shl 5 (var (y 5)) (var (x 10))) ≡ None
count = refl

product : of_right (of o.Mul 5 (var (k 5)) (var (x 9))) ≡ None
product = refl

argument_of_lea : asked (with (scalar (y 1) ∷ []) (of o.Add 10 (var (p 10)) (of o.Mul 14 (number 8) (var (x 16))) ∷ [])) ≡ None
argument_of_lea = refl

condition_of_move : asked (with (scalar (y 1) ∷ []) (var (i 5) ∷ of o.Eq 10 (var (x 10)) (number 0) ∷ var (y 1) ∷ [])) ≡ None
condition_of_move = refl

-- `#DIV` by each of its operands
abbrev div : Term → Term → Term → Option Breach
div a b d = asked (record { reads = a ∷ b ∷ d ∷ []; division = Some (at 20); to = nothing ∷ nothing ∷ [] })

high_word : div (var (x 25)) (var (y 28)) (number 3) ≡ told 20 Divide x_itself
high_word = refl

low_word : div (number 0) (var (x 28)) (number 3) ≡ told 20 Divide x_itself
low_word = refl

divided_by : div (number 0) (var (y 28)) (var (x 31)) ≡ told 20 Divide x_itself
divided_by = refl

all_public : div (number 0) (var (y 28)) (number 3) ≡ None
all_public = refl

-- the right side before the left ones; each left side is labelled before the next
right_before_left : asked (assigned (element (s 1) (var (k 3)) ∷ []) (of o.Div 8 (var (x 8)) (number 3))) ≡ told 8 Divide x_itself
right_before_left = refl

left_before_next : asked (with (scalar (i 1) ∷ element (s 4) (var (i 6)) ∷ []) (var (x 20) ∷ var (y 23) ∷ [])) ≡ told 4 Address (Some (named (105 ∷ []) None))
left_before_next = refl

-- ---- where paths meet, and behind a loop

meets_secret : common (relabels arrays (assigned (scalar (y 1) ∷ []) (var (x 5))) scalars) scalars (key_of (y 0)) ≡ false
meets_secret = refl

-- arms that both set it to what is public
meets_public : common (relabels arrays (assigned (scalar (x 1) ∷ []) (number 1)) scalars) (relabels arrays (assigned (scalar (x 1) ∷ []) (number 2)) scalars) (key_of (x 0)) ≡ true
meets_public = refl

behind_endless : leaving (truth true (at 1)) scalars (key_of (x 0)) ≡ true
behind_endless = refl

behind_others : leaving (truth false (at 1)) scalars (key_of (x 0)) ≡ false
behind_others = refl

-- ---- parameters

abbrev note : List ℕ → NoteValue → Note
note name v = record { name = name; value = v; span = at 1 }

without_label : is_labelled_public [] ≡ false
without_label = refl

public_label : is_labelled_public (note (codes "public") value.None ∷ []) ≡ true
public_label = refl

secret_label : is_labelled_public (note (codes "secret") value.None ∷ []) ≡ false
secret_label = refl

both_labels : is_labelled_public (note (codes "public") value.None ∷ note (codes "secret") value.None ∷ []) ≡ false
both_labels = refl

public_with_value : is_labelled_public (note (codes "public") (value.Num (pos 1)) ∷ []) ≡ false
public_with_value = refl

secret_with_value : is_labelled_public (note (codes "public") value.None ∷ note (codes "secret") (value.Name (codes "x")) ∷ []) ≡ true
secret_with_value = refl

others_public : scalars (key_of (y 0)) ≡ true
others_public = refl

other_copy_public : scalars (record (key_of (x 0)) { copy = 1 }) ≡ true
other_copy_public = refl
