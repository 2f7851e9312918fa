-- What holds behind an operation.
use Rattle.std.specs.Prelude.{ℕ, zero, suc, pos, ◌==◌, nat_le, Bool, true, false, not, ◌&&◌, ◌||◌, List, [], ◌∷◌, Option, Some, None, if◌then◌else◌}
use Rattle.std.specs.Option.{option_or}
use Rattle.x64_insn.specs.Size.{Size}
use Rattle.x64_insn.specs.Size.TheVariants.{S64}
use Rattle.x64_insn.specs.Words.{residue}
use Rattle.jz_tree.specs.declared.expr.Expr.{Expr}
use Rattle.jz_tree.specs.declared.expr.Var.{Var}
use Rattle.jz_tree.specs.declared.stmt.Lval.{Lval}
use Rattle.jz_tree.specs.declared.stmt.Lval.TheVariants as lval
use Rattle.jz_tree.specs.declared.intrinsic.Intrinsic.{Intrinsic}
use Rattle.jz_tree.specs.declared.intrinsic.Intrinsic.TheVariants as name
use Rattle.jz_tree.specs.declared.intrinsic.Instance.{Instance}
use Rattle.jz_tree.specs.Spellings.{spelled}
use Rattle.jz_meaning.specs.declared.access.Kind.{Kind}
use Rattle.jz_meaning.specs.declared.access.Kind.TheVariants as kind
use Rattle.jz_meaning.specs.States.{Key, same_key}
use Rattle.jz_meaning.specs.Values.{Ref, key_of, ref_of, own_size}
use Rattle.jz_meaning.specs.Assignments.{left_sizes, last_left, whole_of}
use Rattle.jz_meaning.specs.Statements.{Operation, assign, instruction, unset}
use Rattle.jz_flow.specs.Sets.{common}
use Rattle.jz_terms.specs.Terms.{Term, num, var, cell, load, term_of}
use Rattle.jz_facts.specs.Facts.{Fact, Set, Cell, AtLeast, AtMost, Under, Is, Multiple, Facts, subject, Given, is_among, multiples}
use Rattle.jz_facts.specs.Intervals.{size_or_64, interval, multiple}

-- the facts on a variable become these, and the others stay
abbrev pub renewed : Key → Facts → Facts → Facts
renewed v new s f = if same_key (subject f) v then new f else s f

abbrev pub nothing : Facts
nothing f = false

-- that it has a value, and no more
abbrev pub only_set : Facts
only_set (Set v) = true
only_set f = false

-- a read of memory or of an array adds Set and no more
abbrev pub is_read : Term → Bool
is_read (cell x i) = true
is_read (load p a) = true
is_read t = false

-- what a plain copy takes over
abbrev pub copied : Facts → Term → (Key → Fact) → Bool
copied s (var x) f = s (f (key_of x))
copied s t f = false

-- of a word that a term gives: the constants that its interval gives, what it is a multiple of, and
-- of a plain copy what the variable is and is below
abbrev pub of_word : Given → Facts → Size → Term → Facts
of_word g s z t (Set v) = true
of_word g s z t (Cell a k) = false
of_word g s z t (AtLeast v c) =
    not (is_read t) && (is_among c g.consts && nat_le c (interval g s z t).lo)
of_word g s z t (AtMost v c) =
    not (is_read t) && (is_among c g.consts && nat_le (interval g s z t).hi c)
of_word g s z t (Under v x) = copied s t (λ y. Under y x)
of_word g s z t (Is v x) = copied s t (λ y. Is y x)
of_word g s z t (Multiple v m) = is_among m multiples && multiple g s t m

-- what a left side gets: nothing that is known, a value, a word of that term
pub data Gets : Type 0 where
  none : Gets
  some_value : Gets
  the_word : Size → Term → Gets

-- into a variable of this kind, by the facts s before the statement
abbrev pub gained : Given → Facts → Kind → Gets → Facts
gained g s k none = nothing
gained g s (kind.Word y) (the_word z t) = of_word g s z t
gained g s k v = only_set

abbrev pub same_cell : Key → ℕ → Fact → Bool
same_cell a n (Cell b k) = same_key a b && (k == n)
same_cell a n f = false

-- a write to a cell at an inline index; an index at run time adds nothing
abbrev pub in_cell : Ref → Term → Facts → Facts
in_cell x (num n at) s f = s f || same_cell (key_of x) (residue S64 n) f
in_cell x i s f = s f

-- behind the write to a left side
abbrev pub written : Given → Facts → Lval → Gets → Facts → Facts
written g s0 (lval.Skip at) v s = s
written g s0 (lval.Var x) v s =
    renewed (key_of (ref_of x)) (gained g s0 (ref_of x).kind v) s
written g s0 (lval.Cell x i) v s = in_cell (ref_of x) (term_of i) s
written g s0 (lval.Store a) v s = s

-- the left sides in their order
abbrev pub all_written : Given → Facts → List Lval → List Gets → Facts → Facts
all_written g s0 (d ∷ ds) (v ∷ vs) s = all_written g s0 ds vs (written g s0 d v s)
all_written g s0 ds vs s = s

-- of an assignment: the last left side gets the word, one before it a flag or the high word
abbrev pub results : Size → Term → List Lval → List Gets
results z t [] = []
results z t (d ∷ []) = the_word z t ∷ []
results z t (d ∷ ds) = some_value ∷ results z t ds

-- a condition keeps what holds of both
abbrev pub if_so : Option Expr → Facts → Facts → Facts
if_so None before after = after
if_so (Some c) before after = common after before

abbrev pub assigned : Given → List Lval → Option Expr → Option Expr → Facts → Facts
assigned g to None cond s = s
assigned g to (Some e) cond s =
    let z = size_or_64 (option_or (left_sizes to) (own_size e)) in
    if_so cond s (all_written g s to (results z (term_of e) to) s)

-- of an intrinsic: flags that the source leaves unset add nothing
abbrev pub flags : Bool → Bool → Bool → Bool → Bool → List Gets
flags o c s p z = flag o ∷ flag c ∷ flag s ∷ flag p ∷ flag z ∷ []
  where
    flag : Bool → Gets
    flag true = some_value
    flag false = none

abbrev pub counted : List Expr → Option ℕ
counted (a ∷ n ∷ []) = by_term (term_of n)
  where
    by_term : Term → Option ℕ
    by_term (num (pos n) at) = Some n
    by_term t = None
counted es = None

-- five flags of a shift: by a count at run time or by 0 none has a value, by 1 each has, else all
-- but OF
abbrev pub shift_flags : Option ℕ → List Gets
shift_flags None = flags false false false false false
shift_flags (Some n) =
    if n == 0 then flags false false false false false else flags (n == 1) true true true true

abbrev pub first_two : List Gets → List Gets
first_two (a ∷ b ∷ ds) = a ∷ b ∷ []
first_two ds = ds

abbrev pub and_values : List Gets → ℕ → List Gets
and_values [] zero = []
and_values [] (suc n) = some_value ∷ and_values [] n
and_values (d ∷ ds) n = d ∷ and_values ds n

abbrev pub five : List Gets
five = flags true true true true true

abbrev pub instruction_gets : Intrinsic → Option ℕ → List Gets
instruction_gets name.Inc n = five
instruction_gets name.Dec n = five
instruction_gets name.Not n = some_value ∷ []
instruction_gets name.Bswap n = some_value ∷ []
instruction_gets name.Lea n = some_value ∷ []
instruction_gets name.Setcc n = some_value ∷ []
instruction_gets name.Cmp n = five
instruction_gets name.Test n = five
instruction_gets name.Shl n = and_values (shift_flags n) 1
instruction_gets name.Shr n = and_values (shift_flags n) 1
instruction_gets name.Sar n = and_values (shift_flags n) 1
instruction_gets name.Rol n = and_values (first_two (shift_flags n)) 1
instruction_gets name.Ror n = and_values (first_two (shift_flags n)) 1
instruction_gets name.Imul n = and_values (flags true true false false false) 1
instruction_gets name.Mul n = and_values (flags true true false false false) 2
instruction_gets name.Div n = and_values (flags false false false false false) 2
instruction_gets i n = and_values five 1

abbrev pub instructed : Given → Option Instance → List Lval → List Expr → Facts → Facts
instructed g None to args s = s
instructed g (Some i) to args s =
    all_written g s to (instruction_gets i.name (counted args)) s

-- a mark drops the facts on its variables; the scalars of a register array are its cells
abbrev pub is_of : Ref → Key → Bool
is_of x v = if_array x.kind
  where
    if_array : Kind → Bool
    if_array (kind.Array z n) =
        same_key (record { name = v.name; copy = v.copy; cell = None })
        (record { name = x.name; copy = x.copy; cell = None })
    if_array k = same_key v (key_of x)

abbrev pub marks : Var → Key → Bool
marks x v = is_of (ref_of x) v

abbrev pub is_marked : List Var → Key → Bool
is_marked [] v = false
is_marked (x ∷ xs) v = marks x v || is_marked xs v

abbrev pub quieted : Operation → Facts → Facts
quieted (unset xs) s f = s f && not (is_marked xs (subject f))
quieted o s f = s f

abbrev pub does : Given → Operation → Facts → Facts
does g (assign to o e c at) s = assigned g to (whole_of (last_left to) o e) c s
does g (instruction to n args at) s = instructed g (spelled n) to args s
does g o s = s
