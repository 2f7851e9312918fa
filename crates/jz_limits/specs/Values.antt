-- The values of inline variables, as they are known where a statement stands.
use Rattle.std.specs.Prelude.{ℤ, ◌==◌, ◌&&◌, Bool, true, false, if◌then◌else◌, List, [], ◌∷◌, Option, Some, None}
use Rattle.std.specs.Str.{bytes_eq}
use Rattle.jz_tree.specs.declared.expr.Expr.{Expr}
use Rattle.jz_tree.specs.declared.expr.Var.{Var}
use Rattle.jz_tree.specs.declared.stmt.Lval.{Lval}
use Rattle.jz_tree.specs.declared.stmt.Lval.TheVariants as lval
use Rattle.jz_integers.specs.Integers.{KnownNumbers, inline_value, the_number}
use Rattle.jz_integers.specs.declared.constant.Constant.{Constant}
use Rattle.jz_integers.specs.declared.constant.Constant.TheVariants as constant
use Rattle.jz_meaning.specs.declared.access.Kind.{Kind}
use Rattle.jz_meaning.specs.declared.access.Kind.TheVariants as kind
use Rattle.jz_meaning.specs.Assignments.{whole_of}
use Rattle.jz_meaning.specs.Values.{ref_of}
use Rattle.jz_meaning.specs.Statements.{Operation, assign}

abbrev pub no_numbers : KnownNumbers
no_numbers name copy = None

abbrev pub with_number : KnownNumbers → Var → Option ℤ → KnownNumbers
with_number e v i name copy =
    if bytes_eq (ref_of v).name name && (ref_of v).copy == copy then i else e name copy

abbrev pub number_of : KnownNumbers → Var → Option ℤ
number_of e v = e (ref_of v).name (ref_of v).copy

abbrev pub is_int : Kind → Bool
is_int kind.Int = true
is_int _ = false

-- the inline variable that a left side is
abbrev pub only_int : Lval → Option Var
only_int (lval.Var v) = if is_int (ref_of v).kind then Some v else None
only_int _ = None

-- the inline variable that is set, where nothing else is
abbrev pub inline_target : List Lval → Option Var
inline_target (d ∷ []) = only_int d
inline_target _ = None

-- the number of an inline expression, if it has one
abbrev pub number_in : KnownNumbers → Expr → Option ℤ
number_in e x = the_number (inline_value e x)

abbrev pub truth_of : Option Constant → Option Bool
truth_of (Some (constant.Bool b)) = Some b
truth_of _ = None

-- an absent condition is true
abbrev pub holds_in : KnownNumbers → Option Expr → Option Bool
holds_in e None = Some true
holds_in e (Some c) = truth_of (inline_value e c)

-- where the condition is false the old value stays
abbrev pub chosen : KnownNumbers → Var → Option Expr → Option Bool → KnownNumbers
chosen e v None c = e
chosen e v (Some x) (Some true) = with_number e v (number_in e x)
chosen e v (Some x) _ = e

abbrev pub set_to : KnownNumbers → Option Var → Option Expr → Option Expr → KnownNumbers
set_to e None x c = e
set_to e (Some v) x c = chosen e v x (holds_in e c)

abbrev pub first_left : Option Var → Option Lval
first_left None = None
first_left (Some v) = Some (lval.Var v)

-- what is known behind an operation
abbrev pub known_after : KnownNumbers → Operation → KnownNumbers
known_after e (assign to o x c at) =
    set_to e (inline_target to) (whole_of (first_left (inline_target to)) o x) c
known_after e _ = e
