-- ArrayCopy: where an array would have to be copied.
use Rattle.std.specs.Prelude.{ℕ, ◌+◌, Bool, false, not, ◌&&◌, ◌||◌, nat_eq, if◌then◌else◌, List, [], ◌∷◌, ◌++◌, map, flat_map, slice_get, unwrap_or, Option, Some, None, option_to_list}
use Rattle.std.specs.List.{list_any, zip}
use Rattle.std.specs.Str.{bytes_eq}
use Rattle.jz_tree.specs.Span.{Span}
use Rattle.jz_tree.specs.declared.expr.Expr.{Expr}
use Rattle.jz_tree.specs.declared.expr.Var.{Var}
use Rattle.jz_tree.specs.declared.expr.Expr.TheViews.{out-Var}
use Rattle.jz_tree.specs.declared.stmt.Lval.{Lval}
use Rattle.jz_tree.specs.declared.stmt.Rhs.TheVariants as rhs
use Rattle.jz_tree.specs.declared.stmt.StmtKind.TheOpen.{StmtKind-F}
use Rattle.jz_tree.specs.declared.program.Fun.{Fun}
use Rattle.jz_type_names.specs.Order.{unless}
use Rattle.jz_type_names.specs.Parts.{Layer, whole_left}
use Rattle.jz_type_names.specs.Kinds.{array_of, whole_array}
use Rattle.jz_type_names.specs.Scopes.{text_of}
use Rattle.jz_type_rows.specs.declared.callee.Callee.{Callee}
use Rattle.jz_type_rows.specs.Exports.{is_exported}
use Rattle.jz_type_rows.specs.Callees.{callee_by}

abbrev pub span_of_var : Var → Span
span_of_var v = (out-Var v).span

-- two places where one variable of a function stands
abbrev pub are_one : Var → Var → Bool
are_one v w = bytes_eq (text_of v) (text_of w)

-- ---- arrays where none may stand
abbrev pub place_of_array : Option Var → List Span
place_of_array v = map span_of_var (option_to_list v)

abbrev pub array_arg : Expr → List Span
array_arg e = place_of_array (array_of e)

abbrev pub array_left : Lval → List Span
array_left d = place_of_array (whole_array d)

-- ---- calls: results
-- a left side, and the number of the parameter that the callee gives back there, if it is one
abbrev pub Given : Type 0
Given = Option ℕ × Lval

abbrev pub array_at : Option Expr → Option Var
array_at None = None
array_at (Some e) = array_of e

-- the array that is passed as that parameter
abbrev pub passed_as : List Expr → Option ℕ → Option Var
passed_as args None = None
passed_as args (Some i) = array_at (slice_get args i)

abbrev pub is_one : Option Var → Var → Bool
is_one None w = false
is_one (Some v) w = are_one v w

abbrev pub not_passed_as : Option Var → Option Var → List Span
not_passed_as v None = []
not_passed_as v (Some w) = unless (is_one v w) (span_of_var w)

-- an array among the left sides is the one that was passed and is given back there
abbrev pub not_passed : List Expr → Given → List Span
not_passed args r = not_passed_as (passed_as args r.0) (whole_array r.1)

-- the number of the parameter that the left side, which is the array that was passed, gets back
abbrev pub gets_back : List Expr → Given → Option ℕ
gets_back args r = if list_any (is_one (passed_as args r.0)) (whole_left r.1) then r.0 else None

-- ---- calls: arguments
-- the numbers of the parameters that are given back to the arrays that were passed
abbrev pub numbers_back : List Expr → List Given → List ℕ
numbers_back args rs = flat_map (λ r. option_to_list (gets_back args r)) rs

abbrev pub is_written_at : List Bool → ℕ → Bool
is_written_at written i = unwrap_or (slice_get written i) false

-- an array that is passed, and the number of the parameter that it is there
abbrev pub Passed : Type 0
Passed = ℕ × Var

abbrev pub passed_at : ℕ → Option Var → List Passed
passed_at i v = map (λ v. (i, v)) (option_to_list v)

-- those among arguments of which the first is that of parameter i
abbrev pub passed_from : ℕ → List Expr → List Passed
passed_from i [] = []
passed_from i (e ∷ es) = passed_at i (array_of e) ++ passed_from (i + 1) es

-- what the callee writes it gives back to the same variable
abbrev pub not_back : List Bool → List ℕ → Passed → List Span
not_back written back a = unless (not (is_written_at written a.0) || list_any (nat_eq a.0) back) (span_of_var a.1)

-- no array is passed twice where one of the two is written: the later one is wrong
abbrev pub is_twice : List Bool → Passed → Passed → Bool
is_twice written b a = are_one b.1 a.1 && (is_written_at written b.0 || is_written_at written a.0)

abbrev pub passed_twice : List Bool → List Passed → List Passed → List Span
passed_twice written before [] = []
passed_twice written before (b ∷ bs) =
    unless (not (list_any (is_twice written b) before)) (span_of_var b.1) ++ passed_twice written (before ++ b ∷ []) bs

-- ---- statements
abbrev pub given_results : Callee → List Lval → List Given
given_results g to = zip g.returned to

abbrev pub passed_wrongly : Callee → List Lval → List Expr → List Span
passed_wrongly g to args =
    flat_map (not_back g.written (numbers_back args (given_results g to))) (passed_from 0 args) ++ passed_twice g.written [] (passed_from 0 args)

-- an array is passed to an inline function only
abbrev pub wrong_arguments : Callee → List Lval → List Expr → List Span
wrong_arguments g to args = if is_exported g.kind then flat_map array_arg args else passed_wrongly g to args

-- of an unknown function nothing is asked
abbrev pub copied_by_call : Option Callee → List Lval → List Expr → List Span
copied_by_call None to args = []
copied_by_call (Some g) to args =
    flat_map (not_passed args) (given_results g to) ++ wrong_arguments g to args

-- no array is assigned, and none is given to an intrinsic
abbrev pub copied_places : Option Callee → Layer → List Span
copied_places callee (StmtKind-F.Assign to op (rhs.Call n args at) cond) = copied_by_call callee to args
copied_places callee (StmtKind-F.Assign to op (rhs.Intrinsic n args at) cond) = flat_map array_left to ++ flat_map array_arg args
copied_places callee (StmtKind-F.Assign to op (rhs.Value e) cond) = flat_map array_left to
copied_places callee _ = []

abbrev pub copied_by : List Fun → Layer → List Span
copied_by fs k = copied_places (callee_by fs k) k
