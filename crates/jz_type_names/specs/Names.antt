-- Unknown and Duplicate.
use Rattle.std.specs.Prelude.{ℕ, Bool, false, not, ◌&&◌, ◌||◌, is_some, if◌then◌else◌, List, [], ◌∷◌, ◌++◌, map, flat_map, Option, Some, None, option_to_list}
use Rattle.std.specs.Str.{bytes_eq}
use Rattle.jz_tree.specs.Span.{Span}
use Rattle.jz_tree.specs.declared.expr.Expr.{Expr}
use Rattle.jz_tree.specs.declared.expr.Ty.{Ty}
use Rattle.jz_tree.specs.declared.expr.Access.{Access}
use Rattle.jz_tree.specs.declared.expr.Decl.{Decl}
use Rattle.jz_tree.specs.declared.expr.Var.{Var}
use Rattle.jz_tree.specs.declared.expr.Expr.TheOpen.{Expr-F}
use Rattle.jz_tree.specs.declared.expr.Expr.TheViews.{out-Expr, out-Var}
use Rattle.jz_tree.specs.declared.stmt.Rhs.TheVariants as rhs
use Rattle.jz_tree.specs.declared.stmt.StmtKind.TheOpen.{StmtKind-F}
use Rattle.jz_tree.specs.declared.program.Program.{Program}
use Rattle.jz_tree.specs.declared.program.Const.{Const}
use Rattle.jz_tree.specs.declared.program.Fun.{Fun}
use Rattle.jz_tree.specs.declared.program.Param.{Param}
use Rattle.jz_tree.specs.declared.program.Ret.{Ret}
use Rattle.jz_type_names.specs.Order.{is_before, unless}
use Rattle.jz_type_names.specs.Scopes.{Name, name_of, constant_name, function_name, places_of, PlacesByName, FunctionsByName, variables_of, function_named, constant_place, variable_place, value_place}
use Rattle.jz_type_names.specs.Kinds.{known_of, is_array}
use Rattle.jz_type_names.specs.Parts.{Layer, names_in, arrays_in, lengths_in, read_by, set_by, arrays_read_by, wholly_set_by, called_by, statements_of, layer_of}

abbrev pub stands_above : Option Span → Span → Bool
stands_above None at = false
stands_above (Some s) at = is_before s at

-- where a name stands, unless it is declared above
unfoldable pub one_unknown : PlacesByName → Name → List Span
one_unknown declared n = unless (stands_above (declared n.0) n.1) n.1

-- the names that are not declared above
abbrev pub unknown_among : PlacesByName → List Name → List Span
unknown_among declared ns = flat_map (one_unknown declared) ns

-- what a name is where it stands: that of a constant, where one stands above and no variable of
-- that name does
abbrev pub is_constant : PlacesByName → PlacesByName → Name → Bool
is_constant constants variables n =
    not (stands_above (variables n.0) n.1) && stands_above (constants n.0) n.1

-- where a name stands, unless it is a function's
unfoldable pub no_function : FunctionsByName → Name → List Span
no_function functions n = unless (is_some (functions n.0)) n.1

-- ---- arguments that have to be arrays
abbrev pub name_layer : Expr-F Expr Ty Access Decl Var → List Name
name_layer (Expr-F.Var v) = name_of v ∷ []
name_layer _ = []

-- the name that an argument is as a whole, where the parameter is an array
abbrev pub array_passed : Param → Expr → List Name
array_passed p e = if is_array (known_of p.var) then name_layer (out-Expr e) else []

abbrev pub arrays_beside : List Param → List Expr → List Name
arrays_beside ps [] = []
arrays_beside [] (e ∷ es) = []
arrays_beside (p ∷ ps) (e ∷ es) = array_passed p e ++ arrays_beside ps es

abbrev pub arrays_to : Option Fun → List Expr → List Name
arrays_to None args = []
arrays_to (Some g) args = arrays_beside g.params args

-- the names that a statement passes to a function in the places of arrays
abbrev pub arrays_passed : FunctionsByName → Layer → List Name
arrays_passed functions (StmtKind-F.Assign to op (rhs.Call n args at) cond) =
    arrays_to (functions n) args
arrays_passed functions _ = []

-- ---- Unknown
-- the names of a statement that have to be variables: what it sets, what stands before an index,
-- and what is passed as an array
abbrev pub variables_wanted : FunctionsByName → Layer → List Name
variables_wanted functions k =
    map name_of (set_by k) ++ (arrays_read_by k ++ arrays_passed functions k)

-- Unknown, of a statement: what is read is declared above as a variable or constant, what has to be
-- a variable as a variable, and what is called is a function anywhere
abbrev pub unknown_where : PlacesByName → PlacesByName → FunctionsByName → Layer → List Span
unknown_where values variables functions k =
    unknown_among values (read_by k)
    ++ unknown_among variables (variables_wanted functions k)
    ++ flat_map (no_function functions) (called_by k)

-- what is declared of a variable, and of a parameter
abbrev pub var_decl : Var → List Decl
var_decl v = option_to_list (out-Var v).decl

abbrev pub param_decl : Param → List Decl
param_decl p = var_decl p.var

abbrev pub ret_decls : List Ret → List Decl
ret_decls rs = map (λ r. r.decl) rs

-- the declarations of a function: of its parameters, results and variables
abbrev pub decls_of : Fun → List Decl
decls_of f = flat_map param_decl f.params ++ ret_decls f.rets ++ flat_map var_decl f.vars

-- the names in the length of what a declaration declares
abbrev pub decl_names : Decl → List Name
decl_names d = flat_map names_in (lengths_in d)

-- the names in the lengths of what a function declares
abbrev pub length_names : Fun → List Name
length_names f = flat_map decl_names (decls_of f)

-- those of them that stand before an index
abbrev pub decl_arrays : Decl → List Name
decl_arrays d = flat_map arrays_in (lengths_in d)

abbrev pub length_arrays : Fun → List Name
length_arrays f = flat_map decl_arrays (decls_of f)

-- the names outside statements that have to be variables
abbrev pub variables_outside : Fun → List Name
variables_outside f = length_arrays f ++ map name_of f.result

-- Unknown, of what stands outside statements: the lengths of arrays, and what is returned
abbrev pub outside_where : PlacesByName → PlacesByName → Fun → List Span
outside_where values variables f =
    unknown_among values (length_names f) ++ unknown_among variables (variables_outside f)

-- Unknown, of a function
abbrev pub fun_where : PlacesByName → PlacesByName → FunctionsByName → Fun → List Span
fun_where values variables functions f =
    outside_where values variables f
    ++ flat_map (λ s. unknown_where values variables functions (layer_of s)) (statements_of f.body)

abbrev pub unknown_in_fun : Program → Fun → List Span
unknown_in_fun p f =
    fun_where (value_place p.consts f) (variable_place f) (λ n. function_named n p.funs) f

-- Unknown, of a constant: the declaration of a constant ends behind its value, so a name there is
-- that of a constant which stands above this one; and none stands before an index, as there are no
-- variables
unfoldable pub unknown_value : PlacesByName → Span → Name → List Span
unknown_value constants own n = unless (stands_above (constants n.0) own) n.1

unfoldable pub unknown_in_constant : PlacesByName → Const → List Span
unknown_in_constant constants c =
    flat_map (unknown_value constants c.span) (names_in c.value) ++ places_of (arrays_in c.value)

abbrev pub unknown_in : Program → List Span
unknown_in p =
    flat_map (unknown_in_constant (constant_place p.consts)) p.consts
    ++ flat_map (unknown_in_fun p) p.funs

-- one of the names equals this one and stands before it
abbrev pub named_before : List Name → Name → Bool
named_before [] n = false
named_before (m ∷ ms) n = (bytes_eq n.0 m.0 && is_before m.1 n.1) || named_before ms n

unfoldable pub one_repeated : List Name → Name → List Span
one_repeated ns n = unless (not (named_before ns n)) n.1

-- the names before which an equal one stands
abbrev pub repeated_places : List Name → List Span
repeated_places ns = flat_map (one_repeated ns) ns

-- Duplicate, of a statement: whole variables differ among its results
abbrev pub repeated_by : Layer → List Span
repeated_by k = repeated_places (map name_of (wholly_set_by k))

-- Duplicate, of a function: names differ among its variables
abbrev pub repeated_in_fun : Fun → List Span
repeated_in_fun f =
    repeated_places (map name_of (variables_of f))
    ++ flat_map (λ s. repeated_by (layer_of s)) (statements_of f.body)

-- the names of constants and functions
abbrev pub top_names : Program → List Name
top_names p = map constant_name p.consts ++ map function_name p.funs

-- Duplicate: names differ among functions and constants, and among the variables of one function
abbrev pub repeated_in : Program → List Span
repeated_in p = repeated_places (top_names p) ++ flat_map repeated_in_fun p.funs
