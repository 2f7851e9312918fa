-- What the calls of a function need to know of it.
use Rattle.std.specs.Prelude.{ℕ, ◌+◌, Bool, ◌&&◌, if◌then◌else◌, List, [], ◌∷◌, map, flat_map, Option, Some, None, option_map}
use Rattle.std.specs.List.{list_any}
use Rattle.std.specs.Str.{bytes_eq}
use Rattle.jz_tree.specs.declared.expr.Expr.{Expr}
use Rattle.jz_tree.specs.declared.expr.Expr.TheVariants as expr
use Rattle.jz_tree.specs.declared.expr.Var.{Var}
use Rattle.jz_tree.specs.declared.expr.Expr.TheViews.{out-Var, roll-Var}
use Rattle.jz_tree.specs.declared.program.Fun.{Fun}
use Rattle.jz_tree.specs.declared.program.Param.{Param}
use Rattle.jz_tree.specs.declared.stmt.Stmt.{Stmt}
use Rattle.jz_tree.specs.declared.stmt.Lval.{Lval}
use Rattle.jz_tree.specs.declared.stmt.Lval.TheVariants as lval
use Rattle.jz_tree.specs.declared.stmt.Rhs.TheVariants as rhs
use Rattle.jz_tree.specs.declared.stmt.StmtKind.TheOpen.{StmtKind-F}
use Rattle.jz_type_names.specs.Scopes.{function_named, text_of, text_of_param}
use Rattle.jz_type_names.specs.Parts.{Layer, layer_of, statements_of, set_by}
use Rattle.jz_type_names.specs.Kinds.{known_of, is_array}
use Rattle.jz_type_rows.specs.declared.callee.Callee.{Callee}

-- the first place of a list at which the test is passed
abbrev pub index_where : {A : Type 0} → (A → Bool) → List A → Option ℕ
index_where test [] = None
index_where test (a ∷ as') = if test a then Some 0 else option_map (λ n. n + 1) (index_where test as')

-- the first place of the name of a variable
abbrev pub place_among : List (List ℕ) → Var → Option ℕ
place_among names v = index_where (bytes_eq (text_of v)) names

-- the number of the parameter that a variable of the function is, if it is one
abbrev pub param_of : Fun → Var → Option ℕ
param_of g = place_among (map text_of_param g.params)

-- the variables that statements set, as a whole or a cell, those that stand in them among them
abbrev pub set_in : List Stmt → List Var
set_in ss = flat_map (λ s. set_by (layer_of s)) (statements_of ss)

abbrev pub names_set : Fun → List (List ℕ)
names_set g = map text_of (set_in g.body)

-- the parameter is an array that the function writes
abbrev pub is_written : List (List ℕ) → Param → Bool
is_written names p = is_array (known_of p.var) && list_any (bytes_eq (text_of_param p)) names

-- a variable of the callee, which is none of the caller's whatever its name
abbrev pub of_callee : Var → Var
of_callee v = roll-Var (record (out-Var v) { copy = 1 })

abbrev pub entered_by : Param → Lval
entered_by p = lval.Var (of_callee p.var)

abbrev pub left_by : Var → Expr
left_by v = expr.Var (of_callee v)

abbrev pub callee_of : Fun → Callee
callee_of g = record {
  kind = g.kind;
  written = map (is_written (names_set g)) g.params;
  returned = map (param_of g) g.result;
  entered = map entered_by g.params;
  left = map left_by g.result;
}

-- the function that a statement calls
abbrev pub called_function : List Fun → Layer → Option Fun
called_function fs (StmtKind-F.Assign to op (rhs.Call n args at) cond) = function_named n fs
called_function fs _ = None

abbrev pub callee_by : List Fun → Layer → Option Callee
callee_by fs k = option_map callee_of (called_function fs k)
