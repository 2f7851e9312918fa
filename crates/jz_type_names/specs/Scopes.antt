-- The names that a program declares.
use Rattle.std.specs.Prelude.{ℕ, List, ◌++◌, map, find, Option, None, option_map, if◌then◌else◌}
use Rattle.std.specs.Str.{bytes_eq}
use Rattle.std.specs.Option.{option_or}
use Rattle.jz_tree.specs.Span.{Span}
use Rattle.jz_tree.specs.declared.expr.Var.{Var}
use Rattle.jz_tree.specs.declared.expr.Expr.TheViews.{out-Var}
use Rattle.jz_tree.specs.declared.program.Const.{Const}
use Rattle.jz_tree.specs.declared.program.Fun.{Fun}
use Rattle.jz_tree.specs.declared.program.Param.{Param}
use Rattle.jz_type_names.specs.Order.{earlier}

-- a name where it stands
abbrev pub Name : Type 0
Name = List ℕ × Span

abbrev pub name_of : Var → Name
name_of v = ((out-Var v).name, (out-Var v).span)

-- the same without its place, also of a parameter
abbrev pub text_of : Var → List ℕ
text_of v = (out-Var v).name

abbrev pub text_of_param : Param → List ℕ
text_of_param p = text_of p.var

-- the name of a constant, and that of a function, where it is declared
abbrev pub constant_name : Const → Name
constant_name c = (c.name, c.span)

abbrev pub function_name : Fun → Name
function_name f = (f.name, f.span)

abbrev pub places_of : List Name → List Span
places_of ns = map (λ n. n.1) ns

-- the parameters and variables of a function, in the order of the text
abbrev pub variables_of : Fun → List Var
variables_of f = map (λ p. p.var) f.params ++ f.vars

-- the first of that name
abbrev pub variable_named : List ℕ → List Var → Option Var
variable_named n vs = find (λ v. bytes_eq n (out-Var v).name) vs

abbrev pub constant_named : List ℕ → List Const → Option Const
constant_named n cs = find (λ c. bytes_eq n c.name) cs

abbrev pub function_named : List ℕ → List Fun → Option Fun
function_named n fs = find (λ f. bytes_eq n f.name) fs

-- what is known, and else this of the name
abbrev pub or_named : {A : Type 0} → (List ℕ → Option A) → List ℕ → Option A → List ℕ → Option A
or_named known name a n = option_or (known n) (if bytes_eq n name then a else None)

-- where each name is declared, if it is
abbrev pub PlacesByName : Type 0
PlacesByName = List ℕ → Option Span

-- the function of each name, if there is one
abbrev pub FunctionsByName : Type 0
FunctionsByName = List ℕ → Option Fun

-- where the first of these variables stands that has the name
abbrev pub place_among : List Var → PlacesByName
place_among vs n = option_map (λ v. (out-Var v).span) (variable_named n vs)

-- where the variable of that name is declared
abbrev pub variable_place : Fun → PlacesByName
variable_place f = place_among (variables_of f)

abbrev pub constant_place : List Const → PlacesByName
constant_place cs n = option_map (λ c. c.span) (constant_named n cs)

-- where a value of that name is first declared, as a constant or a variable, if these are declared
-- where the functions say
abbrev pub or_values : PlacesByName → PlacesByName → PlacesByName
or_values constants variables n = earlier (variables n) (constants n)

-- where a value of that name is first declared, as a constant or as a variable of the function
abbrev pub value_place : List Const → Fun → PlacesByName
value_place cs f = or_values (constant_place cs) (variable_place f)
