-- What the tables of names hold.
use Rattle.std.specs.Prelude.{◌≡◌, ◌++◌, ℕ, List, filter, find, Option, Some, option_map, if◌then◌else◌}
use Rattle.std.specs.Str.{bytes_eq}
use Rattle.indexmap.specs.IndexMap.{get}
use Rattle.jz_tree.specs.Span.{Span}
use Rattle.jz_tree.specs.declared.program.Fun.{Fun}
use Rattle.jz_tree.specs.declared.stmt.Stmt.{Stmt}
use Rattle.jz_type_names.specs.declared.tables.ByName.{ByName}
use Rattle.jz_type_names.specs.declared.tables.Places.{Places}
use Rattle.jz_tree.specs.declared.expr.Var.{Var}
use Rattle.jz_type_names.specs.declared.tables.Functions.{Functions}
use Rattle.jz_type_names.specs.declared.tables.Variables.{Variables}
use Rattle.jz_type_names.specs.Order.{earliest}
use Rattle.jz_type_names.specs.Parts.{layer_of}
use Rattle.jz_type_names.specs.Names.{unknown_where, fun_where}
use Rattle.jz_type_names.specs.Scopes.{Name, places_of, PlacesByName, FunctionsByName, variable_place, function_named, variable_named, or_named, or_values}

-- the item that a table has for a name
abbrev pub item_in : {T : Type 0} → ByName T → List ℕ → Option T
item_in t n = get bytes_eq t.items n

-- it has this item of the name besides, unless it had one
abbrev pub AddsItem : {T : Type 0} → ByName T → ByName T → List ℕ → T → Type 0
AddsItem old new name item = item_in new ≡ or_named (item_in old) name (Some item)

-- it has this item of the name, whatever it had
abbrev pub PutsItem : {T : Type 0} → ByName T → ByName T → List ℕ → T → Type 0
PutsItem old new name item =
    (n : List ℕ) → item_in new n ≡ (if bytes_eq name n then Some item else item_in old n)

-- a table of some things becomes one of these things besides
abbrev pub Adds : {T A : Type 0} → (T → List A → Type 0) → T → T → List A → Type 0
Adds {A = A} IsTable old new more = (xs : List A) → IsTable old xs → IsTable new (xs ++ more)

-- the place that a table has for a name
abbrev pub place_in : Places → PlacesByName
place_in t n = item_in t.places n

-- where the first of that name stands
abbrev pub first_place : List ℕ → List Name → Option Span
first_place n ns = option_map (λ m. m.1) (find (λ m. bytes_eq n m.0) ns)

-- the places of a name
abbrev pub places_named : List ℕ → List Name → List Span
places_named n ns = places_of (filter (λ m. bytes_eq n m.0) ns)

-- the table has the place of the first of each name
pub record IsPlaces (t : Places) (ns : List Name) : Type 0 where
  pub first : (n : List ℕ) → place_in t n ≡ first_place n ns

-- the table has the earliest place of each name
pub record IsEarliestPlaces (t : Places) (ns : List Name) : Type 0 where
  pub earliest : (n : List ℕ) → place_in t n ≡ earliest (places_named n ns)

-- the function that a table has for a name
abbrev pub function_in : Functions → FunctionsByName
function_in t n = option_map (λ f. f.now) (item_in t.functions n)

-- the table has the first function of each name
pub record IsFunctions (t : Functions) (fs : List Fun) : Type 0 where
  pub named : (n : List ℕ) → function_in t n ≡ function_named n fs

-- where a value of that name is declared, as two tables say
abbrev pub value_in : Places → Places → PlacesByName
value_in constants variables = or_values (place_in constants) (place_in variables)

-- the variable that a table has for a name
abbrev pub variable_in : Variables → List ℕ → Option Var
variable_in t n = option_map (λ v. v.now) (item_in t.variables n)

-- the table has the first variable of each name
pub record IsVariables (t : Variables) (vs : List Var) : Type 0 where
  pub named : (n : List ℕ) → variable_in t n ≡ variable_named n vs

-- ---- Unknown, as tables of constants, variables and functions tell
-- of a statement
abbrev pub unknown_by : Places → Places → Functions → Stmt → List Span
unknown_by constants variables functions s =
    unknown_where
    (value_in constants variables)
    (place_in variables)
    (function_in functions)
    (layer_of s)

-- of a function, whose variables are declared where it says
abbrev pub unknown_of_fun : Places → Functions → Fun → List Span
unknown_of_fun constants functions f =
    fun_where
    (or_values (place_in constants) (variable_place f))
    (variable_place f)
    (function_in functions)
    f
