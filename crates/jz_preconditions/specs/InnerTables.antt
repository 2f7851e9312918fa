-- What the tables of parameters hold.
use Rattle.std.specs.Prelude.{◌≡◌, ◌++◌, ℕ, List, ◌∷◌, [], option_map, map}
use Rattle.jz_tree.specs.declared.expr.Var.{Var}
use Rattle.jz_tree.specs.declared.program.Fun.{Fun}
use Rattle.jz_type_names.specs.Scopes.{variable_named}
use Rattle.jz_type_names.specs.Tables.{item_in}
use Rattle.jz_type_names.specs.Tables as names
use Rattle.jz_preconditions.specs.declared.parameters.Parameters.{Parameters}
use Rattle.jz_preconditions.specs.declared.stated.Stated.{Stated}
use Rattle.jz_preconditions.specs.declared.table.Table.{Table}
use Rattle.jz_preconditions.specs.Naming.{ParametersByName}
use Rattle.jz_preconditions.specs.Bounds.{Bounds, range_of, multiple_of}
use Rattle.jz_preconditions.specs.Stating.{pres_of, bound_names}

-- ---- parameters
abbrev pub parameter_list : Fun → List Var
parameter_list f = map (λ p. p.var) f.params

-- the parameter that a table has for a name
abbrev pub parameter_in : Parameters → ParametersByName
parameter_in t n = option_map (λ v. v.now) (item_in t.variables n)

-- the table has the first variable of each name
pub record IsParameters (t : Parameters) (vs : List Var) : Type 0 where
  pub named : (n : List ℕ) → parameter_in t n ≡ variable_named n vs

-- a table of some variables becomes one of these variables besides
abbrev pub AddsVariables : Parameters → Parameters → List Var → Type 0
AddsVariables old new more = (vs : List Var) → IsParameters old vs → IsParameters new (vs ++ more)

-- ---- what is asked of them
abbrev pub seen_in : Table → Bounds
seen_in t =
    record {
      parameter = parameter_in t.parameters;
      range = item_in t.ranges;
      multiple = item_in t.multiples;
      place = names.place_in t.places;
    }

-- the table has what is asked of each name by what is stated
pub record IsTable (t : Table) (ps : ParametersByName) (ss : List Stated) : Type 0 where
  pub parameter : (n : List ℕ) → parameter_in t.parameters n ≡ ps n
  pub range : (n : List ℕ) → item_in t.ranges n ≡ range_of (pres_of ss) n
  pub multiple : (n : List ℕ) → item_in t.multiples n ≡ multiple_of (pres_of ss) n
  pub place : names.IsPlaces t.places (bound_names ss)

abbrev pub AddsStated : Table → Table → Stated → Type 0
AddsStated old new s =
    (ps : ParametersByName) (ss : List Stated) → IsTable old ps ss → IsTable new ps (ss ++ s ∷ [])
