-- What private contracts say of scopes, and of programs by a table of constants.
use Rattle.std.specs.Prelude.{◌≡◌, ℕ, ℤ, Bool, List, Option, Some, None, option_map, option_and_then, if◌then◌else◌}
use Rattle.std.specs.Option.{option_or}
use Rattle.jz_tree.specs.declared.expr.Decl.{Decl}
use Rattle.jz_tree.specs.declared.expr.Var.{Var}
use Rattle.jz_tree.specs.declared.expr.Expr.TheViews.{out-Var}
use Rattle.jz_tree.specs.declared.program.Const.{Const}
use Rattle.jz_tree.specs.declared.program.Fun.{Fun}
use Rattle.jz_type_names.specs.Scopes.{Name, PlacesByName, variables_of, or_named}
use Rattle.jz_type_names.specs.Names.{is_constant}
use Rattle.jz_type_names.specs.Tables.{variable_in}
use Rattle.jz_resolve.specs.declared.table.ConstantTable.{ConstantTable}
use Rattle.jz_resolve.specs.declared.scope.Scope.{Scope}
use Rattle.jz_resolve.specs.Resolving.{KnownNames}
use Rattle.jz_resolve.specs.Numbering.{Values, constant_decl, declaration_in, number_in, known_among}
use Rattle.jz_resolve.specs.Programs.{resolved_fun, resolved_whole, resolved_const}
use Rattle.jz_resolve.specs.Tables.{values_in, places_in}

-- ---- constants
-- with a number more, unless the name has one
abbrev pub with_number : Values → List ℕ → ℤ → Values
with_number known name n = or_named known name (Some n)

-- ---- scopes
abbrev pub declared_by : Scope → List ℕ → Option Decl
declared_by s n =
    option_or
    (option_and_then (λ v. (out-Var v).decl) (variable_in s.variables n))
    (option_map (λ at. constant_decl) (places_in s.constants.now n))

-- where the variable of that name is declared
abbrev pub place_by : Scope → PlacesByName
place_by s n = option_map (λ v. (out-Var v).span) (variable_in s.variables n)

abbrev pub is_constant_by : Scope → Name → Bool
is_constant_by s n = is_constant (places_in s.constants.now) (place_by s) n

abbrev pub number_by : Scope → Name → Option (Option ℤ)
number_by s n = if is_constant_by s n then Some (values_in s.constants.now n.0) else None

abbrev pub known_by : Scope → KnownNames
known_by s = record { declaration = declared_by s; number = number_by s }

-- it knows these variables and the constants of this table
pub record IsScope (s : Scope) (t : ConstantTable) (vs : List Var) : Type 0 where
  pub declaration : declared_by s ≡ declaration_in (places_in t) vs
  pub number : number_by s ≡ number_in (places_in t) (values_in t) vs

-- ---- programs, by a table of their constants
-- what is known of names in a function
abbrev pub names_of_fun : ConstantTable → Fun → KnownNames
names_of_fun t f = known_among (places_in t) (values_in t) (variables_of f)

abbrev pub fun_by : ConstantTable → Fun → Fun
fun_by t = resolved_fun (places_in t) (values_in t)

abbrev pub whole_by : ConstantTable → Fun → Fun
whole_by t = resolved_whole (places_in t) (values_in t)

abbrev pub const_by : ConstantTable → Const → Const
const_by t = resolved_const (places_in t) (values_in t)
