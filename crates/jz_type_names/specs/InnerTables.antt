-- What private contracts say of names that tables know, statement by statement and name by name.
use Rattle.std.specs.Prelude.{not, List, flat_map}
use Rattle.jz_tree.specs.Span.{Span}
use Rattle.jz_tree.specs.declared.program.Fun.{Fun}
use Rattle.jz_tree.specs.declared.stmt.Stmt.{Stmt}
use Rattle.jz_type_names.specs.declared.tables.Places.{Places}
use Rattle.jz_type_names.specs.declared.tables.Functions.{Functions}
use Rattle.jz_type_names.specs.Order.{unless}
use Rattle.jz_type_names.specs.Scopes.{Name}
use Rattle.jz_type_names.specs.Parts.{layer_of, called_by}
use Rattle.jz_type_names.specs.Names.{stands_above, one_unknown, no_function, arrays_passed, variables_wanted, outside_where}
use Rattle.jz_type_names.specs.Tables.{place_in, value_in, function_in}

-- where a name stands, unless its place in the table stands before it
unfoldable pub one_repeated_in : Places → Name → List Span
one_repeated_in t n = unless (not (stands_above (place_in t n.0) n.1)) n.1

-- where a name stands, unless it is a value's that is declared above
abbrev pub unknown_value_by : Places → Places → Name → List Span
unknown_value_by constants variables = one_unknown (value_in constants variables)

-- the names that a statement passes in the places of arrays, and those that have to be variables
abbrev pub passed_by : Functions → Stmt → List Name
passed_by functions s = arrays_passed (function_in functions) (layer_of s)

abbrev pub wanted_by : Functions → Stmt → List Name
wanted_by functions s = variables_wanted (function_in functions) (layer_of s)

-- where a statement calls what is no function
abbrev pub unknown_calls : Functions → Stmt → List Span
unknown_calls functions s = flat_map (no_function (function_in functions)) (called_by (layer_of s))

-- the unknown names of what stands outside statements
abbrev pub outside_by : Places → Places → Fun → List Span
outside_by constants variables f =
    outside_where (value_in constants variables) (place_in variables) f
