-- What a rule finds in one function, by the tables of the program.
use Rattle.std.specs.Prelude.{List}
use Rattle.jz_tree.specs.Span.{Span}
use Rattle.jz_tree.specs.declared.program.Fun.{Fun}
use Rattle.jz_type_names.specs.Scopes.{variable_place, or_values}
use Rattle.jz_type_names.specs.Names.{fun_where}
use Rattle.jz_type_sizes.specs.Mismatches.{Named}
use Rattle.jz_types.specs.Rows.{Declared}

-- its unknown names, where constants are declared there and these are the functions
abbrev pub unknown_with : Declared → Named → Fun → List Span
unknown_with constants functions f =
    fun_where (or_values constants (variable_place f)) (variable_place f) functions f
