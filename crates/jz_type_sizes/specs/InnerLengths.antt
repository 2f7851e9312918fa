-- What private contracts say of lengths, by tables of the places of constants and variables.
use Rattle.std.specs.Prelude.{ℤ, Bool, List, Option}
use Rattle.jz_tree.specs.Span.{Span}
use Rattle.jz_tree.specs.declared.expr.Expr.{Expr}
use Rattle.jz_tree.specs.declared.expr.Decl.{Decl}
use Rattle.jz_type_names.specs.declared.tables.Places.{Places}
use Rattle.jz_type_names.specs.Scopes.{Name}
use Rattle.jz_type_names.specs.Names.{is_constant}
use Rattle.jz_type_names.specs.Tables.{place_in}
use Rattle.jz_type_sizes.specs.Lengths.{no_constant, unbuilt, length_wrong, decl_wrong}

abbrev pub constant_by : Places → Places → Name → Bool
constant_by constants variables = is_constant (place_in constants) (place_in variables)

module _ (constants variables : Places) where
  abbrev pub no_constant_by : Name → List Span
  no_constant_by = no_constant (constant_by constants variables)

  abbrev pub unbuilt_by : Expr → List Span
  unbuilt_by = unbuilt (constant_by constants variables)

  abbrev pub length_wrong_by : (Expr → Option ℤ) → Expr → List Span
  length_wrong_by = length_wrong (constant_by constants variables)

  abbrev pub decl_wrong_by : (Expr → Option ℤ) → Decl → List Span
  decl_wrong_by = decl_wrong (constant_by constants variables)
