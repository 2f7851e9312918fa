-- A rule of each function, or of each statement, over a whole program.
use Rattle.std.specs.Prelude.{List, flat_map}
use Rattle.jz_tree.specs.Span.{Span}
use Rattle.jz_tree.specs.declared.stmt.Stmt.{Stmt}
use Rattle.jz_tree.specs.declared.program.Program.{Program}
use Rattle.jz_tree.specs.declared.program.Fun.{Fun}
use Rattle.jz_type_names.specs.Parts.{Layer, layer_of, statements_of}

abbrev pub in_functions : (Fun → List Span) → Program → List Span
in_functions broken p = flat_map broken p.funs

abbrev pub of_statement : (Layer → List Span) → Stmt → List Span
of_statement broken s = broken (layer_of s)

abbrev pub in_body : (Layer → List Span) → Fun → List Span
in_body broken f = flat_map (of_statement broken) (statements_of f.body)

abbrev pub in_statements : (Layer → List Span) → Program → List Span
in_statements broken p = in_functions (in_body broken) p
