-- NoInstruction: a statement of which no other fault is told matches a row of the tables, and so do
-- the copies of its call.
use Rattle.std.specs.Prelude.{ℕ, List, ◌++◌, flat_map, Option, is_some}
use Rattle.jz_tree.specs.Span.{Span}
use Rattle.jz_tree.specs.declared.stmt.Stmt.{Stmt}
use Rattle.jz_tree.specs.declared.program.Fun.{Fun}
use Rattle.jz_tree.specs.declared.program.Program.{Program}
use Rattle.jz_type_names.specs.Order.{earliest}
use Rattle.jz_type_names.specs.Scopes.{constant_place, variable_place, or_values}
use Rattle.jz_type_names.specs.Parts.{layer_of, statements_of}
use Rattle.jz_type_names.specs.Names.{unknown_where, repeated_by}
use Rattle.jz_type_sizes.specs.Mismatches.{Named, among, stmt_wrong}
use Rattle.jz_type_rows.specs.declared.callee.Callee.{Callee}
use Rattle.jz_type_rows.specs.Callees.{callee_by}
use Rattle.jz_type_rows.specs.Copies.{copied_places}
use Rattle.jz_type_rows.specs.Indexes.{indexed_by}
use Rattle.jz_type_rows.specs.Matching.{unmatched_places}

abbrev pub Declared : Type 0
Declared = List ℕ → Option Span

-- where constants and variables are declared, and which functions there are
module _ (constants variables : Declared) (functions : Named) where
  -- the faults of a statement for which no row is asked of it
  abbrev pub others : Option Callee → Stmt → List Span
  others callee s =
      unknown_where (or_values constants variables) variables functions (layer_of s)
      ++ (repeated_by (layer_of s) ++ (stmt_wrong functions s ++ (copied_places callee (layer_of s) ++ indexed_by (layer_of s))))

  abbrev pub unmatched_with : Option Callee → Stmt → List Span
  unmatched_with callee s = unmatched_places callee (is_some (earliest (others callee s))) s

  unfoldable pub unmatched_at : List Fun → Stmt → List Span
  unmatched_at fs s = unmatched_with (callee_by fs (layer_of s)) s

-- of a function among these
unfoldable pub unmatched_in_fun : Declared → Named → List Fun → Fun → List Span
unmatched_in_fun constants functions fs f = flat_map (unmatched_at constants (variable_place f) functions fs) (statements_of f.body)

abbrev pub unmatched_in : Program → List Span
unmatched_in q = flat_map (unmatched_in_fun (constant_place q.consts) (among q.funs) q.funs) q.funs
