-- The rules of typing: which places break each of them.
use Rattle.std.specs.Prelude.{◌⊎◌, ◌++◌, Contains}
use Rattle.jz_tree.specs.Span.{Span}
use Rattle.jz_tree.specs.declared.program.Program.{Program}
use Rattle.jz_type_names.specs.Names.{unknown_in, repeated_in}
use Rattle.jz_resolve.specs.Numbering.{length_of}
use Rattle.jz_resolve.specs.Programs.{resolved_program}
use Rattle.jz_type_sizes.specs.Mismatches.{mismatched_in}
use Rattle.jz_type_storage.specs.Declarations.{wrongly_kept}
use Rattle.jz_type_storage.specs.Settings.{wrongly_set}
use Rattle.jz_type_storage.specs.Paths.{IsReadUnsetIn}
use Rattle.jz_type_storage.specs.Recursion.{IsRecursive}
use Rattle.jz_type_rows.specs.Exports.{misshapen_places, annotated_places}
use Rattle.jz_type_rows.specs.Copies.{copied_by}
use Rattle.jz_type_rows.specs.Indexes.{indexed_by}
use Rattle.jz_type_rows.specs.Programs.{in_functions, in_statements}
use Rattle.jz_types.specs.Rows.{unmatched_in}
use Rattle.jz_types.specs.declared.fault.TypeRule.{TypeRule}
use Rattle.jz_types.specs.declared.fault.TypeRule.TheVariants.{Unknown, Duplicate, Mismatch, Storage, Recursion, NoInstruction, ArrayCopy, BadAnnotation, ExportShape, RegIndex}
use Rattle.jz_types.specs.declared.fault.TypeFault.{TypeFault}
use Rattle.jz_types.specs.Faults.{IsTold}

-- p is the program as it was read; in q each variable has its declaration where it is used, lengths
-- are numbers, and so are the names of constants with a value
abbrev pub BreaksIn : Program → Program → TypeRule → Span → Type 0
BreaksIn p q Unknown at = Contains (unknown_in p) at
BreaksIn p q Duplicate at = Contains (repeated_in p) at
BreaksIn p q Mismatch at = Contains (mismatched_in (length_of p.consts) p q) at
BreaksIn p q Storage at = Contains (wrongly_kept q ++ wrongly_set q) at ⊎ IsReadUnsetIn q at
BreaksIn p q Recursion at = IsRecursive q at
BreaksIn p q NoInstruction at = Contains (unmatched_in q) at
BreaksIn p q ArrayCopy at = Contains (in_statements (copied_by q.funs) q) at
BreaksIn p q BadAnnotation at = Contains (in_functions annotated_places p) at
BreaksIn p q ExportShape at = Contains (in_functions misshapen_places p) at
BreaksIn p q RegIndex at = Contains (in_statements indexed_by q) at

-- the rule fails at that place
abbrev pub Breaks : Program → TypeRule → Span → Type 0
Breaks p rule at = BreaksIn p (resolved_program p) rule at

-- no rule fails
abbrev pub IsTyped : Program → Type 0
IsTyped p = (rule : TypeRule) (at : Span) → Breaks p rule at → ⊥

-- this rule fails, at this place, and each failure stands behind it, or at its place with a rule of
-- no lower number
abbrev pub IsFirstTypeFault : Program → TypeFault → Type 0
IsFirstTypeFault p fault = IsTold (Breaks p) fault
