-- Each statement of the expansion of a function of a typed text has the classes of a row.
use Rattle.std.specs.Prelude.{ℕ, Contains}
use Rattle.jz_tree.specs.declared.program.Fun.{Fun}
use Rattle.jz_tree.specs.declared.program.Program.{Program}
use Rattle.jz_types.specs.TypedPrograms.{IsTypedProgram}
use Rattle.jz_texts.specs.Texts.{IsText}
use Rattle.jz_change.specs.Changes.{Change}
use Rattle.jz_function_runs.specs.FunctionRuns.{plain_body}
use Rattle.jz_expanded_types.specs.Expansions.{IsExpansion}
use Rattle.jz_copied_classes.specs.RowClasses.{IsClassedBody}

abbrev pub ExpansionsAreClassed : Type 0
ExpansionsAreClassed =
    (p : Program) (f g : Fun) (k : Change) (count : ℕ)
    → IsTypedProgram p → IsText p → Contains p.funs f → IsExpansion p f g k count
    → IsClassedBody (plain_body g)
