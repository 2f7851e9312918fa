-- Each variable that the expansion of an export function of a typed text names has the home that
-- the declarations give it, so its parts are expanded and it is ready for lowering.
use Rattle.std.specs.Prelude.{ℕ, ◌≡◌, true, Contains}
use Rattle.jz_tree.specs.declared.program.Fun.{Fun}
use Rattle.jz_tree.specs.declared.program.Program.{Program}
use Rattle.jz_type_rows.specs.Exports.{is_exported}
use Rattle.jz_types.specs.TypedPrograms.{IsTypedProgram}
use Rattle.jz_texts.specs.Texts.{IsText}
use Rattle.jz_change.specs.Changes.{Change}
use Rattle.jz_function_runs.specs.FunctionRuns.{plain_body}
use Rattle.jz_expansion.specs.Expansions.{IsExpansion}
use Rattle.jz_lowering.specs.Functions.{homes_for}
use Rattle.jz_total_flags.specs.Bodies.{IsReadyBody}
use Rattle.jz_ready_expansions.specs.ExpandedBodies.{IsExpandedBody}

abbrev pub ExpansionsHaveHomes : Type 0
ExpansionsHaveHomes =
    (p : Program) (f g : Fun) (k : Change) (count : ℕ)
    → IsTypedProgram p → IsText p → Contains p.funs f → is_exported f.kind ≡ true
    → IsExpansion p f g k count → IsExpandedBody (homes_for g) (plain_body g)

-- with typing and limits
abbrev pub ExpansionsAreReady : Type 0
ExpansionsAreReady =
    (p : Program) (f g : Fun) (k : Change) (count : ℕ)
    → IsTypedProgram p → IsText p → Contains p.funs f → is_exported f.kind ≡ true
    → IsExpansion p f g k count → IsReadyBody (homes_for g) (plain_body g)
