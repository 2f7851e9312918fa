-- The expansion of an export function of a typed text is ready for lowering, where its parts are
-- expanded.
use Rattle.std.specs.Prelude.{ℕ, ◌≡◌, true, Contains}
use Rattle.jz_tree.specs.declared.program.Fun.{Fun}
use Rattle.jz_tree.specs.declared.program.Program.{Program}
use Rattle.jz_type_rows.specs.Exports.{is_exported}
use Rattle.jz_types.specs.TypedPrograms.{IsTypedProgram}
use Rattle.jz_texts.specs.Texts.{IsText}
use Rattle.jz_change.specs.Changes.{Change}
use Rattle.jz_function_runs.specs.FunctionRuns.{plain_body}
use Rattle.jz_expansion.specs.Expansions.{IsExpansion}
use Rattle.jz_homes.specs.Homes.{Homes}
use Rattle.jz_total_flags.specs.Bodies.{IsReadyBody}
use Rattle.jz_ready_expansions.specs.ExpandedBodies.{IsExpandedBody}

-- its statements are well typed and within the limits and its tests are conditions, whatever the
-- homes are
abbrev pub ExpansionsAreReady : Type 0
ExpansionsAreReady =
    (p : Program) (f g : Fun) (k : Change) (count : ℕ) (home : Homes)
    → IsTypedProgram p → IsText p → Contains p.funs f → is_exported f.kind ≡ true
    → IsExpansion p f g k count → IsExpandedBody home (plain_body g)
    → IsReadyBody home (plain_body g)
