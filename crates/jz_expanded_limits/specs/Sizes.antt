-- How many statements the expansion of an export function of a typed text has.
use Rattle.std.specs.Prelude.{ℕ, ◌*◌, ◌≤◌, ◌≡◌, true, Contains}
use Rattle.jz_tree.specs.declared.program.Fun.{Fun}
use Rattle.jz_tree.specs.declared.program.Program.{Program}
use Rattle.jz_type_rows.specs.Exports.{is_exported}
use Rattle.jz_types.specs.TypedPrograms.{IsTypedProgram}
use Rattle.jz_texts.specs.Texts.{IsText}
use Rattle.jz_meaning.specs.Lengths.{statements_in}
use Rattle.jz_change.specs.Changes.{Change}
use Rattle.jz_function_runs.specs.FunctionRuns.{plain_body}
use Rattle.jz_expansion.specs.Expansions.{IsExpansion}

-- nine for each statement in expanded order at most, as a call may have with its copies of arguments
-- and results; so there are fewer than 2^20
abbrev pub ExpansionsAreShort : Type 0
ExpansionsAreShort =
    (p : Program) (f g : Fun) (k : Change) (count : ℕ)
    → IsTypedProgram p → IsText p → Contains p.funs f → is_exported f.kind ≡ true
    → IsExpansion p f g k count → statements_in (plain_body g) ≤ 9 * 65536
