-- The runs of an export function of a typed text are followed by those of its expansion.
use Rattle.std.specs.Prelude.{ℕ, ◌≡◌, true, Contains}
use Rattle.jz_tree.specs.declared.program.Fun.{Fun}
use Rattle.jz_tree.specs.declared.program.Program.{Program}
use Rattle.jz_type_rows.specs.Exports.{is_exported}
use Rattle.jz_types.specs.TypedPrograms.{IsTypedProgram}
use Rattle.jz_texts.specs.Texts.{IsText}
use Rattle.jz_change.specs.Changes.{Change}
use Rattle.jz_expansion.specs.Expansions.{IsExpansion}
use Rattle.jz_joined.specs.Making.{IsExpandedTo}

abbrev pub ExpansionsKeepRuns : Type 0
ExpansionsKeepRuns =
    (p : Program) (f g : Fun) (k : Change) (count : ℕ)
    → IsTypedProgram p → IsText p → Contains p.funs f → is_exported f.kind ≡ true
    → IsExpansion p f g k count → IsExpandedTo p f g k
