-- What typing says of annotations.
use Rattle.std.specs.Prelude.{◌≡◌, true, All, []}
use Rattle.jz_tree.specs.declared.program.Fun.{Fun}
use Rattle.jz_tree.specs.declared.program.Program.{Program}
use Rattle.jz_preconditions.specs.Refusals.{refused_places}
use Rattle.jz_type_rows.specs.Exports.{is_exported}
use Rattle.jz_types.specs.TypedPrograms.{IsTypedProgram}

-- none is refused, where the function is exported
abbrev pub StatesWell : Fun → Type 0
StatesWell f = is_exported f.kind ≡ true → refused_places f ≡ []

abbrev pub ProgramsStateWell : Type 0
ProgramsStateWell = (q : Program) → IsTypedProgram q → All StatesWell q.funs
