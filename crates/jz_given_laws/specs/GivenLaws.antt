-- What the parameters of functions of a typed program have that comes of a text.
use Rattle.std.specs.Prelude.{◌≡◌, ◌≤◌, true, All, List, length, map}
use Rattle.jz_tree.specs.declared.program.Fun.{Fun}
use Rattle.jz_tree.specs.declared.program.Program.{Program}
use Rattle.jz_annotations.specs.declared.precondition.Pre.{Pre}
use Rattle.jz_type_rows.specs.Exports.{is_exported}
use Rattle.jz_types.specs.TypedPrograms.{IsTypedProgram}
use Rattle.jz_texts.specs.Texts.{IsText}
use Rattle.jz_fact_sets.specs.Kept.{AreDifferent}
use Rattle.jz_given.specs.Giving.{param_of}

-- they have different keys
abbrev pub HasDifferent : Fun → Type 0
HasDifferent f = (ps : List Pre) → AreDifferent (map (param_of ps) f.params)

abbrev pub HasFew : Fun → Type 0
HasFew f = is_exported f.kind ≡ true → length f.params ≤ 6

abbrev pub DifferLaw : Type 0
DifferLaw = (q : Program) → IsTypedProgram q → IsText q → All HasDifferent q.funs

abbrev pub FewLaw : Type 0
FewLaw = (q : Program) → IsTypedProgram q → All HasFew q.funs
