-- Typed programs that come of texts, and the kinds of their variables.
use Rattle.jz_tree.specs.declared.program.Fun.{Fun}
use Rattle.jz_tree.specs.declared.program.Program.{Program}
use Rattle.jz_types.specs.Carried.{declared_in}
use Rattle.jz_types.specs.TypedPrograms.{IsTypedProgram}
use Rattle.jz_texts.specs.Texts.{IsText}
use Rattle.jz_run_laws.specs.Kinds.{Kinds}
use Rattle.jz_run_laws.specs.DeclaredKinds.{kinds_of}
use Rattle.jz_run_laws.specs.Texts.{ProgramDeclared}

pub record IsTypedText (q : Program) : Type 0 where
  pub typed : IsTypedProgram q
  pub text : IsText q

-- the kinds that a function of the program declares
abbrev pub kinds_in : Program → Fun → Kinds
kinds_in q f = kinds_of (declared_in q f)

abbrev pub DeclaredLaw : Type 0
DeclaredLaw = (q : Program) → IsTypedText q → ProgramDeclared (kinds_in q) q
