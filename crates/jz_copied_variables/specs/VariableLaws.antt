-- A function of a typed text, where its calls are copies, is over variables with their declarations.
use Rattle.std.specs.Prelude.{Contains}
use Rattle.jz_tree.specs.declared.program.Fun.{Fun}
use Rattle.jz_tree.specs.declared.program.Program.{Program}
use Rattle.jz_types.specs.TypedPrograms.{IsTypedProgram}
use Rattle.jz_texts.specs.Texts.{IsText}
use Rattle.jz_inline.specs.Functions.{inlined_body}
use Rattle.jz_ready.specs.CopiedKinds.{copied_kinds}
use Rattle.jz_copied_variables.specs.Variables.{frame_of, known_at, IsSeen, OverBody}

abbrev pub CopiesHaveVariables : Type 0
CopiesHaveVariables =
    (p : Program) (f : Fun) → IsTypedProgram p → IsText p → Contains p.funs f
    → OverBody (IsSeen (copied_kinds p f) (frame_of p f) (known_at p f)) (frame_of p f)
    (inlined_body p f)
