-- What is copied keeps its types, and a function of a typed text whose calls are copies of what they
-- call is typed.
use Rattle.std.specs.Prelude.{Contains}
use Rattle.jz_tree.specs.declared.program.Fun.{Fun}
use Rattle.jz_tree.specs.declared.program.Program.{Program}
use Rattle.jz_types.specs.TypedPrograms.{IsTypedProgram}
use Rattle.jz_texts.specs.Texts.{IsText}
use Rattle.jz_meaning.specs.Statements.{Operation}
use Rattle.jz_inline.specs.Names.{Names, expr_in, op_in}
use Rattle.jz_inline.specs.Functions.{inlined_body}
use Rattle.jz_kept_types.specs.Operations.{IsTyped, IsTypedBody}
use Rattle.jz_kept_types.specs.KeptLaws.{Keeps}

abbrev pub CopiesKeepTypes : Type 0
CopiesKeepTypes = (names : Names) → Keeps (expr_in names)

abbrev pub CopiesStayTyped : Type 0
CopiesStayTyped = (names : Names) (o : Operation) → IsTyped o → IsTyped (op_in names o)

abbrev pub CopiesAreTyped : Type 0
CopiesAreTyped =
    (p : Program) (f : Fun)
    → IsTypedProgram p → IsText p → Contains p.funs f → IsTypedBody (inlined_body p f)
