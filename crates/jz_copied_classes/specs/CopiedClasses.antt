-- What is copied keeps its classes, and in a function of a typed text whose calls are copies of what
-- they call each statement that needs a row has the classes of one.
use Rattle.std.specs.Prelude.{Contains}
use Rattle.jz_tree.specs.declared.program.Fun.{Fun}
use Rattle.jz_tree.specs.declared.program.Program.{Program}
use Rattle.jz_types.specs.TypedPrograms.{IsTypedProgram}
use Rattle.jz_texts.specs.Texts.{IsText}
use Rattle.jz_meaning.specs.Statements.{Operation}
use Rattle.jz_inline.specs.Names.{Names, expr_in, lval_in, op_in}
use Rattle.jz_inline.specs.Functions.{inlined_body}
use Rattle.jz_kept_types.specs.Operations.{IsTyped}
use Rattle.jz_kept_classes.specs.Classes.{KeepsClasses}
use Rattle.jz_kept_rows.specs.KeptRows.{IsRowed, IsRowedBody}

abbrev pub CopiesKeepClasses : Type 0
CopiesKeepClasses = (names : Names) → KeepsClasses (expr_in names) (lval_in names)

abbrev pub CopiesStayRowed : Type 0
CopiesStayRowed = (names : Names) (o : Operation) → IsTyped o → IsRowed o → IsRowed (op_in names o)

abbrev pub CopiesHaveClasses : Type 0
CopiesHaveClasses =
    (p : Program) (f : Fun)
    → IsTypedProgram p → IsText p → Contains p.funs f → IsRowedBody (inlined_body p f)
