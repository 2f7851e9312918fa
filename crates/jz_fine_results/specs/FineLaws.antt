-- Typed assignments of two results and typed instructions with the classes of a row are of the forms
-- that facts and conditions ask, where the expansion has left them.
use Rattle.std.specs.Prelude.{ℕ, Bool, List, [], ◌∷◌, Option, All}
use Rattle.jz_tree.specs.Spellings.{spelled}
use Rattle.jz_tree.specs.declared.expr.BinOp.{BinOp}
use Rattle.jz_tree.specs.declared.expr.Expr.{Expr}
use Rattle.jz_tree.specs.declared.stmt.Lval.{Lval}
use Rattle.jz_type_sizes.specs.Signatures.{signature}
use Rattle.jz_judgement.specs.Lefts.{Values}
use Rattle.jz_judgement.specs.WellTyped.{Instructs}
use Rattle.jz_meaning.specs.States.{Key}
use Rattle.jz_run_laws.specs.Kinds.{Kinds}
use Rattle.jz_instructed.specs.Instructed.{IsInstructed}
use Rattle.jz_two_results.specs.TwoResults.{IsPaired}
use Rattle.jz_plain_operands.specs.Plain.{IsPlainExpr, IsPlainLeft}
use Rattle.jz_row_classes.specs.RowClasses.{IsPairClassed, IsInstanceClassed}
use Rattle.jz_fine_results.specs.Fitting.{InstructionFits}

abbrev pub PairsAreFine : Type 0
PairsAreFine =
    (kinds : Kinds) (in_frame : Key → Bool) (c d : Lval) (o : Option BinOp) (e : Expr)
    → IsPlainLeft kinds in_frame c → IsPlainLeft kinds in_frame d → IsPlainExpr kinds in_frame e
    → Values (c ∷ d ∷ []) o e
    → IsPairClassed c d o e
    → IsPaired kinds in_frame c d o e

abbrev pub InstructionsAreFine : Type 0
InstructionsAreFine =
    (kinds : Kinds) (in_frame : Key → Bool) (to : List Lval) (n : List ℕ) (args : List Expr)
    → All (IsPlainLeft kinds in_frame) to → All (IsPlainExpr kinds in_frame) args
    → InstructionFits (spelled n) to args → Instructs (signature n) to args
    → IsInstanceClassed to n args
    → IsInstructed kinds in_frame (spelled n) to args
