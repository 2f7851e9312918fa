-- Typed operands that the expansion leaves, as facts and conditions ask them.
use Rattle.std.specs.Prelude.{◌≡◌, ◌⊎◌, Bool, true, Some}
use Rattle.x64_insn.specs.Size.{Size}
use Rattle.jz_tree.specs.declared.expr.Expr.{Expr}
use Rattle.jz_tree.specs.declared.stmt.Lval.{Lval}
use Rattle.jz_select.specs.Look.{look_of}
use Rattle.jz_select.specs.Operands.{class_of, dest_of}
use Rattle.jz_select.specs.Rows.{is_i, is_rm, is_rmi, is_flag, is_flag_result, is_pinned, masks}
use Rattle.jz_select.specs.Shapes.{is_test}
use Rattle.jz_judgement.specs.Places.{word, truth, index}
use Rattle.jz_judgement.specs.HasType.{value, HasType}
use Rattle.jz_judgement.specs.Lefts.{Holds}
use Rattle.jz_meaning.specs.States.{Key}
use Rattle.jz_run_laws.specs.Kinds.{Kinds}
use Rattle.jz_terms.specs.Terms.{term_of}
use Rattle.jz_standing.specs.Typing.{IsFlag, IsCount, IsSum, IsWord, IsAnswer}
use Rattle.jz_instructed.specs.Instructed.{a_flag, a_word, a_pinned, TakesShape}
use Rattle.jz_plain_operands.specs.Plain.{NotNegative, IsPlainExpr, IsPlainLeft}

abbrev pub Where : (Kinds → (Key → Bool) → Type 0) → Type 0
Where P = (kinds : Kinds) (in_frame : Key → Bool) → P kinds in_frame

-- ---- expressions
-- a register, memory or a number where a word of a size is wanted
abbrev pub WordsAreOperands : Type 0
WordsAreOperands = Where (λ kinds in_frame.
    (e : Expr) (z : Size) → IsPlainExpr kinds in_frame e → HasType (value e) (word z)
    → is_rmi (class_of e) ≡ true → IsWord kinds in_frame (Some z) z (term_of e))

abbrev pub FlagsAreOperands : Type 0
FlagsAreOperands = Where (λ kinds in_frame.
    (e : Expr) → IsPlainExpr kinds in_frame e → is_flag (class_of e) ≡ true
    → IsFlag kinds in_frame (term_of e))

-- an index or an address
abbrev pub SumsAreOperands : Type 0
SumsAreOperands = Where (λ kinds in_frame.
    (e : Expr) → IsPlainExpr kinds in_frame e → HasType (value e) index
    → (look_of e).sum.good ≡ true → IsSum kinds in_frame (term_of e))

-- how far a shift goes: a number, or a masked byte
abbrev pub CountsAreOperands : Type 0
CountsAreOperands = Where (λ kinds in_frame.
    (e : Expr) → IsPlainExpr kinds in_frame e → NotNegative (term_of e)
    → (is_i (class_of e) ≡ true) ⊎ ((longest : Bool) × (masks longest (class_of e) ≡ true))
    → IsCount kinds in_frame (term_of e))

-- the condition of an `if`, of a `while` or of an assignment
abbrev pub TestsAreAnswers : Type 0
TestsAreAnswers = Where (λ kinds in_frame.
    (c : Expr) → IsPlainExpr kinds in_frame c → HasType (value c) truth → is_test c ≡ true
    → IsAnswer kinds in_frame (term_of c))

-- ---- left sides
abbrev pub WordsAreTaken : Type 0
WordsAreTaken = Where (λ kinds in_frame.
    (d : Lval) (z : Size) → IsPlainLeft kinds in_frame d → Holds (word z) d
    → is_rm (dest_of d) ≡ true → TakesShape kinds in_frame (a_word z) d)

abbrev pub PinnedAreTaken : Type 0
PinnedAreTaken = Where (λ kinds in_frame.
    (d : Lval) (z : Size) → IsPlainLeft kinds in_frame d → Holds (word z) d
    → is_pinned (dest_of d) ≡ true → TakesShape kinds in_frame (a_pinned z) d)

abbrev pub FlagsAreTaken : Type 0
FlagsAreTaken = Where (λ kinds in_frame.
    (d : Lval) → IsPlainLeft kinds in_frame d → is_flag_result (dest_of d) ≡ true
    → TakesShape kinds in_frame a_flag d)
