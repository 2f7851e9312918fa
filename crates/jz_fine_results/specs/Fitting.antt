-- What the limits give of an instruction: a count that is written is from 0 up to below the bits.
use Rattle.std.specs.Prelude.{◌≡◌, ◌<◌, pos, negsuc, List, [], ◌∷◌, Option, Some, None}
use Rattle.x64_insn.specs.Size.{Size}
use Rattle.x64_insn.specs.Sizes.{bits_of}
use Rattle.jz_tree.specs.declared.expr.Expr.{Expr}
use Rattle.jz_tree.specs.declared.stmt.Lval.{Lval}
use Rattle.jz_tree.specs.declared.intrinsic.Instance.{Instance}
use Rattle.jz_meaning.specs.Intrinsics.{intrinsic_size}
use Rattle.jz_terms.specs.Terms.{Term, num, term_of}
use Rattle.jz_instructed.specs.Instructed.{Form, with_count, form_of}

abbrev pub NumberFits : Size → Term → Type 0
NumberFits z (num (pos n) at) = n < bits_of z
NumberFits z (num (negsuc n) at) = ⊥
NumberFits z t = Unit {0}

abbrev pub OperandsFit : Form → Size → List Expr → Type 0
OperandsFit with_count z (a ∷ n ∷ []) = NumberFits z (term_of n)
OperandsFit f z es = Unit {0}

abbrev pub InstructionFits : Option Instance → List Lval → List Expr → Type 0
InstructionFits None to args = Unit {0}
InstructionFits (Some i) to args =
    (z : Size) → intrinsic_size i.name i.size to args ≡ Some z
    → OperandsFit (form_of i.name) z args
