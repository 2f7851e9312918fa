-- The actions of products of two words and of quotients, by RAX and RDX.
use Rattle.std.specs.Prelude.{ℕ, nat_eq, ◌+◌, Bool, true, false, not, ◌&&◌, if◌then◌else◌, List, [], ◌∷◌, ◌++◌, Option, Some, None, pos, ⊤}
use Rattle.jz_words.specs.declared.size.Size.{Size}
use Rattle.jz_words.specs.declared.size.Size.TheVariants.{S32, S64}
use Rattle.x64_insn.specs.declared.types.Wide.{Wide}
use Rattle.x64_insn.specs.declared.types.Wide.TheVariants as wide
use Rattle.jz_ir.specs.Paths.{among}
use Rattle.jz_tree.specs.declared.expr.BinOp.{BinOp}
use Rattle.jz_tree.specs.declared.expr.BinOp.TheVariants as op
use Rattle.jz_operations.specs.declared.operation.Pinned.{Pinned}
use Rattle.jz_operations.specs.declared.operation.Arg.{Arg}
use Rattle.jz_operations.specs.declared.operation.Arg.TheVariants as arg
use Rattle.jz_operations.specs.declared.operation.Action.{Action}
use Rattle.jz_operations.specs.declared.operation.Action.TheVariants as action
use Rattle.jz_operations.specs.Reading.{is_var, found_by}
use Rattle.jz_operations.specs.Rows.{low_at, high_at}
use Rattle.jz_change.specs.declared.change.Number.{Number}
use Rattle.jz_change.specs.declared.change.Number.TheVariants.{Nth}
use Rattle.jz_change.specs.declared.change.Numbers.{Numbers}
use Rattle.jz_change.specs.declared.change.Numbers.TheVariants.{These}
use Rattle.jz_homes.specs.Operands.{Leaks, count_of}
use Rattle.jz_row_operations.specs.Lowering.{numbers_from}
use Rattle.jz_row_operations.specs.Table.{is_imm}

-- 32 and 64 bits
abbrev pub IsLong : Size → Type 0
IsLong S32 = ⊤
IsLong S64 = ⊤
IsLong _ = ⊥

-- it is that variable, and it stands nowhere in it
abbrev pub is_pinned : Option Pinned → Arg → Bool
is_pinned (Some k) (arg.Var v) = nat_eq k.variable v
is_pinned _ x = false

abbrev pub is_apart : Option Pinned → Arg → Bool
is_apart None x = true
is_apart (Some k) x = not (among (is_var x ++ found_by x) k.variable)

-- ---- `h, l = a * b`
-- One variable that is both is asked for RAX and for RDX: it has no place.
-- The low word's variable is the first operand; or the first operand is no number and the low
-- word's variable is the second one, and they are swapped; or it stands nowhere in the second
-- operand, and the first is copied to RAX.
abbrev pub wide_code : Size → Option Pinned → Option Pinned → Arg → Arg → Option (List Action)
wide_code z h l a b =
    if is_pinned l a then Some (action.Wide wide.Mul z l h b ∷ [])
    else if not (is_imm a) && is_pinned l b then Some (action.Wide wide.Mul z l h a ∷ [])
    else if is_apart l b then Some (action.Mov z (low_at l) a ∷ action.Wide wide.Mul z l h b ∷ [])
    else None

-- what each of them shows, of the numbers of both operands
abbrev pub wide_shown : Option Pinned → Arg → Arg → Leaks → Leaks → List Numbers
wide_shown l a b p q =
    if is_pinned l a then These (numbers_from q (count_of p)) ∷ []
    else if not (is_imm a) && is_pinned l b then These (numbers_from p 0) ∷ []
    else These (numbers_from p 0) ∷ These (numbers_from q (count_of p)) ∷ []

-- ---- quotients and remainders
abbrev pub is_quotient : BinOp → Bool
is_quotient op.Div = true
is_quotient op.DivS = true
is_quotient _ = false

abbrev pub divider : BinOp → Option Wide
divider op.Div = Some wide.Div
divider op.Rem = Some wide.Div
divider op.DivS = Some wide.Idiv
divider op.RemS = Some wide.Idiv
divider _ = None

-- RDX is 0, or it repeats the sign of RAX
abbrev pub high_code : Wide → Size → Option Pinned → Option Pinned → Action
high_code wide.Idiv z l h = action.Sign z l h
high_code _ z l h = action.Mov z (high_at h) (arg.Imm (pos 0))

-- the result is in RAX for a quotient, in RDX for a remainder, and stands nowhere in the divisor
abbrev pub divide_code : Wide → Size → Option Pinned → Option Pinned → Arg → Arg → List Action
divide_code w z l h a b =
    action.Mov z (low_at l) a ∷ high_code w z l h ∷ action.Wide w z l h b ∷ []

-- the result's variable is in the one, and the other is written besides
abbrev pub quotient_code : BinOp → Wide → Size → Pinned → Arg → Arg → List Action
quotient_code o w z k a b =
    divide_code w z (if is_quotient o then Some k else None)
    (if is_quotient o then None else Some k) a b

-- a division shows what its operand does, and then its high word, its low word and the divisor
abbrev pub three_from : ℕ → List Number
three_from i = Nth i ∷ Nth (i + 1) ∷ Nth (i + 2) ∷ []

abbrev pub divide_shown : Leaks → Leaks → List Numbers
divide_shown p q =
    These (numbers_from p 0) ∷ These []
    ∷ These (numbers_from q (count_of p) ++ three_from (count_of p + count_of q)) ∷ []

-- ---- `#DIV` of two words
abbrev pub divide_two_code : Size → Option Pinned → Option Pinned → Arg → Arg → Arg → List Action
divide_two_code z q r hi lo b =
    action.Mov z (low_at q) lo ∷ action.Mov z (high_at r) hi ∷ action.Wide wide.Div z q r b ∷ []

abbrev pub divide_two_shown : Leaks → Leaks → Leaks → List Numbers
divide_two_shown p q r =
    let before = count_of p + count_of q in
    These (numbers_from q (count_of p)) ∷ These (numbers_from p 0)
    ∷ These (numbers_from r before ++ three_from (before + count_of r)) ∷ []
