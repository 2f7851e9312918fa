-- What private contracts alone say of rows.
use Rattle.std.specs.Prelude.{Bool, true, false, if◌then◌else◌}
use Rattle.x64_insn.specs.declared.types.Insn.{Insn}
use Rattle.x64_insn.specs.declared.types.Insn.TheVariants as insn
use Rattle.x64_insn.specs.declared.types.Wide.{Wide}
use Rattle.x64_insn.specs.declared.types.Wide.TheVariants as wide

-- the product and the quotient of words, or of signed words
abbrev pub product_kind : Bool → Wide
product_kind signed = if signed then wide.Imul else wide.Mul

abbrev pub quotient_kind : Bool → Wide
quotient_kind signed = if signed then wide.Idiv else wide.Div

-- an operation that sets flags by its result
abbrev pub is_operation : Insn → Bool
is_operation (insn.Alu op s to from) = true
is_operation (insn.One op s rm) = true
is_operation (insn.Wide op s rm) = true
is_operation (insn.Imul s r rm) = true
is_operation (insn.ImulBy s r rm i) = true
is_operation (insn.Shift kind s rm n) = true
is_operation other = false

-- a jump, a call or a return
abbrev pub is_jump : Insn → Bool
is_jump (insn.Jcc c width disp) = true
is_jump (insn.Jmp width disp) = true
is_jump (insn.Call disp) = true
is_jump insn.Ret = true
is_jump other = false
