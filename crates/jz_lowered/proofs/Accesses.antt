-- An action that can be encoded accesses memory or a cell once at most.
use Rattle.std.proofs.Common.{◌≡◌, true, not, ◌&&◌, [], ◌∷◌}
use Rattle.std.proofs.lemmas.Bool.{and_parts}
use Rattle.jz_words.specs.declared.size.Size.{Size}
use Rattle.jz_words.specs.declared.size.Size.TheVariants.{S8}
use Rattle.x64_insn.specs.declared.types.Alu.{Alu}
use Rattle.x64_insn.specs.Chosen.{is_register, is_rm, is_test, are_alu_operands, are_mov_operands, is_spelled}
use Rattle.jz_operations.specs.declared.operation.Arg.{Arg}
use Rattle.jz_operations.specs.declared.operation.Arg.TheVariants as arg
use Rattle.jz_operations.specs.declared.operation.Action.{Action}
use Rattle.jz_operations.specs.declared.operation.Action.TheVariants as action
use Rattle.jz_operations.specs.Rows.{accesses}
use Rattle.jz_encodable.specs.Encodable.{is_spelled_at, CanEncode}
use Rattle.jz_encodable.specs.InnerOperands.{operand_at}
use Rattle.jz_placing.specs.Placing.{IsOutside, HasOneAccess}

pub one_operand : (z : Size) (b : Arg) → HasOneAccess ((z, b) ∷ [])
one_operand z (arg.Var v) = tt
one_operand z (arg.Imm i) = tt
one_operand z (arg.Mem a) = tt
one_operand z (arg.Cell c) = tt
one_operand z (arg.At r p) = tt

-- one of two is outside of memory
beside : (z : Size) (a b : Arg) → IsOutside b → HasOneAccess ((z, a) ∷ (z, b) ∷ [])
beside z (arg.Var v) b h = one_operand z b
beside z (arg.Imm i) b h = one_operand z b
beside z (arg.Mem m) b h = (h, tt)
beside z (arg.Cell c) b h = (h, tt)
beside z (arg.At r p) b h = one_operand z b

behind_register : (z : Size) (a b : Arg) → is_register (operand_at 0 a z) ≡ true → HasOneAccess ((z, a) ∷ (z, b) ∷ [])
behind_register z (arg.Var v) b h = one_operand z b
behind_register z (arg.Imm i) b h = absurd cc
behind_register z (arg.Mem m) b h = absurd cc
behind_register z (arg.Cell c) b h = absurd cc
behind_register z (arg.At r p) b h = one_operand z b

alu_once : (o : Alu) (z : Size) (a b : Arg) → are_alu_operands o z (operand_at 0 a z) (operand_at 0 b z) ≡ true → HasOneAccess ((z, a) ∷ (z, b) ∷ [])
alu_once o z a (arg.Var v) h = beside z a (arg.Var v) tt
alu_once o z a (arg.Imm i) h = beside z a (arg.Imm i) tt
alu_once o z a (arg.Mem m) h =
    let r = is_register (operand_at 0 a z) in
    let s = is_rm (operand_at 0 (arg.Mem m) z) in
    behind_register z a (arg.Mem m) (and_parts r s (and_parts (not (is_test o)) (r && s) h).1).0
alu_once o z a (arg.Cell c) h =
    let r = is_register (operand_at 0 a z) in
    let s = is_rm (operand_at 0 (arg.Cell c) z) in
    behind_register z a (arg.Cell c) (and_parts r s (and_parts (not (is_test o)) (r && s) h).1).0
alu_once o z a (arg.At r p) h = beside z a (arg.At r p) tt

mov_once : (z : Size) (a b : Arg) → are_mov_operands z (operand_at 0 a z) (operand_at 0 b z) ≡ true → HasOneAccess ((z, a) ∷ (z, b) ∷ [])
mov_once z a (arg.Var v) h = beside z a (arg.Var v) tt
mov_once z a (arg.Imm i) h = beside z a (arg.Imm i) tt
mov_once z a (arg.Mem m) h = behind_register z a (arg.Mem m) (and_parts (is_register (operand_at 0 a z)) (is_rm (operand_at 0 (arg.Mem m) z)) h).0
mov_once z a (arg.Cell c) h = behind_register z a (arg.Cell c) (and_parts (is_register (operand_at 0 a z)) (is_rm (operand_at 0 (arg.Cell c) z)) h).0
mov_once z a (arg.At r p) h = beside z a (arg.At r p) tt

once_at : (a : Action) → is_spelled_at 0 a ≡ true → HasOneAccess (accesses a)
unfolding is_spelled
once_at (action.Alu o z to from p) h = alu_once o z to from h
once_at (action.Mov z to from) h = mov_once z to from h
once_at (action.Extend sign to from v rm) h = one_operand from rm
once_at (action.Lea v a) h = tt
once_at (action.One o z rm) h = one_operand z rm
once_at (action.Wide o z l k rm) h = one_operand z rm
once_at (action.Imul z v rm) h = one_operand z rm
once_at (action.ImulBy z v rm i) h = one_operand z rm
once_at (action.Shift kind z rm n) h = one_operand z rm
once_at (action.ShiftBy kind z rm p) h = one_operand z rm
once_at (action.Bswap z v) h = tt
once_at (action.Sign z l k) h = tt
once_at (action.Set c rm) h = one_operand S8 rm
once_at (action.Cmov c z v rm) h = one_operand z rm

pub accessed_once : (a : Action) → CanEncode a → HasOneAccess (accesses a)
accessed_once a h = once_at a (and_parts (is_spelled_at 0 a) (is_spelled_at 65536 a) h).0
