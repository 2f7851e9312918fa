-- The operands of actions that can be encoded have fields.
use Rattle.std.proofs.Common.{◌≡◌, ℕ, Bool, true, false, List, [], ◌∷◌, Option, Some, None, refl, subst, arith, ℤ, pos, ◌+ℤ◌, ◌*ℤ◌}
use Rattle.std.specs.Prelude.{◌&&◌, if◌then◌else◌, All}
use Rattle.std.proofs.lemmas.Bool.{and_parts}
use Rattle.std.proofs.lemmas.List.Elements.{All-head, All-tail}
use Rattle.std.proofs.lemmas.Int.{ints}
use Rattle.jz_words.specs.declared.size.Size.{Size}
use Rattle.jz_words.specs.declared.size.Size.TheVariants.{S8, S16, S32, S64}
use Rattle.jz_words.specs.Sizes.{bytes_of}
use Rattle.x64_insn.specs.declared.types.Alu.{Alu}
use Rattle.x64_insn.specs.declared.types.One.{One}
use Rattle.x64_insn.specs.declared.types.Shift.{Shift}
use Rattle.x64_insn.specs.declared.types.Wide.{Wide}
use Rattle.x64_insn.specs.Table.{immediate_by}
use Rattle.x64_insn.specs.Chosen.{fits_bytes, is_index_of, is_address, is_rm, is_register, are_alu_operands, are_mov_operands, is_extension, is_spelled}
use Rattle.x64_insn.proofs.Immediates.{fits_within, within_fits}
use Rattle.jz_operations.specs.declared.operation.Address.{Address}
use Rattle.jz_operations.specs.declared.operation.Cell.{Cell}
use Rattle.jz_operations.specs.declared.operation.Pinned.{Pinned}
use Rattle.jz_operations.specs.declared.operation.Arg.{Arg}
use Rattle.jz_operations.specs.declared.operation.Arg.TheVariants as arg
use Rattle.jz_operations.specs.declared.operation.Condition.{Condition}
use Rattle.jz_operations.specs.declared.operation.Action.{Action}
use Rattle.jz_operations.specs.declared.operation.Action.TheVariants as action
use Rattle.jz_operations.specs.Insns.{base_of, index_of, mem_of, slot_of}
use Rattle.jz_encodable.specs.Encodable.{is_spelled_at, CanEncode}
use Rattle.jz_encodable.specs.InnerOperands.{in_rax, at_slot, operand_at}
use Rattle.jz_row_operations.specs.Table.{same_arg, is_free, brought, behind}
use Rattle.jz_row_operations.proofs.SameArgs.{same_arg_is}
use Rattle.jz_operands.specs.Refusals.{HasScale, HasFields}

-- ---- operands
scale_of : (b : Option ℕ) (i : Option (ℕ × ℕ)) → is_index_of (base_of in_rax (at_slot 0) b) (index_of in_rax (at_slot 0) i) ≡ true → HasScale i
scale_of b None e = tt
scale_of None (Some i) e = e
scale_of (Some b) (Some i) e = e

address_fields : (m : Address) → is_address (mem_of in_rax (at_slot 0) m) ≡ true → HasFields (arg.Mem m)
address_fields m e = let k = and_parts _ _ e in (k.1, scale_of m.base m.index k.0)

fits_scaled : (z : Size) (o : ℤ) → fits_bytes 4 (pos 0 +ℤ (pos (bytes_of z) *ℤ o)) ≡ true → fits_bytes 4 o ≡ true
fits_scaled S8 o e = let k = fits_within 4 (pos 0 +ℤ (pos 1 *ℤ o)) e in within_fits 4 o (omega (arith, ints, k.0)) (omega (arith, ints, k.1))
fits_scaled S16 o e = let k = fits_within 4 (pos 0 +ℤ (pos 2 *ℤ o)) e in within_fits 4 o (omega (arith, ints, k.0)) (omega (arith, ints, k.1))
fits_scaled S32 o e = let k = fits_within 4 (pos 0 +ℤ (pos 4 *ℤ o)) e in within_fits 4 o (omega (arith, ints, k.0)) (omega (arith, ints, k.1))
fits_scaled S64 o e = let k = fits_within 4 (pos 0 +ℤ (pos 8 *ℤ o)) e in within_fits 4 o (omega (arith, ints, k.0)) (omega (arith, ints, k.1))

cell_fields : (c : Cell) (z : Size) → is_address (slot_of in_rax (at_slot 0) c z) ≡ true → HasFields (arg.Cell c)
cell_fields c z e = fits_scaled z c.offset (and_parts _ _ e).1

rm_fields : (x : Arg) (z : Size) → is_rm (operand_at 0 x z) ≡ true → HasFields x
rm_fields (arg.Var v) z e = tt
rm_fields (arg.Imm i) z e = tt
rm_fields (arg.Mem m) z e = address_fields m e
rm_fields (arg.Cell c) z e = cell_fields c z e
rm_fields (arg.At r p) z e = tt

register_fields : (x : Arg) (z : Size) → is_register (operand_at 0 x z) ≡ true → HasFields x
register_fields (arg.Var v) z e = tt
register_fields (arg.Imm i) z e = tt
register_fields (arg.Mem m) z e = absurd cc
register_fields (arg.Cell c) z e = absurd cc
register_fields (arg.At r p) z e = tt

-- ---- actions
alu_by : (k : Alu) (z : Size) (b x : Arg) → are_alu_operands k z (operand_at 0 b z) (operand_at 0 x z) ≡ true → HasFields b × HasFields x
alu_by k z b (arg.Var v) e = (rm_fields b z e, tt)
alu_by k z b (arg.Imm i) e = (rm_fields b z (and_parts _ _ e).0, tt)
alu_by k z b (arg.Mem m) e = let l = and_parts _ _ (and_parts _ _ e).1 in (register_fields b z l.0, address_fields m l.1)
alu_by k z b (arg.Cell c) e = let l = and_parts _ _ (and_parts _ _ e).1 in (register_fields b z l.0, cell_fields c z l.1)
alu_by k z b (arg.At r p) e = (rm_fields b z e, tt)

mov_by : (z : Size) (b x : Arg) → are_mov_operands z (operand_at 0 b z) (operand_at 0 x z) ≡ true → HasFields b × HasFields x
mov_by z b (arg.Var v) e = (rm_fields b z e, tt)
mov_by z b (arg.Imm i) e = (rm_fields b z (and_parts _ _ e).0, tt)
mov_by z b (arg.Mem m) e = let l = and_parts _ _ e in (register_fields b z l.0, address_fields m l.1)
mov_by z b (arg.Cell c) e = let l = and_parts _ _ e in (register_fields b z l.0, cell_fields c z l.1)
mov_by z b (arg.At r p) e = (rm_fields b z e, tt)

low : (a : Action) → CanEncode a → is_spelled_at 0 a ≡ true
low a h = (and_parts (is_spelled_at 0 a) (is_spelled_at 65536 a) h).0

pub alu_fields : (k : Alu) (z : Size) (b x : Arg) (p : Option Pinned) → CanEncode (action.Alu k z b x p) → HasFields b × HasFields x
unfolding is_spelled
alu_fields k z b x p h = alu_by k z b x (low (action.Alu k z b x p) h)

pub mov_fields : (z : Size) (b x : Arg) → CanEncode (action.Mov z b x) → HasFields b × HasFields x
unfolding is_spelled
mov_fields z b x h = mov_by z b x (low (action.Mov z b x) h)

pub one_fields : (o : One) (z : Size) (b : Arg) → CanEncode (action.One o z b) → HasFields b
unfolding is_spelled
one_fields o z b h = rm_fields b z (low (action.One o z b) h)

pub imul_fields : (z : Size) (v : ℕ) (x : Arg) → CanEncode (action.Imul z v x) → HasFields x
unfolding is_spelled
imul_fields z v x h = rm_fields x z (and_parts _ _ (low (action.Imul z v x) h)).1

four_of : (z : Size) (i : ℤ) → fits_bytes (immediate_by z) i ≡ true → fits_bytes 4 i ≡ true
four_of S8 i e = let k = fits_within 1 i e in within_fits 4 i (omega (arith, ints, k.0)) (omega (arith, ints, k.1))
four_of S16 i e = let k = fits_within 2 i e in within_fits 4 i (omega (arith, ints, k.0)) (omega (arith, ints, k.1))
four_of S32 i e = e
four_of S64 i e = e

pub imul_by_fields : (z : Size) (v : ℕ) (x : Arg) (i : ℤ) → CanEncode (action.ImulBy z v x i) → HasFields x × (fits_bytes 4 i ≡ true)
unfolding is_spelled
imul_by_fields z v x i h =
    let k = and_parts _ _ (and_parts _ _ (low (action.ImulBy z v x i) h)).1 in
    (rm_fields x z k.0, four_of z i k.1)

pub shift_fields : (kind : Shift) (z : Size) (b : Arg) (n : ℕ) → CanEncode (action.Shift kind z b n) → HasFields b
unfolding is_spelled
shift_fields kind z b n h = rm_fields b z (and_parts _ _ (low (action.Shift kind z b n) h)).0

pub shift_by_fields : (kind : Shift) (z : Size) (b : Arg) (p : Pinned) → CanEncode (action.ShiftBy kind z b p) → HasFields b
unfolding is_spelled
shift_by_fields kind z b p h = rm_fields b z (and_parts _ _ (low (action.ShiftBy kind z b p) h)).0

extend_by : (e : Bool) (x : Arg) (z : Size) → (e && is_rm (operand_at 0 x z)) ≡ true → HasFields x
extend_by e x z h = rm_fields x z (and_parts _ _ h).1

pub extend_fields : (sign : Bool) (to from : Size) (v : ℕ) (x : Arg) → CanEncode (action.Extend sign to from v x) → HasFields x
unfolding is_spelled
extend_fields true to from v x h = extend_by (is_extension true to from) x from (low (action.Extend true to from v x) h)
extend_fields false S8 from v x h = extend_by (is_extension false S8 from) x from (low (action.Extend false S8 from v x) h)
extend_fields false S16 from v x h = extend_by (is_extension false S16 from) x from (low (action.Extend false S16 from v x) h)
extend_fields false S32 from v x h = extend_by (is_extension false S32 from) x from (low (action.Extend false S32 from v x) h)
extend_fields false S64 S8 v x h = extend_by true x S8 (low (action.Extend false S64 S8 v x) h)
extend_fields false S64 S16 v x h = extend_by true x S16 (low (action.Extend false S64 S16 v x) h)
extend_fields false S64 S32 v x h = (mov_by S32 (arg.Var v) x (low (action.Extend false S64 S32 v x) h)).1
extend_fields false S64 S64 v x h = extend_by false x S64 (low (action.Extend false S64 S64 v x) h)

pub cmov_fields : (c : Condition) (z : Size) (v : ℕ) (x : Arg) → CanEncode (action.Cmov c z v x) → HasFields x
unfolding is_spelled
cmov_fields c z v x h = rm_fields x z (and_parts _ _ (low (action.Cmov c z v x) h)).1

pub wide_fields : (w : Wide) (z : Size) (l h : Option Pinned) (x : Arg) → CanEncode (action.Wide w z l h x) → HasFields x
unfolding is_spelled
wide_fields w z l h x c = rm_fields x z (and_parts _ _ (low (action.Wide w z l h x) c)).1

pub set_fields : (c : Condition) (x : Arg) → CanEncode (action.Set c x) → HasFields x
unfolding is_spelled
set_fields c x h = rm_fields x S8 (low (action.Set c x) h)

pub lea_fields : (v : ℕ) (m : Address) → CanEncode (action.Lea v m) → HasFields (arg.Mem m)
unfolding is_spelled
lea_fields v m h = address_fields m (low (action.Lea v m) h)

pub only_can : (a : Action) → All CanEncode (a ∷ []) → CanEncode a
only_can a h = All-head CanEncode a [] h

-- ---- rows: the first operand comes to the destination
-- the three ways
pub data Way (swaps : Bool) (z : Size) (d a o : Arg) (f : Arg → Action) : List Action → Type 0 where
  in_place : same_arg d a ≡ true → Way swaps z d a o f (f o ∷ [])
  swapped : swaps ≡ true → same_arg d o ≡ true → Way swaps z d a o f (f a ∷ [])
  copied : Way swaps z d a o f (action.Mov z d a ∷ f o ∷ [])

way_by : (b1 b2 b3 swaps : Bool) (z : Size) (d a o : Arg) (f : Arg → Action) (acts : List Action) → same_arg d a ≡ b1 → (swaps && same_arg d o) ≡ b2
    → behind f (if b1 then Some ([], o) else if b2 then Some ([], a) else if b3 then Some (action.Mov z d a ∷ [], o) else None) ≡ Some acts → Way swaps z d a o f acts
way_by true b2 b3 swaps z d a o f acts e g h = let s : f o ∷ [] ≡ acts = cc in subst (Way swaps z d a o f) s (in_place e)
way_by false true b3 swaps z d a o f acts e g h = let s : f a ∷ [] ≡ acts = cc in subst (Way swaps z d a o f) s (let k = and_parts _ _ g in swapped k.0 k.1)
way_by false false true swaps z d a o f acts e g h = let s : action.Mov z d a ∷ f o ∷ [] ≡ acts = cc in subst (Way swaps z d a o f) s copied
way_by false false false swaps z d a o f acts e g h = absurd cc

pub way_of : (swaps : Bool) (z : Size) (d a o : Arg) (f : Arg → Action) (acts : List Action) → behind f (brought swaps z d a o) ≡ Some acts → Way swaps z d a o f acts
way_of swaps z d a o f acts h = way_by (same_arg d a) (swaps && same_arg d o) (is_free d o) swaps z d a o f acts refl refl h

same_fields : (d a : Arg) → same_arg d a ≡ true → HasFields d → HasFields a
same_fields d a e h = subst HasFields (same_arg_is d a e) h

abbrev pub ThreeFields : Arg → Arg → Arg → Type 0
ThreeFields d a o = HasFields d × HasFields a × HasFields o

by_way : (swaps : Bool) (z : Size) (d a o : Arg) (f : Arg → Action) (acts : List Action) → ((x : Arg) → CanEncode (f x) → HasFields d × HasFields x) → Way swaps z d a o f acts → All CanEncode acts → ThreeFields d a o
by_way swaps z d a o f acts fields (in_place e) can = let k = fields o (All-head CanEncode (f o) [] can) in (k.0, same_fields d a e k.0, k.1)
by_way swaps z d a o f acts fields (swapped s e) can = let k = fields a (All-head CanEncode (f a) [] can) in (k.0, k.1, same_fields d o e k.0)
by_way swaps z d a o f acts fields copied can =
    let k = fields o (All-head CanEncode (f o) [] (All-tail CanEncode (action.Mov z d a) (f o ∷ []) can)) in
    (k.0, (mov_fields z d a (All-head CanEncode (action.Mov z d a) (f o ∷ []) can)).1, k.1)

pub two_fields : (swaps : Bool) (z : Size) (d a o : Arg) (f : Arg → Action) (acts : List Action) → ((x : Arg) → CanEncode (f x) → HasFields d × HasFields x) → behind f (brought swaps z d a o) ≡ Some acts → All CanEncode acts → ThreeFields d a o
two_fields swaps z d a o f acts fields e can = by_way swaps z d a o f acts fields (way_of swaps z d a o f acts e) can

-- where the action does not name the second operand, and the operands are not swapped
one_way : (z : Size) (d a o : Arg) (g : Action) (acts : List Action) → (CanEncode g → HasFields d) → Way false z d a o (λ x. g) acts → All CanEncode acts → HasFields d × HasFields a
one_way z d a o g acts fields (in_place e) can = let k = fields (All-head CanEncode g [] can) in (k, same_fields d a e k)
one_way z d a o g acts fields (swapped s e) can = absurd cc
one_way z d a o g acts fields copied can =
    (fields (All-head CanEncode g [] (All-tail CanEncode (action.Mov z d a) (g ∷ []) can)), (mov_fields z d a (All-head CanEncode (action.Mov z d a) (g ∷ []) can)).1)

pub one_operand : (z : Size) (d a o : Arg) (g : Action) (acts : List Action) → (CanEncode g → HasFields d) → behind (λ x. g) (brought false z d a o) ≡ Some acts → All CanEncode acts → HasFields d × HasFields a
one_operand z d a o g acts fields e can = one_way z d a o g acts fields (way_of false z d a o (λ x. g) acts e) can
