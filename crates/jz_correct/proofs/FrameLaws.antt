-- The size of a frame.
use Rattle.std.proofs.Common.{◌≡◌, ℕ, ◌+◌, ◌-◌, ◌*◌, ◌/◌, ◌%◌, ◌<◌, ◌≤◌, false, List, [], ◌∷◌, refl, ap, arith, if◌then◌else◌, ◌==◌}
use Rattle.std.proofs.lemmas.Bool.Decides.{nat_tests}
use Rattle.x64_insn.specs.Memory.{Memory}
use Rattle.x64_insn.specs.declared.types.Reg.TheVariants as reg
use Rattle.jz_listing.specs.declared.compiled.Compiled.{Compiled}
use Rattle.jz_correct.specs.Frames.{saved_slots, frame_end, frame_size, preserved_registers}
use Rattle.jz_correct.specs.Starts.{IsStart}
use Rattle.x64_machine.specs.Steps.{Config}

-- ---- the least size
opened : (end : ℕ) → 0 < end → frame_size end ≡ 16 * ((end + 7) / 16) + 8
opened end lt =
    let k : (end == 0) ≡ false = grind (arith, nat_tests) in
    ap (λ b. if b then 0 else 16 * ((end + 7) / 16) + 8) k

pub holds : (end : ℕ) → 0 < end → end ≤ frame_size end
holds end lt = let e = opened end lt in omega (arith, e, lt)

pub shape : (end : ℕ) → 0 < end → frame_size end % 16 ≡ 8
shape end lt = let e = opened end lt in omega (arith, e)

pub least : (end n : ℕ) → 0 < end → end ≤ n → n % 16 ≡ 8 → frame_size end ≤ n
least end n lt le h = let e = opened end lt in omega (arith, e, le, h)

-- so the stack pointer behind the prologue is a multiple of 16
pub aligned_below : (c : Compiled) (words : List ℕ) (memory : Memory) (rsp0 base : ℕ) (s : Config) (end : ℕ) → IsStart c words memory rsp0 base s
    → 0 < end → c.frame ≡ frame_size end → (rsp0 - c.frame) % 16 ≡ 0
aligned_below c words memory rsp0 base s end h lt e =
    let k = shape end lt in let a = h.aligned in let b = h.room_below in omega (arith, k, a, b, e)

-- ---- sizes of frames: one cell of 64 bits, eight of them, two preserved registers alone, six preserved registers, and one byte with a preserved register
one_cell : frame_size (frame_end 8 []) ≡ 8
one_cell = refl

eight_cells : frame_size (frame_end 64 []) ≡ 72
eight_cells = refl

two_registers : frame_size (frame_end 0 (reg.Rbx ∷ reg.Rbp ∷ [])) ≡ 24
two_registers = refl

six_registers : frame_size (frame_end 0 preserved_registers) ≡ 56
six_registers = refl

byte_and_register : frame_size (frame_end 1 (reg.Rbx ∷ [])) ≡ 24
byte_and_register = refl

-- ---- two preserved registers above variables that end at 22
three_slots : saved_slots 22 (reg.Rbx ∷ reg.R12 ∷ []) ≡ (reg.Rbx, 24) ∷ (reg.R12, 32) ∷ []
three_slots = refl

three_size : frame_size (frame_end 22 (reg.Rbx ∷ reg.R12 ∷ [])) ≡ 40
three_size = refl
