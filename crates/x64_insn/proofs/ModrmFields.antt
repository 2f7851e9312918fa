-- The fields of a ModRM and of a SIB, and what an rm field names by them.
use Rattle.std.proofs.Common.{◌≡◌, ℕ, ◌+◌, ◌*◌, ◌/◌, ◌%◌, ◌^◌, ◌<◌, List, Bool, Option, Some, None, ℤ, refl, ap, ◌∙◌, arith}
use Rattle.std.specs.Prelude.{◌&&◌, ◌==◌, nat_lt, if◌then◌else◌, unwrap_or}
use Rattle.x64_insn.specs.declared.types.Reg.{Reg}
use Rattle.x64_insn.specs.declared.types.Base.TheVariants as base
use Rattle.x64_insn.specs.declared.types.Mem.{Mem}
use Rattle.x64_insn.specs.declared.types.Operand.{Operand}
use Rattle.x64_insn.specs.declared.types.Operand.TheVariants as operand
use Rattle.x64_insn.specs.Table.{reg_of, x_of, b_of, mod_of, reg_field, rm_field}
use Rattle.x64_insn.specs.Encoding.{Fields, base_field, displacement_length, has_sib, signed_of, modrm_byte, memory_of, rm_of_modrm}

-- ---- bytes by their fields
abbrev pub modrm_with : ℕ → ℕ → ℕ → ℕ
modrm_with mode n low = 64 * mode + 8 * n + low

pub modrm_small : (mode n low : ℕ) → mode < 4 → n < 8 → low < 8 → modrm_with mode n low < 256
modrm_small mode n low hm hn hl = omega (arith, hm, hn, hl)

pub mode_is : (mode n low : ℕ) → n < 8 → low < 8 → mod_of (modrm_with mode n low) ≡ mode
mode_is mode n low hn hl = omega (arith, hn, hl)

pub reg_is : (mode n low : ℕ) → n < 8 → low < 8 → reg_field (modrm_with mode n low) ≡ n
reg_is mode n low hn hl = omega (arith, hn, hl)

pub rm_is : (mode n low : ℕ) → n < 8 → low < 8 → rm_field (modrm_with mode n low) ≡ low
rm_is mode n low hn hl = omega (arith, hn, hl)

pub index_field_is : (scale n low : ℕ) → n < 8 → low < 8 → (64 * scale + 8 * n + low) / 8 % 8 ≡ n
index_field_is scale n low hn hl = omega (arith, hn, hl)

pub scale_field_is : (scale n low : ℕ) → n < 8 → low < 8 → (64 * scale + 8 * n + low) / 64 ≡ scale
scale_field_is scale n low hn hl = omega (arith, hn, hl)

pub low_field_is : (scale n low : ℕ) → n < 8 → low < 8 → (64 * scale + 8 * n + low) % 8 ≡ low
low_field_is scale n low hn hl = omega (arith, hn, hl)

pub sib_small : (scale n low : ℕ) → scale < 4 → n < 8 → low < 8 → (64 * scale + 8 * n + low) < 256
sib_small scale n low hs hn hl = omega (arith, hs, hn, hl)

-- ---- an rm field by mode, number, the bits X and B, SIB and displacement
abbrev pub has_sib_by : ℕ → ℕ → Bool
has_sib_by mode low = nat_lt mode 3 && (low == 4)

abbrev pub base_by : ℕ → Option ℕ → ℕ
base_by low None = low
base_by low (Some sib) = sib % 8

abbrev pub length_by : ℕ → ℕ → Option ℕ → ℕ
length_by mode low sib = if mode == 0 then (if base_by low sib == 5 then 4 else 0) else if mode == 1 then 1 else if mode == 2 then 4 else 0

abbrev pub index_by : ℕ → ℕ → Option (Reg × ℕ)
index_by n scale = if n == 4 then None else Some (reg_of n, 2 ^ scale)

abbrev pub sib_memory_by : ℕ → ℕ → ℕ → ℕ → ℤ → Mem
sib_memory_by mode x b sib disp = record {
  base = if (mode == 0) && (sib % 8 == 5) then base.Absent else base.Reg (reg_of (8 * b + sib % 8));
  index = index_by (8 * x + sib / 8 % 8) (sib / 64);
  disp = disp;
}

abbrev pub plain_memory_by : ℕ → ℕ → ℕ → ℤ → Mem
plain_memory_by mode low b disp = record {
  base = if (mode == 0) && (low == 5) then base.Rip else base.Reg (reg_of (8 * b + low));
  index = None;
  disp = disp;
}

abbrev pub memory_by : ℕ → ℕ → ℕ → ℕ → Option ℕ → List ℕ → Mem
memory_by mode low x b sib displacement =
    if low == 4 then sib_memory_by mode x b (unwrap_or sib 0) (signed_of displacement) else plain_memory_by mode low b (signed_of displacement)

abbrev pub rm_by : ℕ → ℕ → ℕ → ℕ → Option ℕ → List ℕ → Operand
rm_by mode low x b sib displacement =
    if mode == 3 then operand.Reg (reg_of (8 * b + low)) else operand.Mem (memory_by mode low x b sib displacement)

-- ---- the same by the names of the relation
pub has_sib_is : (mode n low : ℕ) → n < 8 → low < 8 → has_sib (Some (modrm_with mode n low)) ≡ has_sib_by mode low
has_sib_is mode n low hn hl = rw (mode_is mode n low hn hl, rm_is mode n low hn hl) refl

base_is : (mode n low : ℕ) (sib : Option ℕ) → n < 8 → low < 8 → base_field (modrm_with mode n low) sib ≡ base_by low sib
base_is mode n low None hn hl = rm_is mode n low hn hl
base_is mode n low (Some sib) hn hl = refl

length_parts : (m mode low : ℕ) (sib : Option ℕ) → mod_of m ≡ mode → base_field m sib ≡ base_by low sib → displacement_length (Some m) sib ≡ length_by mode low sib
unfolding displacement_length
length_parts m mode low sib p q = rw (p, q) refl

pub length_is : (mode n low : ℕ) (sib : Option ℕ) → n < 8 → low < 8 → displacement_length (Some (modrm_with mode n low)) sib ≡ length_by mode low sib
length_is mode n low sib hn hl = length_parts (modrm_with mode n low) mode low sib (mode_is mode n low hn hl) (base_is mode n low sib hn hl)

-- what fields name, by their parts
pub memory_is : (f : Fields) (mode low x b : ℕ) → mod_of (modrm_byte f) ≡ mode → rm_field (modrm_byte f) ≡ low → x_of f.rex ≡ x → b_of f.rex ≡ b → memory_of f ≡ memory_by mode low x b f.sib f.displacement
unfolding memory_of
memory_is f mode low x b p q r s =
    ap (λ v. memory_by v (rm_field (modrm_byte f)) (x_of f.rex) (b_of f.rex) f.sib f.displacement) p
    ∙ ap (λ v. memory_by mode v (x_of f.rex) (b_of f.rex) f.sib f.displacement) q
    ∙ ap (λ v. memory_by mode low v (b_of f.rex) f.sib f.displacement) r
    ∙ ap (λ v. memory_by mode low x v f.sib f.displacement) s

pub rm_parts_are : (f : Fields) (mode low x b : ℕ) → mod_of (modrm_byte f) ≡ mode → rm_field (modrm_byte f) ≡ low → x_of f.rex ≡ x → b_of f.rex ≡ b → rm_of_modrm f ≡ rm_by mode low x b f.sib f.displacement
unfolding rm_of_modrm memory_of
rm_parts_are f mode low x b p q r s =
    ap (λ v. rm_by v (rm_field (modrm_byte f)) (x_of f.rex) (b_of f.rex) f.sib f.displacement) p
    ∙ ap (λ v. rm_by mode v (x_of f.rex) (b_of f.rex) f.sib f.displacement) q
    ∙ ap (λ v. rm_by mode low v (b_of f.rex) f.sib f.displacement) r
    ∙ ap (λ v. rm_by mode low x v f.sib f.displacement) s
