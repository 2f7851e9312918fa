-- What the code finds of an address and of a cell.
use Rattle.std.proofs.Common.{◌≡◌, ℕ, Bool, true, false, ◌&&◌, Option, Some, None, refl, sym, ap, ◌∙◌}
use Rattle.jz_words.specs.declared.size.Size.{Size}
use Rattle.jz_words.specs.declared.size.Size.TheVariants.{S8, S16, S32, S64}
use Rattle.x64_insn.specs.declared.types.Reg.{Reg}
use Rattle.x64_insn.specs.Chosen.{fits_bytes, is_index, is_index_of, is_address, is_rm}
use Rattle.jz_operations.specs.declared.operation.Address.{Address}
use Rattle.jz_operations.specs.declared.operation.Arg.TheVariants as arg
use Rattle.jz_operations.specs.declared.operation.Cell.{Cell}
use Rattle.jz_operations.specs.Insns.{base_of, index_of, mem_of, scaled_by, displacement}
use Rattle.jz_encodable.specs.InnerOperands.{in_rax, at_slot, operand_at}

base_free : (d : ℕ) (b : Option ℕ) (i : Option (Reg × ℕ)) → is_index_of (base_of in_rax (at_slot d) b) i ≡ is_index i
base_free d None i = refl
base_free d (Some v) i = refl

both : (a b : Bool) → b ≡ true → a ≡ (a && b)
both true b e = sym e
both false b e = refl

pub address_by : (d : ℕ) (a : Address) (b : Bool) → b ≡ is_index (index_of in_rax (at_slot d) a.index) → fits_bytes 4 a.disp ≡ true → b ≡ is_address (mem_of in_rax (at_slot d) a)
address_by d a b e fits = both b (fits_bytes 4 a.disp) fits ∙ ap (λ x. x && fits_bytes 4 a.disp) (e ∙ sym (base_free d a.base (index_of in_rax (at_slot d) a.index)))

scaled : (d : ℕ) (s : Size) (i : Option ℕ) (b : Bool) → b ≡ (is_index (scaled_by in_rax (at_slot d) s i) && b)
scaled d s None b = refl
scaled d S8 (Some v) b = refl
scaled d S16 (Some v) b = refl
scaled d S32 (Some v) b = refl
scaled d S64 (Some v) b = refl

pub cell_by : (d : ℕ) (c : Cell) (s : Size) (b : Bool) → b ≡ fits_bytes 4 (displacement (at_slot d) c s) → b ≡ is_rm (operand_at d (arg.Cell c) s)
cell_by d c s b e = e ∙ scaled d s c.index (fits_bytes 4 (displacement (at_slot d) c s))
