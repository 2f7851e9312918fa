-- The instruction that bytes begin with, as a function that computes it.
use Rattle.std.specs.Prelude.{ℕ, Bool, false, ◌==◌, List, length, Option, Some, None, unwrap_or, Result, Ok, Err}
use Rattle.x64_insn.specs.declared.table.Row.{Row}
use Rattle.x64_insn.specs.Table.{row_of, allows, reg_field, has_modrm, takes_modrm, immediate_length}
use Rattle.x64_insn.specs.Encoding.{Fields, spelling_of, insn_of, is_byte, is_rex, has_sib, displacement_length}
use Rattle.x64_decode.specs.declared.Decoded.{Decoded}
use Rattle.x64_decode.specs.declared.Decoded.TheVariants as decoded
use Rattle.x64_decode.specs.declared.reading.Stop.{Stop}
use Rattle.x64_decode.specs.declared.reading.Stop.TheVariants.{Short, Bad}
use Rattle.x64_decode.specs.ByteReading.{Reader, prefix, byte_where, byte_if, some_bytes, follow}

-- ---- which byte may come next: one behind which the table has a spelling
abbrev pub may_be_operand_size : ℕ → Bool
may_be_operand_size b = b == 0x66

abbrev pub may_be_rex : Option ℕ → ℕ → Bool
may_be_rex operand_size b = is_rex operand_size b

abbrev pub may_be_escape : ℕ → Bool
may_be_escape b = b == 0x0F

-- whether there is a row and it allows these prefixes
abbrev pub is_allowed : Option ℕ → Option ℕ → Option Row → Bool
is_allowed operand_size rex None = false
is_allowed operand_size rex (Some row) = allows row operand_size rex

-- the opcode of a row that allows these prefixes
unfoldable pub may_be_opcode : Option ℕ → Option ℕ → Option ℕ → ℕ → Bool
may_be_opcode operand_size rex escape b = is_allowed operand_size rex (row_of escape b)

-- whether there is a row and it has a ModRM
abbrev pub row_has_modrm : Option Row → Bool
row_has_modrm None = false
row_has_modrm (Some row) = has_modrm row

-- whether there is a row and a byte may be its ModRM
abbrev pub row_takes : Option Row → Option ℕ → ℕ → Bool
row_takes None rex b = false
row_takes (Some row) rex b = takes_modrm row rex b

-- the ModRM of an opcode's row
unfoldable pub may_be_modrm : Option ℕ → Option ℕ → ℕ → ℕ → Bool
may_be_modrm rex escape opcode b = row_takes (row_of escape opcode) rex b

-- how many bytes a row's immediate has, if there is a row, by ModRM's reg field
abbrev pub row_immediate : Option ℕ → Option ℕ → ℕ → Option Row → ℕ
row_immediate operand_size rex field None = 0
row_immediate operand_size rex field (Some row) = immediate_length row operand_size rex field

-- how many bytes the immediate of an opcode's row has
unfoldable pub immediate_bytes : Option ℕ → Option ℕ → Option ℕ → ℕ → Option ℕ → ℕ
immediate_bytes operand_size rex escape opcode modrm =
    row_immediate operand_size rex (reg_field (unwrap_or modrm 0)) (row_of escape opcode)

-- ---- the fields one after the other, as nested pairs
abbrev pub Parts : Type 0
Parts = Option ℕ × (Option ℕ × (Option ℕ × (ℕ × (Option ℕ × (Option ℕ × (List ℕ × List ℕ))))))

-- the fields by their names
abbrev pub fields_of : Parts → Fields
fields_of (size, (rex, (escape, (opcode, (modrm, (sib, (displacement, immediate))))))) = record {
  operand_size = size;
  rex = rex;
  escape = escape;
  opcode = opcode;
  modrm = modrm;
  sib = sib;
  displacement = displacement;
  immediate = immediate;
}

-- prefixes, opcode, ModRM, SIB, displacement and immediate, each where it may stand
unfoldable pub parts : Reader Parts
parts =
    follow (prefix may_be_operand_size) (λ p.
    follow (prefix (may_be_rex p)) (λ r.
    follow (prefix may_be_escape) (λ e.
    follow (byte_where (may_be_opcode p r e)) (λ o.
    follow (byte_if (row_has_modrm (row_of e o)) (may_be_modrm r e o)) (λ m.
    follow (byte_if (has_sib m) is_byte) (λ s.
    follow (some_bytes (displacement_length m s)) (λ d.
    some_bytes (immediate_bytes p r e o m))))))))

-- the answer for what was read
abbrev pub answer_of : Result (Parts × List ℕ) Stop → Decoded
answer_of (Ok x) = decoded.Insn (insn_of (fields_of x.0)) (length (spelling_of (fields_of x.0)))
answer_of (Err Short) = decoded.Truncated
answer_of (Err Bad) = decoded.Unknown

-- the answer for these bytes
unfoldable pub decoded_of : List ℕ → Decoded
decoded_of bs = answer_of (parts bs)
