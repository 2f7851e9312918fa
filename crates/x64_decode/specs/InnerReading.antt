-- What private contracts alone say of the fields that were read.
use Rattle.std.specs.Prelude.{◌≡◌, ℕ, ◌≤◌, List, length, Option, Result, Ok, Err}
use Rattle.x64_decode.specs.declared.reading.Stop.{Stop}
use Rattle.x64_insn.specs.declared.table.Row.{Row}
use Rattle.x64_insn.specs.declared.table.Row.TheVariants as row
use Rattle.x64_insn.specs.Encoding.{Fields}
use Rattle.x64_decode.specs.declared.reading.FieldsRead.{FieldsRead}
use Rattle.x64_decode.specs.Decoding.{Parts, fields_of}

-- what a function of the code returned, seen by a view, is what a reader gives
abbrev pub Gives : {X Y : Type 0} → (X → Y) → Result X Stop → Result Y Stop → Type 0
Gives view (Ok x) read = read ≡ Ok (view x)
Gives view (Err e) read = read ≡ Err e

-- what the code has read, as nested pairs
abbrev pub parts_read : FieldsRead → Parts
parts_read f =
    let behind_opcode : Option ℕ × (Option ℕ × (List ℕ × List ℕ)) =
    (f.modrm, (f.sib, (f.displacement.now, f.immediate.now))) in
    (f.operand_size, (f.rex, (f.escape, (f.opcode, behind_opcode))))

-- the same by their names
abbrev pub fields_read : FieldsRead → Fields
fields_read f = fields_of (parts_read f)

-- how many bytes an immediate has at most: one for the count of a shift, four for a signed number
-- of 32 bits
abbrev pub immediate_limit : Row → ℕ
immediate_limit row.ImulRmImm = 4
immediate_limit row.ImulRmImm8 = 4
immediate_limit (row.ShiftImm operands) = 1
immediate_limit (row.Jcc condition width) = 4
immediate_limit (row.Jmp width) = 4
immediate_limit row.Call = 4
immediate_limit other = 8

-- What was read is no longer than it can be.
pub record AreShort (f : FieldsRead) : Type 0 where
  pub displacement : length f.displacement.now ≤ 4
  pub immediate : length f.immediate.now ≤ 8
  pub by_row : length f.immediate.now ≤ immediate_limit f.row
