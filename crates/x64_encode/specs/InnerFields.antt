-- The fields that the encoder writes, by the names of the relation.
use Rattle.std.specs.Prelude.{ℕ, ◌+◌, ◌<◌, ◌≤◌, Option, Some, None, List}
use Rattle.x64_insn.specs.Encoding.{Fields}
use Rattle.x64_insn.specs.Chosen.{RmParts, signed_bytes}
use Rattle.x64_encode.specs.declared.fields.SignedBytes.{SignedBytes}
use Rattle.x64_encode.specs.declared.fields.RmFields.{RmFields}
use Rattle.x64_encode.specs.declared.fields.ChosenFields.{ChosenFields}

abbrev pub named_bytes : SignedBytes → List ℕ
named_bytes b = signed_bytes b.count b.value

abbrev pub named_parts : RmFields → RmParts
named_parts p = record {
  mode = p.mode;
  field = p.field;
  x = p.x;
  b = p.b;
  sib = p.sib;
  displacement = named_bytes p.displacement;
}

-- the parts fit their bits, and the displacement has at most four bytes
pub record Small (p : RmFields) : Type 0 where
  pub mode : p.mode < 4
  pub field : p.field < 8
  pub x : p.x < 2
  pub b : p.b < 2
  pub count : p.displacement.count ≤ 4

abbrev pub named_fields : ChosenFields → Fields
named_fields f = record {
  operand_size = f.operand_size;
  rex = f.rex;
  escape = f.escape;
  opcode = f.opcode;
  modrm = f.modrm;
  sib = f.sib;
  displacement = named_bytes f.displacement;
  immediate = named_bytes f.immediate;
}

-- displacement and immediate have at most eight bytes
abbrev pub IsShort : ChosenFields → Type 0
IsShort f = f.displacement.count + f.immediate.count ≤ 8

abbrev pub named_choice : Option ChosenFields → Option Fields
named_choice None = None
named_choice (Some f) = Some (named_fields f)
