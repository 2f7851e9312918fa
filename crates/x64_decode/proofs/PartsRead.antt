-- The fields of an instruction are read back.
use Rattle.std.proofs.Common.{◌≡◌, ℕ, ◌<◌, ◌≤◌, List, ◌∷◌, Bool, true, false, Option, Some, None, refl, ap, ◌∙◌, arith}
use Rattle.std.specs.Prelude.{◌||◌, ◌==◌, not}
use Rattle.std.specs.Option.{option_to_list}
use Rattle.std.proofs.lemmas.Bool.{both_ways, false_from_ne_true}
use Rattle.std.proofs.lemmas.Bool.Decides.{nat_tests}
use Rattle.x64_insn.specs.declared.table.Operands.TheVariants.{Bytes, Sized}
use Rattle.x64_insn.specs.declared.table.Row.{Row}
use Rattle.x64_insn.specs.declared.table.Row.TheVariants as row
use Rattle.x64_insn.specs.Table.{row_of, one_byte_row, escaped_row, takes_reg_field, names_low_byte, is_lea, has_byte_reg, has_byte_rm}
use Rattle.x64_insn.specs.Encoding.{spelling_of, is_byte, is_rex, has_sib, displacement_length, StandsIf, AreBytes}
use Rattle.x64_decode.specs.ByteReading.{Reader, byte_where, byte_if, prefix, some_bytes, follow}
use Rattle.x64_decode.specs.Decoding.{may_be_operand_size, may_be_rex, may_be_escape, may_be_opcode, is_allowed, row_has_modrm, row_takes, may_be_modrm, immediate_bytes, Parts, fields_of, parts}
use Rattle.x64_decode.proofs.ByteReaders.{ReadsBack, PrefixPasses, spell_byte, Passes, byte_where_reads, spell_both, BothValid, follow_reads, some_bytes_reads, byte_if_reads, Begins, ahead_reads}

-- ---- a byte that may stand there: ModRM 0, the opcode 01, behind 0F the opcode AF
or_true : (b : Bool) → (b || true) ≡ true
or_true true = refl
or_true false = refl

no_conflict : (rex : Option ℕ) → names_low_byte rex 0 ≡ true
no_conflict None = refl
no_conflict (Some b) = refl

takes_none : (w : Row) → takes_reg_field w 0 ≡ true
takes_none (row.MovRmImm operands) = refl
takes_none (row.IncDec operands) = refl
takes_none (row.ShiftImm operands) = refl
takes_none (row.ShiftOne operands) = refl
takes_none (row.ShiftCl operands) = refl
takes_none (row.Group3 Bytes) = refl
takes_none (row.Group3 Sized) = refl
takes_none other = refl

modrm_row : (rex : Option ℕ) (w : Option Row) → row_has_modrm w ≡ true → row_takes w rex 0 ≡ true
modrm_row rex None h = cc
modrm_row rex (Some w) h = rw (takes_none w) (rw (no_conflict rex) (rw (or_true (not (is_lea w))) (rw (or_true (not (has_byte_reg w))) (or_true (not (has_byte_rm w))))))

modrm_example : (rex e : Option ℕ) (o : ℕ) → row_has_modrm (row_of e o) ≡ true → may_be_modrm rex e o 0 ≡ true
unfolding may_be_modrm
modrm_example rex e o h = modrm_row rex (row_of e o) h

opcode_example : (p r e : Option ℕ) → (o : ℕ) × (may_be_opcode p r e o ≡ true)
unfolding may_be_opcode one_byte_row escaped_row
opcode_example p r None = (0x01, refl)
opcode_example p r (Some b) = (0xAF, refl)

-- ---- the readers from an opcode on, from a 0F on, from a REX on
abbrev Immediate : Type 0
Immediate = List ℕ × List ℕ

abbrev Sib : Type 0
Sib = Option ℕ × Immediate

abbrev ModRM : Type 0
ModRM = Option ℕ × Sib

abbrev Opcode : Type 0
Opcode = ℕ × ModRM

abbrev Escape : Type 0
Escape = Option ℕ × Opcode

abbrev Rex : Type 0
Rex = Option ℕ × Escape

module _ (p r e : Option ℕ) where
  abbrev immediate_reader : ℕ → Option ℕ → Option ℕ → Reader Immediate
  immediate_reader o m s = follow (some_bytes (displacement_length m s)) (λ d. some_bytes (immediate_bytes p r e o m))

  abbrev immediate_spell : Immediate → List ℕ
  immediate_spell = spell_both (λ d. d) (λ d i. i)

  abbrev immediate_valid : ℕ → Option ℕ → Option ℕ → Immediate → Type 0
  immediate_valid o m s = BothValid (AreBytes (displacement_length m s)) (λ d. AreBytes (immediate_bytes p r e o m))

  immediate_reads : (o : ℕ) (m s : Option ℕ) → ReadsBack (immediate_reader o m s) immediate_spell (immediate_valid o m s)
  immediate_reads o m s = follow_reads (some_bytes (displacement_length m s)) (λ d. some_bytes (immediate_bytes p r e o m)) (λ d. d) (λ d i. i) (AreBytes (displacement_length m s)) (λ d. AreBytes (immediate_bytes p r e o m)) (some_bytes_reads (displacement_length m s)) (λ d _. some_bytes_reads (immediate_bytes p r e o m))

  abbrev sib_reader : ℕ → Option ℕ → Reader Sib
  sib_reader o m = follow (byte_if (has_sib m) is_byte) (immediate_reader o m)

  abbrev sib_spell : Sib → List ℕ
  sib_spell = spell_both option_to_list (λ s. immediate_spell)

  abbrev sib_valid : ℕ → Option ℕ → Sib → Type 0
  sib_valid o m = BothValid (StandsIf (has_sib m) is_byte) (immediate_valid o m)

  sib_reads : (o : ℕ) (m : Option ℕ) → ReadsBack (sib_reader o m) sib_spell (sib_valid o m)
  sib_reads o m = follow_reads (byte_if (has_sib m) is_byte) (immediate_reader o m) option_to_list (λ s. immediate_spell) (StandsIf (has_sib m) is_byte) (immediate_valid o m) (byte_if_reads (has_sib m) is_byte 0 (λ _. refl)) (λ s _. immediate_reads o m s)

  abbrev modrm_reader : ℕ → Reader ModRM
  modrm_reader o = follow (byte_if (row_has_modrm (row_of e o)) (may_be_modrm r e o)) (sib_reader o)

  abbrev modrm_spell : ModRM → List ℕ
  modrm_spell = spell_both option_to_list (λ m. sib_spell)

  abbrev modrm_valid : ℕ → ModRM → Type 0
  modrm_valid o = BothValid (StandsIf (row_has_modrm (row_of e o)) (may_be_modrm r e o)) (sib_valid o)

  modrm_reads : (o : ℕ) → ReadsBack (modrm_reader o) modrm_spell (modrm_valid o)
  modrm_reads o = follow_reads (byte_if (row_has_modrm (row_of e o)) (may_be_modrm r e o)) (sib_reader o) option_to_list (λ m. sib_spell) (StandsIf (row_has_modrm (row_of e o)) (may_be_modrm r e o)) (sib_valid o) (byte_if_reads (row_has_modrm (row_of e o)) (may_be_modrm r e o) 0 (modrm_example r e o)) (λ m _. sib_reads o m)

  abbrev opcode_reader : Reader Opcode
  opcode_reader = follow (byte_where (may_be_opcode p r e)) modrm_reader

  abbrev opcode_spell : Opcode → List ℕ
  opcode_spell = spell_both spell_byte (λ o. modrm_spell)

  abbrev opcode_valid : Opcode → Type 0
  opcode_valid = BothValid (Passes (may_be_opcode p r e)) modrm_valid

  opcode_reads : ReadsBack opcode_reader opcode_spell opcode_valid
  opcode_reads = follow_reads (byte_where (may_be_opcode p r e)) modrm_reader spell_byte (λ o. modrm_spell) (Passes (may_be_opcode p r e)) modrm_valid (byte_where_reads (may_be_opcode p r e) (opcode_example p r e).0 (opcode_example p r e).1) (λ o _. modrm_reads o)

-- ---- what may not begin an opcode
pub eq_of : (a b : ℕ) → (a == b) ≡ true → a ≡ b
eq_of a b h = grind (arith, nat_tests)

opcode_apart : (p r : Option ℕ) (o k : ℕ) → may_be_opcode p r None k ≡ false → may_be_opcode p r None o ≡ true → (o == k) ≡ false
opcode_apart p r o k never ok = false_from_ne_true (o == k) (λ e. both_ways (may_be_opcode p r None o) (ap (may_be_opcode p r None) (eq_of o k e) ∙ never) ok)

no_escape_opcode : (p r : Option ℕ) → may_be_opcode p r None 0x0F ≡ false
unfolding may_be_opcode one_byte_row
no_escape_opcode p r = refl

no_66_opcode : (p r : Option ℕ) → may_be_opcode p r None 0x66 ≡ false
unfolding may_be_opcode one_byte_row
no_66_opcode p r = refl

no_rex_opcode : (o : ℕ) → 64 ≤ o → o < 80 → one_byte_row o ≡ None
unfolding one_byte_row
no_rex_opcode o a b = grind (arith, nat_tests)

rex_bounds : (p : Option ℕ) (b : ℕ) → is_rex p b ≡ true → (64 ≤ b) × (b < 80)
rex_bounds None b h = grind (arith, nat_tests)
rex_bounds (Some c) b h = grind (arith, nat_tests)

rex_opcode : (p r : Option ℕ) (o : ℕ) → may_be_opcode p r None o ≡ true → may_be_rex p o ≡ false
unfolding may_be_opcode
rex_opcode p r o ok = false_from_ne_true (may_be_rex p o) (λ e.
    let b = rex_bounds p o e in
    both_ways (may_be_opcode p r None o) (ap (is_allowed p r) (no_rex_opcode o b.0 b.1)) ok)

-- ---- what may not begin a REX or an opcode
no_escape_rex : (p : Option ℕ) → may_be_rex p 0x0F ≡ false
no_escape_rex p = refl

rex_is_no_66 : (b : ℕ) → may_be_rex None b ≡ true → may_be_operand_size b ≡ false
rex_is_no_66 b h = let k = rex_bounds None b h in grind (arith, nat_tests)

module _ (p r : Option ℕ) where
  abbrev escape_reader : Reader Escape
  escape_reader = follow (prefix may_be_escape) (λ e. opcode_reader p r e)

  abbrev escape_spell : Escape → List ℕ
  escape_spell = spell_both option_to_list (λ e. opcode_spell p r e)

  abbrev escape_valid : Escape → Type 0
  escape_valid = BothValid (PrefixPasses may_be_escape) (opcode_valid p r)

  opcode_begins : Begins may_be_escape (opcode_spell p r None) (opcode_valid p r None)
  opcode_begins = record { by = λ y ok. (y.0, modrm_spell p r None y.1, refl, opcode_apart p r y.0 0x0F (no_escape_opcode p r) ok.0) }

  escape_reads : ReadsBack escape_reader escape_spell escape_valid
  escape_reads = ahead_reads may_be_escape (λ e. opcode_reader p r e) (λ e. opcode_spell p r e) (opcode_valid p r) (opcode_reads p r None) (λ b _. opcode_reads p r (Some b)) opcode_begins

module _ (p : Option ℕ) where
  abbrev rex_reader : Reader Rex
  rex_reader = follow (prefix (may_be_rex p)) (λ r. escape_reader p r)

  abbrev rex_spell : Rex → List ℕ
  rex_spell = spell_both option_to_list (λ r. escape_spell p r)

  abbrev rex_valid : Rex → Type 0
  rex_valid = BothValid (PrefixPasses (may_be_rex p)) (escape_valid p)

  escape_first : (y : Escape) → escape_valid p None y → (c : ℕ) × (rest : List ℕ) × (escape_spell p None y ≡ c ∷ rest) × (may_be_rex p c ≡ false)
  escape_first (None, y) ok = (y.0, modrm_spell p None None y.1, refl, rex_opcode p None y.0 ok.1.0)
  escape_first (Some b, y) ok = (b, opcode_spell p None (Some b) y, refl, ap (may_be_rex p) (eq_of b 0x0F ok.0) ∙ no_escape_rex p)

  escape_begins : Begins (may_be_rex p) (escape_spell p None) (escape_valid p None)
  escape_begins = record { by = escape_first }

  rex_reads : ReadsBack rex_reader rex_spell rex_valid
  rex_reads = ahead_reads (may_be_rex p) (λ r. escape_reader p r) (λ r. escape_spell p r) (escape_valid p) (escape_reads p None) (λ b _. escape_reads p (Some b)) escape_begins

rex_first : (y : Rex) → rex_valid None y → (c : ℕ) × (rest : List ℕ) × (rex_spell None y ≡ c ∷ rest) × (may_be_operand_size c ≡ false)
rex_first (None, (None, y)) ok = (y.0, modrm_spell None None None y.1, refl, opcode_apart None None y.0 0x66 (no_66_opcode None None) ok.1.1.0)
rex_first (None, (Some b, y)) ok = (b, opcode_spell None None (Some b) y, refl, ap may_be_operand_size (eq_of b 0x0F ok.1.0))
rex_first (Some b, y) ok = (b, escape_spell None (Some b) y, refl, rex_is_no_66 b ok.0)

rex_begins : Begins may_be_operand_size (rex_spell None) (rex_valid None)
rex_begins = record { by = rex_first }

-- ---- all of them
unfoldable pub spelled : Parts → List ℕ
spelled a = spelling_of (fields_of a)

unfoldable pub AreParts : Parts → Type 0
AreParts a =
    let p = a.0 in let r = a.1.0 in let e = a.1.1.0 in let o = a.1.1.1.0 in let m = a.1.1.1.1.0 in let s = a.1.1.1.1.1.0 in
    PrefixPasses may_be_operand_size p × (PrefixPasses (may_be_rex p) r × (PrefixPasses may_be_escape e × ((may_be_opcode p r e o ≡ true) × (StandsIf (row_has_modrm (row_of e o)) (may_be_modrm r e o) m × (StandsIf (has_sib m) is_byte s × (AreBytes (displacement_length m s) a.1.1.1.1.1.1.0 × AreBytes (immediate_bytes p r e o m) a.1.1.1.1.1.1.1))))))

-- The fields of an instruction are read back, and a beginning of them is told.
pub parts_reads : ReadsBack parts spelled AreParts
unfolding parts spelled AreParts spelling_of
parts_reads = ahead_reads may_be_operand_size rex_reader rex_spell rex_valid (rex_reads None) (λ b _. rex_reads (Some b)) rex_begins
