-- Fields with a ModRM are those of a row, and mean what they were chosen for.
use Rattle.std.proofs.Common.{◌≡◌, ℕ, ◌/◌, ◌%◌, ◌<◌, List, Bool, true, false, not, Option, Some, refl, sym, ap, ◌∙◌, subst, arith}
use Rattle.std.specs.Prelude.{◌&&◌, ◌||◌, ◌==◌, nat_lt, nat_le, IfSome}
use Rattle.std.proofs.lemmas.Bool.{false≢true, and_from}
use Rattle.std.proofs.lemmas.Bool.Decides.{nat_tests}
use Rattle.jz_words.specs.declared.size.Size.{Size}
use Rattle.jz_words.specs.declared.size.Size.TheVariants.{S8}
use Rattle.x64_insn.specs.declared.types.Reg.{Reg}
use Rattle.x64_insn.specs.declared.types.Mem.{Mem}
use Rattle.x64_insn.specs.declared.types.Operand.{Operand}
use Rattle.x64_insn.specs.declared.types.Operand.TheVariants as operand
use Rattle.x64_insn.specs.declared.table.Operands.TheVariants.{Sized}
use Rattle.x64_insn.specs.declared.table.Row.{Row}
use Rattle.x64_insn.specs.Table.{number_of, row_of, allows, names_low_byte, reg_field, rm_field, r_of, has_modrm, takes_reg_field, takes_modrm, has_byte_reg, has_byte_rm, is_lea, immediate_length}
use Rattle.x64_insn.specs.Encoding.{Fields, AreFields, is_byte, StandsIf, AreBytes, modrm_byte, reg_of_modrm, memory_of, rm_of_modrm, size_in, meaning, meaning_of, insn_of}
use Rattle.x64_insn.specs.Chosen.{RmParts, operand_size_for, w_for, rex_with, rm_parts, address_parts, modrm_fields, is_rm, is_address, is_no_byte, needs_rex}
use Rattle.x64_insn.proofs.Registers.{number_small}
use Rattle.x64_insn.proofs.RexBits.{operands_for, operand_size_ok, r_is, x_is, b_is, w_small, size_is, size_by_is, rex_ok, low_byte_named}
use Rattle.x64_insn.proofs.ModrmFields.{modrm_with, modrm_small, mode_is, reg_is, rm_is, has_sib_by, length_by, rm_by, has_sib_is, length_is, memory_is, rm_parts_are}
use Rattle.x64_insn.proofs.AddressFields.{register_is, high_small, low_small, Addressed, addressed}

-- ---- the parts of an rm operand
-- the parts name this operand
pub record Named (p : RmParts) (rm : Operand) : Type 0 where
  pub mode_small : p.mode < 4
  pub field_small : p.field < 8
  pub x_small : p.x < 2
  pub b_small : p.b < 2
  pub sib_stands : StandsIf (has_sib_by p.mode p.field) is_byte p.sib
  pub bytes : AreBytes (length_by p.mode p.field p.sib) p.displacement
  pub reads : rm_by p.mode p.field p.x p.b p.sib p.displacement ≡ rm

no_register : (mode : ℕ) → mode < 3 → (mode == 3) ≡ false
no_register mode h = grind (arith, nat_tests, h)

memory_mode : (mode low : ℕ) → mode < 3 → has_sib_by mode low ≡ (low == 4)
memory_mode mode low h = let t : nat_lt mode 3 ≡ true = grind (arith, nat_tests, h) in rw t refl

named_address : (p : RmParts) (a : Mem) → Addressed p a → Named p (operand.Mem a)
named_address p a h = record {
  mode_small = omega (arith, h.mode_small);
  field_small = h.field_small;
  x_small = h.x_small;
  b_small = h.b_small;
  sib_stands = subst (λ (v : Bool). StandsIf v is_byte p.sib) (sym (memory_mode p.mode p.field h.mode_small)) h.sib_stands;
  bytes = h.bytes;
  reads = rw (no_register p.mode h.mode_small, h.reads) refl;
}

named : (rm : Operand) → is_rm rm ≡ true → Named (rm_parts rm) rm
unfolding rm_parts
named (operand.Reg r) h = record {
  mode_small = omega arith;
  field_small = low_small r;
  x_small = omega arith;
  b_small = high_small r;
  sib_stands = tt;
  bytes = (refl, refl);
  reads = ap (λ v. operand.Reg v) (register_is (number_of r / 8) (number_of r % 8) r refl refl);
}
named (operand.Mem a) h = named_address (address_parts a.base a.index a.disp) a (addressed a h)
named (operand.Imm i) h = absurd (false≢true h)

address_named : (a : Mem) → is_address a ≡ true → Addressed (rm_parts (operand.Mem a)) a
unfolding rm_parts
address_named a h = addressed a h

-- a register of one byte in the rm field has its REX
byte_rm : (w r : ℕ) (needed : Bool) (rm : Operand) → is_rm rm ≡ true → (needs_rex S8 rm ≡ true → needed ≡ true)
    → (not ((rm_parts rm).mode == 3) || names_low_byte (rex_with w r (rm_parts rm).x (rm_parts rm).b needed) (rm_parts rm).field) ≡ true
unfolding rm_parts
byte_rm w r needed (operand.Reg q) h k = low_byte_named w r 0 (number_of q / 8) needed (number_of q) (λ l. omega (arith, l)) k
byte_rm w r needed (operand.Mem a) h k = let m = addressed a h in let n = no_register _ m.mode_small in rw n refl
byte_rm w r needed (operand.Imm i) h k = absurd (false≢true h)

-- an address has no mode 3
abbrev pub is_memory : Operand → Bool
is_memory (operand.Mem a) = is_address a
is_memory other = false

memory_alone : (rm : Operand) → is_memory rm ≡ true → not ((rm_parts rm).mode == 3) ≡ true
unfolding rm_parts
memory_alone (operand.Mem a) h = let m = addressed a h in let n = no_register _ m.mode_small in rw n refl
memory_alone (operand.Reg r) h = absurd (false≢true h)
memory_alone (operand.Imm i) h = absurd (false≢true h)

-- ---- the fields
implied : (b c : Bool) → (b ≡ true → c ≡ true) → (not b || c) ≡ true
implied true c h = h refl
implied false c h = refl

takes : (w : Row) (rex : Option ℕ) (mode n low : ℕ) → mode < 4 → n < 8 → low < 8 → takes_reg_field w n ≡ true → (is_lea w ≡ true → not (mode == 3) ≡ true)
    → (has_byte_reg w ≡ true → names_low_byte rex n ≡ true) → (has_byte_rm w ≡ true → (not (mode == 3) || names_low_byte rex low) ≡ true) → takes_modrm w rex (modrm_with mode n low) ≡ true
takes w rex mode n low hm hn hl field lea reg rm =
    let small = modrm_small mode n low hm hn hl in
    let t : nat_lt (modrm_with mode n low) 256 ≡ true = grind (arith, nat_tests, small) in
    let p = mode_is mode n low hn hl in
    let q = reg_is mode n low hn hl in
    let r = rm_is mode n low hn hl in
    and_from _ _ t (and_from _ _ (ap (takes_reg_field w) q ∙ field)
    (and_from _ _ (ap (λ m. not (is_lea w) || not (m == 3)) p ∙ implied (is_lea w) (not (mode == 3)) lea)
    (and_from _ _ (ap (λ m. not (has_byte_reg w) || names_low_byte rex m) q ∙ implied (has_byte_reg w) (names_low_byte rex n) reg)
    (ap (λ m. not (has_byte_rm w) || (not (m == 3) || names_low_byte rex (rm_field (modrm_with mode n low)))) p
    ∙ ap (λ m. not (has_byte_rm w) || (not (mode == 3) || names_low_byte rex m)) r ∙ implied (has_byte_rm w) (not (mode == 3) || names_low_byte rex low) rm))))

stands : (b : Bool) (test : ℕ → Bool) (m : ℕ) → b ≡ true → test m ≡ true → StandsIf b test (Some m)
stands true test m e h = h
stands false test m e h = absurd (false≢true e)

-- a row takes prefixes, number and operand
pub record Suits (w : Row) (size : Size) (needed : Bool) (number : ℕ) (rm : Operand) : Type 0 where
  pub has : has_modrm w ≡ true
  pub allowed : (r x b : ℕ) → r < 2 → x < 2 → b < 2 → allows w (operand_size_for size) (rex_with (w_for size) r x b needed) ≡ true
  pub field : takes_reg_field w (number % 8) ≡ true
  pub address : is_lea w ≡ true → is_memory rm ≡ true
  pub reg_byte : has_byte_reg w ≡ true → (nat_le 4 number && nat_lt number 8) ≡ true → needed ≡ true
  pub rm_byte : has_byte_rm w ≡ true → needs_rex S8 rm ≡ true → needed ≡ true

-- the immediate has its bytes, whatever REX says of registers
abbrev pub HasImmediate : Row → Size → Bool → ℕ → List ℕ → Type 0
HasImmediate w size needed n immediate = (r x b : ℕ) → r < 2 → x < 2 → b < 2 → AreBytes (immediate_length w (operand_size_for size) (rex_with (w_for size) r x b needed) n) immediate

high_bit : (number : ℕ) → number < 16 → number / 8 < 2
high_bit number h = omega (arith, h)

pub modrm_are_fields : (w : Row) (size : Size) (needed : Bool) (escape : Option ℕ) (opcode number : ℕ) (rm : Operand) (immediate : List ℕ)
    → row_of escape opcode ≡ Some w → IfSome escape (λ b. b ≡ 0x0F) → number < 16 → is_rm rm ≡ true → Suits w size needed number rm → HasImmediate w size needed (number % 8) immediate
    → AreFields (modrm_fields size needed escape opcode number rm immediate)
unfolding modrm_fields
modrm_are_fields w size needed escape opcode number rm immediate e esc small ok suits bytes =
    let n = named rm ok in
    let high = high_bit number small in
    let low : number % 8 < 8 = omega arith in
    let rex = rex_with (w_for size) (number / 8) (rm_parts rm).x (rm_parts rm).b needed in
    record {
      row = w;
      in_table = e;
      operand_size = operand_size_ok size;
      rex = rex_ok size (number / 8) (rm_parts rm).x (rm_parts rm).b needed high n.x_small n.b_small;
      escape = esc;
      prefixes = suits.allowed (number / 8) (rm_parts rm).x (rm_parts rm).b high n.x_small n.b_small;
      modrm = stands (has_modrm w) (takes_modrm w rex) _ suits.has
          (takes w rex (rm_parts rm).mode (number % 8) (rm_parts rm).field n.mode_small low n.field_small suits.field
          (λ l. memory_alone rm (suits.address l))
          (λ l. low_byte_named (w_for size) (number / 8) (rm_parts rm).x (rm_parts rm).b needed number (λ k. omega (arith, k)) (suits.reg_byte l))
          (λ l. byte_rm (w_for size) (number / 8) needed rm ok (suits.rm_byte l)));
      sib = subst (λ (v : Bool). StandsIf v is_byte (rm_parts rm).sib) (sym (has_sib_is (rm_parts rm).mode (number % 8) (rm_parts rm).field low n.field_small)) n.sib_stands;
      displacement = subst (λ k. AreBytes k (rm_parts rm).displacement) (sym (length_is (rm_parts rm).mode (number % 8) (rm_parts rm).field (rm_parts rm).sib low n.field_small)) n.bytes;
      immediate = subst (λ k. AreBytes (immediate_length w (operand_size_for size) rex k) immediate) (sym (reg_is (rm_parts rm).mode (number % 8) (rm_parts rm).field low n.field_small))
          (bytes (number / 8) (rm_parts rm).x (rm_parts rm).b high n.x_small n.b_small);
    }

-- ---- what they mean
pub means : (w : Row) (f : Fields) → row_of f.escape f.opcode ≡ Some w → insn_of f ≡ meaning w f
unfolding insn_of
means w f e = ap (λ v. meaning_of v f) e

module _ (size : Size) (needed : Bool) (escape : Option ℕ) (opcode : ℕ) (immediate : List ℕ) where
  pub rm_means : (number : ℕ) (rm : Operand) → number < 16 → is_rm rm ≡ true → rm_of_modrm (modrm_fields size needed escape opcode number rm immediate) ≡ rm
  unfolding modrm_fields
  rm_means number rm small ok =
      let n = named rm ok in
      let high = high_bit number small in
      let low : number % 8 < 8 = omega arith in
      let ws = w_small size in
      rm_parts_are (modrm_fields size needed escape opcode number rm immediate) (rm_parts rm).mode (rm_parts rm).field (rm_parts rm).x (rm_parts rm).b
      (mode_is (rm_parts rm).mode (number % 8) (rm_parts rm).field low n.field_small) (rm_is (rm_parts rm).mode (number % 8) (rm_parts rm).field low n.field_small)
      (x_is (w_for size) (number / 8) (rm_parts rm).x (rm_parts rm).b needed ws high n.x_small n.b_small)
      (b_is (w_for size) (number / 8) (rm_parts rm).x (rm_parts rm).b needed ws high n.x_small n.b_small)
      ∙ n.reads

  pub memory_means : (number : ℕ) (a : Mem) → number < 16 → is_address a ≡ true → memory_of (modrm_fields size needed escape opcode number (operand.Mem a) immediate) ≡ a
  unfolding modrm_fields
  memory_means number a small ok =
      let n = address_named a ok in
      let rm = operand.Mem a in
      let high = high_bit number small in
      let low : number % 8 < 8 = omega arith in
      let ws = w_small size in
      memory_is (modrm_fields size needed escape opcode number rm immediate) (rm_parts rm).mode (rm_parts rm).field (rm_parts rm).x (rm_parts rm).b
      (mode_is (rm_parts rm).mode (number % 8) (rm_parts rm).field low n.field_small) (rm_is (rm_parts rm).mode (number % 8) (rm_parts rm).field low n.field_small)
      (x_is (w_for size) (number / 8) (rm_parts rm).x (rm_parts rm).b needed ws high n.x_small n.b_small)
      (b_is (w_for size) (number / 8) (rm_parts rm).x (rm_parts rm).b needed ws high n.x_small n.b_small)
      ∙ n.reads

  pub field_means : (number : ℕ) (rm : Operand) → number < 16 → is_rm rm ≡ true → reg_field (modrm_byte (modrm_fields size needed escape opcode number rm immediate)) ≡ number % 8
  unfolding modrm_fields
  field_means number rm small ok = let n = named rm ok in let low : number % 8 < 8 = omega arith in reg_is (rm_parts rm).mode (number % 8) (rm_parts rm).field low n.field_small

  r_means : (number : ℕ) (rm : Operand) → number < 16 → is_rm rm ≡ true → r_of (modrm_fields size needed escape opcode number rm immediate).rex ≡ number / 8
  unfolding modrm_fields
  r_means number rm small ok = let n = named rm ok in r_is (w_for size) (number / 8) (rm_parts rm).x (rm_parts rm).b needed (w_small size) (high_bit number small) n.x_small n.b_small

  pub reg_means : (r : Reg) (rm : Operand) → is_rm rm ≡ true → reg_of_modrm (modrm_fields size needed escape opcode (number_of r) rm immediate) ≡ r
  reg_means r rm ok =
      let small = number_small r in
      register_is (r_of (modrm_fields size needed escape opcode (number_of r) rm immediate).rex) (reg_field (modrm_byte (modrm_fields size needed escape opcode (number_of r) rm immediate))) r
      (r_means (number_of r) rm small ok) (field_means (number_of r) rm small ok)

  pub size_means : (number : ℕ) (rm : Operand) → number < 16 → is_rm rm ≡ true → size_in (operands_for size) (modrm_fields size needed escape opcode number rm immediate) ≡ size
  unfolding modrm_fields
  size_means number rm small ok = let n = named rm ok in size_by_is size (number / 8) (rm_parts rm).x (rm_parts rm).b needed (high_bit number small) n.x_small n.b_small

  pub sized_means : (number : ℕ) (rm : Operand) → number < 16 → is_rm rm ≡ true → is_no_byte size ≡ true → size_in Sized (modrm_fields size needed escape opcode number rm immediate) ≡ size
  unfolding modrm_fields
  sized_means number rm small ok h = let n = named rm ok in size_is size (number / 8) (rm_parts rm).x (rm_parts rm).b needed (high_bit number small) n.x_small n.b_small h

  pub immediate_means : (number : ℕ) (rm : Operand) → (modrm_fields size needed escape opcode number rm immediate).immediate ≡ immediate
  unfolding modrm_fields
  immediate_means number rm = refl

  pub insn_means : (w : Row) (number : ℕ) (rm : Operand) → row_of escape opcode ≡ Some w → insn_of (modrm_fields size needed escape opcode number rm immediate) ≡ meaning w (modrm_fields size needed escape opcode number rm immediate)
  unfolding modrm_fields
  insn_means w number rm e = means w (modrm_fields size needed escape opcode number rm immediate) e
