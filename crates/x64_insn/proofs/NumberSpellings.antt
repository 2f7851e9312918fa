-- Rows of pairs of opcodes with one operand, and of one opcode with a ModRM.
use Rattle.std.proofs.Common.{◌≡◌, ℕ, ◌%◌, ◌<◌, [], ◌∷◌, Bool, true, false, Option, None, refl, sym, ap, ◌∙◌, subst, arith}
use Rattle.std.specs.Prelude.{◌==◌, nat_lt, if◌then◌else◌}
use Rattle.std.proofs.lemmas.Bool.{false≢true, and_from, cond_both}
use Rattle.std.proofs.lemmas.Bool.Decides.{nat_tests}
use Rattle.jz_words.specs.declared.size.Size.{Size}
use Rattle.jz_words.specs.declared.size.Size.TheVariants.{S8, S16, S32, S64}
use Rattle.x64_insn.specs.declared.types.One.{One}
use Rattle.x64_insn.specs.declared.types.One.TheVariants as one
use Rattle.x64_insn.specs.declared.types.Wide.{Wide}
use Rattle.x64_insn.specs.declared.types.Wide.TheVariants as wide
use Rattle.x64_insn.specs.declared.types.Shift.{Shift}
use Rattle.x64_insn.specs.declared.types.Count.TheVariants as count
use Rattle.x64_insn.specs.declared.types.Operand.{Operand}
use Rattle.x64_insn.specs.declared.types.Insn.{Insn}
use Rattle.x64_insn.specs.declared.types.Insn.TheVariants as insn
use Rattle.x64_insn.specs.declared.table.Operands.TheVariants.{Bytes, Sized}
use Rattle.x64_insn.specs.declared.table.Row.{Row}
use Rattle.x64_insn.specs.declared.table.Row.TheVariants as row
use Rattle.x64_insn.specs.Table.{takes_reg_field, immediate_length}
use Rattle.x64_insn.specs.Encoding.{AreBytes, unsigned_of, spelling_of, group3, Spells}
use Rattle.x64_insn.specs.Chosen.{shift_number, wide_number, one_number, one_opcode, opcode_for, needs_rex, with_number, is_rm, is_no_byte}
use Rattle.x64_insn.proofs.RexBits.{operands_for}
use Rattle.x64_insn.proofs.OpcodeRows.{group3_row, inc_dec_row, shift_imm_row, shift_one_row, shift_cl_row, shift_small, shift_back, shift_taken}
use Rattle.x64_insn.proofs.PairSpellings.{by_fields, Pair, number_fields, group3_pair}
use Rattle.x64_insn.proofs.ModrmSpellings.{HasImmediate, rm_means, field_means, size_means, immediate_means, insn_means}

-- ---- NOT, NEG, INC, DEC, MUL, IMUL, DIV and IDIV
inc_dec_pair : Pair (λ o. row.IncDec o)
inc_dec_pair = record { has = λ o. refl; allowed = λ o p rex. refl; no_lea = λ o. refl; no_byte_reg = refl; no_byte_rm = refl }

-- without an immediate
pub no_immediate : (w : Row) (size : Size) (needed : Bool) (n : ℕ) → ((p rex : Option ℕ) → immediate_length w p rex n ≡ 0) → HasImmediate w size needed n []
no_immediate w size needed n len r x b hr hx hb = subst (λ k. AreBytes k []) (sym (len _ _)) (refl, refl)

low_taken : (n : ℕ) (size : Size) → takes_reg_field (row.Group3 Bytes) n ≡ true → takes_reg_field (row.Group3 Sized) n ≡ true → takes_reg_field (row.Group3 (operands_for size)) n ≡ true
low_taken n S8 p q = p
low_taken n S16 p q = q
low_taken n S32 p q = q
low_taken n S64 p q = q

sized_taken : (n : ℕ) (size : Size) → is_no_byte size ≡ true → takes_reg_field (row.Group3 Sized) n ≡ true → takes_reg_field (row.Group3 (operands_for size)) n ≡ true
sized_taken n S8 h q = absurd (false≢true h)
sized_taken n S16 h q = q
sized_taken n S32 h q = q
sized_taken n S64 h q = q

in_group3 : (n : ℕ) (size : Size) (rm : Operand) (i : Insn) → n < 8 → takes_reg_field (row.Group3 (operands_for size)) (n % 8) ≡ true → (n % 8 == 0) ≡ false → ((v : Operand) → group3 (n % 8) size rm v ≡ i) → is_rm rm ≡ true
    → Spells (spelling_of (with_number size (opcode_for size 0xF6) n rm [])) i
in_group3 n size rm i below taken other is ok =
    let needed = needs_rex size rm in
    let c = opcode_for size 0xF6 in
    let e = group3_row size in
    let small : n < 16 = omega (arith, below) in
    by_fields (with_number size c n rm []) i (number_fields (λ k. row.Group3 k) 0xF6 size n rm [] group3_pair taken refl e below ok (no_immediate (row.Group3 (operands_for size)) size needed (n % 8) (λ p rex. rw other refl)))
    (insn_means size needed None c [] (row.Group3 (operands_for size)) n rm e
    ∙ rw (field_means size needed None c [] n rm small ok, size_means size needed None c [] n rm small ok, rm_means size needed None c [] n rm small ok) (is _))

in_inc_dec : (n : ℕ) (op : One) (size : Size) (rm : Operand) → n < 2 → (if n % 8 == 0 then one.Inc else one.Dec) ≡ op → takes_reg_field (row.IncDec (operands_for size)) (n % 8) ≡ true → is_rm rm ≡ true
    → Spells (spelling_of (with_number size (opcode_for size 0xFE) n rm [])) (insn.One op size rm)
in_inc_dec n op size rm below is taken ok =
    let needed = needs_rex size rm in
    let c = opcode_for size 0xFE in
    let e = inc_dec_row size in
    let small : n < 16 = omega (arith, below) in
    by_fields (with_number size c n rm []) _ (number_fields (λ k. row.IncDec k) 0xFE size n rm [] inc_dec_pair taken refl e (omega (arith, below)) ok (no_immediate (row.IncDec (operands_for size)) size needed (n % 8) (λ p rex. refl)))
    (insn_means size needed None c [] (row.IncDec (operands_for size)) n rm e
    ∙ rw (field_means size needed None c [] n rm small ok, size_means size needed None c [] n rm small ok, rm_means size needed None c [] n rm small ok, is) refl)

pub one_spells : (op : One) (size : Size) (rm : Operand) → is_rm rm ≡ true → Spells (spelling_of (with_number size (opcode_for size (one_opcode op)) (one_number op) rm [])) (insn.One op size rm)
unfolding group3
one_spells one.Not size rm ok = in_group3 2 size rm (insn.One one.Not size rm) (omega arith) (low_taken 2 size refl refl) refl (λ v. refl) ok
one_spells one.Neg size rm ok = in_group3 3 size rm (insn.One one.Neg size rm) (omega arith) (low_taken 3 size refl refl) refl (λ v. refl) ok
one_spells one.Inc size rm ok = in_inc_dec 0 one.Inc size rm (omega arith) refl refl ok
one_spells one.Dec size rm ok = in_inc_dec 1 one.Dec size rm (omega arith) refl refl ok

pub wide_spells : (op : Wide) (size : Size) (rm : Operand) → is_no_byte size ≡ true → is_rm rm ≡ true → Spells (spelling_of (with_number size (opcode_for size 0xF6) (wide_number op) rm [])) (insn.Wide op size rm)
unfolding group3
wide_spells wide.Mul size rm h ok = in_group3 4 size rm (insn.Wide wide.Mul size rm) (omega arith) (sized_taken 4 size h refl) refl (λ v. refl) ok
wide_spells wide.Imul size rm h ok = in_group3 5 size rm (insn.Wide wide.Imul size rm) (omega arith) (sized_taken 5 size h refl) refl (λ v. refl) ok
wide_spells wide.Div size rm h ok = in_group3 6 size rm (insn.Wide wide.Div size rm) (omega arith) (sized_taken 6 size h refl) refl (λ v. refl) ok
wide_spells wide.Idiv size rm h ok = in_group3 7 size rm (insn.Wide wide.Idiv size rm) (omega arith) (sized_taken 7 size h refl) refl (λ v. refl) ok

-- ---- shifts
shift_imm_pair : Pair (λ o. row.ShiftImm o)
shift_imm_pair = record { has = λ o. refl; allowed = λ o p rex. refl; no_lea = λ o. refl; no_byte_reg = refl; no_byte_rm = refl }

shift_one_pair : Pair (λ o. row.ShiftOne o)
shift_one_pair = record { has = λ o. refl; allowed = λ o p rex. refl; no_lea = λ o. refl; no_byte_reg = refl; no_byte_rm = refl }

shift_cl_pair : Pair (λ o. row.ShiftCl o)
shift_cl_pair = record { has = λ o. refl; allowed = λ o p rex. refl; no_lea = λ o. refl; no_byte_reg = refl; no_byte_rm = refl }

pub shift_by_cl : (s : Shift) (size : Size) (rm : Operand) → is_rm rm ≡ true → Spells (spelling_of (with_number size (opcode_for size 0xD2) (shift_number s) rm [])) (insn.Shift s size rm count.Cl)
shift_by_cl s size rm ok =
    let needed = needs_rex size rm in
    let c = opcode_for size 0xD2 in
    let n = shift_number s in
    let e = shift_cl_row size in
    let small : n < 16 = omega (arith, shift_small s) in
    by_fields (with_number size c n rm []) _ (number_fields (λ k. row.ShiftCl k) 0xD2 size n rm [] shift_cl_pair (shift_taken s) refl e (shift_small s) ok (no_immediate (row.ShiftCl (operands_for size)) size needed (n % 8) (λ p rex. refl)))
    (insn_means size needed None c [] (row.ShiftCl (operands_for size)) n rm e
    ∙ rw (field_means size needed None c [] n rm small ok, shift_back s, size_means size needed None c [] n rm small ok, rm_means size needed None c [] n rm small ok) refl)

shift_by_one : (s : Shift) (size : Size) (rm : Operand) → is_rm rm ≡ true → Spells (spelling_of (with_number size (opcode_for size 0xD0) (shift_number s) rm [])) (insn.Shift s size rm (count.Imm 1))
shift_by_one s size rm ok =
    let needed = needs_rex size rm in
    let c = opcode_for size 0xD0 in
    let n = shift_number s in
    let e = shift_one_row size in
    let small : n < 16 = omega (arith, shift_small s) in
    by_fields (with_number size c n rm []) _ (number_fields (λ k. row.ShiftOne k) 0xD0 size n rm [] shift_one_pair (shift_taken s) refl e (shift_small s) ok (no_immediate (row.ShiftOne (operands_for size)) size needed (n % 8) (λ p rex. refl)))
    (insn_means size needed None c [] (row.ShiftOne (operands_for size)) n rm e
    ∙ rw (field_means size needed None c [] n rm small ok, shift_back s, size_means size needed None c [] n rm small ok, rm_means size needed None c [] n rm small ok) refl)

shift_by : (s : Shift) (size : Size) (rm : Operand) (k : ℕ) → is_rm rm ≡ true → nat_lt k 256 ≡ true → Spells (spelling_of (with_number size (opcode_for size 0xC0) (shift_number s) rm (k ∷ []))) (insn.Shift s size rm (count.Imm k))
shift_by s size rm k ok fits =
    let needed = needs_rex size rm in
    let c = opcode_for size 0xC0 in
    let n = shift_number s in
    let bs = k ∷ [] in
    let e = shift_imm_row size in
    let small : n < 16 = omega (arith, shift_small s) in
    let f = with_number size c n rm bs in
    let only : unsigned_of (k ∷ []) ≡ k = omega arith in
    let value : unsigned_of f.immediate ≡ k = ap (λ v. unsigned_of v) (immediate_means size needed None c bs n rm) ∙ only in
    by_fields f _ (number_fields (λ o. row.ShiftImm o) 0xC0 size n rm bs shift_imm_pair (shift_taken s) refl e (shift_small s) ok (λ r x b hr hx hb. (refl, and_from _ _ fits refl)))
    (insn_means size needed None c bs (row.ShiftImm (operands_for size)) n rm e
    ∙ rw (field_means size needed None c bs n rm small ok, shift_back s, size_means size needed None c bs n rm small ok, rm_means size needed None c bs n rm small ok, value) refl)

pub shift_spells : (s : Shift) (size : Size) (rm : Operand) (k : ℕ) → is_rm rm ≡ true → nat_lt k 256 ≡ true
    → Spells (spelling_of (if k == 1 then with_number size (opcode_for size 0xD0) (shift_number s) rm [] else with_number size (opcode_for size 0xC0) (shift_number s) rm (k ∷ []))) (insn.Shift s size rm (count.Imm k))
shift_spells s size rm k ok fits =
    cond_both (k == 1) (with_number size (opcode_for size 0xD0) (shift_number s) rm []) (with_number size (opcode_for size 0xC0) (shift_number s) rm (k ∷ [])) (λ f. Spells (spelling_of f) (insn.Shift s size rm (count.Imm k)))
    (λ e. let is : 1 ≡ k = grind (arith, nat_tests, e) in subst (λ (n : ℕ). Spells (spelling_of (with_number size (opcode_for size 0xD0) (shift_number s) rm [])) (insn.Shift s size rm (count.Imm n))) is (shift_by_one s size rm ok))
    (λ e. shift_by s size rm k ok fits)
