-- What the flags of a sum, a difference and an XOR show.
use Rattle.std.proofs.Common.{◌≡◌, ◌≢◌, ℕ, ◌+◌, ◌-◌, ◌%◌, ◌^◌, ◌<◌, ◌≤◌, ◌↔◌, Bool, true, false, sym, ap, ◌∙◌, refl, subst, arith, ℤ, pos, ◌+ℤ◌, ◌-ℤ◌}
use Rattle.std.specs.Prelude.{length, Option, Some, nat_le, nat_lt, bit_xor, ◌==◌, slice_get}
use Rattle.std.specs.Int.{bit_at}
use Rattle.std.proofs.lemmas.Bool.{le-leb, leb-true, lt-ltb, ltb-true}
use Rattle.std.proofs.lemmas.Int.{ints}
use Rattle.std.proofs.lemmas.List.{length-set}
use Rattle.std.proofs.lemmas.Nat.{xor_lt}
use Rattle.std.proofs.lemmas.Nat.Bits.{same_from_bits, bit_at_xor, bit_at-lt, bit_at-zero}
use Rattle.jz_words.specs.declared.size.Size.TheVariants.{S64}
use Rattle.jz_words.specs.Sizes.{signed}
use Rattle.jz_words.proofs.Residues.{residue_small, difference_residue}
use Rattle.x64_insn.specs.declared.types.Reg.{Reg}
use Rattle.x64_insn.specs.declared.types.Operand.{Operand}
use Rattle.x64_insn.specs.declared.types.Operand.TheVariants as operand
use Rattle.x64_insn.specs.declared.types.Alu.{Alu}
use Rattle.x64_insn.specs.declared.types.Alu.TheVariants as alu
use Rattle.x64_insn.specs.declared.types.Flag.{Flag}
use Rattle.x64_insn.specs.declared.types.Flag.TheVariants.{Of, Cf, Sf, Pf, Zf}
use Rattle.x64_insn.specs.declared.types.FlagVal.{FlagVal}
use Rattle.x64_insn.specs.declared.types.FlagVal.TheVariants.{True, Undefined}
use Rattle.x64_insn.specs.declared.types.State.{State}
use Rattle.x64_insn.specs.Table.{number_of}
use Rattle.x64_insn.specs.Answers.{flag, overflows, flags_of, sum_answer, difference_answer, xor_answer, alu_answer}
use Rattle.x64_insn.specs.Rows.{reg_word, carry_read, writes_operand, flag_of}
use Rattle.x64_insn.specs.Laws.{IsWordOf, ShowsResult, ShowsSum, ShowsDifference, ShowsDifferentBits, Leaves}
use Rattle.x64_insn.specs.Products.{IsNoWord}
use Rattle.x64_insn.proofs.PlainRows.{answered, operation_step}
use Rattle.x64_insn.proofs.Quotients.{no_word}
use Rattle.x64_insn.proofs.Registers.{word_same}

-- a flag is set exactly where its test holds
is_set : (b : Bool) → (Some (flag b) ≡ Some True) ↔ (b ≡ true)
is_set true = (λ e. refl, λ e. refl)
is_set false = (λ e. cc, λ e. cc)

is_defined : (b : Bool) → Some (flag b) ≢ Some Undefined
is_defined true = λ e. cc
is_defined false = λ e. cc

iff_both : {A B C : Type 0} → A ↔ B → B ↔ C → A ↔ C
iff_both f g = (λ x. g.0 (f.0 x), λ z. f.1 (g.1 z))

at_least : (a b : ℕ) → (nat_le a b ≡ true) ↔ (a ≤ b)
at_least a b = (leb-true a b, le-leb a b)

is_zero : (a : ℕ) → ((a == 0) ≡ true) ↔ (a ≡ 0)
is_zero a = (λ e. grind arith, λ e. grind arith)

-- a signed number overflows exactly where no word stands for it
overflow_is : (z y : ℤ) → y ≡ z → (overflows S64 y ≡ true) ↔ IsNoWord S64 z
overflow_is z y same = subst (λ x. (overflows S64 y ≡ true) ↔ IsNoWord S64 x) same (no_word S64 y)

-- a flag of a state shows its test
shows : (x : Option FlagVal) (b : Bool) {A : Type 0} → x ≡ Some (flag b) → (b ≡ true) ↔ A → (x ≡ Some True) ↔ A
shows x b e test = rw e (iff_both (is_set b) test)

no_flag_undefined : (overflow carry : Bool) (r : ℕ) (st : State) → st.flags ≡ flags_of S64 overflow carry r → (f : Flag) → flag_of st f ≢ Some Undefined
unfolding flags_of
no_flag_undefined overflow carry r st e Of = rw e (is_defined _)
no_flag_undefined overflow carry r st e Cf = rw e (is_defined _)
no_flag_undefined overflow carry r st e Sf = rw e (is_defined _)
no_flag_undefined overflow carry r st e Pf = rw e (is_defined _)
no_flag_undefined overflow carry r st e Zf = rw e (is_defined _)

never_set : (false ≡ true) ↔ ⊥
never_set = (λ e. cc, λ h. absurd h)

-- a register that was set to a word, with the flags of this word
shown : (to : Reg) (st : State) (overflow carry : Bool) (r : ℕ) {Overflows Carries IsZero : Type 0} → (length st.regs ≡ 16 → reg_word st S64 to ≡ r) → st.flags ≡ flags_of S64 overflow carry r
    → (overflow ≡ true) ↔ Overflows → (carry ≡ true) ↔ Carries → (r ≡ 0) ↔ IsZero → ShowsResult to r Overflows Carries IsZero st
unfolding flags_of
shown to st overflow carry r value e f g z = record {
  value = value;
  overflow = shows _ _ (ap (λ fs. slice_get fs 0) e) f;
  carry = shows _ _ (ap (λ fs. slice_get fs 1) e) g;
  sign = shows _ _ (ap (λ fs. slice_get fs 2) e) (at_least (2 ^ 63) r);
  parity = shows _ _ (ap (λ fs. slice_get fs 3) e) (λ h. h, λ h. h);
  zero = shows _ _ (ap (λ fs. slice_get fs 4) e) (iff_both (is_zero r) z);
  defined = no_flag_undefined overflow carry r st e;
}

-- the word of an operand is below 2 ^ 64
word_fits : (st : State) (from : Operand) (b : ℕ) → IsWordOf st from b → b < 2 ^ 64
word_fits st (operand.Reg r) b h = omega (arith, h)
word_fits st (operand.Imm i) b h = subst (λ n. n < 2 ^ 64) h (residue_small i)
word_fits st (operand.Mem m) b h = absurd h

-- an operation with this answer
leaves : (operation : Alu) (Shows : Reg → ℕ → ℕ → State → Type 0) → ((st : State) → carry_read operation st ≡ Some false) → writes_operand operation ≡ true
    → ((to : Reg) (a b : ℕ) (st : State) → a < 2 ^ 64 → b < 2 ^ 64 → ((alu_answer operation S64 a b false).value < 2 ^ 64 → length st.regs ≡ 16 → reg_word st S64 to ≡ (alu_answer operation S64 a b false).value)
    → st.flags ≡ (alu_answer operation S64 a b false).flags → Shows to a b st)
    → Leaves operation Shows
leaves operation Shows carry writes show to from b next st m is =
    let r = alu_answer operation S64 (reg_word st S64 to) b false in (
      answered to r next st m,
      operation_step operation to from b next st m (carry st) writes is,
      show to (reg_word st S64 to) b (answered to r next st m).state (omega arith) (word_fits st from b is)
          (λ small size. word_same st.regs to r.value (sym (length-set st.regs (number_of to) r.value) ∙ size) small) refl,
    )

-- ---- ADD
carry_is : (a b : ℕ) → (nat_le (2 ^ 64) (a + b + 0) ≡ true) ↔ (2 ^ 64 ≤ a + b)
carry_is a b = (λ e. omega (arith, leb-true (2 ^ 64) (a + b + 0) e), λ h. le-leb (2 ^ 64) (a + b + 0) (omega arith))

sum_shows : (to : Reg) (a b : ℕ) (st : State) → a < 2 ^ 64 → b < 2 ^ 64 → ((sum_answer S64 a b false).value < 2 ^ 64 → length st.regs ≡ 16 → reg_word st S64 to ≡ (sum_answer S64 a b false).value)
    → st.flags ≡ (sum_answer S64 a b false).flags → ShowsSum to a b st
unfolding sum_answer
sum_shows to a b st h k value e =
    let plain : (a + b + 0) % 2 ^ 64 ≡ (a + b) % 2 ^ 64 = ap (λ x. x % 2 ^ 64) (omega arith) in
    let same : (signed S64 a +ℤ signed S64 b) +ℤ pos 0 ≡ signed S64 a +ℤ signed S64 b = omega (arith, ints) in
    subst (λ r. ShowsResult to r (IsNoWord S64 (signed S64 a +ℤ signed S64 b)) (2 ^ 64 ≤ a + b) ((a + b) % 2 ^ 64 ≡ 0) st) plain
    (shown to st _ _ ((a + b + 0) % 2 ^ 64) (value (omega arith)) e (overflow_is _ _ same) (carry_is a b) (λ z. sym plain ∙ z, λ z. plain ∙ z))

pub add_shows : Leaves alu.Add ShowsSum
add_shows = leaves alu.Add ShowsSum (λ st. refl) refl sum_shows

-- ---- SUB
borrow_is : (a b : ℕ) → (nat_lt a (b + 0) ≡ true) ↔ (a < b)
borrow_is a b = (λ e. omega (arith, ltb-true a (b + 0) e), λ h. lt-ltb a (b + 0) (omega arith))

-- the difference of two words is 0 where they are equal
no_difference : (a b : ℕ) → a < 2 ^ 64 → b < 2 ^ 64 → ((a + 2 ^ 64 - (b + 0)) % 2 ^ 64 ≡ 0) ↔ (a ≡ b)
no_difference a b h k = (λ e. omega (arith, h, k, e), λ e. omega (arith, h, k, e))

difference_shows : (to : Reg) (a b : ℕ) (st : State) → a < 2 ^ 64 → b < 2 ^ 64
    → ((difference_answer S64 a b false).value < 2 ^ 64 → length st.regs ≡ 16 → reg_word st S64 to ≡ (difference_answer S64 a b false).value)
    → st.flags ≡ (difference_answer S64 a b false).flags → ShowsDifference to a b st
unfolding difference_answer
difference_shows to a b st h k value e =
    let same : (signed S64 a -ℤ signed S64 b) -ℤ pos 0 ≡ signed S64 a -ℤ signed S64 b = omega (arith, ints) in
    subst (λ r. ShowsResult to r (IsNoWord S64 (signed S64 a -ℤ signed S64 b)) (a < b) (a ≡ b) st) (sym (difference_residue a b h k))
    (shown to st _ _ ((a + 2 ^ 64 - (b + 0)) % 2 ^ 64) (value (omega arith)) e (overflow_is _ _ same) (borrow_is a b) (no_difference a b h k))

pub sub_shows : Leaves alu.Sub ShowsDifference
sub_shows = leaves alu.Sub ShowsDifference (λ st. refl) refl difference_shows

-- ---- XOR
even_same : (x y : ℕ) → x < 2 → y < 2 → (x + y) % 2 ≡ 0 → x ≡ y
even_same x y h k e = omega (arith, h, k, e)

twice_even : (x : ℕ) → (x + x) % 2 ≡ 0
twice_even x = omega arith

-- no bit differs where both are equal
no_bit : (a b : ℕ) → (bit_xor a b ≡ 0) ↔ (a ≡ b)
no_bit a b = (
  (λ e. same_from_bits a b (λ i. even_same (bit_at a i) (bit_at b i) (bit_at-lt a i) (bit_at-lt b i) (sym (bit_at_xor a b i) ∙ ap (λ n. bit_at n i) e ∙ bit_at-zero i))),
  (λ e. subst (λ c. bit_xor a c ≡ 0) e (same_from_bits (bit_xor a a) 0 (λ i. bit_at_xor a a i ∙ twice_even (bit_at a i) ∙ sym (bit_at-zero i)))),
)

xor_shows_bits : (to : Reg) (a b : ℕ) (st : State) → a < 2 ^ 64 → b < 2 ^ 64 → ((xor_answer S64 a b).value < 2 ^ 64 → length st.regs ≡ 16 → reg_word st S64 to ≡ (xor_answer S64 a b).value)
    → st.flags ≡ (xor_answer S64 a b).flags → ShowsDifferentBits to a b st
unfolding xor_answer
xor_shows_bits to a b st h k value e = shown to st false false (bit_xor a b) (value (xor_lt 64 a b h k)) e never_set never_set (no_bit a b)

pub xor_shows : Leaves alu.Xor ShowsDifferentBits
xor_shows = leaves alu.Xor ShowsDifferentBits (λ st. refl) refl xor_shows_bits
