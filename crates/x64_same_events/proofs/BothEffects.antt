-- One instruction in two states: it shows as much, and goes on at the same place of the code where it
-- shows the same.
use Rattle.std.proofs.Common.{◌≡◌, ◌<◌, ℕ, ◌+◌, ◌-◌, ◌%◌, ◌^◌, Bool, true, false, List, Option, Some, None, refl, ap, ◌∙◌, arith, if◌then◌else◌}
use Rattle.std.specs.Prelude.{is_some, ℤ, pos, negsuc, ◌+ℤ◌, Result, Ok, Err}
use Rattle.std.proofs.lemmas.Int.{ints}
use Rattle.std.specs.Option.{option_or}
use Rattle.jz_words.specs.declared.size.Size.{Size}
use Rattle.jz_words.specs.declared.size.Size.TheVariants.{S8, S32, S64}
use Rattle.jz_words.specs.Words.{residue}
use Rattle.jz_words.specs.Memory.{Memory, loaded}
use Rattle.x64_insn.specs.declared.products.DoubleAnswer.{DoubleAnswer}
use Rattle.x64_insn.specs.declared.types.Alu.{Alu}
use Rattle.x64_insn.specs.declared.types.One.{One}
use Rattle.x64_insn.specs.declared.types.Wide.{Wide}
use Rattle.x64_insn.specs.declared.types.Wide.TheVariants as wide
use Rattle.x64_insn.specs.declared.types.Shift.{Shift}
use Rattle.x64_insn.specs.declared.types.Count.{Count}
use Rattle.x64_insn.specs.declared.types.Cond.{Cond}
use Rattle.x64_insn.specs.declared.types.Reg.{Reg}
use Rattle.x64_insn.specs.declared.types.Reg.TheVariants as reg
use Rattle.x64_insn.specs.declared.types.Mem.{Mem}
use Rattle.x64_insn.specs.declared.types.Operand.{Operand}
use Rattle.x64_insn.specs.declared.types.Operand.TheVariants as operand
use Rattle.x64_insn.specs.declared.types.FlagVal.{FlagVal}
use Rattle.x64_insn.specs.declared.types.Insn.{Insn}
use Rattle.x64_insn.specs.declared.types.Insn.TheVariants as insn
use Rattle.x64_insn.specs.declared.types.State.{State}
use Rattle.x64_insn.specs.declared.types.StepLeak.{StepLeak}
use Rattle.x64_insn.specs.declared.types.FaultKind.{FaultKind}
use Rattle.x64_insn.specs.declared.types.FaultKind.TheVariants.{BadAddress, Divide, UndefinedFlag}
use Rattle.x64_insn.specs.Products.{quotient_answer, signed_quotient_answer}
use Rattle.x64_insn.specs.Rows.{After, reg_value, reg_word, with_reg, address_event, holds, or_bad_address, or_undefined, or_divide, operand_value, accessed, access_event, access_events, finished, put_row, mov_row, extend_row, lea_row, bswap_row, sign_row, writes_operand, carry_read, alu_row, one_row, shift_row, imul_row, both_row, division_event, wide_word_row, wide_row, set_row, cmov_row, target_of, jcc_row, jmp_row, call_row, ret_row, effect_of}
use Rattle.x64_machine.specs.Steps.{is_ret}

-- as many events, of the same kinds
abbrev pub ShowsAsMuch : StepLeak → StepLeak → Type 0
ShowsAsMuch a b =
    (is_some a.branch ≡ is_some b.branch) × (is_some a.addr ≡ is_some b.addr) × (is_some a.div ≡ is_some b.div)

-- at one place of a code that stands at two
abbrev pub AtOnePlace : ℕ → ℕ → ℕ → ℕ → Type 0
AtOnePlace base other r q =
    (y : ℕ) × (y < 2 ^ 64) × (r ≡ (base + y) % 2 ^ 64) × (q ≡ (other + y) % 2 ^ 64)

-- both leave something, and show as much; and where they show the same branch this is so of where
-- they go on
abbrev pub BothLeave : (ℕ → ℕ → Type 0) → Result After FaultKind → Result After FaultKind → Type 0
BothLeave P (Ok a) (Ok b) = ShowsAsMuch a.leak b.leak × (a.leak.branch ≡ b.leak.branch → P a.state.rip b.state.rip)
BothLeave P (Ok a) (Err f) = Unit {0}
BothLeave P (Err e) (Ok b) = Unit {0}
BothLeave P (Err e) (Err f) = Unit {0}

module _ (P : ℕ → ℕ → Type 0) where
  one_fault : (r : Result After FaultKind) (f : FaultKind) → BothLeave P r (Err f)
  one_fault (Ok a) f = tt
  one_fault (Err e) f = tt

  fault_one : (f : FaultKind) (r : Result After FaultKind) → BothLeave P (Err f) r
  fault_one f (Ok a) = tt
  fault_one f (Err e) = tt

  bad : (o p : Option ℕ) (f g : ℕ → Result After FaultKind) → ((v w : ℕ) → BothLeave P (f v) (g w)) → BothLeave P (or_bad_address o f) (or_bad_address p g)
  bad None None f g h = tt
  bad None (Some w) f g h = fault_one BadAddress (g w)
  bad (Some v) None f g h = one_fault (f v) BadAddress
  bad (Some v) (Some w) f g h = h v w

  undefined : (o p : Option Bool) (f g : Bool → Result After FaultKind) → ((v w : Bool) → BothLeave P (f v) (g w)) → BothLeave P (or_undefined o f) (or_undefined p g)
  undefined None None f g h = tt
  undefined None (Some w) f g h = fault_one UndefinedFlag (g w)
  undefined (Some v) None f g h = one_fault (f v) UndefinedFlag
  undefined (Some v) (Some w) f g h = h v w

  divide : (o p : Option DoubleAnswer) (f g : DoubleAnswer → Result After FaultKind) → ((v w : DoubleAnswer) → BothLeave P (f v) (g w)) → BothLeave P (or_divide o f) (or_divide p g)
  divide None None f g h = tt
  divide None (Some w) f g h = fault_one Divide (g w)
  divide (Some v) None f g h = one_fault (f v) Divide
  divide (Some v) (Some w) f g h = h v w

  either_if : (c d : Bool) (x y : After) → BothLeave P (Ok x) (Ok y) → BothLeave P (if c then Ok x else Err BadAddress) (if d then Ok y else Err BadAddress)
  either_if true true x y h = h
  either_if true false x y h = tt
  either_if false true x y h = tt
  either_if false false x y h = tt

  module _ (next after : ℕ) (st su : State) (m k : Memory) (on : P next after) where
    put : (to : Operand) (s : Size) (v w : ℕ) (fs gs : List FlagVal) (l r : StepLeak) → ShowsAsMuch l r → (pu qu : State) (pm qm : Memory) → BothLeave P (put_row to s v next fs l pu pm) (put_row to s w after gs r qu qm)
    unfolding put_row
    put (operand.Reg x) s v w fs gs l r h pu qu pm qm = (h, λ e. on)
    put (operand.Imm i) s v w fs gs l r h pu qu pm qm = tt
    put (operand.Mem a) s v w fs gs l r h pu qu pm qm = either_if _ _ _ _ (h, λ e. on)

    one_shows : (o : Operand) → is_some (accessed o next st) ≡ is_some (accessed o after su)
    one_shows (operand.Reg r) = refl
    one_shows (operand.Imm i) = refl
    one_shows (operand.Mem a) = refl

    access : (o : Operand) → ShowsAsMuch (access_event o next st) (access_event o after su)
    access o = (refl, one_shows o, refl)

    or_shows : (a b c d : Option ℕ) → is_some a ≡ is_some c → is_some b ≡ is_some d → is_some (option_or a b) ≡ is_some (option_or c d)
    or_shows None b None d e f = f
    or_shows None b (Some w) d e f = absurd (cc e)
    or_shows (Some v) b None d e f = absurd (cc e)
    or_shows (Some v) b (Some w) d e f = refl

    accesses : (to from : Operand) → ShowsAsMuch (access_events to from next st) (access_events to from after su)
    accesses to from = (refl, or_shows (accessed to next st) (accessed from next st) (accessed to after su) (accessed from after su) (one_shows to) (one_shows from), refl)

    alu_so : (op : Alu) (s : Size) (to from : Operand) → BothLeave P (alu_row op s to from next st m) (alu_row op s to from after su k)
    unfolding alu_row
    alu_so op s to from =
        bad (operand_value to s next st m) (operand_value to s after su k) _ _ (λ v w.
        bad (operand_value from s next st m) (operand_value from s after su k) _ _ (λ x y.
        undefined (carry_read op st) (carry_read op su) _ _ (λ c d. by (writes_operand op) _ _ _ _)))
      where
        by : (q : Bool) (v w : ℕ) (fs gs : List FlagVal) → BothLeave P
            (if q then put_row to s v next fs (access_events to from next st) st m else finished st m next fs (access_events to from next st))
            (if q then put_row to s w after gs (access_events to from after su) su k else finished su k after gs (access_events to from after su))
        by true v w fs gs = put to s v w fs gs (access_events to from next st) (access_events to from after su) (accesses to from) st su m k
        by false v w fs gs = (accesses to from, λ e. on)

    mov_so : (s : Size) (to from : Operand) → BothLeave P (mov_row s to from next st m) (mov_row s to from after su k)
    unfolding mov_row
    mov_so s to from = bad (operand_value from s next st m) (operand_value from s after su k) _ _ (λ v w. put to s v w _ _ _ _ (accesses to from) st su m k)

    extend_so : (sign : Bool) (to from : Size) (r : Reg) (rm : Operand) → BothLeave P (extend_row sign to from r rm next st m) (extend_row sign to from r rm after su k)
    unfolding extend_row
    extend_so sign to from r rm = bad (operand_value rm from next st m) (operand_value rm from after su k) _ _ (λ v w. put (operand.Reg r) to _ _ _ _ _ _ (access rm) st su m k)

    lea_so : (r : Reg) (a : Mem) → BothLeave P (lea_row r a next st m) (lea_row r a after su k)
    unfolding lea_row
    lea_so r a = put (operand.Reg r) S64 _ _ _ _ _ _ (refl, refl, refl) st su m k

    bswap_so : (s : Size) (r : Reg) → BothLeave P (bswap_row s r next st m) (bswap_row s r after su k)
    unfolding bswap_row
    bswap_so s r = put (operand.Reg r) s _ _ _ _ _ _ (refl, refl, refl) st su m k

    sign_so : (s : Size) → BothLeave P (sign_row s next st m) (sign_row s after su k)
    unfolding sign_row
    sign_so s = put _ s _ _ _ _ _ _ (refl, refl, refl) st su m k

    one_so : (op : One) (s : Size) (rm : Operand) → BothLeave P (one_row op s rm next st m) (one_row op s rm after su k)
    unfolding one_row
    one_so op s rm = bad (operand_value rm s next st m) (operand_value rm s after su k) _ _ (λ v w. put rm s _ _ _ _ _ _ (access rm) st su m k)

    shift_so : (h : Shift) (s : Size) (rm : Operand) (n : Count) → BothLeave P (shift_row h s rm n next st m) (shift_row h s rm n after su k)
    unfolding shift_row
    shift_so h s rm n = bad (operand_value rm s next st m) (operand_value rm s after su k) _ _ (λ v w. put rm s _ _ _ _ _ _ (access rm) st su m k)

    imul_so : (s : Size) (r : Reg) (a b : ℕ) (rm : Operand) → BothLeave P (imul_row s r a rm next st m) (imul_row s r b rm after su k)
    unfolding imul_row
    imul_so s r a b rm = bad (operand_value rm s next st m) (operand_value rm s after su k) _ _ (λ v w. put (operand.Reg r) s _ _ _ _ _ _ (access rm) st su m k)

    words_so : (op : Wide) (s : Size) (rm : Operand) (v w : ℕ) → BothLeave P (wide_word_row op s rm v next st m) (wide_word_row op s rm w after su k)
    words_so wide.Mul s rm v w = (access rm, λ e. on)
    words_so wide.Imul s rm v w = (access rm, λ e. on)
    words_so wide.Div s rm v w =
        divide (quotient_answer s (reg_word st s reg.Rdx) (reg_word st s reg.Rax) v) (quotient_answer s (reg_word su s reg.Rdx) (reg_word su s reg.Rax) w)
        (λ x. both_row s x next (division_event rm (reg_word st s reg.Rdx) (reg_word st s reg.Rax) v next st) st m)
        (λ x. both_row s x after (division_event rm (reg_word su s reg.Rdx) (reg_word su s reg.Rax) w after su) su k)
        (λ x y. ((refl, one_shows rm, refl), λ e. on))
    words_so wide.Idiv s rm v w =
        divide (signed_quotient_answer s (reg_word st s reg.Rdx) (reg_word st s reg.Rax) v) (signed_quotient_answer s (reg_word su s reg.Rdx) (reg_word su s reg.Rax) w)
        (λ x. both_row s x next (division_event rm (reg_word st s reg.Rdx) (reg_word st s reg.Rax) v next st) st m)
        (λ x. both_row s x after (division_event rm (reg_word su s reg.Rdx) (reg_word su s reg.Rax) w after su) su k)
        (λ x y. ((refl, one_shows rm, refl), λ e. on))

    wide_so : (op : Wide) (s : Size) (rm : Operand) → BothLeave P (wide_row op s rm next st m) (wide_row op s rm after su k)
    unfolding wide_row
    wide_so op s rm = bad (operand_value rm s next st m) (operand_value rm s after su k) _ _ (λ v w. words_so op s rm v w)

    set_so : (c : Cond) (rm : Operand) → BothLeave P (set_row c rm next st m) (set_row c rm after su k)
    unfolding set_row
    set_so c rm = bad (operand_value rm S8 next st m) (operand_value rm S8 after su k) _ _ (λ v w. undefined (holds c st) (holds c su) _ _ (λ x y. put rm S8 _ _ _ _ _ _ (access rm) st su m k))

    cmov_so : (c : Cond) (s : Size) (r : Reg) (rm : Operand) → BothLeave P (cmov_row c s r rm next st m) (cmov_row c s r rm after su k)
    unfolding cmov_row
    cmov_so c s r rm = bad (operand_value rm s next st m) (operand_value rm s after su k) _ _ (λ v w. undefined (holds c st) (holds c su) _ _ (λ x y. put (operand.Reg r) s _ _ _ _ _ _ (access rm) st su m k))

    module _ (jumps : (d : ℤ) → P (target_of next d) (target_of after d)) where
      jump_if : (d : ℤ) (x y : Bool) → Some x ≡ Some y → P (if x then target_of next d else next) (if y then target_of after d else after)
      jump_if d true true e = jumps d
      jump_if d true false e = absurd (cc e)
      jump_if d false true e = absurd (cc e)
      jump_if d false false e = on

      jcc_so : (c : Cond) (d : ℤ) → BothLeave P (jcc_row c d next st m) (jcc_row c d after su k)
      unfolding jcc_row
      jcc_so c d = undefined (holds c st) (holds c su) _ _ (λ x y. ((refl, refl, refl), λ e. jump_if d x y e))

      jmp_so : (d : ℤ) → BothLeave P (jmp_row d next st m) (jmp_row d after su k)
      unfolding jmp_row
      jmp_so d = ((refl, refl, refl), λ e. jumps d)

      call_so : (d : ℤ) → BothLeave P (call_row d next st m) (call_row d after su k)
      unfolding call_row
      call_so d = either_if _ _ _ _ ((refl, refl, refl), λ e. jumps d)

      -- each instruction but RET
      pub effects : (i : Insn) → is_ret i ≡ false → BothLeave P (effect_of i next st m) (effect_of i after su k)
      effects (insn.Alu op s to from) e = alu_so op s to from
      effects (insn.Mov s to from) e = mov_so s to from
      effects (insn.Extend sign to from r rm) e = extend_so sign to from r rm
      effects (insn.Lea r a) e = lea_so r a
      effects (insn.One op s rm) e = one_so op s rm
      effects (insn.Wide op s rm) e = wide_so op s rm
      effects (insn.Imul s r rm) e = imul_so s r (reg_word st s r) (reg_word su s r) rm
      effects (insn.ImulBy s r rm i) e = imul_so s r (residue s i) (residue s i) rm
      effects (insn.Shift h s rm n) e = shift_so h s rm n
      effects (insn.Bswap s r) e = bswap_so s r
      effects insn.Cdq e = sign_so S32
      effects insn.Cqo e = sign_so S64
      effects (insn.Set c rm) e = set_so c rm
      effects (insn.Cmov c s r rm) e = cmov_so c s r rm
      effects (insn.Jcc c width d) e = jcc_so c d
      effects (insn.Jmp width d) e = jmp_so d
      effects (insn.Call d) e = call_so d
      effects insn.Ret e = absurd (cc e)

-- RET shows as much, wherever it goes
pub returns_show : (st su : State) (m k : Memory) → BothLeave (λ r q. Unit {0}) (ret_row st m) (ret_row su k)
unfolding ret_row
returns_show st su m k =
    bad (λ r q. Unit {0}) (loaded m (reg_value st reg.Rsp) 8) (loaded k (reg_value su reg.Rsp) 8)
    (λ target. Ok (record { state = record (with_reg st S64 reg.Rsp ((reg_value st reg.Rsp + 8) % 2 ^ 64)) { rip = target }; memory = m; leak = address_event (reg_value st reg.Rsp) }))
    (λ target. Ok (record { state = record (with_reg su S64 reg.Rsp ((reg_value su reg.Rsp + 8) % 2 ^ 64)) { rip = target }; memory = k; leak = address_event (reg_value su reg.Rsp) }))
    (λ v w. ((refl, refl, refl), λ e. tt))

-- ---- places of a code

shifted : (base y n : ℕ) → ((base + y) % 2 ^ 64 + n) % 2 ^ 64 ≡ (base + (y + n) % 2 ^ 64) % 2 ^ 64
shifted base y n = omega arith

small : (y : ℕ) → y % 2 ^ 64 < 2 ^ 64
small y = omega arith

-- the place of the next instruction
pub next_place : (base other r q n : ℕ) → AtOnePlace base other r q → AtOnePlace base other ((r + n) % 2 ^ 64) ((q + n) % 2 ^ 64)
next_place base other r q n h = (
  (h.0 + n) % 2 ^ 64,
  small (h.0 + n),
  ap (λ (x : ℕ). (x + n) % 2 ^ 64) h.2 ∙ shifted base h.0 n,
  ap (λ (x : ℕ). (x + n) % 2 ^ 64) h.3 ∙ shifted other h.0 n,
)

-- a displacement below 0
back : (r k : ℕ) (z : ℤ) → z ≡ pos r +ℤ negsuc k → residue S64 z ≡ (r + (2 ^ 64 - 1 - k % 2 ^ 64)) % 2 ^ 64
back r k (pos n) e = let m : n + k + 1 ≡ r = omega (arith, ints, e) in omega (arith, m)
back r k (negsuc n) e = let m : r + n ≡ k = omega (arith, ints, e) in omega (arith, m)

pub jump_place : (base other r q : ℕ) → AtOnePlace base other r q → (d : ℤ) → AtOnePlace base other (target_of r d) (target_of q d)
jump_place base other r q h (pos n) = next_place base other r q n h
jump_place base other r q h (negsuc n) =
    let p = next_place base other r q (2 ^ 64 - 1 - n % 2 ^ 64) h in
    (p.0, p.1, back r n (pos r +ℤ negsuc n) refl ∙ p.2, back q n (pos q +ℤ negsuc n) refl ∙ p.3)
