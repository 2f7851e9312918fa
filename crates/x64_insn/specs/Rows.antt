-- The instruction table: what each instruction does to state and memory, and what its step shows
-- (Intel SDM vol. 2, the page of each).
use Rattle.std.specs.Prelude.{◌≡◌, ℕ, ◌+◌, ◌-◌, ◌*◌, ◌/◌, ◌%◌, ◌^◌, Bool, true, false, not, ◌||◌, nat_lt, if◌then◌else◌, Option, Some, None, Result, Ok, Err, List, ℤ, pos, ◌+ℤ◌, ◌-ℤ◌, slice_index, slice_get, slice_set}
use Rattle.std.specs.Option.{option_or}
use Rattle.jz_words.specs.declared.size.Size.{Size}
use Rattle.jz_words.specs.declared.size.Size.TheVariants.{S8, S16, S32, S64}
use Rattle.jz_words.specs.Sizes.{bytes_of, half, modulus, signed}
use Rattle.jz_words.specs.Words.{carried, residue, swapped_of}
use Rattle.jz_words.specs.Memory.{Memory, loaded, all_valid, stored}
use Rattle.x64_insn.specs.declared.products.DoubleAnswer.{DoubleAnswer}
use Rattle.x64_insn.specs.declared.types.Reg.{Reg}
use Rattle.x64_insn.specs.declared.types.Reg.TheVariants as reg
use Rattle.x64_insn.specs.declared.types.Base.{Base}
use Rattle.x64_insn.specs.declared.types.Base.TheVariants as base
use Rattle.x64_insn.specs.declared.types.Mem.{Mem}
use Rattle.x64_insn.specs.declared.types.Flag.{Flag}
use Rattle.x64_insn.specs.declared.types.Flag.TheVariants.{Of, Cf, Sf, Pf, Zf}
use Rattle.x64_insn.specs.declared.types.FlagVal.{FlagVal}
use Rattle.x64_insn.specs.declared.types.FlagVal.TheVariants.{True, False, Undefined}
use Rattle.x64_insn.specs.declared.types.Cond.{Cond}
use Rattle.x64_insn.specs.declared.types.Cond.TheVariants as cond
use Rattle.x64_insn.specs.declared.types.Operand.{Operand}
use Rattle.x64_insn.specs.declared.types.Operand.TheVariants as operand
use Rattle.x64_insn.specs.declared.types.Alu.{Alu}
use Rattle.x64_insn.specs.declared.types.Alu.TheVariants as alu
use Rattle.x64_insn.specs.declared.types.One.{One}
use Rattle.x64_insn.specs.declared.types.Wide.{Wide}
use Rattle.x64_insn.specs.declared.types.Wide.TheVariants as wide
use Rattle.x64_insn.specs.declared.types.Shift.{Shift}
use Rattle.x64_insn.specs.declared.types.Count.{Count}
use Rattle.x64_insn.specs.declared.types.Count.TheVariants as count
use Rattle.x64_insn.specs.declared.types.Insn.{Insn}
use Rattle.x64_insn.specs.declared.types.Insn.TheVariants as insn
use Rattle.x64_insn.specs.declared.types.State.{State}
use Rattle.x64_insn.specs.declared.types.StepLeak.{StepLeak}
use Rattle.x64_insn.specs.declared.types.FaultKind.{FaultKind}
use Rattle.x64_insn.specs.declared.types.FaultKind.TheVariants.{NoInsn, BadAddress, Divide, UndefinedFlag}
use Rattle.x64_insn.specs.Table.{number_of}
use Rattle.x64_insn.specs.Answers.{alu_answer, one_answer}
use Rattle.x64_insn.specs.Products.{product_answer, signed_product_answer, low_product_answer, quotient_answer, signed_quotient_answer}
use Rattle.x64_insn.specs.Shifts.{differ, masked, shift_answer}

-- what an instruction leaves, and what its step shows
pub record After : Type 0 where
  pub state : State
  pub memory : Memory
  pub leak : StepLeak

-- the place of a flag in a state
abbrev pub place_of : Flag → ℕ
place_of Of = 0
place_of Cf = 1
place_of Sf = 2
place_of Pf = 3
place_of Zf = 4

abbrev pub flag_of : State → Flag → Option FlagVal
flag_of st f = slice_get st.flags (place_of f)

-- a register's 64 bits: a state has the registers in the order of their numbers
abbrev pub reg_value : State → Reg → ℕ
reg_value st r = slice_index st.regs (number_of r)

-- a register's lowest bits
abbrev pub reg_word : State → Size → Reg → ℕ
reg_word st s r = reg_value st r % modulus s

-- a register after a write of a size: 32 bits clear the upper half, 8 and 16 bits keep the rest
abbrev pub merged : Size → ℕ → ℕ → ℕ
merged S8 old v = old / 2 ^ 8 * 2 ^ 8 + v
merged S16 old v = old / 2 ^ 16 * 2 ^ 16 + v
merged S32 old v = v
merged S64 old v = v

abbrev pub with_reg : State → Size → Reg → ℕ → State
with_reg st s r v =
    record st { regs = slice_set st.regs (number_of r) (merged s (reg_value st r) v) }

-- ---- flags that are read
-- a flag that is defined
abbrev pub known : Option FlagVal → Option Bool
known None = None
known (Some True) = Some true
known (Some False) = Some false
known (Some Undefined) = None

-- what a test says of one flag, and of two, each of which has to be defined whatever the other says
abbrev pub of_one : (Bool → Bool) → Option Bool → Option Bool
of_one f None = None
of_one f (Some a) = Some (f a)

abbrev pub of_both : (Bool → Bool → Bool) → Option Bool → Option Bool → Option Bool
of_both f None b = None
of_both f (Some a) None = None
of_both f (Some a) (Some b) = Some (f a b)

-- SF differs from OF: a signed comparison says less
abbrev pub is_less : State → Option Bool
is_less st = of_both differ (known (flag_of st Sf)) (known (flag_of st Of))

-- CF or ZF: an unsigned comparison says at most
abbrev pub is_at_most : State → Option Bool
is_at_most st = of_both (λ a b. a || b) (known (flag_of st Cf)) (known (flag_of st Zf))

-- ZF, or SF differs from OF: a signed comparison says at most
abbrev pub is_less_or_equal : State → Option Bool
is_less_or_equal st = of_both (λ a b. a || b) (known (flag_of st Zf)) (is_less st)

-- whether a condition holds, where its flags are defined (SDM vol. 2, appendix B.1.4.7)
unfoldable pub holds : Cond → State → Option Bool
holds cond.O st = known (flag_of st Of)
holds cond.No st = of_one not (known (flag_of st Of))
holds cond.B st = known (flag_of st Cf)
holds cond.Ae st = of_one not (known (flag_of st Cf))
holds cond.E st = known (flag_of st Zf)
holds cond.Ne st = of_one not (known (flag_of st Zf))
holds cond.Be st = is_at_most st
holds cond.A st = of_one not (is_at_most st)
holds cond.S st = known (flag_of st Sf)
holds cond.Ns st = of_one not (known (flag_of st Sf))
holds cond.P st = known (flag_of st Pf)
holds cond.Np st = of_one not (known (flag_of st Pf))
holds cond.L st = is_less st
holds cond.Ge st = of_one not (is_less st)
holds cond.Le st = is_less_or_equal st
holds cond.G st = of_one not (is_less_or_equal st)

-- ---- what a step shows
-- nothing
abbrev pub no_event : StepLeak
no_event = record { branch = None; addr = None; div = None }

-- the address of a memory access
abbrev pub address_event : ℕ → StepLeak
address_event a = record { branch = None; addr = Some a; div = None }

-- ---- faults
-- where the bytes of an access are not all valid
abbrev pub or_bad_address : Option ℕ → (ℕ → Result After FaultKind) → Result After FaultKind
or_bad_address None f = Err BadAddress
or_bad_address (Some v) f = f v

-- where a flag that is read is undefined
abbrev pub or_undefined : Option Bool → (Bool → Result After FaultKind) → Result After FaultKind
or_undefined None f = Err UndefinedFlag
or_undefined (Some b) f = f b

-- where a divisor is 0, or no word holds a quotient
abbrev pub or_divide :
    Option DoubleAnswer → (DoubleAnswer → Result After FaultKind) → Result After FaultKind
or_divide None f = Err Divide
or_divide (Some r) f = f r

-- ---- operands
abbrev pub base_value : State → ℕ → Base → ℕ
base_value st next base.Absent = 0
base_value st next (base.Reg r) = reg_value st r
base_value st next base.Rip = next

abbrev pub index_value : State → Option (Reg × ℕ) → ℕ
index_value st None = 0
index_value st (Some i) = i.1 * reg_value st i.0

-- an address: base, scaled index and displacement, modulo 2 ^ 64 (SDM vol. 1, 3.7.5); RIP is the
-- address of the next instruction (vol. 2, 2.2.1.6)
unfoldable pub address_of : State → ℕ → Mem → ℕ
address_of st next m =
    residue S64 (pos (base_value st next m.base + index_value st m.index) +ℤ m.disp)

-- the word of an operand, where its bytes are valid
unfoldable pub operand_value : Operand → Size → ℕ → State → Memory → Option ℕ
operand_value (operand.Reg r) s next st m = Some (reg_word st s r)
operand_value (operand.Imm i) s next st m = Some (residue s i)
operand_value (operand.Mem a) s next st m = loaded m (address_of st next a) (bytes_of s)

-- the address that an operand accesses
abbrev pub accessed : Operand → ℕ → State → Option ℕ
accessed (operand.Reg r) next st = None
accessed (operand.Imm i) next st = None
accessed (operand.Mem a) next st = Some (address_of st next a)

-- what the accesses of one operand show, and of two, of which at most one is in memory
abbrev pub access_event : Operand → ℕ → State → StepLeak
access_event o next st = record { branch = None; addr = accessed o next st; div = None }

abbrev pub access_events : Operand → Operand → ℕ → State → StepLeak
access_events to from next st = record {
  branch = None;
  addr = option_or (accessed to next st) (accessed from next st);
  div = None;
}

-- ---- what every row ends with
-- rip, flags and what the step shows
abbrev pub finished : State → Memory → ℕ → List FlagVal → StepLeak → Result After FaultKind
finished st m next flags leak =
    Ok (record { state = record st { rip = next; flags = flags }; memory = m; leak = leak })

-- a word is written to an operand before; an immediate is no place to write to
unfoldable pub put_row :
    Operand → Size → ℕ → ℕ → List FlagVal → StepLeak → State → Memory → Result After FaultKind
put_row (operand.Reg r) s v next flags leak st m = finished (with_reg st s r v) m next flags leak
put_row (operand.Imm i) s v next flags leak st m = Err NoInsn
put_row (operand.Mem a) s v next flags leak st m =
    if all_valid m (address_of st next a) (bytes_of s)
    then finished st (stored m (address_of st next a) (bytes_of s) v) next flags leak
    else Err BadAddress

-- ---- moves and extensions
-- MOV: the flags stay
unfoldable pub mov_row : Size → Operand → Operand → ℕ → State → Memory → Result After FaultKind
mov_row s to from next st m =
    or_bad_address (operand_value from s next st m)
    (λ v. put_row to s v next st.flags (access_events to from next st) st m)

-- a word of one size as one of another: with its sign, or with zeros before it
abbrev pub extended : Bool → Size → Size → ℕ → ℕ
extended false to from v = v % modulus to
extended true to from v = residue to (signed from v)

-- MOVZX, MOVSX and MOVSXD
unfoldable pub extend_row :
    Bool → Size → Size → Reg → Operand → ℕ → State → Memory → Result After FaultKind
extend_row sign to from r rm next st m =
    or_bad_address (operand_value rm from next st m) (λ v.
    put_row (operand.Reg r) to (extended sign to from v)
    next st.flags (access_event rm next st) st m)

-- LEA: the address, and no access
unfoldable pub lea_row : Reg → Mem → ℕ → State → Memory → Result After FaultKind
lea_row r a next st m =
    put_row (operand.Reg r) S64 (address_of st next a) next st.flags no_event st m

-- BSWAP
unfoldable pub bswap_row : Size → Reg → ℕ → State → Memory → Result After FaultKind
bswap_row s r next st m =
    put_row (operand.Reg r) s (swapped_of s (reg_word st s r)) next st.flags no_event st m

-- CDQ and CQO: each bit of RDX is the highest of RAX
unfoldable pub sign_row : Size → ℕ → State → Memory → Result After FaultKind
sign_row s next st m =
    put_row (operand.Reg reg.Rdx) s
    (if nat_lt (reg_word st s reg.Rax) (half s) then 0 else modulus s - 1)
    next st.flags no_event st m

-- ---- operations
-- ADC and SBB read CF
abbrev pub carry_read : Alu → State → Option Bool
carry_read alu.Adc st = known (flag_of st Cf)
carry_read alu.Sbb st = known (flag_of st Cf)
carry_read other st = Some false

-- CMP and TEST write flags alone
abbrev pub writes_operand : Alu → Bool
writes_operand alu.Cmp = false
writes_operand alu.Test = false
writes_operand other = true

unfoldable pub alu_row :
    Alu → Size → Operand → Operand → ℕ → State → Memory → Result After FaultKind
alu_row op s to from next st m =
    or_bad_address (operand_value to s next st m) (λ a.
    or_bad_address (operand_value from s next st m) (λ b.
    or_undefined (carry_read op st) (λ c.
    let r = alu_answer op s a b c in
    if writes_operand op then put_row to s r.value next r.flags (access_events to from next st) st m
    else finished st m next r.flags (access_events to from next st))))

-- NOT, NEG, INC and DEC
unfoldable pub one_row : One → Size → Operand → ℕ → State → Memory → Result After FaultKind
one_row op s rm next st m =
    or_bad_address (operand_value rm s next st m) (λ a.
    let r = one_answer op s a st.flags in
    put_row rm s r.value next r.flags (access_event rm next st) st m)

-- how far a shift goes
abbrev pub count_value : Count → State → ℕ
count_value (count.Imm n) st = n
count_value count.Cl st = reg_word st S8 reg.Rcx

-- ROL, ROR, SHL, SHR and SAR, which access their operand whatever the count
unfoldable pub shift_row :
    Shift → Size → Operand → Count → ℕ → State → Memory → Result After FaultKind
shift_row kind s rm n next st m =
    or_bad_address (operand_value rm s next st m) (λ a.
    let r = shift_answer kind s a (masked s (count_value n st)) st.flags in
    put_row rm s r.value next r.flags (access_event rm next st) st m)

-- ---- products and quotients
-- IMUL with two operands, and with an immediate: the low word of the product
unfoldable pub imul_row : Size → Reg → ℕ → Operand → ℕ → State → Memory → Result After FaultKind
imul_row s r a rm next st m =
    or_bad_address (operand_value rm s next st m) (λ b.
    let p = low_product_answer s a b in
    put_row (operand.Reg r) s p.value next p.flags (access_event rm next st) st m)

-- the low word to RAX, the high word to RDX
abbrev pub with_both : State → Size → DoubleAnswer → State
with_both st s r = with_reg (with_reg st s reg.Rax r.low) s reg.Rdx r.high

abbrev pub both_row : Size → DoubleAnswer → ℕ → StepLeak → State → Memory → Result After FaultKind
both_row s r next leak st m = finished (with_both st s r) m next r.flags leak

-- a division shows high word, low word and divisor
abbrev pub division_event : Operand → ℕ → ℕ → ℕ → ℕ → State → StepLeak
division_event rm high low d next st = record {
  branch = None;
  addr = accessed rm next st;
  div = Some (high, low, d);
}

-- MUL, IMUL, DIV and IDIV of RDX and RAX by a word
abbrev pub wide_word_row : Wide → Size → Operand → ℕ → ℕ → State → Memory → Result After FaultKind
wide_word_row wide.Mul s rm b next st m =
    both_row s (product_answer s (reg_word st s reg.Rax) b) next (access_event rm next st) st m
wide_word_row wide.Imul s rm b next st m =
    both_row s (signed_product_answer s (reg_word st s reg.Rax) b)
    next (access_event rm next st) st m
wide_word_row wide.Div s rm b next st m =
    let high = reg_word st s reg.Rdx in
    let low = reg_word st s reg.Rax in
    or_divide (quotient_answer s high low b) (λ r.
    both_row s r next (division_event rm high low b next st) st m)
wide_word_row wide.Idiv s rm b next st m =
    let high = reg_word st s reg.Rdx in
    let low = reg_word st s reg.Rax in
    or_divide (signed_quotient_answer s high low b) (λ r.
    both_row s r next (division_event rm high low b next st) st m)

unfoldable pub wide_row : Wide → Size → Operand → ℕ → State → Memory → Result After FaultKind
wide_row op s rm next st m =
    or_bad_address (operand_value rm s next st m) (λ b. wide_word_row op s rm b next st m)

-- ---- conditions (SDM vol. 2, appendix B.1.4.7)
-- SETcc, whose bytes have to be valid before the condition is read
unfoldable pub set_row : Cond → Operand → ℕ → State → Memory → Result After FaultKind
set_row c rm next st m =
    or_bad_address (operand_value rm S8 next st m) (λ old.
    or_undefined (holds c st) (λ b.
    put_row rm S8 (carried b) next st.flags (access_event rm next st) st m))

-- CMOVcc, which reads its operand whatever the condition, and writes the register, with its own
-- word where the condition does not hold
unfoldable pub cmov_row : Cond → Size → Reg → Operand → ℕ → State → Memory → Result After FaultKind
cmov_row c s r rm next st m =
    or_bad_address (operand_value rm s next st m) (λ v.
    or_undefined (holds c st) (λ b.
    put_row (operand.Reg r) s (if b then v else reg_word st s r)
    next st.flags (access_event rm next st) st m))

-- ---- jumps
-- the place that a displacement names, counted from the next instruction
abbrev pub target_of : ℕ → ℤ → ℕ
target_of next disp = residue S64 (pos next +ℤ disp)

unfoldable pub jcc_row : Cond → ℤ → ℕ → State → Memory → Result After FaultKind
jcc_row c disp next st m =
    or_undefined (holds c st) (λ b.
    finished st m (if b then target_of next disp else next) st.flags
    (record { branch = Some b; addr = None; div = None }))

unfoldable pub jmp_row : ℤ → ℕ → State → Memory → Result After FaultKind
jmp_row disp next st m = finished st m (target_of next disp) st.flags no_event

-- CALL: the address of the next instruction goes on the stack
unfoldable pub call_row : ℤ → ℕ → State → Memory → Result After FaultKind
call_row disp next st m =
    let slot = residue S64 (pos (reg_value st reg.Rsp) -ℤ pos 8) in
    if all_valid m slot 8
    then finished (with_reg st S64 reg.Rsp slot) (stored m slot 8 next)
    (target_of next disp) st.flags (address_event slot)
    else Err BadAddress

-- RET: the address on the stack is taken off it
unfoldable pub ret_row : State → Memory → Result After FaultKind
ret_row st m =
    let rsp = reg_value st reg.Rsp in
    or_bad_address (loaded m rsp 8) (λ target.
    let after = with_reg st S64 reg.Rsp ((rsp + 8) % 2 ^ 64) in
    Ok (record { state = record after { rip = target }; memory = m; leak = address_event rsp }))

-- what an instruction does, next being the address of the one behind it
abbrev pub effect_of : Insn → ℕ → State → Memory → Result After FaultKind
effect_of (insn.Alu op s to from) next st m = alu_row op s to from next st m
effect_of (insn.Mov s to from) next st m = mov_row s to from next st m
effect_of (insn.Extend sign to from r rm) next st m = extend_row sign to from r rm next st m
effect_of (insn.Lea r a) next st m = lea_row r a next st m
effect_of (insn.One op s rm) next st m = one_row op s rm next st m
effect_of (insn.Wide op s rm) next st m = wide_row op s rm next st m
effect_of (insn.Imul s r rm) next st m = imul_row s r (reg_word st s r) rm next st m
effect_of (insn.ImulBy s r rm i) next st m = imul_row s r (residue s i) rm next st m
effect_of (insn.Shift kind s rm n) next st m = shift_row kind s rm n next st m
effect_of (insn.Bswap s r) next st m = bswap_row s r next st m
effect_of insn.Cdq next st m = sign_row S32 next st m
effect_of insn.Cqo next st m = sign_row S64 next st m
effect_of (insn.Set c rm) next st m = set_row c rm next st m
effect_of (insn.Cmov c s r rm) next st m = cmov_row c s r rm next st m
effect_of (insn.Jcc c width disp) next st m = jcc_row c disp next st m
effect_of (insn.Jmp width disp) next st m = jmp_row disp next st m
effect_of (insn.Call disp) next st m = call_row disp next st m
effect_of insn.Ret next st m = ret_row st m

-- what a call answers and leaves
abbrev pub leak_after : Result After FaultKind → Result StepLeak FaultKind
leak_after (Ok a) = Ok a.leak
leak_after (Err e) = Err e

abbrev pub state_after : Result After FaultKind → State → State
state_after (Ok a) st = a.state
state_after (Err e) st = st

abbrev pub memory_after : Result After FaultKind → Memory → Memory
memory_after (Ok a) m = a.memory
memory_after (Err e) m = m

-- what a call did, a fault changing nothing
pub record Did
    (is : Result After FaultKind) (result : Result StepLeak FaultKind)
    (old new : State) (before now : Memory) : Type 0 where
  pub answer : result ≡ leak_after is
  pub state : new ≡ state_after is old
  pub memory : now ≡ memory_after is before

-- a call did what a row says of the state and the memory that it found
abbrev pub Does :
    (State → Memory → Result After FaultKind) → Result StepLeak FaultKind
    → State → State → Memory → Memory → Type 0
Does row result old new before now = Did (row old before) result old new before now
