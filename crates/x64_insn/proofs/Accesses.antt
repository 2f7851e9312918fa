-- The bytes that an instruction accesses, and the fault of one that is not valid.
use Rattle.std.proofs.Common.{◌≡◌, ℕ, zero, suc, ◌+◌, ◌*◌, ◌%◌, ◌^◌, ◌<◌, ◌↔◌, ◌⊎◌, inl, inr, Bool, true, false, List, [], ◌∷◌, ◌++◌, sym, ap, ◌∙◌, refl, arith, ℤ, pos, ◌-ℤ◌}
use Rattle.std.specs.Prelude.{Option, Some, None, Result, Ok, Err, is_some, ◌&&◌, if◌then◌else◌}
use Rattle.std.specs.Option.{option_and_then}
use Rattle.std.specs.FinMap.{get}
use Rattle.jz_words.specs.declared.size.Size.{Size}
use Rattle.jz_words.specs.declared.size.Size.TheVariants.{S8, S64}
use Rattle.jz_words.specs.Sizes.{bytes_of}
use Rattle.jz_words.specs.Words.{carried, residue}
use Rattle.jz_words.specs.Memory.{Memory, loaded, all_valid}
use Rattle.jz_words.proofs.Residues.{residue_small}
use Rattle.x64_insn.specs.declared.products.DoubleAnswer.{DoubleAnswer}
use Rattle.x64_insn.specs.declared.types.Reg.{Reg}
use Rattle.x64_insn.specs.declared.types.Reg.TheVariants as reg
use Rattle.x64_insn.specs.declared.types.Mem.{Mem}
use Rattle.x64_insn.specs.declared.types.Operand.{Operand}
use Rattle.x64_insn.specs.declared.types.Operand.TheVariants as operand
use Rattle.x64_insn.specs.declared.types.Alu.{Alu}
use Rattle.x64_insn.specs.declared.types.One.{One}
use Rattle.x64_insn.specs.declared.types.Shift.{Shift}
use Rattle.x64_insn.specs.declared.types.Count.{Count}
use Rattle.x64_insn.specs.declared.types.Cond.{Cond}
use Rattle.x64_insn.specs.declared.types.Wide.{Wide}
use Rattle.x64_insn.specs.declared.types.Wide.TheVariants as wide
use Rattle.x64_insn.specs.declared.types.Insn.{Insn}
use Rattle.x64_insn.specs.declared.types.Insn.TheVariants as insn
use Rattle.x64_insn.specs.declared.types.FlagVal.{FlagVal}
use Rattle.x64_insn.specs.declared.types.State.{State}
use Rattle.x64_insn.specs.declared.types.StepLeak.{StepLeak}
use Rattle.x64_insn.specs.declared.types.FaultKind.{FaultKind}
use Rattle.x64_insn.specs.declared.types.FaultKind.TheVariants.{BadAddress}
use Rattle.x64_insn.specs.Answers.{alu_answer}
use Rattle.x64_insn.specs.Rows.{After, effect_of, reg_value, reg_word, address_of, operand_value, or_bad_address, or_undefined, or_divide, put_row, finished, holds, carry_read, access_event, access_events, alu_row, mov_row, extend_row, lea_row, one_row, wide_row, wide_word_row, imul_row, shift_row, bswap_row, sign_row, set_row, cmov_row, jcc_row, jmp_row, call_row, ret_row, writes_operand}
use Rattle.x64_insn.specs.Laws.{HasInvalidByte, HasInvalidAccess, bytes_at, accessed_bytes}

-- the next place, counted from the address behind
next_place : (a k : ℕ) → (((a + 1) % 2 ^ 64) + k) % 2 ^ 64 ≡ (a + suc k) % 2 ^ 64
next_place a k = omega arith

first_place : (a : ℕ) → a < 2 ^ 64 → (a + 0) % 2 ^ 64 ≡ a
first_place a fits = omega arith

-- no load over a byte that is not valid
no_low : (o : Option ℕ) (f : ℕ → Option ℕ) → o ≡ None → option_and_then f o ≡ None
no_low None f e = refl
no_low (Some b) f e = cc

no_high : (o high : Option ℕ) → high ≡ None → option_and_then (λ b. option_and_then (λ h. Some (b + 256 * h)) high) o ≡ None
no_high None high e = refl
no_high (Some b) None e = refl
no_high (Some b) (Some h) e = cc

no_load : (m : Memory) (a n : ℕ) → a < 2 ^ 64 → (k : ℕ) → k < n → get m ((a + k) % 2 ^ 64) ≡ None → loaded m a n ≡ None
unfolding loaded
no_load m a zero fits k within gone = absurd (omega arith)
no_load m a (suc n) fits zero within gone = no_low (get m a) _ (ap (get m) (sym (first_place a fits)) ∙ gone)
no_load m a (suc n) fits (suc k) within gone =
    no_high (get m a) (loaded m ((a + 1) % 2 ^ 64) n) (no_load m ((a + 1) % 2 ^ 64) n (omega arith) k (omega arith) (ap (get m) (next_place a k) ∙ gone))

-- which part of a load is missing
missing : (o high : Option ℕ) → option_and_then (λ b. option_and_then (λ h. Some (b + 256 * h)) high) o ≡ None → (o ≡ None) ⊎ (high ≡ None)
missing None high e = inl refl
missing (Some b) None e = inr refl
missing (Some b) (Some h) e = cc

invalid_byte : (m : Memory) (a n : ℕ) → a < 2 ^ 64 → loaded m a n ≡ None → HasInvalidByte m a n
unfolding loaded
invalid_byte m a zero fits e = cc
invalid_byte m a (suc n) fits e = elim (missing (get m a) (loaded m ((a + 1) % 2 ^ 64) n) e) [
  | inl gone ↦ (zero, omega arith, ap (get m) (first_place a fits) ∙ gone)
  | inr gone ↦ let h = invalid_byte m ((a + 1) % 2 ^ 64) n (omega arith) gone in
      let k = h.0 in
      let below : k < n = h.1 in
      (suc k, omega arith, ap (get m) (sym (next_place a k)) ∙ h.2)
]

-- all bytes are valid where they can be read
both_some : (o high : Option ℕ) → is_some (option_and_then (λ b. option_and_then (λ h. Some (b + 256 * h)) high) o) ≡ (is_some o && is_some high)
both_some None high = refl
both_some (Some b) None = refl
both_some (Some b) (Some h) = refl

valid_is_readable : (m : Memory) (a n : ℕ) → all_valid m a n ≡ is_some (loaded m a n)
unfolding all_valid loaded
valid_is_readable m a zero = refl
valid_is_readable m a (suc n) = ap (λ v. is_some (get m a) && v) (valid_is_readable m ((a + 1) % 2 ^ 64) n) ∙ sym (both_some (get m a) (loaded m ((a + 1) % 2 ^ 64) n))

is_some_or_none : (o : Option ℕ) → is_some o ≡ false → o ≡ None
is_some_or_none None e = refl
is_some_or_none (Some v) e = cc

-- ---- words that are written
not_taken : (b : Bool) (x : After) → (if b then Ok x else Err BadAddress) ≡ Err BadAddress → b ≡ false
not_taken true x e = cc
not_taken false x e = refl

if_valid : (m : Memory) (a n : ℕ) (x : After) → ((if all_valid m a n then Ok x else Err BadAddress) ≡ Err BadAddress) ↔ (loaded m a n ≡ None)
if_valid m a n x = (
  (λ e. is_some_or_none (loaded m a n) (sym (valid_is_readable m a n) ∙ not_taken (all_valid m a n) x e)),
  (λ e. let none : all_valid m a n ≡ false = valid_is_readable m a n ∙ ap is_some e in rw none refl),
)

put_bad : (to : Operand) (s : Size) (v next : ℕ) (flags : List FlagVal) (leak : StepLeak) (st : State) (m : Memory) → (put_row to s v next flags leak st m ≡ Err BadAddress) ↔ (operand_value to s next st m ≡ None)
unfolding put_row operand_value
put_bad (operand.Reg r) s v next flags leak st m = (λ e. cc, λ e. cc)
put_bad (operand.Imm i) s v next flags leak st m = (λ e. cc, λ e. cc)
put_bad (operand.Mem a) s v next flags leak st m = if_valid m (address_of st next a) (bytes_of s) _

never_bad : (r : Reg) (s : Size) (v next : ℕ) (flags : List FlagVal) (leak : StepLeak) (st : State) (m : Memory) {P : Type 0} → put_row (operand.Reg r) s v next flags leak st m ≡ Err BadAddress → P
unfolding put_row
never_bad r s v next flags leak st m e = cc

-- ---- words that are read
read_first : (o : Option ℕ) (f : ℕ → Result After FaultKind) → ((v : ℕ) → f v ≡ Err BadAddress → o ≡ None) → (or_bad_address o f ≡ Err BadAddress) ↔ (o ≡ None)
read_first None f h = (λ e. refl, λ e. refl)
read_first (Some v) f h = (λ e. h v e, λ e. cc)

read_both : (o p : Option ℕ) (f : ℕ → ℕ → Result After FaultKind) → ((a b : ℕ) → f a b ≡ Err BadAddress → o ≡ None)
    → (or_bad_address o (λ a. or_bad_address p (f a)) ≡ Err BadAddress) ↔ ((o ≡ None) ⊎ (p ≡ None))
read_both None p f h = (λ e. inl refl, λ e. refl)
read_both (Some a) None f h = (λ e. inr refl, λ e. refl)
read_both (Some a) (Some b) f h = (λ e. inl (h a b e), λ e. elim e [ inl x ↦ cc | inr y ↦ cc ])

read_then : (o p : Option ℕ) (f : ℕ → Result After FaultKind) → ((v : ℕ) → (f v ≡ Err BadAddress) ↔ (p ≡ None)) → (or_bad_address o f ≡ Err BadAddress) ↔ ((p ≡ None) ⊎ (o ≡ None))
read_then None p f h = (λ e. inr refl, λ e. refl)
read_then (Some v) p f h = (λ e. inl ((h v).0 e), λ e. elim e [ inl x ↦ (h v).1 x | inr y ↦ cc ])

-- other faults are none of these
flag_first : (o : Option Bool) (f : Bool → Result After FaultKind) {P : Type 0} → ((b : Bool) → f b ≡ Err BadAddress → P) → or_undefined o f ≡ Err BadAddress → P
flag_first None f h e = cc
flag_first (Some b) f h e = h b e

flag_made : (o : Option Bool) (f : Bool → After) {P : Type 0} → or_undefined o (λ b. Ok (f b)) ≡ Err BadAddress → P
flag_made None f e = cc
flag_made (Some b) f e = cc

divide_first : (o : Option DoubleAnswer) (f : DoubleAnswer → After) {P : Type 0} → or_divide o (λ r. Ok (f r)) ≡ Err BadAddress → P
divide_first None f e = cc
divide_first (Some r) f e = cc

-- ---- rows
mov_bad : (s : Size) (to from : Operand) (next : ℕ) (st : State) (m : Memory) → (mov_row s to from next st m ≡ Err BadAddress) ↔ ((operand_value to s next st m ≡ None) ⊎ (operand_value from s next st m ≡ None))
unfolding mov_row
mov_bad s to from next st m = read_then (operand_value from s next st m) (operand_value to s next st m) _ (λ v. put_bad to s v next st.flags _ st m)

written_or_not : (w : Bool) (to : Operand) (s : Size) (v next : ℕ) (flags : List FlagVal) (leak : StepLeak) (st : State) (m : Memory) (after : After)
    → (if w then put_row to s v next flags leak st m else Ok after) ≡ Err BadAddress → operand_value to s next st m ≡ None
written_or_not true to s v next flags leak st m after e = (put_bad to s v next flags leak st m).0 e
written_or_not false to s v next flags leak st m after e = cc

operation_bad : (op : Alu) (s : Size) (to : Operand) (a b next : ℕ) (leak : StepLeak) (st : State) (m : Memory)
    → or_undefined (carry_read op st) (λ c. let r = alu_answer op s a b c in if writes_operand op then put_row to s r.value next r.flags leak st m else finished st m next r.flags leak) ≡ Err BadAddress
    → operand_value to s next st m ≡ None
operation_bad op s to a b next leak st m e =
    flag_first (carry_read op st) (λ c. let r = alu_answer op s a b c in if writes_operand op then put_row to s r.value next r.flags leak st m else finished st m next r.flags leak)
    (λ c f. let r = alu_answer op s a b c in written_or_not (writes_operand op) to s r.value next r.flags leak st m _ f) e

alu_bad : (op : Alu) (s : Size) (to from : Operand) (next : ℕ) (st : State) (m : Memory) → (alu_row op s to from next st m ≡ Err BadAddress) ↔ ((operand_value to s next st m ≡ None) ⊎ (operand_value from s next st m ≡ None))
unfolding alu_row
alu_bad op s to from next st m =
    read_both (operand_value to s next st m) (operand_value from s next st m) _ (λ a b e. operation_bad op s to a b next (access_events to from next st) st m e)

extend_bad : (sign : Bool) (to from : Size) (r : Reg) (rm : Operand) (next : ℕ) (st : State) (m : Memory) → (extend_row sign to from r rm next st m ≡ Err BadAddress) ↔ (operand_value rm from next st m ≡ None)
unfolding extend_row
extend_bad sign to from r rm next st m = read_first (operand_value rm from next st m) _ (λ v e. never_bad r to _ next st.flags _ st m e)

one_bad : (op : One) (s : Size) (rm : Operand) (next : ℕ) (st : State) (m : Memory) → (one_row op s rm next st m ≡ Err BadAddress) ↔ (operand_value rm s next st m ≡ None)
unfolding one_row
one_bad op s rm next st m = read_first (operand_value rm s next st m) _ (λ v e. (put_bad rm s _ next _ _ st m).0 e)

shift_bad : (kind : Shift) (s : Size) (rm : Operand) (n : Count) (next : ℕ) (st : State) (m : Memory) → (shift_row kind s rm n next st m ≡ Err BadAddress) ↔ (operand_value rm s next st m ≡ None)
unfolding shift_row
shift_bad kind s rm n next st m = read_first (operand_value rm s next st m) _ (λ v e. (put_bad rm s _ next _ _ st m).0 e)

imul_bad : (s : Size) (r : Reg) (a : ℕ) (rm : Operand) (next : ℕ) (st : State) (m : Memory) → (imul_row s r a rm next st m ≡ Err BadAddress) ↔ (operand_value rm s next st m ≡ None)
unfolding imul_row
imul_bad s r a rm next st m = read_first (operand_value rm s next st m) _ (λ v e. never_bad r s _ next _ _ st m e)

word_not_bad : (op : Wide) (s : Size) (rm : Operand) (b next : ℕ) (st : State) (m : Memory) {P : Type 0} → wide_word_row op s rm b next st m ≡ Err BadAddress → P
word_not_bad wide.Mul s rm b next st m e = cc
word_not_bad wide.Imul s rm b next st m e = cc
word_not_bad wide.Div s rm b next st m e = divide_first _ _ e
word_not_bad wide.Idiv s rm b next st m e = divide_first _ _ e

wide_bad : (op : Wide) (s : Size) (rm : Operand) (next : ℕ) (st : State) (m : Memory) → (wide_row op s rm next st m ≡ Err BadAddress) ↔ (operand_value rm s next st m ≡ None)
unfolding wide_row
wide_bad op s rm next st m = read_first (operand_value rm s next st m) _ (λ b e. word_not_bad op s rm b next st m e)

set_bad : (c : Cond) (rm : Operand) (next : ℕ) (st : State) (m : Memory) → (set_row c rm next st m ≡ Err BadAddress) ↔ (operand_value rm S8 next st m ≡ None)
unfolding set_row
set_bad c rm next st m = read_first (operand_value rm S8 next st m) _ (λ v e.
    flag_first (holds c st) (λ b. put_row rm S8 (carried b) next st.flags (access_event rm next st) st m) (λ b f. (put_bad rm S8 (carried b) next st.flags (access_event rm next st) st m).0 f) e)

cmov_bad : (c : Cond) (s : Size) (r : Reg) (rm : Operand) (next : ℕ) (st : State) (m : Memory) → (cmov_row c s r rm next st m ≡ Err BadAddress) ↔ (operand_value rm s next st m ≡ None)
unfolding cmov_row
cmov_bad c s r rm next st m = read_first (operand_value rm s next st m) _ (λ v e.
    flag_first (holds c st) (λ b. put_row (operand.Reg r) s (if b then v else reg_word st s r) next st.flags (access_event rm next st) st m)
    (λ b f. never_bad r s (if b then v else reg_word st s r) next st.flags (access_event rm next st) st m f) e)

-- ---- rows that have no access, and those of the stack
never : {A : Type 0} → (A → ⊥) → A ↔ ⊥
never f = (f, λ h. absurd h)

lea_not_bad : (r : Reg) (a : Mem) (next : ℕ) (st : State) (m : Memory) → lea_row r a next st m ≡ Err BadAddress → ⊥
unfolding lea_row
lea_not_bad r a next st m e = never_bad r S64 _ next _ _ st m e

bswap_not_bad : (s : Size) (r : Reg) (next : ℕ) (st : State) (m : Memory) → bswap_row s r next st m ≡ Err BadAddress → ⊥
unfolding bswap_row
bswap_not_bad s r next st m e = never_bad r s _ next _ _ st m e

sign_not_bad : (s : Size) (next : ℕ) (st : State) (m : Memory) → sign_row s next st m ≡ Err BadAddress → ⊥
unfolding sign_row
sign_not_bad s next st m e = never_bad reg.Rdx s _ next _ _ st m e

jcc_not_bad : (c : Cond) (disp : ℤ) (next : ℕ) (st : State) (m : Memory) → jcc_row c disp next st m ≡ Err BadAddress → ⊥
unfolding jcc_row
jcc_not_bad c disp next st m e = flag_made (holds c st) _ e

jmp_not_bad : (disp : ℤ) (next : ℕ) (st : State) (m : Memory) → jmp_row disp next st m ≡ Err BadAddress → ⊥
unfolding jmp_row
jmp_not_bad disp next st m e = cc

call_bad : (disp : ℤ) (next : ℕ) (st : State) (m : Memory) → (call_row disp next st m ≡ Err BadAddress) ↔ (loaded m (residue S64 (pos (reg_value st reg.Rsp) -ℤ pos 8)) 8 ≡ None)
unfolding call_row
call_bad disp next st m = if_valid m (residue S64 (pos (reg_value st reg.Rsp) -ℤ pos 8)) 8 _

ret_bad : (st : State) (m : Memory) → (ret_row st m ≡ Err BadAddress) ↔ (loaded m (reg_value st reg.Rsp) 8 ≡ None)
unfolding ret_row
ret_bad st m = read_first (loaded m (reg_value st reg.Rsp) 8) _ (λ v e. cc)

-- ---- the law
address_small : (st : State) (next : ℕ) (a : Mem) → address_of st next a < 2 ^ 64
unfolding address_of
address_small st next a = residue_small _

both : {A B C : Type 0} → A ↔ B → B ↔ C → A ↔ C
both f g = (λ x. g.0 (f.0 x), λ z. f.1 (g.1 z))

-- one access
one_access : (m : Memory) (a n : ℕ) → a < 2 ^ 64 → (loaded m a n ≡ None) ↔ HasInvalidAccess m ((a, n) ∷ [])
one_access m a n fits = (λ e. inl (invalid_byte m a n fits e), λ h. elim h [ inl i ↦ no_load m a n fits i.0 i.1 i.2 | inr b ↦ absurd b ])

unreadable : (o : Operand) (s : Size) (next : ℕ) (st : State) (m : Memory) → (operand_value o s next st m ≡ None) ↔ HasInvalidAccess m (bytes_at o s next st)
unfolding operand_value
unreadable (operand.Reg r) s next st m = never (λ e. cc)
unreadable (operand.Imm i) s next st m = never (λ e. cc)
unreadable (operand.Mem a) s next st m = one_access m (address_of st next a) (bytes_of s) (address_small st next a)

-- accesses after others
joined : (m : Memory) (xs ys : List (ℕ × ℕ)) → (HasInvalidAccess m xs ⊎ HasInvalidAccess m ys) ↔ HasInvalidAccess m (xs ++ ys)
joined m [] ys = (λ h. elim h [ inl b ↦ absurd b | inr k ↦ k ], λ k. inr k)
joined m (x ∷ xs) ys = (to (joined m xs ys).0, from (joined m xs ys).1)
  where
    to : (HasInvalidAccess m xs ⊎ HasInvalidAccess m ys → HasInvalidAccess m (xs ++ ys)) → HasInvalidAccess m (x ∷ xs) ⊎ HasInvalidAccess m ys → HasInvalidAccess m ((x ∷ xs) ++ ys)
    to more (inl (inl i)) = inl i
    to more (inl (inr j)) = inr (more (inl j))
    to more (inr k) = inr (more (inr k))

    from : (HasInvalidAccess m (xs ++ ys) → HasInvalidAccess m xs ⊎ HasInvalidAccess m ys) → HasInvalidAccess m ((x ∷ xs) ++ ys) → HasInvalidAccess m (x ∷ xs) ⊎ HasInvalidAccess m ys
    from more (inl i) = inl (inl i)
    from more (inr j) = elim (more j) [ inl a ↦ inl (inr a) | inr b ↦ inr b ]

two_accesses : (to from : Operand) (s : Size) (next : ℕ) (st : State) (m : Memory)
    → ((operand_value to s next st m ≡ None) ⊎ (operand_value from s next st m ≡ None)) ↔ HasInvalidAccess m (bytes_at to s next st ++ bytes_at from s next st)
two_accesses to from s next st m =
    let a = unreadable to s next st m in
    let b = unreadable from s next st m in
    let j = joined m (bytes_at to s next st) (bytes_at from s next st) in
    (λ h. elim h [ inl x ↦ j.0 (inl (a.0 x)) | inr y ↦ j.0 (inr (b.0 y)) ], λ h. elim (j.1 h) [ inl x ↦ inl (a.1 x) | inr y ↦ inr (b.1 y) ])

-- a bad address comes exactly where an accessed byte is not valid
pub bad_address : (i : Insn) (next : ℕ) (st : State) (m : Memory) → reg_value st reg.Rsp < 2 ^ 64
    → ((effect_of i next st m ≡ Err BadAddress) ↔ HasInvalidAccess m (accessed_bytes i next st))
bad_address (insn.Alu op s to from) next st m fits = both (alu_bad op s to from next st m) (two_accesses to from s next st m)
bad_address (insn.Mov s to from) next st m fits = both (mov_bad s to from next st m) (two_accesses to from s next st m)
bad_address (insn.Extend sign to from r rm) next st m fits = both (extend_bad sign to from r rm next st m) (unreadable rm from next st m)
bad_address (insn.Lea r a) next st m fits = never (lea_not_bad r a next st m)
bad_address (insn.One op s rm) next st m fits = both (one_bad op s rm next st m) (unreadable rm s next st m)
bad_address (insn.Wide op s rm) next st m fits = both (wide_bad op s rm next st m) (unreadable rm s next st m)
bad_address (insn.Imul s r rm) next st m fits = both (imul_bad s r (reg_word st s r) rm next st m) (unreadable rm s next st m)
bad_address (insn.ImulBy s r rm i) next st m fits = both (imul_bad s r (residue s i) rm next st m) (unreadable rm s next st m)
bad_address (insn.Shift kind s rm n) next st m fits = both (shift_bad kind s rm n next st m) (unreadable rm s next st m)
bad_address (insn.Bswap s r) next st m fits = never (bswap_not_bad s r next st m)
bad_address insn.Cdq next st m fits = never (sign_not_bad _ next st m)
bad_address insn.Cqo next st m fits = never (sign_not_bad S64 next st m)
bad_address (insn.Set c rm) next st m fits = both (set_bad c rm next st m) (unreadable rm S8 next st m)
bad_address (insn.Cmov c s r rm) next st m fits = both (cmov_bad c s r rm next st m) (unreadable rm s next st m)
bad_address (insn.Jcc c width disp) next st m fits = never (jcc_not_bad c disp next st m)
bad_address (insn.Jmp width disp) next st m fits = never (jmp_not_bad disp next st m)
bad_address (insn.Call disp) next st m fits = both (call_bad disp next st m) (one_access m (residue S64 (pos (reg_value st reg.Rsp) -ℤ pos 8)) 8 (residue_small _))
bad_address insn.Ret next st m fits = both (ret_bad st m) (one_access m (reg_value st reg.Rsp) 8 fits)
