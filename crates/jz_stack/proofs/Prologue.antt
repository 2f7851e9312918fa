-- The instructions round a body: the stack pointer down and up, registers saved and loaded.
use Rattle.std.proofs.Common.{◌≡◌, ◌≢◌, ℕ, ◌+◌, ◌-◌, ◌*◌, ◌%◌, ◌^◌, ◌<◌, ◌≤◌, ◌⊎◌, inl, inr, ⊎_elim, true, false, List, [], ◌∷◌, length, refl, sym, ap, ◌∙◌, subst, arith}
use Rattle.std.specs.Prelude.{Some, is_some, pos, slice_index, slice_set}
use Rattle.std.specs.FinMap.{get}
use Rattle.std.proofs.lemmas.List.{get_or-set_other, get_or-set_same, length-set}
use Rattle.jz_words.specs.declared.size.Size.TheVariants.{S64}
use Rattle.jz_words.specs.Memory.{Memory, loaded, all_valid, stored}
use Rattle.x64_insn.specs.declared.types.Reg.{Reg}
use Rattle.x64_insn.specs.declared.types.Reg.TheVariants as reg
use Rattle.x64_insn.specs.declared.types.Alu.TheVariants as alu
use Rattle.x64_insn.specs.declared.types.Operand.TheVariants as operand
use Rattle.x64_insn.specs.declared.types.Insn.{Insn}
use Rattle.x64_insn.specs.declared.types.FaultKind.{FaultKind}
use Rattle.x64_insn.specs.Answers.{sum_answer, difference_answer, flags_of}
use Rattle.x64_insn.specs.Table.{number_of}
use Rattle.x64_insn.specs.Rows.{address_of, operand_value, mov_row, put_row}
use Rattle.x64_insn.proofs.PlainRows.{operation_step}
use Rattle.jz_leak.specs.RunLeaks as leak
use Rattle.jz_leak.specs.RunLeaks.{Leak}
use Rattle.jz_runs.specs.Rules.{went, Outcome, End, Cut, Stuck, after, Goes, did}
use Rattle.jz_placing.specs.Instructions.{Machine, by_effect, does, Code, instructions}
use Rattle.jz_linear.specs.Plain.{state_at}
use Rattle.jz_stack.specs.Framed.{slot_of, save, load, saves, loads, down, up}
use Rattle.jz_operations.proofs.Bytes.{all_valid_from, valid_stored, stored_outside, loaded_same, loaded_stored}
use Rattle.jz_stack.specs.FrameRuns.{NoneIsRsp, Among, NotAmong}
use Rattle.jz_stack.proofs.Joined.{after_both}

abbrev pub rsp_of : Machine → ℕ
rsp_of s = slice_index s.regs 4

abbrev pub with_rsp : Machine → ℕ → Machine
with_rsp s v = record s { regs = slice_set s.regs 4 v }

-- ---- the stack pointer
-- flags are left as the operation sets them
pub record Moved (i : Insn) (s : Machine) (v : ℕ) : Type 0 where
  pub now : Machine
  pub moves : does i s ≡ went [] now
  pub regs : now.regs ≡ slice_set s.regs 4 v
  pub memory : now.memory ≡ s.memory
  pub five : length now.flags ≡ 5

pub goes_down : (size : ℕ) (s : Machine) → size ≤ rsp_of s → rsp_of s < 2 ^ 64 → Moved (down size) s (rsp_of s - size)
unfolding difference_answer flags_of
goes_down size s le lt =
    let r = difference_answer S64 (rsp_of s % 2 ^ 64) (size % 2 ^ 64) false in
    let v : (rsp_of s % 2 ^ 64 + 2 ^ 64 - (size % 2 ^ 64 + 0)) % 2 ^ 64 ≡ rsp_of s - size = omega (arith, le, lt) in
    record {
      now = record { regs = slice_set s.regs 4 r.value; flags = r.flags; memory = s.memory };
      moves = ap by_effect (operation_step alu.Sub reg.Rsp (operand.Imm (pos size)) (size % 2 ^ 64) 0 (state_at s 0) s.memory refl refl refl);
      regs = ap (slice_set s.regs 4) v;
      memory = refl;
      five = refl;
    }

pub goes_up : (size : ℕ) (s : Machine) → rsp_of s + size < 2 ^ 64 → Moved (up size) s (rsp_of s + size)
unfolding sum_answer flags_of
goes_up size s lt =
    let r = sum_answer S64 (rsp_of s % 2 ^ 64) (size % 2 ^ 64) false in
    let v : (rsp_of s % 2 ^ 64 + size % 2 ^ 64 + 0) % 2 ^ 64 ≡ rsp_of s + size = omega (arith, lt) in
    record {
      now = record { regs = slice_set s.regs 4 r.value; flags = r.flags; memory = s.memory };
      moves = ap by_effect (operation_step alu.Add reg.Rsp (operand.Imm (pos size)) (size % 2 ^ 64) 0 (state_at s 0) s.memory refl refl refl);
      regs = ap (slice_set s.regs 4) v;
      memory = refl;
      five = refl;
    }

-- ---- one slot
address_is : (s : Machine) (at : ℕ) → rsp_of s + at < 2 ^ 64 → address_of (state_at s 0) 0 (slot_of at) ≡ rsp_of s + at
unfolding address_of
address_is s at lt = omega (arith, lt)

pub saves_one : (s : Machine) (r : Reg) (at : ℕ) → rsp_of s + at < 2 ^ 64 → all_valid s.memory (rsp_of s + at) 8 ≡ true
    → does (save r at) s ≡ went ((rsp_of s + at) ∷ []) (record s { memory = stored s.memory (rsp_of s + at) 8 (slice_index s.regs (number_of r) % 2 ^ 64) })
unfolding mov_row operand_value put_row
saves_one s r at lt valid = rw (address_is s at lt, valid) refl

pub loads_one : (s : Machine) (r : Reg) (at v : ℕ) → rsp_of s + at < 2 ^ 64 → loaded s.memory (rsp_of s + at) 8 ≡ Some v
    → does (load r at) s ≡ went ((rsp_of s + at) ∷ []) (record s { regs = slice_set s.regs (number_of r) v })
unfolding mov_row operand_value put_row
loads_one s r at v lt e = rw (address_is s at lt, e) refl

-- ---- several slots, one above the other
abbrev pub saved_memory : ℕ → ℕ → List Reg → List ℕ → Memory → Memory
saved_memory rsp at [] regs m = m
saved_memory rsp at (r ∷ rs) regs m = saved_memory rsp (at + 8) rs regs (stored m (rsp + at) 8 (slice_index regs (number_of r) % 2 ^ 64))

-- each slot holds its register's word
abbrev pub AreSaved : ℕ → ℕ → List Reg → List ℕ → Memory → Type 0
AreSaved rsp at [] regs m = Unit {0}
AreSaved rsp at (r ∷ rs) regs m = (loaded m (rsp + at) 8 ≡ Some (slice_index regs (number_of r) % 2 ^ 64)) × AreSaved rsp (at + 8) rs regs m

-- the items of accesses to slots
abbrev pub slots_leak : ℕ → ℕ → List Reg → Leak → Leak
slots_leak rsp at [] l = l
slots_leak rsp at (r ∷ rs) l = leak.ran ((rsp + at) ∷ []) (slots_leak rsp (at + 8) rs l)

same_after : (o : Outcome Machine FaultKind Leak) → o ≡ after (λ l. l) o
same_after (End s n l) = refl
same_after (Cut l) = refl
same_after (Stuck w) = refl

pub saves_go : (rs : List Reg) (at : ℕ) (s : Machine) (t : Code) (n : ℕ) (o : Outcome Machine FaultKind Leak) → rsp_of s + at + 8 * length rs ≤ 2 ^ 64
    → ((q : ℕ) → rsp_of s + at ≤ q → q < rsp_of s + at + 8 * length rs → is_some (get s.memory q) ≡ true)
    → Goes instructions t n (record s { memory = saved_memory (rsp_of s) at rs s.regs s.memory }) o → Goes instructions (saves at rs t) n s (after (slots_leak (rsp_of s) at rs) o)
saves_go [] at s t n o fits valid g = subst (λ (p : Outcome Machine FaultKind Leak). Goes instructions t n s p) (same_after o) g
saves_go (r ∷ rs) at s t n o fits valid g =
    let a = rsp_of s + at in
    let v = slice_index s.regs (number_of r) % 2 ^ 64 in
    let one = saves_one s r at (omega (arith, fits)) (all_valid_from s.memory 8 a (omega (arith, fits)) (λ q l h. valid q l (omega (arith, h)))) in
    let rest = saves_go rs (at + 8) (record s { memory = stored s.memory a 8 v }) t n o (omega (arith, fits)) (λ q l h. valid_stored s.memory a 8 v q (valid q (omega (arith, l)) (omega (arith, h)))) g in
    subst (λ (p : Outcome Machine FaultKind Leak). Goes instructions (saves at (r ∷ rs) t) n s p) (after_both (leak.ran (a ∷ [])) (slots_leak (rsp_of s) (at + 8) rs) o) (did one rest)

pub saved_outside : (rs : List Reg) (rsp at : ℕ) (regs : List ℕ) (m : Memory) (q : ℕ) → rsp + at + 8 * length rs ≤ 2 ^ 64 → (q < rsp + at) ⊎ (rsp + at + 8 * length rs ≤ q)
    → get (saved_memory rsp at rs regs m) q ≡ get m q
saved_outside [] rsp at regs m q fits out = refl
saved_outside (r ∷ rs) rsp at regs m q fits out =
    saved_outside rs rsp (at + 8) regs _ q (omega (arith, fits)) (⊎_elim (λ lt. inl (omega (arith, lt))) (λ le. inr (omega (arith, le))) out)
    ∙ stored_outside m (rsp + at) 8 (slice_index regs (number_of r) % 2 ^ 64) q (omega (arith, fits)) (⊎_elim (λ lt. inl lt) (λ le. inr (omega (arith, le))) out)

pub are_saved : (rs : List Reg) (rsp at : ℕ) (regs : List ℕ) (m : Memory) → rsp + at + 8 * length rs ≤ 2 ^ 64 → AreSaved rsp at rs regs (saved_memory rsp at rs regs m)
are_saved [] rsp at regs m fits = tt
are_saved (r ∷ rs) rsp at regs m fits =
    let v = slice_index regs (number_of r) % 2 ^ 64 in
    let m1 = stored m (rsp + at) 8 v in (
      loaded_same (saved_memory rsp (at + 8) rs regs m1) m1 (rsp + at) 8 (omega (arith, fits)) (λ q l h. saved_outside rs rsp (at + 8) regs m1 q (omega (arith, fits)) (inl (omega (arith, h))))
          ∙ loaded_stored m (rsp + at) 8 v (omega (arith, fits)) ∙ ap Some (omega arith),
      are_saved rs rsp (at + 8) regs m1 (omega (arith, fits)),
    )

-- where the slots are as they were
pub stay_saved : (rs : List Reg) (rsp at : ℕ) (regs : List ℕ) (m m' : Memory) → rsp + at + 8 * length rs ≤ 2 ^ 64 → ((q : ℕ) → rsp + at ≤ q → q < rsp + at + 8 * length rs → get m' q ≡ get m q)
    → AreSaved rsp at rs regs m → AreSaved rsp at rs regs m'
stay_saved [] rsp at regs m m' fits same h = tt
stay_saved (r ∷ rs) rsp at regs m m' fits same h = (
  loaded_same m' m (rsp + at) 8 (omega (arith, fits)) (λ q l g. same q l (omega (arith, g))) ∙ h.0,
  stay_saved rs rsp (at + 8) regs m m' (omega (arith, fits)) (λ q l g. same q (omega (arith, l)) (omega (arith, g))) h.1,
)

-- ---- loads
abbrev pub restored : List Reg → List ℕ → List ℕ → List ℕ
restored [] old regs = regs
restored (r ∷ rs) old regs = restored rs old (slice_set regs (number_of r) (slice_index old (number_of r) % 2 ^ 64))

other_place : (regs : List ℕ) (k v : ℕ) → k ≢ 4 → slice_index (slice_set regs k v) 4 ≡ slice_index regs 4
other_place regs k v ne = get_or-set_other regs k 4 v 0 (λ e. ne (sym e))

pub loads_go : (rs : List Reg) (at rsp : ℕ) (s : Machine) (old : List ℕ) (t : Code) (n : ℕ) (o : Outcome Machine FaultKind Leak) → rsp_of s ≡ rsp → rsp + at + 8 * length rs ≤ 2 ^ 64 → NoneIsRsp rs
    → AreSaved rsp at rs old s.memory
    → Goes instructions t n (record s { regs = restored rs old s.regs }) o → Goes instructions (loads at rs t) n s (after (slots_leak rsp at rs) o)
loads_go [] at rsp s old t n o is fits none saved g = subst (λ (p : Outcome Machine FaultKind Leak). Goes instructions t n s p) (same_after o) g
loads_go (r ∷ rs) at rsp s old t n o is fits none saved g =
    let v = slice_index old (number_of r) % 2 ^ 64 in
    let s1 = record s { regs = slice_set s.regs (number_of r) v } in
    let there : loaded s.memory (rsp_of s + at) 8 ≡ Some v = ap (λ x. loaded s.memory (x + at) 8) is ∙ saved.0 in
    let one : does (load r at) s ≡ went ((rsp + at) ∷ []) s1 = loads_one s r at v (omega (arith, fits, is)) there ∙ ap (λ x. went ((x + at) ∷ []) s1) is in
    let rest = loads_go rs (at + 8) rsp s1 old t n o (other_place s.regs (number_of r) v none.0 ∙ is) (omega (arith, fits)) none.1 saved.1 g in
    subst (λ (p : Outcome Machine FaultKind Leak). Goes instructions (loads at (r ∷ rs) t) n s p) (after_both (leak.ran ((rsp + at) ∷ [])) (slots_leak rsp (at + 8) rs) o) (did one rest)

-- ---- the registers that come back
is_or_not : (k m : ℕ) → (k ≡ m) ⊎ (k ≢ m)
is_or_not k m = by_order (order k m)
  where
    order : (k m : ℕ) → (k ≡ m) ⊎ ((k < m) ⊎ (m < k))
    order k m = grind arith

    by_order : (k ≡ m) ⊎ ((k < m) ⊎ (m < k)) → (k ≡ m) ⊎ (k ≢ m)
    by_order o = ⊎_elim (λ e. inl e) (λ p. inr (⊎_elim (λ lt. λ e. absurd (omega (arith, e, lt))) (λ lt. λ e. absurd (omega (arith, e, lt))) p)) o

-- a register that has its old word keeps it
keeps_old : (rs : List Reg) (old regs : List ℕ) (k : ℕ) → k < length regs → slice_index regs k ≡ slice_index old k % 2 ^ 64 → slice_index (restored rs old regs) k ≡ slice_index old k % 2 ^ 64
keeps_old [] old regs k lt e = e
keeps_old (r ∷ rs) old regs k lt e =
    let now = slice_set regs (number_of r) (slice_index old (number_of r) % 2 ^ 64) in
    keeps_old rs old now k (omega (arith, lt, length-set regs (number_of r) (slice_index old (number_of r) % 2 ^ 64)))
    (⊎_elim (λ same. subst (λ j. slice_index (slice_set regs j (slice_index old j % 2 ^ 64)) k ≡ slice_index old k % 2 ^ 64) same (get_or-set_same regs k (slice_index old k % 2 ^ 64) 0 lt))
    (λ ne. get_or-set_other regs (number_of r) k (slice_index old (number_of r) % 2 ^ 64) 0 ne ∙ e) (is_or_not k (number_of r)))

-- a saved register is as it was
pub comes_back : (rs : List Reg) (old regs : List ℕ) (r : Reg) → number_of r < length regs → Among rs r → slice_index (restored rs old regs) (number_of r) ≡ slice_index old (number_of r) % 2 ^ 64
comes_back [] old regs r lt h = absurd h
comes_back (q ∷ rs) old regs r lt h =
    let now = slice_set regs (number_of q) (slice_index old (number_of q) % 2 ^ 64) in
    let long = omega_length regs (number_of q) (slice_index old (number_of q) % 2 ^ 64) (number_of r) lt in
    ⊎_elim (λ e. keeps_old rs old now (number_of r) long (subst (λ x. slice_index (slice_set regs (number_of x) (slice_index old (number_of x) % 2 ^ 64)) (number_of r) ≡ slice_index old (number_of r) % 2 ^ 64) (sym e) (get_or-set_same regs (number_of r) (slice_index old (number_of r) % 2 ^ 64) 0 lt)))
    (λ a. comes_back rs old now r long a) h
  where
    omega_length : (xs : List ℕ) (k v j : ℕ) → j < length xs → j < length (slice_set xs k v)
    omega_length xs k v j lt = omega (arith, lt, length-set xs k v)

-- and one that is not is as the body left it
pub stays_as_it_is : (rs : List Reg) (old regs : List ℕ) (r : Reg) → NotAmong rs r → slice_index (restored rs old regs) (number_of r) ≡ slice_index regs (number_of r)
stays_as_it_is [] old regs r h = refl
stays_as_it_is (q ∷ rs) old regs r h =
    stays_as_it_is rs old _ r h.1 ∙ get_or-set_other regs (number_of q) (number_of r) (slice_index old (number_of q) % 2 ^ 64) 0 (λ e. h.0 (sym e))
