-- A register that no instruction of a tree sets is at an end as it was.
use Rattle.std.proofs.Common.{◌≡◌, ◌≢◌, ℕ, Bool, true, false, List, length, refl, sym, ap, ◌∙◌, subst, arith, if◌then◌else◌, ◌==◌, ◌||◌}
use Rattle.std.specs.Prelude.{Some, None, Result, Ok, Err, slice_index, slice_set}
use Rattle.std.proofs.lemmas.Bool.Decides.{nat_tests}
use Rattle.std.proofs.lemmas.List.{get_or-set_other, length-set}
use Rattle.jz_words.specs.declared.size.Size.{Size}
use Rattle.jz_words.specs.declared.size.Size.TheVariants.{S8, S32, S64}
use Rattle.jz_words.specs.Sizes.{bytes_of}
use Rattle.jz_words.specs.Memory.{Memory, all_valid}
use Rattle.x64_insn.specs.declared.answer.Answer.{Answer}
use Rattle.x64_insn.specs.declared.types.Reg.{Reg}
use Rattle.x64_insn.specs.declared.types.Reg.TheVariants as reg
use Rattle.x64_insn.specs.declared.types.Operand.{Operand}
use Rattle.x64_insn.specs.declared.types.Operand.TheVariants as operand
use Rattle.x64_insn.specs.declared.types.Wide.{Wide}
use Rattle.x64_insn.specs.declared.types.Wide.TheVariants as wide
use Rattle.x64_insn.specs.declared.types.Cond.{Cond}
use Rattle.x64_insn.specs.declared.types.Insn.{Insn}
use Rattle.x64_insn.specs.declared.types.Insn.TheVariants as insn
use Rattle.x64_insn.specs.declared.types.State.{State}
use Rattle.x64_insn.specs.declared.types.FlagVal.{FlagVal}
use Rattle.x64_insn.specs.declared.types.StepLeak.{StepLeak}
use Rattle.x64_insn.specs.declared.types.FaultKind.{FaultKind}
use Rattle.x64_insn.specs.declared.types.FaultKind.TheVariants.{BadAddress}
use Rattle.x64_insn.specs.Table.{number_of}
use Rattle.x64_insn.specs.Answers.{alu_answer}
use Rattle.x64_insn.specs.Products.{quotient_answer, signed_quotient_answer}
use Rattle.x64_insn.specs.Rows.{After, effect_of, reg_word, address_of, operand_value, put_row, finished, holds, carry_read, writes_operand, access_events, alu_row, mov_row, extend_row, lea_row, one_row, wide_word_row, wide_row, imul_row, shift_row, bswap_row, sign_row, set_row, cmov_row}
use Rattle.jz_leak.specs.RunLeaks.{Leak, Turns}
use Rattle.jz_runs.specs.Trees.{Tree, done, op, quiet, choose, loop, each, call}
use Rattle.jz_runs.specs.Rules.{went, Parts, Outcome, End, Cut, Stuck, after, Goes, finished as ended, did, did_not, quieted, chosen, chosen_cut, chosen_stuck, chose_not, loop_left, loop_cut, loop_stuck, counted, counted_cut, counted_stuck, counted_not, call_ended, call_cut, call_stuck, entered_not, left_not, Loops, in_prologue, prologue_stuck, tested_not, leaves_loop, no_turn, in_body, body_stuck, more_turns}
use Rattle.jz_placing.specs.Instructions.{Machine, does, Test, always, if_holds, state_behind, settled, tests, Code, instructions}
use Rattle.jz_linear.specs.Plain.{state_at}
use Rattle.jz_linear.proofs.PlainInsns.{after_bad, after_undefined, after_divide}
use Rattle.jz_linear.proofs.Follow.{did_so, answered_so}

-- ---- what an instruction sets
abbrev pub is_reg : Reg → Reg → Bool
is_reg q r = number_of q == number_of r

abbrev pub sets_operand : Operand → Reg → Bool
sets_operand (operand.Reg q) r = is_reg q r
sets_operand other r = false

abbrev pub sets : Insn → Reg → Bool
sets (insn.Alu o s to from) r = sets_operand to r
sets (insn.Mov s to from) r = sets_operand to r
sets (insn.Extend sign to from q rm) r = is_reg q r
sets (insn.Lea q a) r = is_reg q r
sets (insn.One o s rm) r = sets_operand rm r
sets (insn.Wide o s rm) r = is_reg reg.Rax r || is_reg reg.Rdx r
sets (insn.Imul s q rm) r = is_reg q r
sets (insn.ImulBy s q rm i) r = is_reg q r
sets (insn.Shift k s rm n) r = sets_operand rm r
sets (insn.Bswap s q) r = is_reg q r
sets insn.Cdq r = is_reg reg.Rdx r
sets insn.Cqo r = is_reg reg.Rdx r
sets (insn.Set c rm) r = sets_operand rm r
sets (insn.Cmov c s q rm) r = is_reg q r
sets other r = true

-- the register's word and the number of registers stay
pub record Stays (r : Reg) (old now : List ℕ) : Type 0 where
  pub word : slice_index now (number_of r) ≡ slice_index old (number_of r)
  pub size : length now ≡ length old

stays_here : (r : Reg) (regs : List ℕ) → Stays r regs regs
stays_here r regs = record { word = refl; size = refl }

stays_on : {r : Reg} {a b c : List ℕ} → Stays r a b → Stays r b c → Stays r a c
stays_on h g = record { word = g.word ∙ h.word; size = g.size ∙ h.size }

stays_set : (q r : Reg) (regs : List ℕ) (v : ℕ) → is_reg q r ≡ false → Stays r regs (slice_set regs (number_of q) v)
stays_set q r regs v e =
    let ne : number_of r ≢ number_of q = grind (arith, nat_tests, e) in
    record { word = get_or-set_other regs (number_of q) (number_of r) v 0 ne; size = length-set regs (number_of q) v }

module _ (r : Reg) (a : After) where
  abbrev Kept : State → Type 0
  Kept st = Stays r st.regs a.state.regs

  by_after : {x : After} (st : State) → ◌≡◌ {A = Result After FaultKind} (Ok x) (Ok a) → Stays r st.regs x.state.regs → Kept st
  by_after {x} st e h = let k : x ≡ a = cc in subst (λ (y : After). Stays r st.regs y.state.regs) k h

  if_kept : (st : State) (b : Bool) (x : After) → (if b then Ok x else Err BadAddress) ≡ Ok a → Stays r st.regs x.state.regs → Kept st
  if_kept st true x e h = by_after st e h
  if_kept st false x e h = absurd cc

  put_kept : (o : Operand) (z : Size) (v next : ℕ) (flags : List FlagVal) (l : StepLeak) (st : State) (m : Memory) → sets_operand o r ≡ false → put_row o z v next flags l st m ≡ Ok a → Kept st
  unfolding put_row
  put_kept (operand.Reg q) z v next flags l st m h e = by_after st e (stays_set q r st.regs _ h)
  put_kept (operand.Imm i) z v next flags l st m h e = absurd cc
  put_kept (operand.Mem x) z v next flags l st m h e = if_kept st (all_valid m (address_of st next x) (bytes_of z)) _ e (stays_here r st.regs)

  alu_end : (w : Bool) (to : Operand) (z : Size) (x : Answer) (next : ℕ) (l : StepLeak) (st : State) (m : Memory) → sets_operand to r ≡ false
      → (if w then put_row to z x.value next x.flags l st m else finished st m next x.flags l) ≡ Ok a → Kept st
  alu_end true to z x next l st m h e = put_kept to z x.value next x.flags l st m h e
  alu_end false to z x next l st m h e = by_after st e (stays_here r st.regs)

  alu_kept : (o : _) (z : Size) (to from : Operand) (next : ℕ) (st : State) (m : Memory) → sets_operand to r ≡ false → alu_row o z to from next st m ≡ Ok a → Kept st
  unfolding alu_row
  alu_kept o z to from next st m h e =
      let x = after_bad a (operand_value to z next st m) _ e in
      let y = after_bad a (operand_value from z next st m) _ x.1 in
      let q = after_undefined a (carry_read o st) _ y.1 in
      alu_end (writes_operand o) to z (alu_answer o z x.0 y.0 q.0) next (access_events to from next st) st m h q.1

  mov_kept : (z : Size) (to from : Operand) (next : ℕ) (st : State) (m : Memory) → sets_operand to r ≡ false → mov_row z to from next st m ≡ Ok a → Kept st
  unfolding mov_row
  mov_kept z to from next st m h e = let x = after_bad a (operand_value from z next st m) _ e in put_kept to z _ next _ _ st m h x.1

  extend_kept : (sign : Bool) (to from : Size) (q : Reg) (o : Operand) (next : ℕ) (st : State) (m : Memory) → is_reg q r ≡ false → extend_row sign to from q o next st m ≡ Ok a → Kept st
  unfolding extend_row
  extend_kept sign to from q o next st m h e = let x = after_bad a (operand_value o from next st m) _ e in put_kept (operand.Reg q) to _ next _ _ st m h x.1

  lea_kept : (q : Reg) (x : _) (next : ℕ) (st : State) (m : Memory) → is_reg q r ≡ false → lea_row q x next st m ≡ Ok a → Kept st
  unfolding lea_row
  lea_kept q x next st m h e = put_kept (operand.Reg q) S64 _ next _ _ st m h e

  one_kept : (o : _) (z : Size) (rm : Operand) (next : ℕ) (st : State) (m : Memory) → sets_operand rm r ≡ false → one_row o z rm next st m ≡ Ok a → Kept st
  unfolding one_row
  one_kept o z rm next st m h e = let x = after_bad a (operand_value rm z next st m) _ e in put_kept rm z _ next _ _ st m h x.1

  shift_kept : (k : _) (z : Size) (rm : Operand) (n : _) (next : ℕ) (st : State) (m : Memory) → sets_operand rm r ≡ false → shift_row k z rm n next st m ≡ Ok a → Kept st
  unfolding shift_row
  shift_kept k z rm n next st m h e = let x = after_bad a (operand_value rm z next st m) _ e in put_kept rm z _ next _ _ st m h x.1

  imul_kept : (z : Size) (q : Reg) (b : ℕ) (rm : Operand) (next : ℕ) (st : State) (m : Memory) → is_reg q r ≡ false → imul_row z q b rm next st m ≡ Ok a → Kept st
  unfolding imul_row
  imul_kept z q b rm next st m h e = let x = after_bad a (operand_value rm z next st m) _ e in put_kept (operand.Reg q) z _ next _ _ st m h x.1

  both_kept : (st : State) (v w : ℕ) → is_reg reg.Rax r ≡ false → is_reg reg.Rdx r ≡ false → Stays r st.regs (slice_set (slice_set st.regs 0 v) 2 w)
  both_kept st v w h g = stays_on (stays_set reg.Rax r st.regs v h) (stays_set reg.Rdx r (slice_set st.regs 0 v) w g)

  wide_word_kept : (o : Wide) (z : Size) (rm : Operand) (b next : ℕ) (st : State) (m : Memory) → is_reg reg.Rax r ≡ false → is_reg reg.Rdx r ≡ false → wide_word_row o z rm b next st m ≡ Ok a → Kept st
  wide_word_kept wide.Mul z rm b next st m h g e = by_after st e (both_kept st _ _ h g)
  wide_word_kept wide.Imul z rm b next st m h g e = by_after st e (both_kept st _ _ h g)
  wide_word_kept wide.Div z rm b next st m h g e = let x = after_divide a (quotient_answer z (reg_word st z reg.Rdx) (reg_word st z reg.Rax) b) _ e in by_after st x.1 (both_kept st _ _ h g)
  wide_word_kept wide.Idiv z rm b next st m h g e = let x = after_divide a (signed_quotient_answer z (reg_word st z reg.Rdx) (reg_word st z reg.Rax) b) _ e in by_after st x.1 (both_kept st _ _ h g)

  wide_kept : (o : Wide) (z : Size) (rm : Operand) (next : ℕ) (st : State) (m : Memory) → is_reg reg.Rax r ≡ false → is_reg reg.Rdx r ≡ false → wide_row o z rm next st m ≡ Ok a → Kept st
  unfolding wide_row
  wide_kept o z rm next st m h g e = let x = after_bad a (operand_value rm z next st m) _ e in wide_word_kept o z rm x.0 next st m h g x.1

  set_kept : (c : Cond) (rm : Operand) (next : ℕ) (st : State) (m : Memory) → sets_operand rm r ≡ false → set_row c rm next st m ≡ Ok a → Kept st
  unfolding set_row
  set_kept c rm next st m h e = let x = after_bad a (operand_value rm S8 next st m) _ e in let y = after_undefined a (holds c st) _ x.1 in put_kept rm S8 _ next _ _ st m h y.1

  cmov_kept : (c : Cond) (z : Size) (q : Reg) (rm : Operand) (next : ℕ) (st : State) (m : Memory) → is_reg q r ≡ false → cmov_row c z q rm next st m ≡ Ok a → Kept st
  unfolding cmov_row
  cmov_kept c z q rm next st m h e = let x = after_bad a (operand_value rm z next st m) _ e in let y = after_undefined a (holds c st) _ x.1 in put_kept (operand.Reg q) z _ next _ _ st m h y.1

  bswap_kept : (z : Size) (q : Reg) (next : ℕ) (st : State) (m : Memory) → is_reg q r ≡ false → bswap_row z q next st m ≡ Ok a → Kept st
  unfolding bswap_row
  bswap_kept z q next st m h e = put_kept (operand.Reg q) z _ next _ _ st m h e

  sign_kept : (z : Size) (next : ℕ) (st : State) (m : Memory) → is_reg reg.Rdx r ≡ false → sign_row z next st m ≡ Ok a → Kept st
  unfolding sign_row
  sign_kept z next st m h e = put_kept (operand.Reg reg.Rdx) z _ next _ _ st m h e

  neither : (p q : Bool) → (p || q) ≡ false → (p ≡ false) × (q ≡ false)
  neither false q e = (refl, e)
  neither true q e = absurd cc

  pub kept_by : (i : Insn) (next : ℕ) (st : State) (m : Memory) → sets i r ≡ false → effect_of i next st m ≡ Ok a → Kept st
  kept_by (insn.Alu o z to from) next st m h e = alu_kept o z to from next st m h e
  kept_by (insn.Mov z to from) next st m h e = mov_kept z to from next st m h e
  kept_by (insn.Extend sign to from q rm) next st m h e = extend_kept sign to from q rm next st m h e
  kept_by (insn.Lea q x) next st m h e = lea_kept q x next st m h e
  kept_by (insn.One o z rm) next st m h e = one_kept o z rm next st m h e
  kept_by (insn.Wide o z rm) next st m h e = let p = neither (is_reg reg.Rax r) (is_reg reg.Rdx r) h in wide_kept o z rm next st m p.0 p.1 e
  kept_by (insn.Imul z q rm) next st m h e = imul_kept z q _ rm next st m h e
  kept_by (insn.ImulBy z q rm i) next st m h e = imul_kept z q _ rm next st m h e
  kept_by (insn.Shift k z rm n) next st m h e = shift_kept k z rm n next st m h e
  kept_by (insn.Bswap z q) next st m h e = bswap_kept z q next st m h e
  kept_by insn.Cdq next st m h e = sign_kept S32 next st m h e
  kept_by insn.Cqo next st m h e = sign_kept S64 next st m h e
  kept_by (insn.Set c rm) next st m h e = set_kept c rm next st m h e
  kept_by (insn.Cmov c z q rm) next st m h e = cmov_kept c z q rm next st m h e
  kept_by (insn.Jcc c w d) next st m h e = absurd cc
  kept_by (insn.Jmp w d) next st m h e = absurd cc
  kept_by (insn.Call d) next st m h e = absurd cc
  kept_by insn.Ret next st m h e = absurd cc

-- ---- what each operation and test keeps is kept by a run
abbrev pub Every : {O T : Type 0} → (O → Type 0) → (T → Type 0) → Tree O T ⊥ ⊥ → Type 0
Every P Q done = Unit {0}
Every P Q (op o r) = P o × Every P Q r
Every P Q (quiet o r) = Every P Q r
Every P Q (choose c a b r) = Q c × Every P Q a × Every P Q b × Every P Q r
Every P Q (loop q p c b r) = Q c × Every P Q p × Every P Q b × Every P Q r
Every P Q (each f b r) = absurd f
Every P Q (call c b r) = absurd c

abbrev pub AtEnd : {S W L : Type 0} → (S → Type 0) → Outcome S W L → Type 0
AtEnd R (End s n l) = R s
AtEnd R (Cut l) = Unit {0}
AtEnd R (Stuck w) = Unit {0}

module _ {O T S W : Type 0} (M : Parts O T ⊥ ⊥ S W) (P : O → Type 0) (Q : T → Type 0) (R : S → S → Type 0) (here : (s : S) → R s s) (on : (a b c : S) → R a b → R b c → R a c)
    (ops : (o : O) (s s1 : S) (ns : List ℕ) → P o → M.does o s ≡ went ns s1 → R s s1) (quiets : (o : O) (s : S) → R s (M.quiets o s)) (tests : (c : T) (s : S) (ns : List ℕ) (z : Bool) → Q c → M.tests c s ≡ went ns z → R s (M.settled c s)) where
  later : {L N : Type 0} (f : L → N) (s s1 : S) → R s s1 → (o : Outcome S W L) → AtEnd (R s1) o → AtEnd (R s) (after f o)
  later f s s1 h (End s2 n l) g = on s s1 s2 h g
  later f s s1 h (Cut l) g = tt
  later f s s1 h (Stuck w) g = tt

  arm_is : (z : Bool) (a b : Tree O T ⊥ ⊥) → Every P Q a → Every P Q b → Every P Q (if z then a else b)
  arm_is true a b h g = h
  arm_is false a b h g = g

  quiet_on : (s s1 : S) → R s s1 → (o : Outcome S W Leak) → AtEnd (R s1) o → AtEnd (R s) o
  quiet_on s s1 h (End s2 n l) g = on s s1 s2 h g
  quiet_on s s1 h (Cut l) g = tt
  quiet_on s s1 h (Stuck w) g = tt

  mutual
    pub kept : {t : Tree O T ⊥ ⊥} {n : ℕ} {s : S} {o : Outcome S W Leak} → Goes M t n s o → Every P Q t → AtEnd (R s) o
    kept {s} ended is = here s
    kept {s} (did {o} {s1} {ns} {w} q g) is = later _ s s1 (ops o s s1 ns is.0 q) w (kept g is.1)
    kept (did_not q) is = tt
    kept {s} (quieted {o} {w} g) is = quiet_on s (M.quiets o s) (quiets o s) w (kept g is)
    kept {s} (chosen {c} {a} {b} {s1} {ns} {z} {w} q g h) is = later _ s s1 (on s (M.settled c s) s1 (tests c s ns z is.0 q) (kept g (arm_is z a b is.1 is.2))) w (kept h is.3)
    kept (chosen_cut q g) is = tt
    kept (chosen_stuck q g) is = tt
    kept (chose_not q) is = tt
    kept {s} (loop_left {s1} {w} g h) is = later _ s s1 (kept_turns g is.0 is.1 is.2) w (kept h is.3)
    kept (loop_cut g) is = tt
    kept (loop_stuck g) is = tt
    kept (counted {f} q g h) is = absurd f
    kept (counted_cut {f} q g) is = absurd f
    kept (counted_stuck {f} q g) is = absurd f
    kept (counted_not {f} q) is = absurd f
    kept (call_ended {c = f} q g k h) is = absurd f
    kept (call_cut {c = f} q g) is = absurd f
    kept (call_stuck {c = f} q g) is = absurd f
    kept (entered_not {c = f} q) is = absurd f
    kept (left_not {c = f} q g k) is = absurd f

    kept_turns : {p : Tree O T ⊥ ⊥} {c : T} {b : Tree O T ⊥ ⊥} {n : ℕ} {s : S} {o : Outcome S W Turns} → Loops M p c b n s o → Q c → Every P Q p → Every P Q b → AtEnd (R s) o
    kept_turns (in_prologue g) qc ip ib = tt
    kept_turns (prologue_stuck g) qc ip ib = tt
    kept_turns (tested_not g q) qc ip ib = tt
    kept_turns {c} {s} (leaves_loop {s1} {ns} g q) qc ip ib = on s s1 (M.settled c s1) (kept g ip) (tests c s1 ns false qc q)
    kept_turns (no_turn g q) qc ip ib = tt
    kept_turns (in_body g q k) qc ip ib = tt
    kept_turns (body_stuck g q k) qc ip ib = tt
    kept_turns {c} {s} (more_turns {s1} {s2} {ns} {w} g q k i) qc ip ib =
        later _ s s2 (on s (M.settled c s1) s2 (on s s1 (M.settled c s1) (kept g ip) (tests c s1 ns true qc q)) (kept k ib)) w (kept_turns i qc ip ib)

-- ---- registers in a instructions tree
module _ (r : Reg) where
  abbrev pub Spares : Insn → Type 0
  Spares i = sets i r ≡ false

  abbrev pub SparesTest : Test → Type 0
  SparesTest always = Unit {0}
  SparesTest (if_holds None c) = Unit {0}
  SparesTest (if_holds (Some i) c) = Spares i

  op_kept : (i : Insn) (s s1 : Machine) (ns : List ℕ) → Spares i → does i s ≡ went ns s1 → Stays r s.regs s1.regs
  op_kept i s s1 ns h e =
      let d = did_so (effect_of i 0 (state_at s 0) s.memory) ns s1 e in
      subst (λ (t : Machine). Stays r s.regs t.regs) d.3 (kept_by r d.0 i 0 (state_at s 0) s.memory h d.1)

  test_kept : (c : Test) (s : Machine) (ns : List ℕ) (z : Bool) → SparesTest c → tests c s ≡ went ns z → Stays r s.regs (settled c s).regs
  test_kept always s ns z h e = stays_here r s.regs
  test_kept (if_holds None c) s ns z h e = stays_here r s.regs
  test_kept (if_holds (Some i) c) s ns z h e =
      let t = answered_so c (does i s) ns z e in
      subst (λ (x : Machine). Stays r s.regs x.regs) (sym (ap (state_behind s) t.1)) (op_kept i s t.0 ns h t.1)

  pub register_kept : {t : Code} {n left : ℕ} {s s1 : Machine} {l : Leak} → Goes instructions t n s (End s1 left l) → Every Spares SparesTest t → Stays r s.regs s1.regs
  register_kept g is =
      kept instructions Spares SparesTest (λ a b. Stays r a.regs b.regs) (λ s. stays_here r s.regs) (λ a b c h k. stays_on h k) op_kept (λ o s. stays_here r s.regs) test_kept g is
