-- An instruction that is no jump and names no RIP does the same wherever it stands, and its step shows what its list of events says.
use Rattle.std.proofs.Common.{◌≡◌, ℕ, ◌+◌, ◌<◌, Bool, true, false, List, [], ◌∷◌, refl, sym, ap, ◌∙◌, subst, arith, pos, ◌+ℤ◌, if◌then◌else◌}
use Rattle.std.specs.Prelude.{Option, Some, None, Result, Ok, Err, ◌&&◌, not, length}
use Rattle.std.proofs.lemmas.List.Elements.{All-nil, All-cons}
use Rattle.jz_words.specs.declared.size.Size.{Size}
use Rattle.jz_words.specs.declared.size.Size.TheVariants.{S8, S32, S64}
use Rattle.jz_words.specs.Sizes.{bytes_of}
use Rattle.jz_words.specs.Words.{carried, residue}
use Rattle.jz_words.specs.Memory.{Memory, loaded, all_valid, stored}
use Rattle.x64_insn.specs.declared.answer.Answer.{Answer}
use Rattle.x64_insn.specs.declared.products.DoubleAnswer.{DoubleAnswer}
use Rattle.x64_insn.specs.declared.types.Reg.{Reg}
use Rattle.x64_insn.specs.declared.types.Reg.TheVariants as reg
use Rattle.x64_insn.specs.declared.types.Base.{Base}
use Rattle.x64_insn.specs.declared.types.Base.TheVariants as base
use Rattle.x64_insn.specs.declared.types.Mem.{Mem}
use Rattle.x64_insn.specs.declared.types.Operand.{Operand}
use Rattle.x64_insn.specs.declared.types.Operand.TheVariants as operand
use Rattle.x64_insn.specs.declared.types.Alu.{Alu}
use Rattle.x64_insn.specs.declared.types.Alu.TheVariants as alu
use Rattle.x64_insn.specs.declared.types.One.{One}
use Rattle.x64_insn.specs.declared.types.Wide.{Wide}
use Rattle.x64_insn.specs.declared.types.Wide.TheVariants as wide
use Rattle.x64_insn.specs.declared.types.Shift.{Shift}
use Rattle.x64_insn.specs.declared.types.Count.{Count}
use Rattle.x64_insn.specs.declared.types.Count.TheVariants as count
use Rattle.x64_insn.specs.declared.types.Cond.{Cond}
use Rattle.x64_insn.specs.declared.types.Cond.TheVariants as cond
use Rattle.x64_insn.specs.declared.types.Insn.{Insn}
use Rattle.x64_insn.specs.declared.types.Insn.TheVariants as insn
use Rattle.x64_insn.specs.declared.types.State.{State}
use Rattle.x64_insn.specs.declared.types.FlagVal.{FlagVal}
use Rattle.x64_insn.specs.declared.types.StepLeak.{StepLeak}
use Rattle.x64_insn.specs.declared.types.FaultKind.{FaultKind}
use Rattle.x64_insn.specs.declared.types.FaultKind.TheVariants.{BadAddress}
use Rattle.x64_insn.specs.Answers.{alu_answer, one_answer}
use Rattle.x64_insn.specs.Products.{product_answer, signed_product_answer, low_product_answer, quotient_answer, signed_quotient_answer}
use Rattle.x64_insn.specs.Shifts.{masked, shift_answer}
use Rattle.x64_insn.specs.Rows.{After, effect_of, reg_word, base_value, index_value, address_of, operand_value, access_event, access_events, division_event, no_event, or_bad_address, or_undefined, or_divide, put_row, finished, holds, of_one, carry_read, writes_operand, count_value, alu_row, mov_row, extended, extend_row, lea_row, one_row, both_row, wide_word_row, wide_row, imul_row, shift_row, bswap_row, sign_row, set_row, cmov_row}
use Rattle.jz_leak.specs.declared.transformer.Form.TheVariants as form
use Rattle.jz_leak.specs.declared.transformer.Out.{Out}
use Rattle.jz_leak.specs.declared.transformer.Out.TheVariants as out
use Rattle.jz_leak.specs.Applying.{events_for, OutFits, OutsFit}
use Rattle.x64_machine.specs.Steps.{events_of}
use Rattle.jz_placing.specs.Instructions.{Machine, numbers_of}
use Rattle.jz_linear.specs.Plain.{state_at, is_no_rip, names_no_rip, is_plain}
use Rattle.jz_linear.specs.Lines.{negated, access_outs, either_outs, division_outs, wide_outs, outs_of}

pub both_true : (a b : Bool) → (a && b) ≡ true → (a ≡ true) × (b ≡ true)
both_true true b e = (refl, e)
both_true false b e = absurd cc

-- ---- wherever it stands
abbrev pub moved_to : ℕ → Result After FaultKind → Result After FaultKind
moved_to next (Ok a) = Ok (record a { state = record a.state { rip = next } })
moved_to next (Err f) = Err f

module _ (next : ℕ) where
  bad_moved : (o : Option ℕ) (f g : ℕ → Result After FaultKind) → ((v : ℕ) → f v ≡ moved_to next (g v)) → or_bad_address o f ≡ moved_to next (or_bad_address o g)
  bad_moved None f g h = refl
  bad_moved (Some v) f g h = h v

  bad_same : (o o' : Option ℕ) (f g : ℕ → Result After FaultKind) → o ≡ o' → ((v : ℕ) → f v ≡ moved_to next (g v)) → or_bad_address o f ≡ moved_to next (or_bad_address o' g)
  bad_same o o' f g e h = ap (λ x. or_bad_address x f) e ∙ bad_moved o' f g h

  undefined_moved : (o : Option Bool) (f g : Bool → Result After FaultKind) → ((v : Bool) → f v ≡ moved_to next (g v)) → or_undefined o f ≡ moved_to next (or_undefined o g)
  undefined_moved None f g h = refl
  undefined_moved (Some v) f g h = h v

  undefined_same : (o o' : Option Bool) (f g : Bool → Result After FaultKind) → o ≡ o' → ((v : Bool) → f v ≡ moved_to next (g v)) → or_undefined o f ≡ moved_to next (or_undefined o' g)
  undefined_same o o' f g e h = ap (λ x. or_undefined x f) e ∙ undefined_moved o' f g h

  divide_moved : (o : Option DoubleAnswer) (f g : DoubleAnswer → Result After FaultKind) → ((v : DoubleAnswer) → f v ≡ moved_to next (g v)) → or_divide o f ≡ moved_to next (or_divide o g)
  divide_moved None f g h = refl
  divide_moved (Some v) f g h = h v

  if_moved : (b : Bool) (x y : After) → Ok x ≡ moved_to next (Ok y) → (if b then Ok x else Err BadAddress) ≡ moved_to next (if b then Ok y else Err BadAddress)
  if_moved true x y e = e
  if_moved false x y e = refl

pub holds_at : (c : Cond) (s : Machine) (rip : ℕ) → holds c (state_at s rip) ≡ holds c (state_at s 0)
unfolding holds
holds_at cond.O s rip = refl
holds_at cond.No s rip = refl
holds_at cond.B s rip = refl
holds_at cond.Ae s rip = refl
holds_at cond.E s rip = refl
holds_at cond.Ne s rip = refl
holds_at cond.Be s rip = refl
holds_at cond.A s rip = refl
holds_at cond.S s rip = refl
holds_at cond.Ns s rip = refl
holds_at cond.P s rip = refl
holds_at cond.Np s rip = refl
holds_at cond.L s rip = refl
holds_at cond.Ge s rip = refl
holds_at cond.Le s rip = refl
holds_at cond.G s rip = refl

module _ (next rip : ℕ) (s : Machine) where
  abbrev there : State
  there = state_at s rip

  abbrev here : State
  here = state_at s 0

  base_same : (b : Base) → is_no_rip b ≡ true → base_value there next b ≡ base_value here 0 b
  base_same base.Absent h = refl
  base_same (base.Reg r) h = refl
  base_same base.Rip h = absurd cc

  index_same : (i : Option (Reg × ℕ)) → index_value there i ≡ index_value here i
  index_same None = refl
  index_same (Some i) = refl

  address_same : (a : Mem) → is_no_rip a.base ≡ true → address_of there next a ≡ address_of here 0 a
  unfolding address_of
  address_same a h =
      ap (λ b. residue S64 (pos (b + index_value there a.index) +ℤ a.disp)) (base_same a.base h)
      ∙ ap (λ i. residue S64 (pos (base_value here 0 a.base + i) +ℤ a.disp)) (index_same a.index)

  value_same : (o : Operand) (z : Size) → names_no_rip o ≡ true → operand_value o z next there s.memory ≡ operand_value o z 0 here s.memory
  unfolding operand_value
  value_same (operand.Reg r) z h = refl
  value_same (operand.Imm i) z h = refl
  value_same (operand.Mem a) z h = ap (λ x. loaded s.memory x (bytes_of z)) (address_same a h)

  event_same : (o : Operand) → names_no_rip o ≡ true → access_event o next there ≡ access_event o 0 here
  event_same (operand.Reg r) h = refl
  event_same (operand.Imm i) h = refl
  event_same (operand.Mem a) h = ap (λ x. record { branch = None; addr = Some x; div = None }) (address_same a h)

  events_same : (to from : Operand) → names_no_rip to ≡ true → names_no_rip from ≡ true → access_events to from next there ≡ access_events to from 0 here
  events_same (operand.Mem a) from h g = ap (λ x. record { branch = None; addr = Some x; div = None }) (address_same a h)
  events_same (operand.Reg r) from h g = event_same from g
  events_same (operand.Imm i) from h g = event_same from g

  division_same : (o : Operand) (a b d : ℕ) → names_no_rip o ≡ true → division_event o a b d next there ≡ division_event o a b d 0 here
  division_same (operand.Reg r) a b d h = refl
  division_same (operand.Imm i) a b d h = refl
  division_same (operand.Mem x) a b d h = ap (λ y. record { branch = None; addr = Some y; div = Some (a, b, d) }) (address_same x h)

  put_same : (o : Operand) (z : Size) (v : ℕ) (flags : List FlagVal) (l : StepLeak) → names_no_rip o ≡ true → put_row o z v next flags l there s.memory ≡ moved_to next (put_row o z v 0 flags l here s.memory)
  unfolding put_row
  put_same (operand.Reg r) z v flags l h = refl
  put_same (operand.Imm i) z v flags l h = refl
  put_same (operand.Mem a) z v flags l h =
      ap (λ x. if all_valid s.memory x (bytes_of z) then finished there (stored s.memory x (bytes_of z) v) next flags l else Err BadAddress) (address_same a h)
      ∙ if_moved next (all_valid s.memory (address_of here 0 a) (bytes_of z)) _ _ refl

  -- a write whose event is that of the operands
  put_with : (o : Operand) (z : Size) (v : ℕ) (flags : List FlagVal) (l l' : StepLeak) → names_no_rip o ≡ true → l ≡ l' → put_row o z v next flags l there s.memory ≡ moved_to next (put_row o z v 0 flags l' here s.memory)
  put_with o z v flags l l' h e = ap (λ x. put_row o z v next flags x there s.memory) e ∙ put_same o z v flags l' h

  carry_same : (o : Alu) → carry_read o there ≡ carry_read o here
  carry_same alu.Adc = refl
  carry_same alu.Sbb = refl
  carry_same _ = refl

  alu_end : (w : Bool) (to : Operand) (z : Size) (r : Answer) (l l' : StepLeak) → names_no_rip to ≡ true → l ≡ l'
      → (if w then put_row to z r.value next r.flags l there s.memory else finished there s.memory next r.flags l)
      ≡ moved_to next (if w then put_row to z r.value 0 r.flags l' here s.memory else finished here s.memory 0 r.flags l')
  alu_end true to z r l l' h e = put_with to z r.value r.flags l l' h e
  alu_end false to z r l l' h e = ap (λ x. finished there s.memory next r.flags x) e

  alu_same : (o : Alu) (z : Size) (to from : Operand) → names_no_rip to ≡ true → names_no_rip from ≡ true → alu_row o z to from next there s.memory ≡ moved_to next (alu_row o z to from 0 here s.memory)
  unfolding alu_row
  alu_same o z to from h g =
      bad_same next _ _ _ _ (value_same to z h) (λ a. bad_same next _ _ _ _ (value_same from z g) (λ b. undefined_same next _ _ _ _ (carry_same o)
      (λ c. alu_end (writes_operand o) to z (alu_answer o z a b c) _ _ h (events_same to from h g))))

  mov_same : (z : Size) (to from : Operand) → names_no_rip to ≡ true → names_no_rip from ≡ true → mov_row z to from next there s.memory ≡ moved_to next (mov_row z to from 0 here s.memory)
  unfolding mov_row
  mov_same z to from h g = bad_same next _ _ _ _ (value_same from z g) (λ v. put_with to z v s.flags _ _ h (events_same to from h g))

  extend_same : (sign : Bool) (to from : Size) (r : Reg) (o : Operand) → names_no_rip o ≡ true → extend_row sign to from r o next there s.memory ≡ moved_to next (extend_row sign to from r o 0 here s.memory)
  unfolding extend_row
  extend_same sign to from r o h = bad_same next _ _ _ _ (value_same o from h) (λ v. put_with (operand.Reg r) to (extended sign to from v) s.flags _ _ refl (event_same o h))

  lea_same : (r : Reg) (a : Mem) → is_no_rip a.base ≡ true → lea_row r a next there s.memory ≡ moved_to next (lea_row r a 0 here s.memory)
  unfolding lea_row
  lea_same r a h = ap (λ x. put_row (operand.Reg r) S64 x next s.flags no_event there s.memory) (address_same a h) ∙ put_same (operand.Reg r) S64 _ s.flags no_event refl

  one_same : (o : One) (z : Size) (rm : Operand) → names_no_rip rm ≡ true → one_row o z rm next there s.memory ≡ moved_to next (one_row o z rm 0 here s.memory)
  unfolding one_row
  one_same o z rm h = bad_same next _ _ _ _ (value_same rm z h) (λ a. put_with rm z (one_answer o z a s.flags).value (one_answer o z a s.flags).flags _ _ h (event_same rm h))

  count_same : (n : Count) → count_value n there ≡ count_value n here
  count_same (count.Imm k) = refl
  count_same count.Cl = refl

  shift_with : (k : Shift) (z : Size) (rm : Operand) (m n : ℕ) → names_no_rip rm ≡ true → m ≡ n
      → or_bad_address (operand_value rm z next there s.memory) (λ a. put_row rm z (shift_answer k z a (masked z m) s.flags).value next (shift_answer k z a (masked z m) s.flags).flags (access_event rm next there) there s.memory)
      ≡ moved_to next (or_bad_address (operand_value rm z 0 here s.memory) (λ a. put_row rm z (shift_answer k z a (masked z n) s.flags).value 0 (shift_answer k z a (masked z n) s.flags).flags (access_event rm 0 here) here s.memory))
  shift_with k z rm m n h e =
      bad_same next _ _ _ _ (value_same rm z h) (λ a. ap (λ x. put_row rm z (shift_answer k z a (masked z x) s.flags).value next (shift_answer k z a (masked z x) s.flags).flags (access_event rm next there) there s.memory) e
      ∙ put_with rm z (shift_answer k z a (masked z n) s.flags).value (shift_answer k z a (masked z n) s.flags).flags _ _ h (event_same rm h))

  shift_same : (k : Shift) (z : Size) (rm : Operand) (n : Count) → names_no_rip rm ≡ true → shift_row k z rm n next there s.memory ≡ moved_to next (shift_row k z rm n 0 here s.memory)
  unfolding shift_row
  shift_same k z rm n h = shift_with k z rm (count_value n there) (count_value n here) h (count_same n)

  imul_same : (z : Size) (r : Reg) (a : ℕ) (rm : Operand) → names_no_rip rm ≡ true → imul_row z r a rm next there s.memory ≡ moved_to next (imul_row z r a rm 0 here s.memory)
  unfolding imul_row
  imul_same z r a rm h = bad_same next _ _ _ _ (value_same rm z h) (λ b. put_with (operand.Reg r) z (low_product_answer z a b).value (low_product_answer z a b).flags _ _ refl (event_same rm h))

  wide_word_same : (o : Wide) (z : Size) (rm : Operand) (b : ℕ) → names_no_rip rm ≡ true → wide_word_row o z rm b next there s.memory ≡ moved_to next (wide_word_row o z rm b 0 here s.memory)
  wide_word_same wide.Mul z rm b h = ap (λ l. both_row z (product_answer z (reg_word here z reg.Rax) b) next l there s.memory) (event_same rm h)
  wide_word_same wide.Imul z rm b h = ap (λ l. both_row z (signed_product_answer z (reg_word here z reg.Rax) b) next l there s.memory) (event_same rm h)
  wide_word_same wide.Div z rm b h =
      divide_moved next (quotient_answer z (reg_word here z reg.Rdx) (reg_word here z reg.Rax) b) _ _
      (λ r. ap (λ l. both_row z r next l there s.memory) (division_same rm (reg_word here z reg.Rdx) (reg_word here z reg.Rax) b h))
  wide_word_same wide.Idiv z rm b h =
      divide_moved next (signed_quotient_answer z (reg_word here z reg.Rdx) (reg_word here z reg.Rax) b) _ _
      (λ r. ap (λ l. both_row z r next l there s.memory) (division_same rm (reg_word here z reg.Rdx) (reg_word here z reg.Rax) b h))

  wide_same : (o : Wide) (z : Size) (rm : Operand) → names_no_rip rm ≡ true → wide_row o z rm next there s.memory ≡ moved_to next (wide_row o z rm 0 here s.memory)
  unfolding wide_row
  wide_same o z rm h = bad_same next _ _ _ _ (value_same rm z h) (λ b. wide_word_same o z rm b h)

  set_same : (c : Cond) (rm : Operand) → names_no_rip rm ≡ true → set_row c rm next there s.memory ≡ moved_to next (set_row c rm 0 here s.memory)
  unfolding set_row
  set_same c rm h = bad_same next _ _ _ _ (value_same rm S8 h) (λ a. undefined_same next _ _ _ _ (holds_at c s rip) (λ b. put_with rm S8 (carried b) s.flags _ _ h (event_same rm h)))

  cmov_same : (c : Cond) (z : Size) (r : Reg) (rm : Operand) → names_no_rip rm ≡ true → cmov_row c z r rm next there s.memory ≡ moved_to next (cmov_row c z r rm 0 here s.memory)
  unfolding cmov_row
  cmov_same c z r rm h =
      bad_same next _ _ _ _ (value_same rm z h) (λ v. undefined_same next _ _ _ _ (holds_at c s rip) (λ b. put_with (operand.Reg r) z (if b then v else reg_word here z r) s.flags _ _ refl (event_same rm h)))

  bswap_same : (z : Size) (r : Reg) → bswap_row z r next there s.memory ≡ moved_to next (bswap_row z r 0 here s.memory)
  unfolding bswap_row
  bswap_same z r = put_same (operand.Reg r) z _ s.flags no_event refl

  sign_same : (z : Size) → sign_row z next there s.memory ≡ moved_to next (sign_row z 0 here s.memory)
  unfolding sign_row
  sign_same z = put_same (operand.Reg reg.Rdx) z _ s.flags no_event refl

  pub same_anywhere : (i : Insn) → is_plain i ≡ true → effect_of i next there s.memory ≡ moved_to next (effect_of i 0 here s.memory)
  same_anywhere (insn.Alu o z to from) h = let b = both_true _ _ h in alu_same o z to from b.0 b.1
  same_anywhere (insn.Mov z to from) h = let b = both_true _ _ h in mov_same z to from b.0 b.1
  same_anywhere (insn.Extend sign to from r rm) h = extend_same sign to from r rm h
  same_anywhere (insn.Lea r a) h = lea_same r a h
  same_anywhere (insn.One o z rm) h = one_same o z rm h
  same_anywhere (insn.Wide o z rm) h = wide_same o z rm h
  same_anywhere (insn.Imul z r rm) h = imul_same z r (reg_word here z r) rm h
  same_anywhere (insn.ImulBy z r rm i) h = imul_same z r (residue z i) rm h
  same_anywhere (insn.Shift k z rm n) h = shift_same k z rm n h
  same_anywhere (insn.Bswap z r) h = bswap_same z r
  same_anywhere insn.Cdq h = sign_same S32
  same_anywhere insn.Cqo h = sign_same S64
  same_anywhere (insn.Set c rm) h = set_same c rm h
  same_anywhere (insn.Cmov c z r rm) h = cmov_same c z r rm h
  same_anywhere (insn.Jcc c w d) h = absurd cc
  same_anywhere (insn.Jmp w d) h = absurd cc
  same_anywhere (insn.Call d) h = absurd cc
  same_anywhere insn.Ret h = absurd cc

-- ---- negated conditions
twice : (o : Option Bool) → o ≡ of_one not (of_one not o)
twice None = refl
twice (Some true) = refl
twice (Some false) = refl

pub negated_holds : (c : Cond) (st : State) → holds (negated c) st ≡ of_one not (holds c st)
unfolding holds
negated_holds cond.O st = refl
negated_holds cond.No st = twice _
negated_holds cond.B st = refl
negated_holds cond.Ae st = twice _
negated_holds cond.E st = refl
negated_holds cond.Ne st = twice _
negated_holds cond.Be st = refl
negated_holds cond.A st = twice _
negated_holds cond.S st = refl
negated_holds cond.Ns st = twice _
negated_holds cond.P st = refl
negated_holds cond.Np st = twice _
negated_holds cond.L st = refl
negated_holds cond.Ge st = twice _
negated_holds cond.Le st = refl
negated_holds cond.G st = twice _

-- ---- what a step shows
-- the events of a step are those of a list, by its numbers
pub record Shows (l : StepLeak) (outs : List Out) : Type 0 where
  pub events : (rsp0 : ℕ) → events_of l ≡ events_for (numbers_of l) rsp0 outs
  pub fits : OutsFit (numbers_of l) outs

shows_as : {l l' : StepLeak} {outs : List Out} → l' ≡ l → Shows l outs → Shows l' outs
shows_as {outs} e h = subst (λ x. Shows x outs) (sym e) h

shows_nothing : Shows no_event []
shows_nothing = record { events = λ r. refl; fits = All-nil (OutFits []) }

one_out : (a : ℕ) → Shows (record { branch = None; addr = Some a; div = None }) (access_outs (operand.Mem (record { base = base.Absent; index = None; disp = pos 0 })))
one_out a = record { events = λ r. refl; fits = All-cons (OutFits (a ∷ [])) _ [] (omega arith) (All-nil (OutFits (a ∷ []))) }

shows_access : (o : Operand) (next : ℕ) (st : State) → Shows (access_event o next st) (access_outs o)
shows_access (operand.Reg r) next st = shows_nothing
shows_access (operand.Imm i) next st = shows_nothing
shows_access (operand.Mem a) next st = one_out (address_of st next a)

shows_either : (to from : Operand) (next : ℕ) (st : State) → Shows (access_events to from next st) (either_outs to from)
shows_either (operand.Mem a) from next st = one_out (address_of st next a)
shows_either (operand.Reg r) from next st = shows_access from next st
shows_either (operand.Imm i) from next st = shows_access from next st

-- three numbers from one on
abbrev divided : ℕ → Out
divided n = out.Div (form.Leaked n) (form.Leaked (n + 1)) (form.Leaked (n + 2))

shows_divided : (a b d : ℕ) → Shows (record { branch = None; addr = None; div = Some (a, b, d) }) (divided 0 ∷ [])
shows_divided a b d =
    let ns = a ∷ b ∷ d ∷ [] in
    let last : (0 < length ns) × (1 < length ns) × (2 < length ns) = (omega arith, omega arith, omega arith) in
    record { events = λ r. refl; fits = All-cons (OutFits ns) (divided 0) [] last (All-nil (OutFits ns)) }

shows_division : (o : Operand) (a b d next : ℕ) (st : State) → Shows (division_event o a b d next st) (division_outs o)
shows_division (operand.Mem x) a b d next st =
    let ns = address_of st next x ∷ a ∷ b ∷ d ∷ [] in
    let first : 0 < length ns = omega arith in
    let last : (1 < length ns) × (2 < length ns) × (3 < length ns) = (omega arith, omega arith, omega arith) in
    record {
      events = λ r. refl;
      fits = All-cons (OutFits ns) (out.Addr (form.Leaked 0)) (divided 1 ∷ []) first (All-cons (OutFits ns) (divided 1) [] last (All-nil (OutFits ns)));
    }
shows_division (operand.Reg q) a b d next st = shows_divided a b d
shows_division (operand.Imm q) a b d next st = shows_divided a b d

-- ---- where a row comes to something
same_after : {x a : After} → ◌≡◌ {A = Result After FaultKind} (Ok x) (Ok a) → a.leak ≡ x.leak
same_after {x} {a} e = let k : x ≡ a = cc in ap (λ (y : After). y.leak) (sym k)

module _ (a : After) where
  pub after_bad : (o : Option ℕ) (f : ℕ → Result After FaultKind) → or_bad_address o f ≡ Ok a → (v : ℕ) × (f v ≡ Ok a)
  after_bad None f e = absurd cc
  after_bad (Some v) f e = (v, e)

  pub after_undefined : (o : Option Bool) (f : Bool → Result After FaultKind) → or_undefined o f ≡ Ok a → (v : Bool) × (f v ≡ Ok a)
  after_undefined None f e = absurd cc
  after_undefined (Some v) f e = (v, e)

  pub after_divide : (o : Option DoubleAnswer) (f : DoubleAnswer → Result After FaultKind) → or_divide o f ≡ Ok a → (v : DoubleAnswer) × (f v ≡ Ok a)
  after_divide None f e = absurd cc
  after_divide (Some v) f e = (v, e)

  if_after : (b : Bool) (x : After) → (if b then Ok x else Err BadAddress) ≡ Ok a → a.leak ≡ x.leak
  if_after true x e = same_after e
  if_after false x e = absurd cc

  put_leak : (o : Operand) (z : Size) (v next : ℕ) (flags : List FlagVal) (l : StepLeak) (st : State) (m : Memory) → put_row o z v next flags l st m ≡ Ok a → a.leak ≡ l
  unfolding put_row
  put_leak (operand.Reg r) z v next flags l st m e = same_after e
  put_leak (operand.Imm i) z v next flags l st m e = absurd cc
  put_leak (operand.Mem x) z v next flags l st m e = if_after (all_valid m (address_of st next x) (bytes_of z)) _ e

  alu_leak_end : (w : Bool) (to : Operand) (z : Size) (r : Answer) (next : ℕ) (l : StepLeak) (st : State) (m : Memory)
      → (if w then put_row to z r.value next r.flags l st m else finished st m next r.flags l) ≡ Ok a → a.leak ≡ l
  alu_leak_end true to z r next l st m e = put_leak to z r.value next r.flags l st m e
  alu_leak_end false to z r next l st m e = same_after e

  alu_leak : (o : Alu) (z : Size) (to from : Operand) (next : ℕ) (st : State) (m : Memory) → alu_row o z to from next st m ≡ Ok a → a.leak ≡ access_events to from next st
  unfolding alu_row
  alu_leak o z to from next st m e =
      let x = after_bad (operand_value to z next st m) _ e in
      let y = after_bad (operand_value from z next st m) _ x.1 in
      let q = after_undefined (carry_read o st) _ y.1 in
      alu_leak_end (writes_operand o) to z (alu_answer o z x.0 y.0 q.0) next (access_events to from next st) st m q.1

  mov_leak : (z : Size) (to from : Operand) (next : ℕ) (st : State) (m : Memory) → mov_row z to from next st m ≡ Ok a → a.leak ≡ access_events to from next st
  unfolding mov_row
  mov_leak z to from next st m e = let x = after_bad (operand_value from z next st m) _ e in put_leak to z _ next _ _ st m x.1

  extend_leak : (sign : Bool) (to from : Size) (r : Reg) (o : Operand) (next : ℕ) (st : State) (m : Memory) → extend_row sign to from r o next st m ≡ Ok a → a.leak ≡ access_event o next st
  unfolding extend_row
  extend_leak sign to from r o next st m e = let x = after_bad (operand_value o from next st m) _ e in put_leak (operand.Reg r) to _ next _ _ st m x.1

  lea_leak : (r : Reg) (x : Mem) (next : ℕ) (st : State) (m : Memory) → lea_row r x next st m ≡ Ok a → a.leak ≡ no_event
  unfolding lea_row
  lea_leak r x next st m e = put_leak (operand.Reg r) S64 _ next _ no_event st m e

  one_leak : (o : One) (z : Size) (rm : Operand) (next : ℕ) (st : State) (m : Memory) → one_row o z rm next st m ≡ Ok a → a.leak ≡ access_event rm next st
  unfolding one_row
  one_leak o z rm next st m e = let x = after_bad (operand_value rm z next st m) _ e in put_leak rm z _ next _ _ st m x.1

  shift_leak : (k : Shift) (z : Size) (rm : Operand) (n : Count) (next : ℕ) (st : State) (m : Memory) → shift_row k z rm n next st m ≡ Ok a → a.leak ≡ access_event rm next st
  unfolding shift_row
  shift_leak k z rm n next st m e = let x = after_bad (operand_value rm z next st m) _ e in put_leak rm z _ next _ _ st m x.1

  imul_leak : (z : Size) (r : Reg) (b : ℕ) (rm : Operand) (next : ℕ) (st : State) (m : Memory) → imul_row z r b rm next st m ≡ Ok a → a.leak ≡ access_event rm next st
  unfolding imul_row
  imul_leak z r b rm next st m e = let x = after_bad (operand_value rm z next st m) _ e in put_leak (operand.Reg r) z _ next _ _ st m x.1

  wide_word_shows : (o : Wide) (z : Size) (rm : Operand) (b next : ℕ) (st : State) (m : Memory) → wide_word_row o z rm b next st m ≡ Ok a → Shows a.leak (wide_outs o rm)
  wide_word_shows wide.Mul z rm b next st m e = shows_as (same_after e) (shows_access rm next st)
  wide_word_shows wide.Imul z rm b next st m e = shows_as (same_after e) (shows_access rm next st)
  wide_word_shows wide.Div z rm b next st m e = let x = after_divide (quotient_answer z (reg_word st z reg.Rdx) (reg_word st z reg.Rax) b) _ e in shows_as (same_after x.1) (shows_division rm _ _ _ next st)
  wide_word_shows wide.Idiv z rm b next st m e = let x = after_divide (signed_quotient_answer z (reg_word st z reg.Rdx) (reg_word st z reg.Rax) b) _ e in shows_as (same_after x.1) (shows_division rm _ _ _ next st)

  wide_shows : (o : Wide) (z : Size) (rm : Operand) (next : ℕ) (st : State) (m : Memory) → wide_row o z rm next st m ≡ Ok a → Shows a.leak (wide_outs o rm)
  unfolding wide_row
  wide_shows o z rm next st m e = let x = after_bad (operand_value rm z next st m) _ e in wide_word_shows o z rm x.0 next st m x.1

  set_leak : (c : Cond) (rm : Operand) (next : ℕ) (st : State) (m : Memory) → set_row c rm next st m ≡ Ok a → a.leak ≡ access_event rm next st
  unfolding set_row
  set_leak c rm next st m e = let x = after_bad (operand_value rm S8 next st m) _ e in let y = after_undefined (holds c st) _ x.1 in put_leak rm S8 _ next _ _ st m y.1

  cmov_leak : (c : Cond) (z : Size) (r : Reg) (rm : Operand) (next : ℕ) (st : State) (m : Memory) → cmov_row c z r rm next st m ≡ Ok a → a.leak ≡ access_event rm next st
  unfolding cmov_row
  cmov_leak c z r rm next st m e = let x = after_bad (operand_value rm z next st m) _ e in let y = after_undefined (holds c st) _ x.1 in put_leak (operand.Reg r) z _ next _ _ st m y.1

  bswap_leak : (z : Size) (r : Reg) (next : ℕ) (st : State) (m : Memory) → bswap_row z r next st m ≡ Ok a → a.leak ≡ no_event
  unfolding bswap_row
  bswap_leak z r next st m e = put_leak (operand.Reg r) z _ next _ no_event st m e

  sign_leak : (z : Size) (next : ℕ) (st : State) (m : Memory) → sign_row z next st m ≡ Ok a → a.leak ≡ no_event
  unfolding sign_row
  sign_leak z next st m e = put_leak (operand.Reg reg.Rdx) z _ next _ no_event st m e

pub shown_by : (i : Insn) (next : ℕ) (st : State) (m : Memory) (a : After) → is_plain i ≡ true → effect_of i next st m ≡ Ok a → Shows a.leak (outs_of i)
shown_by (insn.Alu o z to from) next st m a h e = shows_as (alu_leak a o z to from next st m e) (shows_either to from next st)
shown_by (insn.Mov z to from) next st m a h e = shows_as (mov_leak a z to from next st m e) (shows_either to from next st)
shown_by (insn.Extend sign to from r rm) next st m a h e = shows_as (extend_leak a sign to from r rm next st m e) (shows_access rm next st)
shown_by (insn.Lea r x) next st m a h e = shows_as (lea_leak a r x next st m e) shows_nothing
shown_by (insn.One o z rm) next st m a h e = shows_as (one_leak a o z rm next st m e) (shows_access rm next st)
shown_by (insn.Wide o z rm) next st m a h e = wide_shows a o z rm next st m e
shown_by (insn.Imul z r rm) next st m a h e = shows_as (imul_leak a z r _ rm next st m e) (shows_access rm next st)
shown_by (insn.ImulBy z r rm i) next st m a h e = shows_as (imul_leak a z r _ rm next st m e) (shows_access rm next st)
shown_by (insn.Shift k z rm n) next st m a h e = shows_as (shift_leak a k z rm n next st m e) (shows_access rm next st)
shown_by (insn.Bswap z r) next st m a h e = shows_as (bswap_leak a z r next st m e) shows_nothing
shown_by insn.Cdq next st m a h e = shows_as (sign_leak a S32 next st m e) shows_nothing
shown_by insn.Cqo next st m a h e = shows_as (sign_leak a S64 next st m e) shows_nothing
shown_by (insn.Set c rm) next st m a h e = shows_as (set_leak a c rm next st m e) (shows_access rm next st)
shown_by (insn.Cmov c z r rm) next st m a h e = shows_as (cmov_leak a c z r rm next st m e) (shows_access rm next st)
shown_by (insn.Jcc c w d) next st m a h e = absurd cc
shown_by (insn.Jmp w d) next st m a h e = absurd cc
shown_by (insn.Call d) next st m a h e = absurd cc
shown_by insn.Ret next st m a h e = absurd cc
