-- Runs of lines are runs of the machine over their bytes; and a return at their end.
use Rattle.std.proofs.Common.{◌≡◌, ◌≢◌, ℤ, ℕ, zero, suc, ◌+◌, ◌%◌, ◌^◌, ◌<◌, ◌≤◌, ◌⊎◌, ⊎_elim, true, false, List, [], ◌++◌, length, refl, sym, ap, ◌∙◌, subst, arith}
use Rattle.std.specs.Prelude.{Option, Some, Ok, map, ◌&&◌, slice_index}
use Rattle.std.proofs.lemmas.Bool.{eq-eqb}
use Rattle.jz_words.specs.declared.size.Size.TheVariants.{S64}
use Rattle.jz_words.specs.Memory.{loaded}
use Rattle.x64_insn.specs.declared.types.Reg.TheVariants as reg
use Rattle.x64_insn.specs.declared.types.Insn.{Insn}
use Rattle.x64_insn.specs.declared.types.Insn.TheVariants as insn
use Rattle.x64_insn.specs.Rows.{After, effect_of, reg_value, with_reg, address_event, ret_row}
use Rattle.x64_insn.specs.declared.types.Cond.{Cond}
use Rattle.x64_insn.specs.declared.types.Width.{Width}
use Rattle.x64_insn.specs.Chosen.{chosen_bytes}
use Rattle.x64_decode.specs.declared.Decoded.TheVariants as decoded
use Rattle.jz_leak.specs.declared.event.Event.{Event}
use Rattle.x64_machine.specs.declared.step.Step.TheVariants.{Running}
use Rattle.x64_machine.specs.Steps.{Config, Moved, Ran, at_entry, same_number, insn_at, step_of, events_of, steps_of}
use Rattle.jz_linear.specs.declared.line.Line.{Line}
use Rattle.jz_linear.specs.declared.line.Line.TheVariants as line
use Rattle.jz_placing.specs.Instructions.{Machine}
use Rattle.jz_linear.specs.Plain.{is_plain}
use Rattle.jz_linear.specs.LineRuns.{at_place, Steps, executed, jumped, taken, passed, Runs, stops, runs}
use Rattle.x64_assemble.specs.Assembling.{Wide, line_of, offset_of, insns_of, assembled, AreSpellable}
use Rattle.x64_assemble.specs.CodeRuns.{Going}
use Rattle.x64_assemble.proofs.LineSteps.{made, step_made, NoLabels, lines_in, config_in, stands_line, made_step}

-- ---- runs of a machine
pub run_on : (code : List ℕ) (base : ℕ) (c : Config) (m : Moved) (k : ℕ) → step_of code base c ≡ m
    → steps_of code base c (suc k) ≡ record { after = (steps_of code base m.after k).after; events = events_of m.leak ++ (steps_of code base m.after k).events }
unfolding steps_of
run_on code base c m k e = ap (λ (x : Moved). record { after = (steps_of code base x.after k).after; events = events_of x.leak ++ (steps_of code base x.after k).events }) e

pub no_step : (code : List ℕ) (base : ℕ) (c : Config) → steps_of code base c zero ≡ record { after = c; events = [] }
unfolding steps_of
no_step code base c = refl

module _ (code : List ℕ) (base : ℕ) where
  goes_nowhere : (c : Config) → c.ended ≡ false → Going code base 0 c [] c
  goes_nowhere c e = record { is = no_step code base c; opens = opens; answers = λ j lt. absurd (omega (arith, lt)); returns = λ j len lt e2 i. absurd (omega (arith, lt)) }
    where
      opens : (j : ℕ) → j < 1 → (steps_of code base c j).after.ended ≡ false
      opens zero lt = ap (λ (r : Ran). r.after.ended) (no_step code base c) ∙ e
      opens (suc j) lt = absurd (omega (arith, lt))

  goes_one : {k : ℕ} {c d : Config} {fs : List Event} (m : Moved) → c.ended ≡ false → step_of code base c ≡ m → m.answer ≡ Running → ((len : ℕ) → insn_at code base c.state.rip ≢ decoded.Insn insn.Ret len) → Going code base k m.after fs d → Going code base (suc k) c (events_of m.leak ++ fs) d
  goes_one {k} {c} {d} {fs} m e step running no_ret g = record {
    is = run_on code base c m k step ∙ ap (λ (r : Ran). record { after = r.after; events = events_of m.leak ++ r.events }) g.is;
    opens = opens;
    answers = answers;
    returns = returns_so;
  }
    where
      opens : (j : ℕ) → j < suc (suc k) → (steps_of code base c j).after.ended ≡ false
      opens zero lt = ap (λ (r : Ran). r.after.ended) (no_step code base c) ∙ e
      opens (suc j) lt = ap (λ (r : Ran). r.after.ended) (run_on code base c m j step) ∙ g.opens j (omega (arith, lt))

      answers : (j : ℕ) → j < suc k → (step_of code base (steps_of code base c j).after).answer ≡ Running
      answers zero lt = ap (λ (r : Ran). (step_of code base r.after).answer) (no_step code base c) ∙ ap (λ (m : Moved). m.answer) step ∙ running
      answers (suc j) lt = ap (λ (r : Ran). (step_of code base r.after).answer) (run_on code base c m j step) ∙ g.answers j (omega (arith, lt))

      returns_so : (j len : ℕ) → j < suc k → (steps_of code base c j).after.ended ≡ false → insn_at code base (steps_of code base c j).after.state.rip ≡ decoded.Insn insn.Ret len → at_entry (steps_of code base c j).after ≡ true
      returns_so zero len lt q i = absurd (no_ret len (ap (λ (r : Ran). insn_at code base r.after.state.rip) (sym (no_step code base c)) ∙ i))
      returns_so (suc j) len lt q i =
          ap (λ (r : Ran). at_entry r.after) (run_on code base c m j step)
          ∙ g.returns j len (omega (arith, lt)) (ap (λ (r : Ran). r.after.ended) (sym (run_on code base c m j step)) ∙ q) (ap (λ (r : Ran). insn_at code base r.after.state.rip) (sym (run_on code base c m j step)) ∙ i)

-- ---- a return
abbrev pub returned : Config → ℕ → After
returned c target =
    let rsp = reg_value c.state reg.Rsp in
    record {
      state = record (with_reg c.state S64 reg.Rsp ((rsp + 8) % 2 ^ 64)) { rip = target };
      memory = c.memory;
      leak = address_event rsp;
    }

return_does : (c : Config) (next target : ℕ) → loaded c.memory (reg_value c.state reg.Rsp) 8 ≡ Some target → effect_of insn.Ret next c.state c.memory ≡ Ok (returned c target)
unfolding ret_row
return_does c next target e = rw e refl

returns_at : (c : Config) (target : ℕ) → reg_value c.state reg.Rsp ≡ c.entry_rsp → loaded c.memory c.entry_rsp 8 ≡ Some target → c.entry_return ≡ Some target → at_entry c ≡ true
returns_at c target stack slot return =
    ap (λ b. b && same_number (loaded c.memory c.entry_rsp 8) c.entry_return) (eq-eqb _ _ stack)
    ∙ ap (λ x. same_number x c.entry_return) slot ∙ ap (λ x. same_number (Some target) x) return ∙ eq-eqb target target refl

-- a return ends the run from this state: the stack pointer is the entry's, and its slot holds the entry's return address
pub record CanReturn (entry_rsp : ℕ) (entry_return : Option ℕ) (s : Machine) : Type 0 where
  pub target : ℕ
  pub stack : slice_index s.regs 4 ≡ entry_rsp
  pub slot : loaded s.memory entry_rsp 8 ≡ Some target
  pub return : entry_return ≡ Some target

module _ (ws : List Wide) (place : ℕ → ℕ) (nl : NoLabels ws) (are : AreSpellable (insns_of ws place)) (base : ℕ) (code : List ℕ) (is : code ≡ assembled (insns_of ws place)) (fits : base + length code ≤ 2 ^ 64)
    (last : (k : ℕ) (x : Line) → at_place (map line_of ws) k ≡ Some x → (suc k < length ws) ⊎ (x ≡ line.Insn insn.Ret)) where
  jmp_is : (l : ℕ) → line.Jmp l ≡ line.Insn insn.Ret → ⊥
  jmp_is l e = cc

  jcc_is : (k : _) (l : ℕ) → line.Jcc k l ≡ line.Insn insn.Ret → ⊥
  jcc_is k l e = cc

  insn_is : (i : Insn) → is_plain i ≡ true → line.Insn i ≡ line.Insn insn.Ret → ⊥
  insn_is i h e = let same : i ≡ insn.Ret = cc in let no_ret : false ≡ true = subst (λ j. is_plain j ≡ true) same h in cc

  from_inside : {pc pc1 : ℕ} {s s1 : Machine} {es : List Event} → Steps (lines_in ws place) pc s es pc1 s1 → suc pc < length ws
  from_inside {pc} (executed i a e plain does) = ⊎_elim (λ lt. lt) (λ k. absurd (insn_is i plain k)) (last pc (line.Insn i) e)
  from_inside {pc} (jumped l e) = ⊎_elim (λ lt. lt) (λ k. absurd (jmp_is l k)) (last pc (line.Jmp l) e)
  from_inside {pc} (taken k l e h) = ⊎_elim (λ lt. lt) (λ q. absurd (jcc_is k l q)) (last pc (line.Jcc k l) e)
  from_inside {pc} (passed k l e h) = ⊎_elim (λ lt. lt) (λ q. absurd (jcc_is k l q)) (last pc (line.Jcc k l) e)

  same_insn : (i j : Insn) (n m : ℕ) → decoded.Insn i n ≡ decoded.Insn j m → i ≡ j
  same_insn i j n m e = cc

  jump_no_ret : (w : Width) (d : ℤ) → insn.Jmp w d ≡ insn.Ret → ⊥
  jump_no_ret w d e = cc

  branch_no_ret : (c : Cond) (w : Width) (d : ℤ) → insn.Jcc c w d ≡ insn.Ret → ⊥
  branch_no_ret c w d e = cc

  -- what stands where a step is made is no return
  no_return : {pc pc1 : ℕ} {s s1 : Machine} {es : List Event} → Steps (lines_in ws place) pc s es pc1 s1 → (len : ℕ) → insn_at code base (base + offset_of ws pc) ≢ decoded.Insn insn.Ret len
  no_return {pc} (executed i a e plain does) len r =
      let t = (stands_line ws place nl are base code is fits pc (line.Insn i) e (λ h. h)).1 in
      insn_is i plain (ap line.Insn (same_insn i insn.Ret _ len (sym (t.here (base + offset_of ws pc) refl) ∙ r)))
  no_return {pc} (jumped l e) len r =
      let t = stands_line ws place nl are base code is fits pc (line.Jmp l) e (λ h. h) in
      jump_no_ret t.0 _ (same_insn _ insn.Ret _ len (sym (t.1.here (base + offset_of ws pc) refl) ∙ r))
  no_return {pc} (taken k l e h) len r =
      let t = stands_line ws place nl are base code is fits pc (line.Jcc k l) e (λ h. h) in
      branch_no_ret k t.0 _ (same_insn _ insn.Ret _ len (sym (t.1.here (base + offset_of ws pc) refl) ∙ r))
  no_return {pc} (passed k l e h) len r =
      let t = stands_line ws place nl are base code is fits pc (line.Jcc k l) e (λ h. h) in
      branch_no_ret k t.0 _ (same_insn _ insn.Ret _ len (sym (t.1.here (base + offset_of ws pc) refl) ∙ r))

  start_inside : {k pc pc1 : ℕ} {s s1 : Machine} {es : List Event} → Runs (lines_in ws place) k pc s es pc1 s1 → pc1 < length ws → pc < length ws
  start_inside stops lt = lt
  start_inside (runs st g) lt = let h = from_inside st in omega (arith, h)

  module _ (entry_rsp : ℕ) (entry_return : Option ℕ) where
    abbrev at : ℕ → Machine → Config
    at pc s = config_in ws base entry_rsp entry_return pc s

    pub going : {k pc pc1 : ℕ} {s s1 : Machine} {es : List Event} → Runs (lines_in ws place) k pc s es pc1 s1 → pc1 < length ws → Going code base k (at pc s) es (at pc1 s1)
    going {pc} {s} stops lt = goes_nowhere code base (at pc s) refl
    going {pc} {pc1} {s} {s1} (runs {k} {es} {fs} st g) lt =
        let m = made_step ws place nl are base code is fits entry_rsp entry_return st (from_inside st) (start_inside g lt) in
        let rest = goes_one code base _ refl m.step refl (no_return st) (going g lt) in
        subst (λ x. Going code base (suc k) (at pc s) (x ++ fs) (at pc1 s1)) m.shows rest

    -- the return at a place
    pub record Returns (pc : ℕ) (s : Machine) : Type 0 where
      pub target : ℕ
      pub step : step_of code base (at pc s) ≡ made (at pc s) true (returned (at pc s) target)
      pub return : entry_return ≡ Some target
      pub entry : at_entry (at pc s) ≡ true

    pub return_step : (pc : ℕ) (s : Machine) → at_place (map line_of ws) pc ≡ Some (line.Insn insn.Ret) → CanReturn entry_rsp entry_return s → Returns pc s
    return_step pc s e can =
        let t = (stands_line ws place nl are base code is fits pc (line.Insn insn.Ret) e (λ h. h)).1 in
        let slot : loaded s.memory (slice_index s.regs 4) 8 ≡ Some can.target = ap (λ a. loaded s.memory a 8) can.stack ∙ can.slot in
        record {
          target = can.target;
          step = step_made code base (at pc s) insn.Ret (length (chosen_bytes insn.Ret)) true _ refl (t.here (base + offset_of ws pc) refl)
              (returns_at (at pc s) can.target can.stack can.slot can.return) (return_does (at pc s) ((base + offset_of ws pc + length (chosen_bytes insn.Ret)) % 2 ^ 64) can.target slot);
          return = can.return;
          entry = returns_at (at pc s) can.target can.stack can.slot can.return;
        }
