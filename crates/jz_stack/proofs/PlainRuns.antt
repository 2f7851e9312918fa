-- The bytes of a body without a frame, from a start on, at every n.
use Rattle.std.proofs.Common.{◌≡◌, ◌≢◌, ℕ, ◌+◌, ◌*◌, ◌%◌, ◌^◌, ◌<◌, ◌≤◌, true, false, List, [], ◌∷◌, ◌++◌, length, refl, sym, ap, ◌∙◌, subst, arith, if◌then◌else◌}
use Rattle.std.specs.Prelude.{Some, pos, slice_index, ◌+ℤ◌}
use Rattle.std.proofs.lemmas.List.{get_or-set_other, get_or-set_same}
use Rattle.jz_words.specs.declared.size.Size.TheVariants.{S64}
use Rattle.jz_words.specs.Words.{residue}
use Rattle.jz_words.specs.Memory.{loaded}
use Rattle.x64_insn.specs.declared.types.Reg.{Reg}
use Rattle.x64_insn.specs.declared.types.FaultKind.{FaultKind}
use Rattle.x64_insn.specs.Table.{number_of}
use Rattle.jz_leak.specs.declared.event.Event.TheVariants as event
use Rattle.jz_leak.specs.declared.transformer.Case.{Case}
use Rattle.jz_leak.specs.declared.transformer.Transformer.{Transformer}
use Rattle.jz_leak.specs.RunLeaks.{Leak}
use Rattle.jz_leak.specs.Applying.{is_cut, body_events, apply_of}
use Rattle.jz_runs.specs.Rules.{End, Cut, Stuck, Goes}
use Rattle.x64_machine.specs.Steps.{Config, steps_of}
use Rattle.jz_placing.specs.Instructions.{Machine, Code, instructions}
use Rattle.jz_linear.specs.Plain.{IsPlainCode}
use Rattle.jz_linear.specs.Lines.{lines_of, linear_of, cases_of}
use Rattle.jz_linear.proofs.Places.{count}
use Rattle.jz_linear.proofs.Fitting.{told}
use Rattle.x64_assemble.specs.Assembling.{Wide, offset_of, all_wide, insns_of_lines, bytes_of_lines, AreSpellable}
use Rattle.x64_assemble.proofs.LineSteps.{made, config_in}
use Rattle.x64_assemble.specs.CodeRuns.{Going, EndsAt, NeverFaults}
use Rattle.x64_assemble.proofs.LineRunsOn.{returned, CanReturn}
use Rattle.x64_assemble.proofs.TreeRuns as tree
use Rattle.x64_assemble.proofs.Spellable.{linear_spellable, widths_of_lines}
use Rattle.jz_stack.specs.Framed.{framed_tr}
use Rattle.jz_stack.proofs.Prologue.{rsp_of}

-- ---- events: the body's, and the slot of the return
entry_number : (rsp0 : ℕ) → rsp0 < 2 ^ 64 → residue S64 (pos rsp0 +ℤ pos 0) ≡ rsp0
entry_number rsp0 lt = omega (arith, lt)

pub end_plain : (at : ℕ) (cases : List Case) (l : Leak) (rsp0 : ℕ) → rsp0 < 2 ^ 64 → is_cut l ≡ false → body_events l rsp0 cases ++ event.Addr rsp0 ∷ [] ≡ apply_of (framed_tr 0 at [] cases) l rsp0
end_plain at cases l rsp0 lt u =
    ap (λ a. body_events l rsp0 cases ++ event.Addr a ∷ []) (sym (entry_number rsp0 lt))
    ∙ ap (λ b. body_events l rsp0 cases ++ (if b then [] else event.Addr (residue S64 (pos rsp0 +ℤ pos 0)) ∷ [])) (sym u)

pub cut_plain : (at : ℕ) (cases : List Case) (l : Leak) (rsp0 : ℕ) → is_cut l ≡ true → body_events l rsp0 cases ≡ apply_of (framed_tr 0 at [] cases) l rsp0
cut_plain at cases l rsp0 u =
    sym (append_none (body_events l rsp0 cases)) ∙ ap (λ b. body_events l rsp0 cases ++ (if b then [] else event.Addr (residue S64 (pos rsp0 +ℤ pos 0)) ∷ [])) (sym u)
  where
    append_none : {A : Type 0} (xs : List A) → xs ++ [] ≡ xs
    append_none [] = refl
    append_none (x ∷ xs) = ap (λ ys. x ∷ ys) (append_none xs)

module _ (body : Code) (ok : IsPlainCode body) (base : ℕ) (code : List ℕ) (is : code ≡ bytes_of_lines (linear_of body))
    (short : offset_of (all_wide (linear_of body)) (length (all_wide (linear_of body))) < 2 ^ 31) (code_fits : base + length code ≤ 2 ^ 64) (rsp0 target : ℕ) (small : rsp0 < 2 ^ 64) (s0 : Machine) where
  abbrev ws : List Wide
  ws = all_wide (linear_of body)

  abbrev pub start : Config
  start = config_in ws base rsp0 (Some target) 0 s0

  -- what the body has to keep: the stack pointer and the return address
  pub record KeepsPlain (s1 : Machine) : Type 0 where
    pub stack : rsp_of s1 ≡ rsp0
    pub return : loaded s1.memory rsp0 8 ≡ Some target
    pub sixteen : length s1.regs ≡ 16

  returns : (s1 : Machine) → KeepsPlain s1 → CanReturn rsp0 (Some target) s1
  returns s1 k = record { target = target; stack = k.stack; slot = k.return; return = refl }

  module _ (safe : (n : ℕ) (w : FaultKind) → Goes instructions body n s0 (Stuck w) → ⊥) (keeps : (n left : ℕ) (s1 : Machine) (l : Leak) → Goes instructions body n s0 (End s1 left l) → KeepsPlain s1) where
    abbrev tr : Transformer
    tr = framed_tr 0 0 [] (cases_of body)

    are : AreSpellable (insns_of_lines (linear_of body))
    are = linear_spellable body ok short

    each_returns : (n left : ℕ) (s1 : Machine) (l : Leak) → Goes instructions body n s0 (End s1 left l) → CanReturn rsp0 (Some target) s1
    each_returns n left s1 l g = returns s1 (keeps n left s1 l g)

    pub record PlainEnd (n : ℕ) (s1 : Machine) (l : Leak) : Type 0 where
      pub steps : ℕ
      pub within : steps ≤ length ws * (n + 1)
      pub last : Config
      pub ends : EndsAt code base steps start (apply_of tr l rsp0) last
      pub stack : slice_index last.state.regs 4 ≡ (rsp0 + 8) % 2 ^ 64
      pub others : (r : Reg) → number_of r ≢ 4 → slice_index last.state.regs (number_of r) ≡ slice_index s1.regs (number_of r)
      pub memory : last.memory ≡ s1.memory

    pub record PlainCut (n : ℕ) (l : Leak) : Type 0 where
      pub running : (steps_of code base start n).after.ended ≡ false
      pub steps : ℕ
      pub enough : n ≤ steps + length ws
      pub within : steps ≤ length ws * (n + 1)
      pub there : Config
      pub going : Going code base steps start (apply_of tr l rsp0) there

    pub plain_end : (n left : ℕ) (s1 : Machine) (l : Leak) → Goes instructions body n s0 (End s1 left l) → PlainEnd n s1 l
    plain_end n left s1 l g =
        let k = keeps n left s1 l g in
        let e = tree.ends body ok ws (widths_of_lines (linear_of body)) are base code is code_fits rsp0 rsp0 (Some target) s0 n left s1 l (returns s1 k) g in
        let up8 = (slice_index s1.regs 4 + 8) % 2 ^ 64 in
        let here : Config = config_in ws base rsp0 (Some target) (count (lines_of body 0)) s1 in
        let end : Config = (made here true (returned here e.target)).after in
        record {
          steps = e.k;
          within = e.within;
          last = end;
          ends = subst (λ es. EndsAt code base e.k start es end) (ap (λ a. body_events l rsp0 (cases_of body) ++ event.Addr a ∷ []) k.stack ∙ end_plain 0 (cases_of body) l rsp0 small (told instructions g)) e.ends;
          stack = get_or-set_same s1.regs 4 up8 0 (let n = k.sixteen in omega (arith, n)) ∙ ap (λ a. (a + 8) % 2 ^ 64) k.stack;
          others = λ r ne. get_or-set_other s1.regs 4 (number_of r) up8 0 ne;
          memory = refl;
        }

    pub plain_cut : (n : ℕ) (l : Leak) → Goes instructions body n s0 (Cut l) → PlainCut n l
    plain_cut n l g =
        let h = tree.halts body ok ws (widths_of_lines (linear_of body)) are base code is code_fits rsp0 rsp0 (Some target) s0 n l g in
        record {
          running = tree.still body ok ws (widths_of_lines (linear_of body)) are base code is code_fits rsp0 rsp0 (Some target) s0 safe each_returns n l g;
          steps = h.k;
          enough = h.enough;
          within = h.within;
          there = h.there;
          going = subst (λ es. Going code base h.k start es h.there) (cut_plain 0 (cases_of body) l rsp0 (told instructions g)) h.going_on;
        }

    pub never_faults : NeverFaults code base start
    never_faults = tree.no_fault body ok ws (widths_of_lines (linear_of body)) are base code is code_fits rsp0 rsp0 (Some target) s0 safe each_returns
