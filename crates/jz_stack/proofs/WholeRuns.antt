-- The bytes of a body with its frame, from a start on, at every n.
use Rattle.std.proofs.Common.{◌≡◌, ◌≢◌, ℕ, ◌+◌, ◌-◌, ◌*◌, ◌%◌, ◌^◌, ◌<◌, ◌≤◌, true, false, List, [], ◌∷◌, ◌++◌, length, refl, sym, ap, ◌∙◌, subst, arith}
use Rattle.std.specs.Prelude.{Some, slice_index, pos}
use Rattle.std.specs.FinMap.{get}
use Rattle.std.proofs.lemmas.List.{get_or-set_other, get_or-set_same, length-set}
use Rattle.std.proofs.lemmas.List.Elements.{All-nil, All-cons}
use Rattle.jz_words.specs.Memory.{loaded}
use Rattle.x64_insn.specs.declared.types.Reg.{Reg}
use Rattle.x64_insn.specs.declared.types.FaultKind.{FaultKind}
use Rattle.x64_insn.specs.Table.{number_of}
use Rattle.x64_insn.proofs.Registers.{number_small}
use Rattle.jz_leak.specs.declared.event.Event.TheVariants as event
use Rattle.jz_leak.specs.declared.transformer.Form.TheVariants as form
use Rattle.jz_leak.specs.declared.transformer.Out.{Out}
use Rattle.jz_leak.specs.declared.transformer.Out.TheVariants as out
use Rattle.jz_leak.specs.declared.transformer.Transformer.{Transformer}
use Rattle.jz_leak.specs.RunLeaks.{Leak}
use Rattle.jz_leak.specs.Applying.{body_events, apply_of, OutFits, OutsFit, Fits}
use Rattle.jz_runs.specs.Rules.{Outcome, End, Cut, Stuck, Goes}
use Rattle.jz_runs.proofs.Steady.{one_outcome, has_outcome}
use Rattle.x64_machine.specs.Steps.{Config, steps_of}
use Rattle.jz_placing.specs.Instructions.{Machine, Code, instructions}
use Rattle.jz_linear.specs.Plain.{IsPlainCode}
use Rattle.jz_linear.specs.Lines.{lines_of, linear_of, cases_of}
use Rattle.jz_linear.proofs.Places.{count}
use Rattle.jz_linear.proofs.Fitting.{told, fits}
use Rattle.x64_assemble.specs.Assembling.{Wide, offset_of, all_wide, insns_of_lines, bytes_of_lines, AreSpellable}
use Rattle.x64_assemble.proofs.LineSteps.{made, config_in}
use Rattle.x64_assemble.specs.CodeRuns.{Going, EndsAt, NeverFaults}
use Rattle.x64_assemble.proofs.LineRunsOn.{returned, CanReturn}
use Rattle.x64_assemble.proofs.TreeRuns as tree
use Rattle.x64_assemble.proofs.Spellable.{linear_spellable, widths_of_lines}
use Rattle.jz_stack.specs.Framed.{framed, slot_outs, framed_tr}
use Rattle.jz_stack.specs.FrameRuns.{Among, NotAmong}
use Rattle.jz_stack.proofs.Prologue.{rsp_of, AreSaved, are_saved, stay_saved, restored, comes_back, stays_as_it_is}
use Rattle.jz_stack.proofs.FramedRuns.{HasRoom, entered, entered_regs, around, Undone, framed_end, framed_cut, framed_plain}
use Rattle.jz_stack.proofs.FramedEvents.{end_shown, cut_shown}

end_cut : {a : Machine} {k : ℕ} {d e : Leak} → ◌≡◌ {A = Outcome Machine FaultKind Leak} (End a k d) (Cut e) → ⊥
end_cut e = cc

end_stuck : {a : Machine} {k : ℕ} {d : Leak} {w : FaultKind} → ◌≡◌ {A = Outcome Machine FaultKind Leak} (End a k d) (Stuck w) → ⊥
end_stuck e = cc

stuck_cut : {w : FaultKind} {d : Leak} → ◌≡◌ {A = Outcome Machine FaultKind Leak} (Stuck w) (Cut d) → ⊥
stuck_cut e = cc

same_end : {a b : Machine} {k j : ℕ} {d e : Leak} → ◌≡◌ {A = Outcome Machine FaultKind Leak} (End a k d) (End b j e) → b ≡ a
same_end e = cc

pub slots_fit : (size at : ℕ) (saved : List Reg) → OutsFit [] (slot_outs size at saved)
slots_fit size at [] = All-nil (OutFits [])
slots_fit size at (r ∷ rs) = All-cons (OutFits []) _ (slot_outs size (at + 8) rs) tt (slots_fit size (at + 8) rs)

pub last_fits : (os : List Out) → OutsFit [] os → (size at : ℕ) (saved : List Reg) → os ≡ slot_outs size at saved → OutsFit [] (slot_outs size at saved ++ out.Addr (form.Frame (pos 0)) ∷ [])
last_fits os h size at [] e = All-cons (OutFits []) _ [] tt (All-nil (OutFits []))
last_fits os h size at (r ∷ rs) e = All-cons (OutFits []) _ _ tt (last_fits (slot_outs size (at + 8) rs) (slots_fit size (at + 8) rs) size (at + 8) rs refl)

module _ (size at : ℕ) (saved : List Reg) (body : Code) (ok : IsPlainCode body) (small : size < 2 ^ 31) (base : ℕ) (code : List ℕ) (is : code ≡ bytes_of_lines (linear_of (framed size at saved body)))
    (short : offset_of (all_wide (linear_of (framed size at saved body))) (length (all_wide (linear_of (framed size at saved body)))) < 2 ^ 31) (code_fits : base + length code ≤ 2 ^ 64)
    (rsp0 target : ℕ) (s0 : Machine) (room : HasRoom size at saved rsp0 s0) where
  abbrev whole : Code
  whole = framed size at saved body

  abbrev ws : List Wide
  ws = all_wide (linear_of whole)

  -- the start: at the code's first byte, with this stack pointer and return address of the entry
  abbrev pub start : Config
  start = config_in ws base rsp0 (Some target) 0 s0

  abbrev pub begun : Machine
  begun = entered size at saved rsp0 s0 room body

  -- what the body has to keep: the stack pointer, the saved registers' slots, and the return address
  pub record Keeps (s1 : Machine) : Type 0 where
    pub stack : rsp_of s1 ≡ rsp0 - size
    pub slots : (q : ℕ) → rsp0 - size + at ≤ q → q < rsp0 - size + at + 8 * length saved → get s1.memory q ≡ get begun.memory q
    pub return : loaded s1.memory rsp0 8 ≡ Some target
    pub sixteen : length s1.regs ≡ 16

  plain_whole : IsPlainCode whole
  plain_whole = framed_plain size at saved body false room.some small room.slots ok

  still_saved : (s1 : Machine) → Keeps s1 → AreSaved (rsp0 - size) at saved begun.regs s1.memory
  still_saved s1 k =
      let a = room.slots in
      let b = room.above in
      let d = room.below in
      let top : rsp0 - size + at + 8 * length saved ≤ 2 ^ 64 = omega (arith, a, b, d) in
      stay_saved saved (rsp0 - size) at begun.regs begun.memory s1.memory top k.slots (are_saved saved (rsp0 - size) at begun.regs _ top)

  undone : (n left : ℕ) (s1 : Machine) (l : Leak) → Goes instructions body n begun (End s1 left l) → Keeps s1 → Undone size at saved rsp0 s0 room body n left s1 l
  undone n left s1 l g k = framed_end size at saved rsp0 s0 room body n left s1 l g k.stack (still_saved s1 k)

  restored_long : (rs : List Reg) (old regs : List ℕ) → length (restored rs old regs) ≡ length regs
  restored_long [] old regs = refl
  restored_long (r ∷ rs) old regs = restored_long rs old _ ∙ length-set regs (number_of r) (slice_index old (number_of r) % 2 ^ 64)

  last_rsp : (n left : ℕ) (s1 : Machine) (l : Leak) → Keeps s1 → (u : Undone size at saved rsp0 s0 room body n left s1 l) → slice_index u.last.regs 4 ≡ rsp0
  last_rsp n left s1 l k u = ap (λ rs. slice_index rs 4) u.regs ∙ get_or-set_same (restored saved begun.regs s1.regs) 4 rsp0 0 (let a = restored_long saved begun.regs s1.regs in let b = k.sixteen in omega (arith, a, b))

  can_return : (n left : ℕ) (s1 : Machine) (l : Leak) → Keeps s1 → (u : Undone size at saved rsp0 s0 room body n left s1 l) → CanReturn rsp0 (Some target) u.last
  can_return n left s1 l k u = record { target = target; stack = last_rsp n left s1 l k u; slot = ap (λ m. loaded m rsp0 8) u.memory ∙ k.return; return = refl }

  -- where the body is never stuck, and keeps what it has to
  module _ (safe : (n : ℕ) (w : FaultKind) → Goes instructions body n begun (Stuck w) → ⊥) (keeps : (n left : ℕ) (s1 : Machine) (l : Leak) → Goes instructions body n begun (End s1 left l) → Keeps s1) where
    never_stuck : (n : ℕ) (w : FaultKind) → Goes instructions whole n s0 (Stuck w) → ⊥
    never_stuck n w g = let h = has_outcome instructions body n begun in by_body h.0 h.1
      where
        by_body : (o : Outcome Machine FaultKind Leak) → Goes instructions body n begun o → ⊥
        by_body (End s1 left l) b = end_stuck (one_outcome instructions (undone n left s1 l b (keeps n left s1 l b)).goes g)
        by_body (Cut l) b = stuck_cut (one_outcome instructions g (framed_cut size at saved rsp0 s0 room body n l b))
        by_body (Stuck v) b = safe n v b

    each_returns : (n left : ℕ) (s2 : Machine) (l : Leak) → Goes instructions whole n s0 (End s2 left l) → CanReturn rsp0 (Some target) s2
    each_returns n left s2 l g = let h = has_outcome instructions body n begun in by_body h.0 h.1
      where
        by_body : (o : Outcome Machine FaultKind Leak) → Goes instructions body n begun o → CanReturn rsp0 (Some target) s2
        by_body (End s1 k m) b =
            let u = undone n k s1 m b (keeps n k s1 m b) in
            subst (CanReturn rsp0 (Some target)) (sym (same_end (one_outcome instructions u.goes g))) (can_return n k s1 m (keeps n k s1 m b) u)
        by_body (Cut m) b = absurd (end_cut (one_outcome instructions g (framed_cut size at saved rsp0 s0 room body n m b)))
        by_body (Stuck v) b = absurd (safe n v b)

    abbrev tr : Transformer
    tr = framed_tr size at saved (cases_of body)

    -- the body ends: the bytes end within the bound and show what the transformer gives
    pub record WholeEnd (n : ℕ) (s1 : Machine) (l : Leak) : Type 0 where
      pub steps : ℕ
      pub within : steps ≤ length ws * (n + 1)
      pub last : Config
      pub ends : EndsAt code base steps start (apply_of tr l rsp0) last
      pub stack : slice_index last.state.regs 4 ≡ (rsp0 + 8) % 2 ^ 64
      pub back : (r : Reg) → Among saved r → number_of r ≢ 4 → slice_index last.state.regs (number_of r) ≡ slice_index s0.regs (number_of r) % 2 ^ 64
      pub others : (r : Reg) → NotAmong saved r → number_of r ≢ 4 → slice_index last.state.regs (number_of r) ≡ slice_index s1.regs (number_of r)
      pub memory : last.memory ≡ s1.memory

    -- it wants one turn more
    pub record WholeCut (n : ℕ) (l : Leak) : Type 0 where
      pub running : (steps_of code base start n).after.ended ≡ false
      pub steps : ℕ
      pub enough : n ≤ steps + length ws
      pub within : steps ≤ length ws * (n + 1)
      pub there : Config
      pub going : Going code base steps start (apply_of tr l rsp0) there

    are : AreSpellable (insns_of_lines (linear_of whole))
    are = linear_spellable whole plain_whole short

    pub whole_end : (n left : ℕ) (s1 : Machine) (l : Leak) → Goes instructions body n begun (End s1 left l) → WholeEnd n s1 l
    whole_end n left s1 l g =
        let k = keeps n left s1 l g in
        let u = undone n left s1 l g k in
        let e = tree.ends whole plain_whole ws (widths_of_lines (linear_of whole)) are base code is code_fits rsp0 rsp0 (Some target) s0 n left u.last _ (can_return n left s1 l k u) u.goes in
        let rsp = last_rsp n left s1 l k u in
        let up8 = (slice_index u.last.regs 4 + 8) % 2 ^ 64 in
        let here : Config = config_in ws base rsp0 (Some target) (count (lines_of whole 0)) u.last in
        let end : Config = (made here true (returned here e.target)).after in
        let shown = ap (λ a. body_events (around size at saved rsp0 s0 room body l) rsp0 (cases_of whole) ++ event.Addr a ∷ []) rsp
        ∙ end_shown size at saved rsp0 room.some room.above room.below room.slots body l (told instructions g) (fits g ok) in
        record {
          steps = e.k;
          within = e.within;
          last = end;
          ends = subst (λ es. EndsAt code base e.k start es end) shown e.ends;
          stack = get_or-set_same u.last.regs 4 up8 0 (let a = restored_long saved begun.regs s1.regs in let b = k.sixteen in let d = ap length u.regs in let f = length-set (restored saved begun.regs s1.regs) 4 rsp0 in omega (arith, a, b, d, f)) ∙ ap (λ a. (a + 8) % 2 ^ 64) rsp;
          back = λ r among ne. get_or-set_other u.last.regs 4 (number_of r) up8 0 ne ∙ ap (λ rs. slice_index rs (number_of r)) u.regs ∙ get_or-set_other (restored saved begun.regs s1.regs) 4 (number_of r) rsp0 0 ne
              ∙ comes_back saved begun.regs s1.regs r (let a = number_small r in let b = k.sixteen in omega (arith, a, b)) among
              ∙ ap (λ rs. slice_index rs (number_of r) % 2 ^ 64) (entered_regs size at saved rsp0 s0 room body) ∙ ap (λ x. x % 2 ^ 64) (get_or-set_other s0.regs 4 (number_of r) (rsp0 - size) 0 ne);
          others = λ r among ne. get_or-set_other u.last.regs 4 (number_of r) up8 0 ne ∙ ap (λ rs. slice_index rs (number_of r)) u.regs ∙ get_or-set_other (restored saved begun.regs s1.regs) 4 (number_of r) rsp0 0 ne
              ∙ stays_as_it_is saved begun.regs s1.regs r among;
          memory = u.memory;
        }

    pub whole_cut : (n : ℕ) (l : Leak) → Goes instructions body n begun (Cut l) → WholeCut n l
    whole_cut n l g =
        let c = framed_cut size at saved rsp0 s0 room body n l g in
        let h = tree.halts whole plain_whole ws (widths_of_lines (linear_of whole)) are base code is code_fits rsp0 rsp0 (Some target) s0 n _ c in
        let shown = cut_shown size at saved rsp0 room.some room.above room.below room.slots body l (told instructions g) (fits g ok) in
        record {
          running = tree.still whole plain_whole ws (widths_of_lines (linear_of whole)) are base code is code_fits rsp0 rsp0 (Some target) s0 never_stuck each_returns n _ c;
          steps = h.k;
          enough = h.enough;
          within = h.within;
          there = h.there;
          going = subst (λ es. Going code base h.k start es h.there) shown h.going_on;
        }

    pub never_faults : NeverFaults code base start
    never_faults = tree.no_fault whole plain_whole ws (widths_of_lines (linear_of whole)) are base code is code_fits rsp0 rsp0 (Some target) s0 never_stuck each_returns

    -- the leak fits
    pub fits_end : (n left : ℕ) (s1 : Machine) (l : Leak) → Goes instructions body n begun (End s1 left l) → Fits tr l
    fits_end n left s1 l g = record { before = slots_fit size at saved; body = fits g ok; after = last_fits _ (slots_fit size at saved) size at saved refl }

    pub fits_cut : (n : ℕ) (l : Leak) → Goes instructions body n begun (Cut l) → Fits tr l
    fits_cut n l g = record { before = slots_fit size at saved; body = fits g ok; after = last_fits _ (slots_fit size at saved) size at saved refl }
