-- What a run over cells keeps of the stack: the slots of saved registers, the return address, and each byte outside.
use Rattle.std.proofs.Common.{◌≡◌, ℕ, ◌+◌, ◌-◌, ◌*◌, ◌^◌, ◌<◌, ◌≤◌, ◌⊎◌, inl, inr, ⊎_elim, List, length, refl, sym, ap, ◌∙◌, arith}
use Rattle.std.specs.Prelude.{Option, Some, None, is_some}
use Rattle.std.specs.FinMap.{get}
use Rattle.jz_words.specs.Memory.{Memory, loaded}
use Rattle.x64_insn.specs.declared.types.Reg.{Reg}
use Rattle.jz_placing.specs.Instructions.{Machine, Code}
use Rattle.jz_linear.specs.Plain.{IsPlainCode}
use Rattle.jz_linear.specs.Lines.{linear_of}
use Rattle.x64_assemble.specs.Assembling.{all_wide, offset_of, bytes_of_lines}
use Rattle.jz_operations.specs.Rows.{Frame}
use Rattle.jz_operations.specs.Values.{Cells}
use Rattle.jz_operations.specs.Frames.{Holds}
use Rattle.jz_stack.specs.Framed.{framed}
use Rattle.jz_operations.proofs.Bytes.{loaded_same}
use Rattle.jz_stack.proofs.Prologue.{rsp_of, saved_outside}
use Rattle.jz_stack.proofs.FramedRuns.{HasRoom, entered, moved_down}
use Rattle.jz_stack.proofs.WholeRuns.{Keeps}

module _ (size at : ℕ) (saved : List Reg) (rsp0 : ℕ) (s0 : Machine) (room : HasRoom size at saved rsp0 s0) (body : Code) where
  abbrev begun : Machine
  begun = entered size at saved rsp0 s0 room body

  -- the prologue writes the slots alone
  pub begun_memory : (q : ℕ) → (q < rsp0 - size + at) ⊎ (rsp0 - size + at + 8 * length saved ≤ q) → get begun.memory q ≡ get s0.memory q
  begun_memory q out =
      let a = room.slots in
      let b = room.above in
      let c = room.below in
      saved_outside saved (rsp0 - size) at (moved_down size at saved rsp0 s0 room body).now.regs s0.memory q (omega (arith, a, b, c)) out

  -- where the regions lie apart from the frame and the return address, the body begins with the regions' bytes and no cell
  pub holds_first : (frame : Frame) (slots : ℕ → ℕ) (end : ℕ) (r : Memory) → end ≤ at → ((q b : ℕ) → get r q ≡ Some b → get s0.memory q ≡ Some b) → ((q : ℕ) → rsp0 - size ≤ q → q < rsp0 → get r q ≡ None)
      → Holds frame slots end begun.memory (λ v i. None) r (rsp0 - size) begun.memory
  holds_first frame slots end r below region apart =
      let a = room.slots in
      let b = room.above in
      let c = room.below in
      record {
        bytes = λ q x e. begun_memory q (outside q x e) ∙ region q x e;
        apart = λ q l g. apart q l (omega (arith, g, below, a, b));
        words = λ v s i n has e. none_there n e;
        valid = λ q l g. ap is_some (begun_memory q (inl (omega (arith, g, below)))) ∙ room.valid q l (omega (arith, g, below, a, b));
        fits = omega (arith, below, a, b, c);
        others = λ q none out. refl;
      }
    where
      none_there : {A : Type 0} (n : ℕ) → ◌≡◌ {A = Option ℕ} None (Some n) → A
      none_there n e = cc

      order : (q : ℕ) → (q < rsp0 - size + at) ⊎ ((rsp0 - size + at + 8 * length saved ≤ q) ⊎ ((rsp0 - size + at ≤ q) × (q < rsp0 - size + at + 8 * length saved)))
      order q = grind arith

      outside : (q x : ℕ) → get r q ≡ Some x → (q < rsp0 - size + at) ⊎ (rsp0 - size + at + 8 * length saved ≤ q)
      outside q x e =
          let a = room.slots in
          let b = room.above in
          ⊎_elim (λ lt. inl lt) (λ o. ⊎_elim (λ le. inr le) (λ p. let l = p.0 in let g = p.1 in none_there x (sym (apart q (omega (arith, l)) (omega (arith, g, a, b))) ∙ e)) o) (order q)

  -- each byte that is no region's and not in the frame is at an end as at the start
  pub others_stay : (frame : Frame) (slots : ℕ → ℕ) (end : ℕ) (cells : Cells) (r m : Memory) → end ≤ at → Holds frame slots end begun.memory cells r (rsp0 - size) m
      → (q : ℕ) → get r q ≡ None → (q < rsp0 - size) ⊎ (rsp0 ≤ q) → get m q ≡ get s0.memory q
  others_stay frame slots end cells r m below h q none out =
      let a = room.slots in
      let b = room.above in
      h.others q none (⊎_elim (λ lt. inl lt) (λ le. inr (omega (arith, le, below, a, b))) out)
      ∙ begun_memory q (⊎_elim (λ lt. inl (omega (arith, lt))) (λ le. inr (omega (arith, le, a, b))) out)

  -- so an end of the body keeps what the epilogue and the return need
  module _ (ok : IsPlainCode body) (small : size < 2 ^ 31) (base : ℕ) (code : List ℕ) (is : code ≡ bytes_of_lines (linear_of (framed size at saved body)))
      (short : offset_of (all_wide (linear_of (framed size at saved body))) (length (all_wide (linear_of (framed size at saved body)))) < 2 ^ 31) (code_fits : base + length code ≤ 2 ^ 64) (target : ℕ) where
    pub keeps_by : (frame : Frame) (slots : ℕ → ℕ) (end : ℕ) (cells : Cells) (r : Memory) (s1 : Machine) → end ≤ at → Holds frame slots end begun.memory cells r (rsp0 - size) s1.memory
        → ((q : ℕ) → rsp0 - size ≤ q → q < rsp0 + 8 → get r q ≡ None) → rsp0 + 8 ≤ 2 ^ 64 → loaded s0.memory rsp0 8 ≡ Some target → rsp_of s1 ≡ rsp0 - size → length s1.regs ≡ 16
        → Keeps size at saved body ok small base code is short code_fits rsp0 target s0 room s1
    keeps_by frame slots end cells r s1 below h apart top slot stack sixteen =
        let a = room.slots in
        let b = room.above in
        record {
          stack = stack;
          slots = λ q l g. h.others q (apart q (omega (arith, l)) (omega (arith, g, a, b))) (inr (omega (arith, l, below)));
          return = loaded_same s1.memory s0.memory rsp0 8 top (λ q l g. others_stay frame slots end cells r s1.memory below h q (apart q (omega (arith, l, b)) g) (inr l)) ∙ slot;
          sixteen = sixteen;
        }
