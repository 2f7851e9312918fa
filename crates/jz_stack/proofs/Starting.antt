-- A start of a compiled function gives what the runs of its bytes ask for.
use Rattle.std.proofs.Common.{◌≡◌, ℕ, zero, suc, ◌+◌, ◌-◌, ◌*◌, ◌%◌, ◌^◌, ◌<◌, ◌≤◌, true, false, List, [], ◌∷◌, length, refl, ap, ◌∙◌, arith, ◌==◌}
use Rattle.std.specs.Prelude.{Option, Some, None, is_some, slice_index}
use Rattle.std.specs.Option.{option_and_then}
use Rattle.std.specs.FinMap.{get}
use Rattle.jz_words.specs.Memory.{Memory, loaded}
use Rattle.x64_insn.specs.declared.types.Reg.{Reg}
use Rattle.x64_machine.specs.Steps.{Config}
use Rattle.jz_placing.specs.Instructions.{Machine}
use Rattle.x64_assemble.specs.Assembling.{Wide, offset_of}
use Rattle.x64_assemble.proofs.LineSteps.{config_in}
use Rattle.jz_operations.proofs.Bytes.{loaded_first, none_loaded}
use Rattle.jz_stack.specs.FrameRuns.{NoneIsRsp}
use Rattle.jz_stack.proofs.FramedRuns.{HasRoom}

abbrev pub machine_in : Config → Machine
machine_in c = record { regs = c.state.regs; flags = c.state.flags; memory = c.memory }

-- what a start says of the machine alone
pub record StandsAtEntry (size base rsp0 : ℕ) (c : Config) : Type 0 where
  pub entry : c.state.rip ≡ base
  pub running : c.ended ≡ false
  pub entry_stack : c.entry_rsp ≡ rsp0
  pub entry_return : c.entry_return ≡ loaded c.memory rsp0 8
  pub stack : slice_index c.state.regs 4 ≡ rsp0
  pub room_below : size ≤ rsp0
  pub room_above : rsp0 + 8 ≤ 2 ^ 64
  pub valid : (q : ℕ) → rsp0 - size ≤ q → q < rsp0 + 8 → is_some (get c.memory q) ≡ true
  pub sixteen : length c.state.regs ≡ 16

loads_by : (o high : Option ℕ) → is_some o ≡ true → is_some high ≡ true → is_some (option_and_then (λ b. option_and_then (λ h. Some (b + 256 * h)) high) o) ≡ true
loads_by None high e f = absurd cc
loads_by (Some b) None e f = absurd cc
loads_by (Some b) (Some h) e f = refl

loads : (m : Memory) (a n : ℕ) → a + n ≤ 2 ^ 64 → ((q : ℕ) → a ≤ q → q < a + n → is_some (get m q) ≡ true) → is_some (loaded m a n) ≡ true
loads m a zero fits valid = ap is_some (none_loaded m a)
loads m a (suc zero) fits valid =
    ap is_some (loaded_first m a 0) ∙ loads_by (get m a) (loaded m ((a + 1) % 2 ^ 64) 0) (valid a (omega arith) (omega arith)) (ap is_some (none_loaded m ((a + 1) % 2 ^ 64)))
loads m a (suc (suc n)) fits valid =
    let next : (a + 1) % 2 ^ 64 ≡ a + 1 = omega (arith, fits) in
    ap is_some (loaded_first m a (suc n))
    ∙ loads_by (get m a) (loaded m ((a + 1) % 2 ^ 64) (suc n)) (valid a (omega arith) (omega arith))
    (ap (λ x. is_some (loaded m x (suc n))) next ∙ loads m (a + 1) (suc n) (omega (arith, fits)) (λ q l r. valid q (omega (arith, l)) (omega (arith, r))))

number_there : (o : Option ℕ) → is_some o ≡ true → (t : ℕ) × (o ≡ Some t)
number_there None e = absurd cc
number_there (Some t) e = (t, refl)

no_offset : (ws : List Wide) → offset_of ws 0 ≡ 0
no_offset [] = refl
no_offset (w ∷ ws) = refl

-- the return address, and the configuration at the first line
pub record Entered (ws : List Wide) (base rsp0 : ℕ) (c : Config) : Type 0 where
  pub target : ℕ
  pub slot : loaded c.memory rsp0 8 ≡ Some target
  pub is : c ≡ config_in ws base rsp0 (Some target) 0 (machine_in c)

pub entered_at : (ws : List Wide) (size base rsp0 : ℕ) (c : Config) → StandsAtEntry size base rsp0 c → Entered ws base rsp0 c
entered_at ws size base rsp0 c h =
    let below = h.room_below in
    let above = h.room_above in
    let t = number_there (loaded c.memory rsp0 8) (loads c.memory rsp0 8 (omega (arith, above)) (λ q l r. h.valid q (omega (arith, l, below)) r)) in
    let rip : c.state.rip ≡ base + offset_of ws 0 = omega (arith, h.entry, no_offset ws) in
    record {
      target = t.0;
      slot = t.1;
      is = ap (λ x. record c { state = record (c.state) { rip = x } }) rip
          ∙ ap (λ x. record c { state = record (c.state) { rip = base + offset_of ws 0 }; ended = x }) h.running
          ∙ ap (λ x. record c { state = record (c.state) { rip = base + offset_of ws 0 }; ended = false; entry_rsp = x }) h.entry_stack
          ∙ ap (λ x. record c { state = record (c.state) { rip = base + offset_of ws 0 }; ended = false; entry_rsp = rsp0; entry_return = x }) (h.entry_return ∙ t.1);
    }

pub has_room : (size at : ℕ) (saved : List Reg) (base rsp0 : ℕ) (c : Config) → (size == 0) ≡ false → at + 8 * length saved ≤ size → NoneIsRsp saved → StandsAtEntry size base rsp0 c → HasRoom size at saved rsp0 (machine_in c)
has_room size at saved base rsp0 c some slots none h =
    let below = h.room_below in
    let above = h.room_above in
    record {
      some = some;
      stack = h.stack;
      above = below;
      below = omega (arith, above);
      slots = slots;
      valid = λ q l r. h.valid q l (omega (arith, r));
      none = none;
      sixteen = h.sixteen;
    }
