-- A start where there is room for the frame.
use Rattle.std.proofs.Common.{◌≡◌, ◌⊎◌, ⊎_elim, ℕ, zero, suc, ◌+◌, ◌-◌, ◌%◌, ◌^◌, ◌<◌, ◌≤◌, true, false, List, [], ◌∷◌, length, All, Some, refl, sym, ap, ◌∙◌, arith, subst, lit<}
use Rattle.std.specs.Prelude.{IsSome, is_some, slice_index, slice_set, replicate, ⊤}
use Rattle.std.specs.FinMap.{get}
use Rattle.std.proofs.Math.Nat.{mod-eq_of_lt}
use Rattle.std.proofs.lemmas.List.{get_or-set_same, length-set}
use Rattle.jz_words.specs.declared.size.Size.{Size}
use Rattle.jz_words.specs.declared.size.Size.TheVariants.{S8, S16, S32, S64}
use Rattle.jz_words.specs.Sizes.{modulus}
use Rattle.jz_words.specs.Memory.{Memory, loaded}
use Rattle.x64_insn.specs.declared.types.Reg.{Reg}
use Rattle.x64_insn.specs.declared.types.Reg.TheVariants as reg
use Rattle.x64_insn.specs.declared.types.State.{State}
use Rattle.x64_insn.specs.declared.types.FlagVal.TheVariants.{Undefined}
use Rattle.x64_insn.specs.Table.{number_of}
use Rattle.x64_insn.specs.Rows.{reg_value}
use Rattle.x64_insn.proofs.Registers.{number_small}
use Rattle.jz_tree.specs.declared.program.Fun.{Fun}
use Rattle.jz_tree.specs.declared.program.Param.{Param}
use Rattle.jz_leak.specs.MemoryMap.{AddsBytes}
use Rattle.jz_listing.specs.declared.compiled.Arg.{Arg}
use Rattle.jz_listing.specs.declared.compiled.Compiled.{Compiled}
use Rattle.x64_machine.specs.Steps.{Config}
use Rattle.jz_correct.specs.Registers.{argument_registers}
use Rattle.jz_correct.specs.Starts.{ByteRange, IsIn, IsInOne, IsValid, AreOfSizes, regions_for, stack_at, MeetsPreconditions, AreInRegisters, IsStart}
use Rattle.jz_compiled.specs.Lines.{AreArgumentLines}
use Rattle.jasminc_steps.specs.Starting.{with_numbers, bare_registers}
use Rattle.jasminc_steps.proofs.Placing.{is_far, AreWords, placed-other, placed-length, placed-words, bare_words}
use Rattle.jasminc_starts.proofs.Memories.{within, elsewhere}
use Rattle.jasminc_starts.proofs.Existing.{added_exists}
use Rattle.jasminc_some_starts.specs.SomeStarts.{HasRoom, IsLow, RoomHasStarts, LowRegionsHaveStarts}

-- ---- words in registers
abbrev AreFar : List Reg → Type 0
AreFar [] = ⊤
AreFar (r ∷ rs) = (is_far (number_of r) rs ≡ true) × AreFar rs

arguments_far : AreFar argument_registers
arguments_far = (refl, (refl, (refl, (refl, (refl, (refl, tt))))))

abbrev state_with : ℕ → List ℕ → State
state_with base regs = record { regs = regs; rip = base; flags = replicate 5 Undefined }

of_word : (w : ℕ) (z : Size) → w < modulus z → w < 2 ^ 64
of_word w S8 h = omega (arith, h)
of_word w S16 h = omega (arith, h)
of_word w S32 h = omega (arith, h)
of_word w S64 h = h

stand : (base : ℕ) (ps : List Param) (rs : List Reg) (args : List Arg) → AreArgumentLines rs ps args → (words regs : List ℕ) → AreFar rs → AreOfSizes args words → length regs ≡ 16
    → AreInRegisters args words (state_with base (with_numbers words rs regs))
stand base [] rs [] lines [] regs far sizes long = tt
stand base [] rs [] lines (w ∷ words) regs far sizes long = absurd sizes
stand base [] [] (a ∷ args) lines words regs far sizes long = absurd lines
stand base [] (r ∷ rs) (a ∷ args) lines words regs far sizes long = absurd lines
stand base (p ∷ ps) [] args lines words regs far sizes long = absurd lines
stand base (p ∷ ps) (r ∷ rs) [] lines words regs far sizes long = absurd lines
stand base (p ∷ ps) (r ∷ rs) (a ∷ args) lines [] regs far sizes long = absurd sizes
stand base (p ∷ ps) (r ∷ rs) (a ∷ args) lines (w ∷ words) regs far sizes long =
    let now = slice_set regs (number_of r) w in
    let small = number_small r in
    let here : slice_index (with_numbers words rs now) (number_of r) ≡ w =
    placed-other (number_of r) words rs now far.0 ∙ get_or-set_same regs (number_of r) w 0 (omega (arith, small, long)) in
    let there : slice_index (with_numbers words rs now) (number_of a.reg) ≡ w =
    ap (λ (q : Reg). slice_index (with_numbers words rs now) (number_of q)) lines.0.2 ∙ here in
    (ap (λ k. k % modulus a.size) there ∙ mod-eq_of_lt sizes.0, stand base ps rs args lines.1 words now far.1 sizes.1 (length-set regs (number_of r) w ∙ long))

are_words : (args : List Arg) (words : List ℕ) → AreOfSizes args words → AreWords words
are_words args [] sizes i = lit< tt
are_words [] (w ∷ words) sizes i = absurd sizes
are_words (a ∷ args) (w ∷ words) sizes zero = of_word w a.size sizes.0
are_words (a ∷ args) (w ∷ words) sizes (suc i) = are_words args words sizes.1 i

-- ---- a start
module _ (f : Fun) (c : Compiled) (words : List ℕ) (memory : Memory) (rsp0 base : ℕ) (lines : AreArgumentLines argument_registers f.params c.args) (meets : MeetsPreconditions c words memory) (room : HasRoom c words rsp0) (fits : base + length c.code ≤ 2 ^ 64) where
  -- the stack pointer in its register, the arguments in theirs
  abbrev bare : List ℕ
  bare = with_numbers (rsp0 ∷ []) (reg.Rsp ∷ []) bare_registers

  abbrev state : State
  state = state_with base (with_numbers words argument_registers bare)

  low : AreWords (rsp0 ∷ [])
  low zero = let a = room.above in omega (arith, a)
  low (suc i) = lit< tt

  size : length bare ≡ 16
  size = length-set bare_registers 4 rsp0

  rsp : reg_value state reg.Rsp ≡ rsp0
  rsp = placed-other 4 words argument_registers bare refl

  -- the memory with bytes of 0 in the frame and the slot
  abbrev lowest : ℕ
  lowest = rsp0 - c.frame

  ends : lowest + (c.frame + 8) ≤ 2 ^ 64
  ends = let a = room.below in let b = room.above in omega (arith, a, b)

  added : (new : Memory) × AddsBytes memory new lowest (replicate (c.frame + 8) 0)
  added = added_exists memory lowest (c.frame + 8) ends

  in_stack : (q : ℕ) → IsIn (stack_at rsp0 c.frame) q → get added.0 q ≡ Some 0
  in_stack q h = let a = h.1 in let b = ends in within memory added.0 lowest (c.frame + 8) added.1 q h.0 h.1 (omega (arith, a, b))

  in_region : (q : ℕ) → IsInOne (regions_for c words) q → get added.0 q ≡ get memory q
  in_region q h = elsewhere memory added.0 lowest (c.frame + 8) added.1 q (λ a b. room.apart q (a, b) h)

  valid : (q : ℕ) → IsInOne (regions_for c words) q → IsValid added.0 q
  valid q h = subst IsSome (sym (in_region q h)) ((meets.covered q).1 h)

  zero_byte : (b : ℕ) → Some 0 ≡ Some b → b < 256
  zero_byte b k = let same : 0 ≡ b = cc in subst (λ n. n < 256) same (omega arith)

  order : (q r : ℕ) → (q < r) ⊎ (r ≤ q)
  order q r = grind arith

  below_stack : (q : ℕ) → q < lowest → lowest ≤ q → q < lowest + (c.frame + 8) → ⊥
  below_stack q lt a b = absurd (omega (arith, lt, a))

  above_stack : (q : ℕ) → lowest + (c.frame + 8) ≤ q → lowest ≤ q → q < lowest + (c.frame + 8) → ⊥
  above_stack q le a b = absurd (omega (arith, le, b))

  old_byte : (q b : ℕ) → get added.0 q ≡ Some b → (lowest ≤ q → q < lowest + (c.frame + 8) → ⊥) → b < 256
  old_byte q b e out = meets.bytes q b (sym (elsewhere memory added.0 lowest (c.frame + 8) added.1 q out) ∙ e)

  bytes : (q b : ℕ) → get added.0 q ≡ Some b → b < 256
  bytes q b e =
      ⊎_elim (λ lt. old_byte q b e (below_stack q lt))
      (λ le. ⊎_elim (λ lt. zero_byte b (sym (in_stack q (le, lt)) ∙ e)) (λ far. old_byte q b e (above_stack q far)) (order q (lowest + (c.frame + 8)))) (order q lowest)

  abbrev start : Config
  start = record { state = state; memory = added.0; ended = false; entry_rsp = rsp0; entry_return = loaded added.0 rsp0 8 }

  starts : IsStart c words memory rsp0 base start
  starts = record {
    machine = record {
      registers = placed-length words argument_registers bare ∙ size;
      words = λ r. placed-words words argument_registers bare (are_words c.args words meets.sizes) (placed-words (rsp0 ∷ []) (reg.Rsp ∷ []) bare_registers low bare_words) (number_of r);
      flags = refl;
      bytes = bytes;
    };
    entry = refl;
    code_fits = fits;
    running = refl;
    entry_stack = refl;
    entry_return = refl;
    stack = rsp;
    aligned = room.aligned;
    room_below = room.below;
    room_above = room.above;
    stack_valid = λ q h. ap is_some (in_stack q h);
    stack_apart = room.apart;
    arguments = stand base f.params argument_registers c.args lines words bare arguments_far meets.sizes size;
    region_valid = valid;
    region_holds = in_region;
  }

pub room_has_starts : RoomHasStarts
room_has_starts f c words memory rsp0 base lines meets room fits = (start f c words memory rsp0 base lines meets room fits, starts f c words memory rsp0 base lines meets room fits)

-- ---- above the regions
past : (frame q a b : ℕ) → frame ≤ 65592 → (2 ^ 63 + 65608) - frame ≤ q → q < a + b → a + b ≤ 2 ^ 63 → ⊥
past frame q a b small le lt most = absurd (omega (arith, small, le, lt, most))

not_high : (frame : ℕ) (rs : List ByteRange) → All IsLow rs → frame ≤ 65592 → (q : ℕ) → (2 ^ 63 + 65608) - frame ≤ q → IsInOne rs q → ⊥
not_high frame rs below small q le h = past frame q h.1.from h.1.count small le h.4.1 (subst IsLow h.3 (below h.0 h.1 h.2))

high_room : (c : Compiled) (words : List ℕ) → All IsLow (regions_for c words) → c.frame ≤ 65592 → HasRoom c words (2 ^ 63 + 65608)
high_room c words below small = record {
  aligned = refl;
  below = omega (arith, small);
  above = omega arith;
  apart = λ q h inside. not_high c.frame (regions_for c words) below small q h.0 inside;
}

pub low_regions_have_starts : LowRegionsHaveStarts
low_regions_have_starts f c words memory lines meets below small fits =
    let h = room_has_starts f c words memory (2 ^ 63 + 65608) 0 lines meets (high_room c words below small) (omega (arith, fits)) in
    (2 ^ 63 + 65608, 0, h.0, h.1)
