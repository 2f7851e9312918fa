-- Where a compiled function can be started.
use Rattle.std.specs.Prelude.{◌≡◌, ◌≤◌, ℕ, ◌+◌, ◌%◌, ◌^◌, List, length, All}
use Rattle.jz_words.specs.Memory.{Memory}
use Rattle.jz_tree.specs.declared.program.Fun.{Fun}
use Rattle.jz_listing.specs.declared.compiled.Compiled.{Compiled}
use Rattle.x64_machine.specs.Steps.{Config}
use Rattle.jz_correct.specs.Registers.{argument_registers}
use Rattle.jz_correct.specs.Starts.{ByteRange, IsIn, IsInOne, regions_for, stack_at, MeetsPreconditions, IsStart}
use Rattle.jz_compiled.specs.Lines.{AreArgumentLines}

-- a stack pointer as behind a call, with the frame below it and the slot of the return address above
-- it, apart from the regions
pub record HasRoom (c : Compiled) (words : List ℕ) (rsp0 : ℕ) : Type 0 where
  pub aligned : (rsp0 + 8) % 16 ≡ 0
  pub below : c.frame ≤ rsp0
  pub above : rsp0 + 8 ≤ 2 ^ 64
  pub apart : (q : ℕ) → IsIn (stack_at rsp0 c.frame) q → IsInOne (regions_for c words) q → ⊥

-- there is a start at each such place, wherever the code lies
abbrev pub RoomHasStarts : Type 0
RoomHasStarts =
    (f : Fun) (c : Compiled) (words : List ℕ) (memory : Memory) (rsp0 base : ℕ)
    → AreArgumentLines argument_registers f.params c.args → MeetsPreconditions c words memory
    → HasRoom c words rsp0 → base + length c.code ≤ 2 ^ 64
    → (s : Config) × IsStart c words memory rsp0 base s

-- a range ends at 2 ^ 63 or before
abbrev pub IsLow : ByteRange → Type 0
IsLow r = r.from + r.count ≤ 2 ^ 63

-- regions in the lower half of the addresses leave room for every frame that compiling gives
abbrev pub LowRegionsHaveStarts : Type 0
LowRegionsHaveStarts =
    (f : Fun) (c : Compiled) (words : List ℕ) (memory : Memory)
    → AreArgumentLines argument_registers f.params c.args → MeetsPreconditions c words memory
    → All IsLow (regions_for c words)
    → c.frame ≤ 65592 → length c.code ≤ 2 ^ 64
    → (rsp0 base : ℕ) × (s : Config) × IsStart c words memory rsp0 base s
