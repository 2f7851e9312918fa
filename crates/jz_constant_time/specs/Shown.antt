-- What an observer sees of a compiled function that is constant time: branches, addresses and
-- divisions, as they come, do not depend on what is secret.
use Rattle.std.specs.Prelude.{◌≡◌, ℕ, List}
use Rattle.jz_words.specs.Memory.{Memory}
use Rattle.jz_tree.specs.declared.program.Fun.{Fun}
use Rattle.jz_tree.specs.declared.program.Program.{Program}
use Rattle.jz_leak.specs.declared.event.Event.{Event}
use Rattle.jz_change.specs.Changes.{Change}
use Rattle.jz_listing.specs.declared.compiled.Compiled.{Compiled}
use Rattle.jz_preconditions.specs.Meeting.{MeetsPreconditions}
use Rattle.x64_machine.specs.Steps.{Config, steps_of}
use Rattle.jz_correct.specs.Starts.{IsStart}
use Rattle.jz_compiled.specs.Matching.{values_of}
use Rattle.jz_constant_leaks.specs.Making.{IsMade}
use Rattle.jz_equal_leaks.specs.Laws.{AreEqualAtPublic}
use Rattle.jz_constant_leaks.specs.Told.{IsConstantTime}
use Rattle.jz_constant_leaks.specs.SafeExpansions.{IsExpandedExport}

-- what is seen of the bytes from this state on in so many steps
abbrev pub seen_of : Compiled → ℕ → Config → ℕ → List Event
seen_of c base s k = (steps_of c.code base s k).events

-- a start of the bytes on an input that meets the preconditions
pub record StartsOn (f : Fun) (c : Compiled) (words : List ℕ) (memory : Memory) (rsp0 base : ℕ)
    (s : Config) : Type 0 where
  pub meets : MeetsPreconditions f words memory
  pub start : IsStart c words memory rsp0 base s

-- Two inputs that are equal at the public parameters, and two starts on them with one stack pointer
-- at entry, wherever the code stands: after each number of steps the same was seen of both.
abbrev pub ShowsNothingSecret : Fun → Compiled → Type 0
ShowsNothingSecret f c =
    (words others : List ℕ) (memory other : Memory) (rsp0 base place : ℕ) (s t : Config)
    → StartsOn f c words memory rsp0 base s → StartsOn f c others other rsp0 place t
    → AreEqualAtPublic f.params (values_of c.args words) (values_of c.args others)
    → (k : ℕ) → seen_of c base s k ≡ seen_of c place t k

-- ---- what is compiled

-- of a compiled function whose expansion is constant time
abbrev pub ConstantTimeCarriesOver : Type 0
ConstantTimeCarriesOver =
    (p : Program) (f : Fun) (k : Change) (count : ℕ) (c : Compiled) (made : IsMade p f c)
    → IsExpandedExport p f made.expanded k count → IsConstantTime made.expanded
    → ShowsNothingSecret f c
