-- Where a run of an expanded function stands, and what holds there.
use Rattle.std.specs.Prelude.{ℕ, ◌≡◌, ◌≤◌, ◌<◌, ◌+◌, ◌*◌, ◌^◌, Bool, true, false, List, [], ◌∷◌, Option, Some, None, IsSome}
use Rattle.std.specs.FinMap.{get}
use Rattle.x64_insn.specs.Memory.{Memory}
use Rattle.jz_meaning.specs.States.{Key, State}
use Rattle.jz_run_laws.specs.Kinds.{Kinds, IsOfKinds}
use Rattle.jz_fact_laws.specs.Facts.{Fact, Cell, Facts, subject, Region, Given, least_of}
use Rattle.jz_fact_laws.specs.Saying.{Says, InRanges}
use Rattle.jz_standing.specs.Typing.{whole}

-- it speaks of a cell of an array in the frame
abbrev pub is_of_cell : Fact → Bool
is_of_cell (Cell a k) = true
is_of_cell f = false

-- how many bytes a region has
abbrev pub length_of : (Key → ℕ) → Region → ℕ
length_of entry r = by r.by + r.plus
  where
    by : Option Key → ℕ
    by None = 0
    by (Some y) = r.times * entry y

-- each byte of the region is valid, and none is past the last address
pub record IsValid (entry : Key → ℕ) (m : Memory) (r : Region) : Type 0 where
  pub ends : entry r.of + length_of entry r ≤ 2 ^ 64
  pub bytes : (i : ℕ) → i < length_of entry r → IsSome (get m (entry r.of + i))

abbrev pub AreValid : (Key → ℕ) → Memory → List Region → Type 0
AreValid entry m [] = Unit {0}
AreValid entry m (r ∷ rs) = IsValid entry m r × AreValid entry m rs

-- the facts are so, each of them of a scalar or of a cell of an array in the frame; each variable
-- holds nothing or a value of its kind; the parameters were in their ranges, and the regions are
-- there
pub record Stands (g : Given) (kinds : Kinds) (in_frame : Key → Bool) (entry : Key → ℕ)
    (s : Facts) (st : State) : Type 0 where
  pub says : (f : Fact) → s f ≡ true → Says entry st.store f
  pub apart : (f : Fact) → s f ≡ true → in_frame (whole (subject f)) ≡ is_of_cell f
  pub kept : IsOfKinds kinds st
  pub ranges : InRanges entry g.params
  pub least : (y : Key) → least_of g.params y ≤ entry y
  pub regions : AreValid entry st.memory g.regions
