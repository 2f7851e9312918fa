-- The first alarm of a function with its preconditions.
use Rattle.std.specs.Prelude.{ℕ, ◌≡◌, List, map, flat_map, Option}
use Rattle.jz_tree.specs.declared.program.Fun.{Fun}
use Rattle.jz_annotations.specs.declared.precondition.Pre.{Pre}
use Rattle.jz_intervals.specs.Constants.{constants, is_among}
use Rattle.jz_body_numbers.specs.Numbers.{of_function}
use Rattle.jz_given.specs.Giving as giving
use Rattle.jz_fact_sets.specs.Kept.{start_of, region_of}
use Rattle.jz_facts.specs.Facts.{Given}
use Rattle.jz_block_facts.specs.Heads.{plain_block}
use Rattle.jz_alarms.specs.Conditions.{Alarm}
use Rattle.jz_alarms.specs.Alarms.{IsFirstAlarm}

-- what is given of a function: the constants, in whatever order, the parameters and the regions
pub record IsGiven (f : Fun) (ps : List Pre) (g : Given) : Type 0 where
  pub constants : (c : ℕ) → is_among c g.consts ≡ is_among c (constants (of_function f.body ps))
  pub params : g.params ≡ map start_of (map (giving.param_of ps) f.params)
  pub regions :
      g.regions ≡ map region_of (flat_map (giving.region_of (giving.variables f.params)) ps)

-- by what is given of it, w is its first alarm, or there is none
abbrev pub HasFirstAlarm : Fun → List Pre → Option Alarm → Type 0
HasFirstAlarm f ps w =
    (g : Given) × IsGiven f ps g × IsFirstAlarm g (plain_block f.body) f.result w
