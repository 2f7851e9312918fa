-- What a set of facts of the code holds.
use Rattle.std.specs.Prelude.{ℕ, ◌≡◌, ◌-◌, ◌/◌, ◌%◌, ◌==◌, nat_le, Bool, false, ◌&&◌, ◌||◌, List, [], ◌∷◌, map, Option, Some, None, option_map, min, if◌then◌else◌}
use Rattle.jz_meaning.specs.States.{Key, same_key}
use Rattle.jz_layers.specs.Spots.{Spot, variable_key}
use Rattle.jz_layers.specs.Layered.{seen}
use Rattle.jz_facts.specs.Facts.{Fact, Set, Cell, AtLeast, AtMost, Under, Is, Multiple, Facts, subject, Start, Region, Given, hi_of, is_among, greatest, least, multiples}
use Rattle.jz_fact_readings.specs.Multiples.{times_of}
use Rattle.jz_fact_readings.specs.declared.times.Times.{Times}
use Rattle.jz_layers.specs.declared.layers.Layers.{Layers}
use Rattle.jz_fact_sets.specs.declared.given.Parameter as parameter
use Rattle.jz_fact_sets.specs.declared.given.Region as region
use Rattle.jz_fact_sets.specs.declared.given.Given as given
use Rattle.jz_fact_sets.specs.declared.knowledge.Knowledge.{Knowledge}
use Rattle.jz_fact_sets.specs.Knowing.{nothing}

-- ---- what is given

abbrev pub start_of : parameter.Parameter → Start
start_of p =
    record { key = variable_key p.var; size = p.size; range = p.range; align = p.align }

abbrev pub region_of : region.Region → Region
region_of r = record {
  of = variable_key r.of;
  times = r.times;
  by = option_map variable_key r.by;
  plus = r.plus;
}

abbrev pub given_of : given.Given → Given
given_of g = record {
  consts = g.constants;
  params = map start_of g.params;
  regions = map region_of g.regions;
}

-- ---- what is known at one spot

abbrev pub is_at_least : Option ℕ → ℕ → Bool
is_at_least None c = false
is_at_least (Some l) c = nat_le c l

abbrev pub is_at_most : Option ℕ → ℕ → Bool
is_at_most None c = false
is_at_most (Some h) c = nat_le h c

abbrev pub is_times : Option Times → ℕ → Bool
is_times None m = false
is_times (Some t) m = times_of t % m == 0

-- a parameter of this key has its bit, the first parameter the lowest one
abbrev pub is_named : List parameter.Parameter → ℕ → Key → Bool
is_named [] bits x = false
is_named (p ∷ ps) bits x =
    ((bits % 2 == 1) && same_key (variable_key p.var) x) || is_named ps (bits / 2) x

-- different parameters have different keys
abbrev pub is_parameter : List parameter.Parameter → Key → Bool
is_parameter [] x = false
is_parameter (p ∷ ps) x = same_key (variable_key p.var) x || is_parameter ps x

abbrev pub AreDifferent : List parameter.Parameter → Type 0
AreDifferent [] = Unit {0}
AreDifferent (p ∷ ps) = (is_parameter ps (variable_key p.var) ≡ false) × AreDifferent ps

-- whether it has a fact, of whatever variable the fact is
abbrev pub says : List ℕ → List parameter.Parameter → Knowledge → Fact → Bool
says cs ps k (Set v) = k.set
says cs ps k (Cell a j) = k.set
says cs ps k (AtLeast v c) = is_among c cs && is_at_least k.least c
says cs ps k (AtMost v c) = is_among c cs && is_at_most k.most c
says cs ps k (Under v x) = is_named ps k.under x
says cs ps k (Is v x) = is_named ps k.is x
says cs ps k (Multiple v m) = is_among m multiples && is_times k.times m

-- the greatest constant that is said to be below it, else 0; the least that is said to be above it,
-- else m
abbrev pub least_by : List ℕ → Option ℕ → ℕ
least_by cs None = 0
least_by cs (Some l) = greatest (λ c. nat_le c l) cs

abbrev pub most_by : List ℕ → Option ℕ → ℕ → ℕ
most_by cs None m = m
most_by cs (Some h) m = least (λ c. nat_le h c) m cs

-- the lower of m and the parameter's end, less 1, where this says that something is below it
abbrev pub one_below : List parameter.Parameter → ℕ → parameter.Parameter → ℕ → ℕ
one_below all bits p m =
    if is_named all bits (variable_key p.var) then min (hi_of (start_of p) - 1) m else m

-- the same of several
abbrev pub below_all : List parameter.Parameter → ℕ → ℕ → List parameter.Parameter → ℕ
below_all all bits m [] = m
below_all all bits m (p ∷ ps) = one_below all bits p (below_all all bits m ps)

-- ---- the set

abbrev pub known_or : Option Knowledge → Knowledge
known_or None = nothing
known_or (Some k) = k

abbrev pub known_at : Layers Knowledge → Spot → Knowledge
known_at s k = known_or (seen s k)

-- where a fact is kept: that of a cell with the cell
abbrev pub spot : Fact → Spot
spot (Cell a k) = record { of = a; index = Some k }
spot f = record { of = subject f; index = None }

abbrev pub facts_by : given.Given → (Spot → Knowledge) → Facts
facts_by g know f = says g.constants g.params (know (spot f)) f

abbrev pub facts_of : given.Given → Layers Knowledge → Facts
facts_of g s = facts_by g (known_at s)
