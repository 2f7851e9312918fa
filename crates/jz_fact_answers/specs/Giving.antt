-- Whether a set gives a fact, as the property and by what is kept of its variable.
use Rattle.std.specs.Prelude.{ℕ, ◌≡◌, ◌-◌, ◌^◌, ◌%◌, ◌==◌, nat_le, Bool, true, false, ◌&&◌, List, Option, Some, None}
use Rattle.jz_facts.specs.Facts.{Fact, Set, Cell, AtLeast, AtMost, Under, Is, Multiple, Facts, entails, greatest, least}
use Rattle.jz_fact_readings.specs.Multiples.{times_of}
use Rattle.jz_fact_readings.specs.declared.times.Times.{Times}
use Rattle.jz_layers.specs.declared.layers.Layers.{Layers}
use Rattle.jz_fact_sets.specs.declared.given.Given.{Given}
use Rattle.jz_fact_sets.specs.declared.knowledge.Knowledge.{Knowledge}
use Rattle.jz_fact_sets.specs.Kept.{is_named, known_at, spot}

-- a fact of the set says it
abbrev pub Gives : Facts → Fact → Type 0
Gives s f = (h : Fact) × ((s h ≡ true) × (entails h f ≡ true))

-- ---- by what is kept: the nearest constant

abbrev pub least_gives : List ℕ → Option ℕ → ℕ → Bool
least_gives cs None c = false
least_gives cs (Some l) c =
    let n = greatest (λ d. nat_le d l) cs in nat_le n l && nat_le c n

abbrev pub most_gives : List ℕ → Option ℕ → ℕ → Bool
most_gives cs None c = false
most_gives cs (Some h) c =
    let n = least (λ d. nat_le h d) (2 ^ 64 - 1) cs in nat_le h n && nat_le n c

abbrev pub times_gives : Option Times → ℕ → Bool
times_gives None m = false
times_gives (Some t) m = times_of t % m == 0

-- by what is known where the fact is kept
abbrev pub says_it : Given → Knowledge → Fact → Bool
says_it g k (Set v) = k.set
says_it g k (Cell a j) = k.set
says_it g k (AtLeast v c) = least_gives g.constants k.least c
says_it g k (AtMost v c) = most_gives g.constants k.most c
says_it g k (Under v x) = is_named g.params k.under x
says_it g k (Is v x) = is_named g.params k.is x
says_it g k (Multiple v m) = times_gives k.times m

abbrev pub is_given : Given → Layers Knowledge → Fact → Bool
is_given g s f = says_it g (known_at s (spot f)) f
