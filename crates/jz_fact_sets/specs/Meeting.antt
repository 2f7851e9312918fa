-- What is known where paths meet.
use Rattle.std.specs.Prelude.{ℕ, ◌≡◌, ◌+◌, ◌-◌, ◌^◌, ◌<◌, ◌≤◌, Bool, true, false, ◌||◌, is_some, Option, Some, None, if◌then◌else◌}
use Rattle.indexmap.specs.IndexMap.{IndexMap}
use Rattle.jz_layers.specs.declared.named.Named.{Named}
use Rattle.jz_layers.specs.Spots.{Spot, same_spot, entry_in}
use Rattle.jz_fact_readings.specs.Multiples.{times_of}
use Rattle.jz_fact_readings.specs.declared.times.Times.{Times}
use Rattle.jz_fact_sets.specs.declared.knowledge.Knowledge.{Knowledge}
use Rattle.jz_fact_sets.specs.Knowing.{meet}
use Rattle.jz_fact_sets.specs.Renewing.{known_if}

abbrev pub or_known : Knowledge → Option Knowledge → Knowledge
or_known k None = k
or_known k (Some x) = x

module _ {S : Type 0} where
  -- a table over what is known
  abbrev pub over_known : IndexMap Named Knowledge S → (Spot → Knowledge) → Spot → Knowledge
  over_known m know k = or_known (know k) (entry_in m k)

  abbrev pub met_at :
      IndexMap Named Knowledge S → IndexMap Named Knowledge S → (Spot → Knowledge) → Spot
      → Knowledge
  met_at a b know k = meet (over_known a know k) (over_known b know k)

  -- what both tables know, at each spot of a table
  abbrev pub with_met :
      IndexMap Named Knowledge S → IndexMap Named Knowledge S → IndexMap Named Knowledge S
      → (Spot → Knowledge) → (Spot → Option Knowledge) → Spot → Option Knowledge
  with_met a b m know old k = if is_some (entry_in m k) then Some (met_at a b know k) else old k

  -- what both know at each spot of one of them; elsewhere what was known
  abbrev pub IsMet :
      IndexMap Named Knowledge S → IndexMap Named Knowledge S → (Spot → Knowledge)
      → (Spot → Knowledge) → Type 0
  IsMet a b old new =
      (k : Spot)
      → new k ≡ known_if (is_some (entry_in b k) || is_some (entry_in a k)) (met_at a b old k)
      (old k)

  -- what was known before, as far as the table knows it where it speaks of it
  abbrev pub narrowed : IndexMap Named Knowledge S → (Spot → Knowledge) → Spot → Knowledge
  narrowed m know k =
      known_if (is_some (entry_in m k)) (meet (know k) (over_known m know k)) (know k)

abbrev pub narrowed_at : Spot → Knowledge → (Spot → Knowledge) → Spot → Knowledge
narrowed_at n x know k = known_if (same_spot n k) (meet (know k) x) (know k)

-- ---- how much is known, as a number

abbrev pub as_number : Bool → ℕ
as_number true = 1
as_number false = 0

abbrev pub of_least : Option ℕ → ℕ
of_least None = 0
of_least (Some n) = 1 + n

-- a greater one says less
abbrev pub of_most : Option ℕ → ℕ
of_most None = 0
of_most (Some n) = 1 + (2 ^ 64 - n)

abbrev pub of_times : Option Times → ℕ
of_times None = 0
of_times (Some t) = times_of t

abbrev pub amount : Knowledge → ℕ
amount k =
    as_number k.set + of_least k.least + of_most k.most + of_times k.times + k.under + k.is

-- nowhere more is known, and somewhere less
pub record Falls (old new : Spot → Knowledge) : Type 0 where
  pub at : Spot
  pub less : amount (new at) < amount (old at)
  pub nowhere_more : (k : Spot) → amount (new k) ≤ amount (old k)
