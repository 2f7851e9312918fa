-- The first limit of a function with all that it calls.
use Rattle.std.specs.Prelude.{ℕ, ◌≡◌, ◌≤◌, ◌<◌, ◌⊎◌, Option, Some, None}
use Rattle.jz_tree.specs.declared.program.Fun.{Fun}
use Rattle.jz_tree.specs.declared.program.Program.{Program}
use Rattle.jz_copies.specs.Counts.{copied_count}
use Rattle.jz_limits.specs.declared.limit.Limit.{Limit}
use Rattle.jz_limits.specs.Limits.{most_statements, count_of, IsWithin, IsFirstLimit}
use Rattle.jz_limits.specs.declared.limit.Limit.TheVariants.{Expand}
use Rattle.jz_limits.specs.Walks.{steps_of}
use Rattle.jz_first_limit.specs.declared.met.Met.{Met}
use Rattle.jz_first_limit.specs.declared.met.Met.TheVariants.{Within, Passed}

-- with the copies that calls make it has no more statements than there may be, and what is met in
-- expanded order is within the limits
abbrev pub IsWithinLimits : Program → Fun → Type 0
IsWithinLimits p f = (copied_count p f ≤ most_statements) × IsWithin (steps_of p f)

-- the copies are too many; or else it is the first limit in expanded order
abbrev pub PassesFirst : Program → Fun → Limit → Type 0
PassesFirst p f limit =
    ((most_statements < copied_count p f) × (limit ≡ Expand))
    ⊎ ((copied_count p f ≤ most_statements) × IsFirstLimit (steps_of p f) limit)

abbrev pub IsFirst : Program → Fun → Option Limit → Type 0
IsFirst p f None = IsWithinLimits p f
IsFirst p f (Some limit) = PassesFirst p f limit

-- how many statements it has in expanded order
abbrev pub expanded_count : Program → Fun → ℕ
expanded_count p f = count_of (steps_of p f)

-- it is within the limits and has so many statements, or this is the first limit that it passes
abbrev pub IsMet : Program → Fun → Met → Type 0
IsMet p f (Within n) = IsWithinLimits p f × (n ≡ expanded_count p f)
IsMet p f (Passed limit) = PassesFirst p f limit

-- there is one answer, and no other
abbrev pub OneAnswer : Type 0
OneAnswer = (p : Program) (f : Fun) (a b : Option Limit) → IsFirst p f a → IsFirst p f b → a ≡ b

abbrev pub SomeAnswer : Type 0
SomeAnswer = (p : Program) (f : Fun) → (a : Option Limit) × IsFirst p f a
