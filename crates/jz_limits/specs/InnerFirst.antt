-- The first limit, from the front, where so many statements stand before.
use Rattle.std.specs.Prelude.{ℕ, suc, nat_le, if◌then◌else◌, List, [], ◌∷◌, Option, Some, None}
use Rattle.jz_limits.specs.Limits.{Limit, Step, one, passing, most_statements}
use Rattle.jz_limits.specs.declared.limit.Limit.TheVariants.{Expand}

abbrev pub first_from : ℕ → List Step → Option Limit
first_from n [] = None
first_from n (passing l ∷ steps) = Some l
first_from n (one ∷ steps) =
    if nat_le most_statements n then Some Expand else first_from (suc n) steps
