-- Sizes in any grouping.
use Rattle.std.proofs.Common.{◌≡◌, Option, Some, None, refl}
use Rattle.std.specs.Option.{option_or}
use Rattle.jz_tree.specs.Size.{Size}

pub option_or-assoc : (a b c : Option Size) → option_or a (option_or b c) ≡ option_or (option_or a b) c
option_or-assoc None b c = refl
option_or-assoc (Some z) b c = refl

pub option_or-none : (a : Option Size) → option_or a None ≡ a
option_or-none None = refl
option_or-none (Some z) = refl

pub ruleset or_sizes = (option_or-assoc, option_or-none)
