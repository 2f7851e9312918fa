-- What grammars make of the parts of a phrase.
use Rattle.std.specs.Prelude.{List, [], Option, Some, None, flat_map}

-- the items of a list that may be missing
abbrev pub or_empty : {A : Type 0} → Option (List A) → List A
or_empty None = []
or_empty (Some xs) = xs

-- the items of each list, in order
abbrev pub joined_lists : {A : Type 0} → List (List A) → List A
joined_lists xss = flat_map (λ xs. xs) xss
