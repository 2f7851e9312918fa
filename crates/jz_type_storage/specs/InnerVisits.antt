-- The functions that the code found.
use Rattle.std.specs.Prelude.{ℕ, List}
use Rattle.jz_type_storage.specs.declared.reaching.Found.{Found}
use Rattle.jz_type_storage.specs.InnerNumbers.{VisitsAll}

-- each of xs was found beside the old ones, and nothing else
abbrev pub HasVisited : Found → Found → List ℕ → Type 0
HasVisited old new xs = VisitsAll old.marks.items old.order.items new.marks.items new.order.items xs
