-- The places of stack variables, one above the other, each at the next multiple of its cells' size.
use Rattle.std.specs.Prelude.{ℕ, ◌+◌, ◌*◌, List, [], ◌∷◌}
use Rattle.jz_words.specs.Sizes.{bytes_of}
use Rattle.jz_operations.specs.declared.operation.Stacked.{Stacked}
use Rattle.jz_operations.specs.Rows.{Frame}
use Rattle.jz_correct.specs.Frames.{rounded_up}
use Rattle.jz_linear.specs.LineRuns.{at_place}

-- where the cells of a variable begin behind an end, and where they end
abbrev pub begins_at : ℕ → Stacked → ℕ
begins_at end s = rounded_up (bytes_of s.size) end

abbrev pub ends_at : ℕ → Stacked → ℕ
ends_at end s = begins_at end s + s.count * bytes_of s.size

-- the place of each variable, and where the last of them ends
abbrev pub offsets_from : ℕ → List Stacked → List ℕ
offsets_from end [] = []
offsets_from end (s ∷ ss) = begins_at end s ∷ offsets_from (ends_at end s) ss

abbrev pub end_from : ℕ → List Stacked → ℕ
end_from end [] = end
end_from end (s ∷ ss) = end_from (ends_at end s) ss

-- the variables by their numbers
abbrev pub frame_of : List Stacked → Frame
frame_of ss v = at_place ss v
