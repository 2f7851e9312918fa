-- A memory that is kept in segments.
use Rattle.std.specs.Prelude.{ℕ, ◌+◌, List, [], ◌∷◌, flat_map}
use Rattle.jz_leak.specs.declared.segment.Segment.{Segment}

-- bytes from an address on, each with its address
abbrev pub entries_from : ℕ → List ℕ → List (ℕ × ℕ)
entries_from a [] = []
entries_from a (b ∷ bs) = (a, b) ∷ entries_from (a + 1) bs

-- all bytes with their addresses
abbrev pub all_entries : List Segment → List (ℕ × ℕ)
all_entries ss = flat_map (λ s. entries_from s.start s.bytes) ss
