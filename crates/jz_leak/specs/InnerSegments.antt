-- Bytes in segments, read and changed. Private contracts alone cite what stands here.
use Rattle.std.specs.Prelude.{ℕ, ◌-◌, Option, None, is_some, List, [], ◌∷◌, slice_set}
use Rattle.std.specs.List.{position_from}
use Rattle.std.specs.Option.{option_or}
use Rattle.jz_leak.specs.declared.segment.Segment.{Segment}
use Rattle.jz_leak.specs.MemoryMap.{byte_from}

-- a segment's byte at an address
abbrev pub byte_of : Segment → ℕ → Option ℕ
byte_of s q = byte_from s.start s.bytes q

-- the byte of the first segment that has the address
abbrev pub read_at : List Segment → ℕ → Option ℕ
read_at [] q = None
read_at (s ∷ ss) q = option_or (byte_of s q) (read_at ss q)

-- the place of the first segment that has the address, counted from n
abbrev pub index_of : List Segment → ℕ → ℕ → Option ℕ
index_of ss q n = position_from (λ s. is_some (byte_of s q)) n ss

-- the segment with another byte at an address
abbrev pub with_byte : Segment → ℕ → ℕ → Segment
with_byte s q v = record s { bytes = slice_set s.bytes (q - s.start) v }
