-- How far bytes of items go on.
use Rattle.std.specs.Prelude.{◌≡◌, ◌<◌, ◌≤◌, ◌+◌, ℕ, ◌^◌, nat_lt, nat_le, Bool, false, ◌&&◌, if◌then◌else◌, List, length, Option, Some, None, IsSome}
use Rattle.jz_items.specs.declared.item.Item.{Item}
use Rattle.jz_items.specs.declared.item.Item.TheVariants.{Number, Bytes}
use Rattle.jz_inputs.specs.Held.{byte_at}

-- an address is one of an item's
abbrev pub is_within : ℕ → Item → Bool
is_within q (Number n) = false
is_within q (Bytes p) = nat_le p.at q && nat_lt q (p.at + length p.bytes)

-- where the bytes of an item end, at 2 ^ 64 or before
abbrev pub end_of : Item → ℕ
end_of (Number n) = 0
end_of (Bytes p) =
    if nat_le (p.at + length p.bytes) (2 ^ 64) then p.at + length p.bytes else 2 ^ 64

-- the bytes from one address up to another one are bytes of items
abbrev pub AreGiven : List Item → ℕ → ℕ → Type 0
AreGiven items from end = (q : ℕ) → from ≤ q → q < end → IsSome (byte_at items q)

-- bytes of items go on from an address up to this end; or there is none
abbrev pub GoesOn : List Item → ℕ → Option ℕ → Type 0
GoesOn items at None = byte_at items at ≡ None
GoesOn items at (Some end) = (at < end) × (end ≤ 2 ^ 64) × AreGiven items at end
