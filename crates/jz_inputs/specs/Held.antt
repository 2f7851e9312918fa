-- Whether preconditions hold of argument words and of the bytes of items.
use Rattle.std.specs.Prelude.{◌≡◌, ℕ, ◌^◌, nat_lt, if◌then◌else◌, List, take, All, Option, Some, None, IsSome, slice_get}
use Rattle.jz_tree.specs.declared.program.Fun.{Fun}
use Rattle.jz_leak.specs.MemoryMap.{byte_from}
use Rattle.jz_annotations.specs.declared.precondition.Pre.{Pre}
use Rattle.jz_preconditions.specs.Bounds.{first_of}
use Rattle.jz_preconditions.specs.Meeting.{ByteRange, IsIn, IsBelowEnd, IsMet, region_of, names_of}
use Rattle.jz_items.specs.declared.item.Item.{Item}
use Rattle.jz_items.specs.declared.item.Item.TheVariants.{Number, Bytes}

-- ---- the bytes of items; those at or past 2 ^ 64 are dropped
abbrev pub byte_in : ℕ → Item → Option ℕ
byte_in q (Number n) = None
byte_in q (Bytes p) = byte_from p.at p.bytes q

abbrev pub byte_at : List Item → ℕ → Option ℕ
byte_at items q = if nat_lt q (2 ^ 64) then first_of (byte_in q) items else None

-- each byte of a range is one of them
abbrev pub IsCovered : List Item → ByteRange → Type 0
IsCovered items r = (q : ℕ) → IsIn r q → IsSome (byte_at items q)

-- ---- preconditions
-- a region of bytes of items, which ends at 2 ^ 64 or before
abbrev pub IsRegion : List Item → ByteRange → Type 0
IsRegion items r = IsBelowEnd r × IsCovered items r

-- a precondition holds of argument words, and its region is one of the items' bytes
pub record IsHeld (f : Fun) (words : List ℕ) (items : List Item) (p : Pre) : Type 0 where
  pub met : IsMet (names_of f) words p
  pub regions : All (IsRegion items) (region_of (names_of f) words p)

-- the first that does not hold
pub record IsFirstUnmet (f : Fun) (words : List ℕ) (items : List Item) (pres : List Pre) (i : ℕ) :
    Type 0 where
  pub before : All (IsHeld f words items) (take i pres)
  pub pre : Pre
  pub there : slice_get pres i ≡ Some pre
  pub unmet : IsHeld f words items pre → ⊥

-- what is found: the place of the first that does not hold, or that all hold
abbrev pub FindsUnmet : Fun → List ℕ → List Item → List Pre → Option ℕ → Type 0
FindsUnmet f words items pres None = All (IsHeld f words items) pres
FindsUnmet f words items pres (Some i) = IsFirstUnmet f words items pres i
