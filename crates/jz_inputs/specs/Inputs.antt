-- The memory of an input that items make: the bytes of the regions, and of them alone.
use Rattle.std.specs.Prelude.{◌≡◌, ◌↔◌, ◌<◌, ℕ, ◌+◌, List, [], ◌++◌, Some, zero, suc}
use Rattle.std.specs.FinMap.{get}
use Rattle.jz_tree.specs.Memory.{Memory}
use Rattle.jz_tree.specs.declared.program.Fun.{Fun}
use Rattle.jz_annotations.specs.declared.precondition.Pre.{Pre}
use Rattle.jz_preconditions.specs.Stating.{some_of}
use Rattle.jz_preconditions.specs.Meeting.{ByteRange, IsInOne, IsValid, regions_of, names_of}
use Rattle.jz_items.specs.declared.item.Item.{Item}
use Rattle.jz_inputs.specs.declared.regions.Extent.{Extent}
use Rattle.jz_inputs.specs.Held.{byte_at}

-- exactly the bytes of these ranges are valid, and each is the items'
pub record HoldsBytes (items : List Item) (ranges : List ByteRange) (m : Memory) : Type 0 where
  pub covered : (q : ℕ) → IsValid m q ↔ IsInOne ranges q
  pub given : (q b : ℕ) → get m q ≡ Some b → byte_at items q ≡ Some b
  pub bytes : (q b : ℕ) → get m q ≡ Some b → b < 256

-- the memory of the regions that preconditions declare for argument words
abbrev pub HoldsRegions : Fun → List ℕ → List Item → List Pre → Memory → Type 0
HoldsRegions f words items pres m = HoldsBytes items (regions_of (names_of f) pres words) m

-- ---- what a memory has in a range
abbrev pub range_of : Extent → ByteRange
range_of e = record { from = e.from; count = e.count }

-- the valid bytes of so many addresses from one on, in their order
abbrev pub bytes_from : Memory → ℕ → ℕ → List ℕ
bytes_from m a zero = []
bytes_from m a (suc n) = some_of (get m a) ++ bytes_from m (a + 1) n

abbrev pub bytes_in : Memory → ByteRange → List ℕ
bytes_in m r = bytes_from m r.from r.count
