-- A memory as it is filled with bytes of items.
use Rattle.std.specs.Prelude.{◌≡◌, ◌<◌, ◌≤◌, ℕ, ◌+◌, ◌-◌, nat_lt, nat_le, Bool, ◌&&◌, ◌||◌, if◌then◌else◌, List, length, Some, None, All, slice_get}
use Rattle.std.specs.List.{list_any}
use Rattle.std.specs.FinMap.{get}
use Rattle.jz_tree.specs.Memory.{Memory}
use Rattle.jz_tree.specs.declared.program.Fun.{Fun}
use Rattle.jz_annotations.specs.declared.precondition.Pre.{Pre}
use Rattle.jz_preconditions.specs.Meeting.{ByteRange, region_of, names_of}
use Rattle.jz_items.specs.declared.item.Item.{Item}
use Rattle.jz_inputs.specs.Held.{byte_at}

-- an address is one from here up to there
abbrev pub is_between : ℕ → ℕ → ℕ → Bool
is_between from end q = nat_le from q && nat_lt q end

-- it is one of a range, or of some ranges
abbrev pub is_in : ℕ → ByteRange → Bool
is_in q r = is_between r.from (r.from + r.count) q

abbrev pub is_in_one : List ByteRange → ℕ → Bool
is_in_one rs q = list_any (is_in q) rs

-- the bytes of these addresses are the items', and there are no others
pub record IsFilled (items : List Item) (here : ℕ → Bool) (m : Memory) : Type 0 where
  pub is : (q : ℕ) → get m q ≡ (if here q then byte_at items q else None)
  pub bytes : (q b : ℕ) → get m q ≡ Some b → b < 256

-- those from one address up to another one besides
abbrev pub FillsFrom : List Item → ℕ → ℕ → Memory → Memory → Type 0
FillsFrom items from end old new =
    (here : ℕ → Bool)
    → IsFilled items here old → IsFilled items (λ q. here q || is_between from end q) new

-- those of the region that a precondition declares besides
abbrev pub FillsRegion : Fun → List ℕ → List Item → Pre → Memory → Memory → Type 0
FillsRegion f words items p old new =
    let region = region_of (names_of f) words p in
    (here : ℕ → Bool)
    → IsFilled items here old → IsFilled items (λ q. here q || is_in_one region q) new

-- the items' bytes from one address up to another one
pub record IsPiece (items : List Item) (from end : ℕ) (piece : List ℕ) : Type 0 where
  pub long : length piece ≡ end - from
  pub given : (q : ℕ) → from ≤ q → q < end → slice_get piece (q - from) ≡ byte_at items q
  pub bytes : All (λ b. b < 256) piece

-- no byte is valid from one address up to another one
abbrev pub AreFree : Memory → ℕ → ℕ → Type 0
AreFree m from end = (q : ℕ) → from ≤ q → q < end → get m q ≡ None

-- where the first valid byte stands behind a free one, or the end
pub record EndsFree (m : Memory) (from end stop : ℕ) : Type 0 where
  pub behind : from < stop
  pub within : stop ≤ end
  pub free : AreFree m from stop
