-- What private contracts alone say: first fit as far as it has come.
use Rattle.std.specs.Prelude.{◌≡◌, ◌≢◌, ◌↔◌, ◌<◌, ◌≤◌, ℕ, ◌&&◌, ◌||◌, List, [], IsTrue, Option, Some, None, slice_index_or, slice_set, length, nat_lt, drop, replicate}
use Rattle.std.specs.List.{All, list_all}
use Rattle.jz_bits.specs.Has.{has}
use Rattle.x64_insn.specs.declared.types.Place.{Place}
use Rattle.jz_ir.specs.declared.code.Kind.{Kind}
use Rattle.jz_ir.specs.declared.code.Op.{Op}
use Rattle.jz_ir.specs.Order.{has_place}
use Rattle.jz_ir.specs.Paths.{among}
use Rattle.jz_ir.specs.Places.{op_at, Below, has_need, op_fits, meets, Out, placed, refused, First, Meets, Conflict, Taken}
use Rattle.jz_ir.specs.Tree.{tree_of, ops_of}
use Rattle.jz_alloc.specs.Tables.{row_has, AllWide}
use Rattle.jz_fit.specs.declared.spots.Spots.{Spots}
use Rattle.jz_fit.specs.declared.seats.Seats.{Seats}
use Rattle.jz_fit.specs.declared.table.Table.{Table}
use Rattle.jz_fit.specs.declared.fit.Fit.{Fit}
use Rattle.jz_fit.specs.declared.fit.Fit.TheVariants as V
use Rattle.jz_fit.specs.Branches.{LiveAt}
use Rattle.jz_fit.specs.InnerWants.{admits, is_needed, wanted_at}
use Rattle.jz_fit.specs.InnerSpots.{list_at, Common}

-- what the table says of its code
pub record IsTable (t : Table) : Type 0 where
  pub ops_are : t.ops ≡ ops_of (tree_of t.code.now.nodes)
  pub within : All (Below (length t.code.now.kinds)) t.ops
  pub wants_count : length t.wants.items ≡ length t.code.now.kinds
  pub fits : (v q : ℕ) → v < length t.code.now.kinds
      → admits (wanted_at t.wants.items v) q ≡ list_all (op_fits v q) t.ops
  pub needed : (v : ℕ) → v < length t.code.now.kinds
      → is_needed (wanted_at t.wants.items v) ≡ has_need t.ops v
  pub fixed_count : length t.fixed.items ≡ 20
  pub fixed_are : (q i : ℕ) → q < 20 → row_has t.fixed.items q i
      ≡ (nat_lt i (length t.ops) && has_place (op_at t.ops i).fixed q)

-- the variables of the list, one after another, behind these places
abbrev pub Fits : List Op → List Kind → List Place → (ℕ → ℕ → Type 0) → List ℕ
    → List (Option ℕ) → Out → Type 0
Fits ops kinds in_use Live vs done o =
    First (Meets ops kinds in_use Live) (Conflict ops kinds in_use Live)
    (Taken ops kinds in_use Live) vs done o

-- an operation is in the row of a place exactly where a variable that has the place counts there
abbrev pub Tells : ℕ → (ℕ → ℕ → Type 0) → List (Option ℕ) → List (List ℕ) → Type 0
Tells count At places rows =
    (q i : ℕ) → q < 20 → i < count → IsTrue (row_has rows q i)
    ↔ ((u : ℕ) × (slice_index_or places u None ≡ Some q) × At i u)

abbrev pub Writes : List Op → ℕ → ℕ → Type 0
Writes ops i u = IsTrue (among (op_at ops i).writes u)

-- the first so many variables of the order are placed: what the rows say, and that the rest of
-- first fit from here is all of it
pub record Seating (ops : List Op) (kinds : List Kind) (in_use : List Place)
    (Live : ℕ → ℕ → Type 0) (order : List ℕ) (i : ℕ) (places : List (Option ℕ))
    (written live : List (List ℕ)) : Type 0 where
  pub places_count : length places ≡ length kinds
  pub written_count : length written ≡ 20
  pub live_count : length live ≡ 20
  pub written_wide : AllWide (length ops) written
  pub live_wide : AllWide (length ops) live
  pub written_tells : Tells (length ops) (Writes ops) places written
  pub live_tells : Tells (length ops) Live places live
  pub pending : (j : ℕ) → i ≤ j → j < length order
      → slice_index_or places (slice_index_or order j 0) None ≡ None
  pub forward : (o : Out) → Fits ops kinds in_use Live (drop i order) places o
      → Fits ops kinds in_use Live order (replicate (length kinds) None) o

abbrev pub IsSeated : Table → List ℕ → ℕ → Seats → Type 0
IsSeated t order i seats =
    Seating t.ops t.code.now.kinds t.code.now.in_use (LiveAt t.code.now) order i
    seats.places.items seats.written.items seats.live.items

-- first fit of the order comes to this
abbrev pub ComesTo : Table → List ℕ → Out → Type 0
ComesTo t order o =
    Fits t.ops t.code.now.kinds t.code.now.in_use (LiveAt t.code.now) order
    (replicate (length t.code.now.kinds) None) o

-- by the rows of the places and the lists of a variable: it can have the place q
pub record OpenBy (kinds : List Kind) (in_use : List Place) (ops : List Op)
    (fixed written live : List (List ℕ)) (writes lives crosses : List ℕ) (v q : ℕ) : Type 0 where
  pub meets_needs : IsTrue (meets kinds in_use ops v q)
  pub not_live : Common writes (slice_index_or live q []) → ⊥
  pub not_written : Common lives (slice_index_or written q []) → ⊥
  pub not_fixed : Common crosses (slice_index_or fixed q []) → ⊥

abbrev pub IsOpen : Table → Spots → Seats → ℕ → ℕ → Type 0
IsOpen t spots seats v q =
    OpenBy t.code.now.kinds t.code.now.in_use t.ops t.fixed.items seats.written.items
    seats.live.items (list_at spots.writes.items v) (list_at spots.lives.items v)
    (list_at spots.crosses.items v) v q

-- there is a row for each place
pub record HasRows (seats : Seats) : Type 0 where
  pub written_count : length seats.written.items ≡ 20
  pub live_count : length seats.live.items ≡ 20

-- the row of one place has the operations of the list besides, and the others are as before
pub record AddsTo (q : ℕ) (list : List ℕ) (old new : List (List ℕ)) : Type 0 where
  pub count : length new ≡ length old
  pub wide : (n : ℕ) → AllWide n old → AllWide n new
  pub here : (i : ℕ) → row_has new q i ≡ (among list i || row_has old q i)
  pub others : (p i : ℕ) → p ≢ q → row_has new p i ≡ row_has old p i

abbrev pub out_of : Fit → Out
out_of (V.Placed places) = placed places.items
out_of (V.Refused variable places) = refused variable places.items

-- no variable stands twice in the order
abbrev pub IsDistinct : List ℕ → Type 0
IsDistinct order =
    (i j : ℕ) → i < j → j < length order → slice_index_or order i 0 ≢ slice_index_or order j 0

-- the set has the variables of this part of the order, which are below the bound
pub record AreFollowed (order : List ℕ) (from to count : ℕ) (followed : List ℕ) : Type 0 where
  pub has_each : (k : ℕ) → from ≤ k → k < to → IsTrue (has followed (slice_index_or order k 0))
  pub below : (v : ℕ) → IsTrue (has followed v) → v < count
