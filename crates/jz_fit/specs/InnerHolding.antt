-- What private contracts alone say: what keeps a variable from a place.
use Rattle.std.specs.Prelude.{◌≡◌, ◌↔◌, ◌<◌, ◌≤◌, ◌⊎◌, ℕ, Bool, true, false, List, [], IsTrue, IsFalse, length, Option, Some, None, slice_index_or}
use Rattle.x64_insn.specs.declared.types.Place.{Place}
use Rattle.jz_ir.specs.declared.code.Op.{Op}
use Rattle.jz_ir.specs.Order.{number_of, has_place}
use Rattle.jz_ir.specs.Paths.{among}
use Rattle.jz_ir.specs.Places.{HeldByVar, HeldBy, TakenAt, FirstHolder}
use Rattle.jz_alloc.specs.declared.evidence.Holder.{Holder}
use Rattle.jz_fit.specs.declared.table.Table.{Table}
use Rattle.jz_fit.specs.Branches.{LiveAt}
use Rattle.jz_fit.specs.InnerSpots.{list_at}

abbrev pub SeatIs : List (Option ℕ) → ℕ → ℕ → Type 0
SeatIs places v q = slice_index_or places v None ≡ Some q

-- of these variables the first declared that has the place, or that none has it
abbrev pub IsFirstSeated : List ℕ → List (Option ℕ) → ℕ → Option ℕ → Type 0
IsFirstSeated variables places q None =
    (w : ℕ) → IsTrue (among variables w) → SeatIs places w q → ⊥
IsFirstSeated variables places q (Some u) =
    IsTrue (among variables u) × SeatIs places u q
    × ((w : ℕ) → w < u → IsTrue (among variables w) → SeatIs places w q → ⊥)

-- the same where that is asked, and none where it is not
abbrev pub IsSeatedIf : Bool → List ℕ → List (Option ℕ) → ℕ → Option ℕ → Type 0
IsSeatedIf true variables places q first = IsFirstSeated variables places q first
IsSeatedIf false variables places q first = first ≡ None

-- the lower of the two, where there are two
abbrev pub IsEarlier : Option ℕ → ℕ → ℕ → Type 0
IsEarlier None u r = r ≡ u
IsEarlier (Some w) u r = ((w < u) × (r ≡ w)) ⊎ ((u ≤ w) × (r ≡ u))

abbrev pub IsLower : Option ℕ → Option ℕ → Option ℕ → Type 0
IsLower None other r = r ≡ other
IsLower (Some u) other r = (w : ℕ) × (r ≡ Some w) × IsEarlier other u w

-- at one operation, by the list of what is live after it: a variable in the place conflicts
abbrev pub VarAt : Op → List ℕ → List (Option ℕ) → ℕ → ℕ → ℕ → Type 0
VarAt op after places v q u =
    SeatIs places u q
    × ((IsTrue (among op.writes u) × IsTrue (among after v))
    ⊎ (IsTrue (among op.writes v) × IsTrue (among after u)))

-- it writes the place besides, and the variable is live across it
abbrev pub FixedAt : Op → List ℕ → ℕ → ℕ → Type 0
FixedAt op after v q =
    IsTrue (has_place op.fixed q) × IsFalse (among op.writes v) × IsTrue (among after v)

-- what keeps the variable from the place there: nothing, the fixed write, or the first declared of
-- the variables that do
abbrev pub WhoAt : Op → List ℕ → List (Option ℕ) → ℕ → ℕ → Option (Option ℕ) → Type 0
WhoAt op after places v q None =
    ((u : ℕ) → VarAt op after places v q u → ⊥) × (FixedAt op after v q → ⊥)
WhoAt op after places v q (Some None) =
    ((u : ℕ) → VarAt op after places v q u → ⊥) × FixedAt op after v q
WhoAt op after places v q (Some (Some u)) =
    VarAt op after places v q u × ((w : ℕ) → w < u → VarAt op after places v q w → ⊥)

-- something keeps the variable from the place
abbrev pub IsHeld : List Op → (ℕ → ℕ → Type 0) → List (Option ℕ) → ℕ → ℕ → Type 0
IsHeld ops Live places v q =
    (i : ℕ) × (i < length ops)
    × (((u : ℕ) × HeldByVar ops Live places v q i u) ⊎ TakenAt ops Live i v q)

abbrev pub IsFirstHolder : List Op → (ℕ → ℕ → Type 0) → List (Option ℕ) → ℕ → ℕ → Holder → Type 0
IsFirstHolder ops Live places v q holder =
    (number_of holder.place ≡ q)
    × FirstHolder ops Live places v q holder.span holder.variable

-- the lists tell what is live of the variable and of those that have places
pub record TellsLive (t : Table) (places : List (Option ℕ)) (v : ℕ) (after : List (List ℕ)) :
    Type 0 where
  pub count : length after ≡ length t.ops
  pub own : (i : ℕ) → i < length t.ops → IsTrue (among (list_at after i) v) ↔ LiveAt t.code.now i v
  pub others : (i u q : ℕ) → i < length t.ops → SeatIs places u q
      → IsTrue (among (list_at after i) u) ↔ LiveAt t.code.now i u
