-- Graphs over numbers, as the code keeps them.
use Rattle.std.specs.Prelude.{◌≡◌, ◌⊎◌, ◌<◌, ◌≤◌, ℕ, suc, nat_eq, Bool, true, false, ◌&&◌, ◌||◌, List, [], ◌∷◌, Option, Some, None, get_or, length}
use Rattle.jz_meaning.specs.States.{Key}
use Rattle.jz_layers.specs.Spots.{Spot, entry_in}
use Rattle.jz_secrets.specs.declared.graph.Graph.{Graph}
use Rattle.jz_secrets.specs.Graphs.{Vertex, hidden, drawn, array, Arrow}
use Rattle.jz_secrets.specs.Kept.{marked_at}

abbrev pub has : List ℕ → ℕ → Bool
has [] n = false
has (x ∷ xs) n = nat_eq x n || has xs n

abbrev pub row_at : List (List ℕ) → ℕ → List ℕ
row_at rows n = get_or rows n []

abbrev pub whole : Key → Spot
whole k = record { of = k; index = None }

abbrev pub number_in : Graph → Vertex → Option ℕ
number_in g hidden = Some g.count
number_in g (drawn n) = Some n
number_in g (array k) = entry_in g.arrays (whole k)

-- numbers of arrays stand behind all others, each array has its own
pub record IsFine (g : Graph) : Type 0 where
  pub long : g.count < length g.rows.items
  pub within :
      (k : Key) (n : ℕ) → entry_in g.arrays (whole k) ≡ Some n
      → (g.count < n) × (n < length g.rows.items)
  pub apart :
      (j k : Key) (n : ℕ)
      → entry_in g.arrays (whole j) ≡ Some n → entry_in g.arrays (whole k) ≡ Some n → j ≡ k

-- each number stays, and each row
pub record Grows (old new : Graph) : Type 0 where
  pub count : new.count ≡ old.count
  pub longer : length old.rows.items ≤ length new.rows.items
  pub numbers : (v : Vertex) (n : ℕ) → number_in old v ≡ Some n → number_in new v ≡ Some n
  pub rows :
      (u v : ℕ) → has (row_at new.rows.items u) v ≡ has (row_at old.rows.items u) v

pub record AddsArrow (x : Arrow) (old new : Graph) : Type 0 where
  pub count : new.count ≡ old.count
  pub longer : length old.rows.items ≤ length new.rows.items
  pub numbers : (v : Vertex) (n : ℕ) → number_in old v ≡ Some n → number_in new v ≡ Some n
  pub from : ℕ
  pub to : ℕ
  pub from_is : number_in new x.from ≡ Some from
  pub to_is : number_in new x.to ≡ Some to
  pub rows :
      (u v : ℕ) → has (row_at new.rows.items u) v
      ≡ (has (row_at old.rows.items u) v || (nat_eq from u && nat_eq to v))

-- a list has it
abbrev pub Occurs : {A : Type 0} → List A → A → Type 0
Occurs [] x = ⊥
Occurs (y ∷ ys) x = (y ≡ x) ⊎ Occurs ys x

-- the rows are the arrows
pub record IsGraphOf (xs : List Arrow) (g : Graph) : Type 0 where
  pub fine : IsFine g
  pub there :
      (x : Arrow) → Occurs xs x
      → (u : ℕ) × (v : ℕ) × (number_in g x.from ≡ Some u) × (number_in g x.to ≡ Some v)
      × (has (row_at g.rows.items u) v ≡ true)
  pub only :
      (u v : ℕ) → has (row_at g.rows.items u) v ≡ true
      → (x : Arrow) × Occurs xs x × (number_in g x.from ≡ Some u) × (number_in g x.to ≡ Some v)
      × (v < length g.rows.items)

-- ---- marks

-- what is unmarked
abbrev pub unmarked : List Bool → ℕ
unmarked [] = 0
unmarked (true ∷ ms) = unmarked ms
unmarked (false ∷ ms) = suc (unmarked ms)

-- each of a row is marked, and what is marked anew is left to be gone on from
pub record MarksRow (row : List ℕ) (old new : List Bool) (before behind : List ℕ) : Type 0 where
  pub rows : length new ≡ length old
  pub stay : (n : ℕ) → marked_at old n ≡ true → marked_at new n ≡ true
  pub all : (n : ℕ) → has row n ≡ true → marked_at new n ≡ true
  pub only : (n : ℕ) → marked_at new n ≡ true → (marked_at old n ≡ true) ⊎ (has row n ≡ true)
  pub left : (n : ℕ) → has before n ≡ true → has behind n ≡ true
  pub fresh : (n : ℕ) → marked_at new n ≡ true → (marked_at old n ≡ true) ⊎ (has behind n ≡ true)
  pub within : (n : ℕ) → has behind n ≡ true → (has before n ≡ true) ⊎ (has row n ≡ true)

-- from a number along rows to another
pub data Path (rows : List (List ℕ)) (start : ℕ) : ℕ → Type 0 where
  here : Path rows start start
  on : {u v : ℕ} → Path rows start u → has (row_at rows u) v ≡ true → Path rows start v

-- what can be reached from a number along rows, and no more
pub record AreReached (rows : List (List ℕ)) (start : ℕ) (marked : List Bool) : Type 0 where
  pub long : length marked ≡ length rows
  pub begun : marked_at marked start ≡ true
  pub closed :
      (u v : ℕ) → marked_at marked u ≡ true → has (row_at rows u) v ≡ true
      → marked_at marked v ≡ true
  pub forced : (n : ℕ) → marked_at marked n ≡ true → Path rows start n
