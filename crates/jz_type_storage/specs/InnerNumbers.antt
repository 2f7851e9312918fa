-- Calls by the numbers of functions, and which of them one reaches.
use Rattle.std.specs.Prelude.{ℕ, ◌+◌, ◌<◌, ◌≤◌, ◌≡◌, ◌⊎◌, ◌↔◌, Bool, true, false, not, List, [], length, count_by, map, flat_map, option_to_list, slice_index_or}
use Rattle.jz_tree.specs.declared.program.Fun.{Fun}
use Rattle.jz_tree.specs.declared.stmt.Stmt.{Stmt}
use Rattle.jz_type_names.specs.Scopes.{Name}
use Rattle.jz_type_names.specs.Parts.{called_by, statements_of, layer_of}
use Rattle.jz_type_storage.specs.Numbers.{number_named, AreBelow}

-- the number of the function that is called, if there is one
abbrev pub called_number : List Fun → Name → List ℕ
called_number fs n = option_to_list (number_named n.0 fs)

-- the numbers of the functions that a statement calls
unfoldable pub numbers_by : List Fun → Stmt → List ℕ
numbers_by fs s = flat_map (called_number fs) (called_by (layer_of s))

-- the numbers of the functions that a function calls
abbrev pub numbers_called : List Fun → Fun → List ℕ
numbers_called fs f = flat_map (numbers_by fs) (statements_of f.body)

-- for each function the numbers of those that it calls
abbrev pub graph_of : List Fun → List (List ℕ)
graph_of fs = map (numbers_called fs) fs

-- x is one of the numbers
abbrev pub Has : List ℕ → ℕ → Type 0
Has xs x = (k : ℕ) × (k < length xs) × (slice_index_or xs k 0 ≡ x)

-- the numbers that one function calls
abbrev pub row_of : List (List ℕ) → ℕ → List ℕ
row_of g i = slice_index_or g i []

-- each number that is called is that of a function
abbrev pub IsClosed : List (List ℕ) → Type 0
IsClosed g = (i j : ℕ) → Has (row_of g i) j → j < length g

-- from i to j by one or more calls
pub data Leads (g : List (List ℕ)) : ℕ → ℕ → Type 0 where
  directly : {i j : ℕ} → Has (row_of g i) j → Leads g i j
  further : {i j k : ℕ} → Leads g i j → Has (row_of g j) k → Leads g i k

-- the marks are those of the functions in the list, and the list has no function twice
pub record Consistent (marks : List Bool) (order : List ℕ) : Type 0 where
  pub marked : (j : ℕ) → Has order j → slice_index_or marks j false ≡ true
  pub listed : (j : ℕ) → slice_index_or marks j false ≡ true → Has order j
  pub count : length order + count_by not marks ≡ length marks

-- each of xs was found, and nothing else
pub record VisitsAll (marks : List Bool) (order : List ℕ) (marks' : List Bool) (order' : List ℕ) (xs : List ℕ) : Type 0 where
  pub consistent : Consistent marks' order'
  pub same : length marks' ≡ length marks
  pub longer : length order ≤ length order'
  pub keeps : (k : ℕ) → k < length order → slice_index_or order' k 0 ≡ slice_index_or order k 0
  pub has : (j : ℕ) → Has xs j → Has order' j
  pub only : (j : ℕ) → Has order' j → Has order j ⊎ Has xs j

-- the functions that start reaches, by marks and as a list
pub record IsFound (g : List (List ℕ)) (start : ℕ) (marks : List Bool) (order : List ℕ) : Type 0 where
  pub consistent : Consistent marks order
  pub same : length marks ≡ length g
  pub reached : (j : ℕ) → (slice_index_or marks j false ≡ true) ↔ Leads g start j

-- each of these functions has a rank below the limit
abbrev pub AreCalledBelow : List ℕ → ℕ → List ℕ → Type 0
AreCalledBelow ranks limit called =
    (k : ℕ) → k < length called → slice_index_or ranks (slice_index_or called k 0) 0 < limit

-- a rank for each function, below the number of functions, and no call is of a function of higher
-- rank
pub record Descends (g : List (List ℕ)) (ranks : List ℕ) : Type 0 where
  pub same : length ranks ≡ length g
  pub below : AreBelow ranks (length g)
  pub stays : (i j : ℕ) → Has (row_of g i) j → slice_index_or ranks j 0 ≤ slice_index_or ranks i 0
