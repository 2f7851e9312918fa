-- What sets and tables of names hold.
use Rattle.std.specs.Prelude.{◌≡◌, ℕ, Bool, nat_eq, List, map, filter}
use Rattle.std.specs.List.{list_any}
use Rattle.std.specs.Str.{bytes_eq}
use Rattle.jz_type_names.specs.declared.tables.ByName.{ByName}
use Rattle.jz_type_names.specs.Tables.{item_in}
use Rattle.jz_type_names.specs.Scopes.{text_of}
use Rattle.jz_type_rows.specs.declared.tables.Names.{Names}
use Rattle.jz_type_rows.specs.declared.tables.Numbers.{Numbers}
use Rattle.jz_type_rows.specs.declared.twice.Seen.{Seen}
use Rattle.jz_type_rows.specs.Callees.{index_where}
use Rattle.jz_type_rows.specs.Copies.{Passed, is_written_at}

-- the set has these names
pub record HasNames (s : Names) (ns : List (List ℕ)) : Type 0 where
  pub has : (n : List ℕ) → list_any (bytes_eq n) s.texts.keys ≡ list_any (bytes_eq n) ns

-- the table has the first place of each name of the list
pub record HasPlaces (t : ByName ℕ) (ns : List (List ℕ)) : Type 0 where
  pub first : (n : List ℕ) → item_in t n ≡ index_where (bytes_eq n) ns

-- the set has these numbers
pub record HasNumbers (s : Numbers) (ns : List ℕ) : Type 0 where
  pub has : (n : ℕ) → list_any (nat_eq n) s.numbers.keys ≡ list_any (nat_eq n) ns

abbrev pub names_passed : List Passed → List (List ℕ)
names_passed as' = map (λ a. text_of a.1) as'

abbrev pub written_among : List Bool → List Passed → List Passed
written_among written as' = filter (λ a. is_written_at written a.0) as'

-- the sets have the names of the arrays that were passed, and of those that are written
pub record HasSeen (s : Seen) (bs : List Bool) (as' : List Passed) : Type 0 where
  pub all : HasNames s.all (names_passed as')
  pub written : HasNames s.written (names_passed (written_among bs as'))
