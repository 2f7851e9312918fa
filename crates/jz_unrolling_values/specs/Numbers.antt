-- The numbers of inline variables that are known, and how they change.
use Rattle.std.specs.Prelude.{ℕ, ℤ, ◌≡◌, ◌==◌, ◌&&◌, Bool, true, false, if◌then◌else◌, List, [], ◌∷◌, ◌++◌, Option, Some, None}
use Rattle.std.specs.Str.{bytes_eq}
use Rattle.jz_tree.specs.declared.expr.Var.{Var}
use Rattle.jz_tree.specs.declared.expr.Expr.TheViews.{out-Var}
use Rattle.jz_integers.specs.Integers.{KnownNumbers}
use Rattle.jz_meaning.specs.States.{Value, integer}
use Rattle.jz_meaning.specs.Stores.{store_of}
use Rattle.jz_unrolling_values.specs.declared.known.Changed.{Changed}
use Rattle.jz_unrolling_values.specs.declared.known.Known.{Known}

abbrev pub no_numbers : KnownNumbers
no_numbers n c = None

abbrev pub whole_number : Option Value → Option ℤ
whole_number (Some (integer i)) = Some i
whole_number _ = None

abbrev pub held : Option ℤ → Option Value
held None = None
held (Some i) = Some (integer i)

-- the numbers that are known
abbrev pub numbers_in : Known → KnownNumbers
numbers_in k n c = whole_number (store_of k.numbers (record { name = n; copy = c; cell = None }))

-- what was changed, and what it was before
abbrev pub changes_in : Known → List Changed
changes_in k = k.changed.items

-- with another number of this name and copy
abbrev pub with_number_at : KnownNumbers → List ℕ → ℕ → Option ℤ → KnownNumbers
with_number_at e n c i m d = if bytes_eq n m && c == d then i else e m d

-- what was known before these changes, of what is known behind them
abbrev pub undone : List Changed → KnownNumbers → KnownNumbers
undone [] e = e
undone (x ∷ xs) e = with_number_at (undone xs e) x.name x.copy x.old

-- one more change
pub record Sets (old new : Known) (n : List ℕ) (c : ℕ) (i : Option ℤ) : Type 0 where
  pub changed :
      changes_in new
      ≡ changes_in old ++ record { name = n; copy = c; old = numbers_in old n c } ∷ []
  pub numbers : numbers_in new ≡ with_number_at (numbers_in old) n c i

-- the number of a variable, or nothing
abbrev pub SetsIf : Bool → Known → Known → Var → ℤ → Type 0
SetsIf true old new v n = Sets old new (out-Var v).name (out-Var v).copy (Some n)
SetsIf false old new v n = new ≡ old

-- from the one to the other by changes that can be undone
pub record Went (old new : Known) : Type 0 where
  pub changes : List Changed
  pub changed : changes_in new ≡ changes_in old ++ changes
  pub numbers : undone changes (numbers_in new) ≡ numbers_in old

-- all changes are taken back
pub record IsRestored (old new : Known) (outer : List Changed) : Type 0 where
  pub changed : changes_in new ≡ outer
  pub numbers : numbers_in new ≡ undone (changes_in old) (numbers_in old)

-- the same is known before and behind
pub record IsSame (old new : Known) : Type 0 where
  pub changed : changes_in new ≡ changes_in old
  pub numbers : numbers_in new ≡ numbers_in old
