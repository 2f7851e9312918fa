-- What tables speak of, and what tables over tables say.
use Rattle.std.specs.Prelude.{◌≡◌, ◌⊎◌, ℕ, ◌==◌, Bool, true, ◌&&◌, ◌||◌, is_none, is_some, List, [], ◌∷◌, Option, Some, None, if◌then◌else◌}
use Rattle.std.specs.Str.{bytes_eq}
use Rattle.indexmap.specs.IndexMap.{IndexMap, get_by}
use Rattle.jz_meaning.specs.States.{Key, same_cell}
use Rattle.jz_meaning.specs.Values.{key_of, ref_of}
use Rattle.jz_tree.specs.declared.expr.Var.{Var}
use Rattle.jz_layers.specs.declared.named.Named.{Named}

-- a variable, or a cell of a stack array
pub record Spot : Type 0 where
  pub of : Key
  pub index : Option ℕ

abbrev pub same_spot : Spot → Spot → Bool
same_spot a b =
    bytes_eq a.of.name b.of.name
    && (a.of.copy == b.of.copy && (same_cell a.of.cell b.of.cell && same_cell a.index b.index))

abbrev pub variable_key : Var → Key
variable_key v = key_of (ref_of v)

abbrev pub variable_spot : Var → Spot
variable_spot v = record { of = variable_key v; index = None }

abbrev pub cell_spot : Var → ℕ → Spot
cell_spot v i = record { of = variable_key v; index = Some i }

abbrev pub spot_of : Named → Spot
spot_of n =
    record { of = record { name = n.name.now; copy = n.copy; cell = n.cell }; index = n.index }

-- the upper one, else the lower one
abbrev pub or_below : {V : Type 0} → Option V → Option V → Option V
or_below None b = b
or_below (Some v) b = Some v

abbrev pub nowhere : {V : Type 0} → Spot → Option V
nowhere k = None

-- with a value at one spot
abbrev pub put_in : {V : Type 0} → (Spot → Option V) → Spot → V → Spot → Option V
put_in f k v q = if same_spot k q then Some v else f q

module _ {V S : Type 0} where
  abbrev pub entry_in : IndexMap Named V S → Spot → Option V
  entry_in m k = get_by (λ n. same_spot k (spot_of n)) m

  -- a table over what stands below it
  abbrev pub over : IndexMap Named V S → (Spot → Option V) → Spot → Option V
  over m f k = or_below (entry_in m k) (f k)

  -- of tables, the lowest first, over what stands below them
  abbrev pub seen_from : (Spot → Option V) → List (IndexMap Named V S) → Spot → Option V
  seen_from f [] = f
  seen_from f (m ∷ ms) = seen_from (over m f) ms

  abbrev pub seen_in : List (IndexMap Named V S) → Spot → Option V
  seen_in ms = seen_from nowhere ms

-- ---- cells

abbrev pub is_plain : Spot → Bool
is_plain k = is_none k.of.cell && is_none k.index

-- it is no cell, or is noted
abbrev pub is_noted : {U S : Type 0} → IndexMap Named U S → Spot → Bool
is_noted r k = is_plain k || is_some (entry_in r k)

-- all of which something is known
abbrev pub IsListed : {U V S : Type 0} → IndexMap Named U S → (Spot → Option V) → Type 0
IsListed {U} {V} r f = (k : Spot) (v : V) → f k ≡ Some v → is_noted r k ≡ true

-- a list has it
abbrev pub Occurs : {A : Type 0} → List A → A → Type 0
Occurs [] x = ⊥
Occurs (y ∷ ys) x = (y ≡ x) ⊎ Occurs ys x

abbrev pub AreListed :
    {U V S T : Type 0} → IndexMap Named U T → List (IndexMap Named V S) → Type 0
AreListed {U} {V} {S} r ms =
    (m : IndexMap Named V S) → Occurs ms m → (k : Spot) (v : V)
    → entry_in m k ≡ Some v → is_noted r k ≡ true

-- ---- arrays of cells by an index

abbrev pub without_index : Spot → Spot
without_index k = record { of = k.of; index = None }

abbrev pub cell_at : Spot → ℕ → Spot
cell_at k i = record { of = k.of; index = Some i }

-- each array of which a cell is noted is there
abbrev pub AreHeld : {U S T : Type 0} → IndexMap Named U S → IndexMap Named U T → Type 0
AreHeld r a =
    (k : Spot) (i : ℕ) → is_some (entry_in r (cell_at k i)) ≡ true
    → is_some (entry_in a (without_index k)) ≡ true
