-- What the code's store holds.
use Rattle.std.specs.Prelude.{ℕ, Bool, ◌==◌, ◌&&◌, List, Option, Some, None, option_map}
use Rattle.std.specs.Str.{bytes_eq}
use Rattle.indexmap.specs.IndexMap.{IndexMap, get}
use Rattle.jz_meaning.specs.declared.store.Store as code
use Rattle.jz_meaning.specs.declared.state.State as code_state
use Rattle.jz_meaning.specs.declared.value.Value as value
use Rattle.jz_meaning.specs.declared.store.Place.{Place}
use Rattle.jz_meaning.specs.States as states
use Rattle.jz_meaning.specs.States.{Value, as_value, same_cell}

abbrev pub same_place : Place → Place → Bool
same_place a b = a.copy == b.copy && same_cell a.cell b.cell

abbrev pub flat : {A : Type 0} → Option (Option A) → Option A
flat None = None
flat (Some x) = x

-- what a table of one name has at a place
abbrev pub value_at : {S : Type 0} → Place → Option (IndexMap Place (Option value.Value) S) → Option Value
value_at p None = None
value_at p (Some m) = option_map as_value (flat (get same_place m p))

-- the value of each key
abbrev pub store_of : code.Store → states.Store
store_of s k = value_at (record { copy = k.copy; cell = k.cell }) (get bytes_eq s.names k.name)

abbrev pub key_of : List ℕ → Place → states.Key
key_of n p = record { name = n; copy = p.copy; cell = p.cell }

-- where a run of the code stands
abbrev pub state_of : code_state.State → states.State
state_of s = record { store = store_of s.store; memory = s.memory }
