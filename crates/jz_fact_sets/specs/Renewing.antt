-- What a write changes of what is known.
use Rattle.std.specs.Prelude.{ℕ, ◌==◌, Bool, true, false, not, ◌&&◌, ◌||◌, is_none, None, Some, if◌then◌else◌}
use Rattle.std.specs.Str.{bytes_eq}
use Rattle.jz_meaning.specs.States.{Key, same_key, same_cell}
use Rattle.jz_layers.specs.Spots.{Spot, same_spot, is_plain}
use Rattle.jz_facts.specs.Facts.{Cell, Facts}
use Rattle.jz_fact_sets.specs.declared.given.Given as given
use Rattle.jz_fact_sets.specs.declared.knowledge.Knowledge.{Knowledge}
use Rattle.jz_fact_sets.specs.Knowing.{nothing}
use Rattle.jz_fact_sets.specs.Kept.{says}

-- of this variable, or of any of its name and copy
abbrev pub is_meant : Spot → Bool → Spot → Bool
is_meant n all k =
    bytes_eq n.of.name k.of.name
    && (n.of.copy == k.of.copy && (all || same_cell n.of.cell k.of.cell))

abbrev pub known_if : Bool → Knowledge → Knowledge → Knowledge
known_if c a b = if c then a else b

-- nothing is known at a spot
abbrev pub forgotten_if : Bool → Spot → (Spot → Knowledge) → Spot → Knowledge
forgotten_if c n know k = known_if (c && same_spot n k) nothing (know k)

abbrev pub is_meant_cell : Spot → Bool → Spot → Bool
is_meant_cell n all k = is_meant n all k && not (is_plain k)

-- nothing is known of what is meant and is a cell
abbrev pub without_cells : Spot → Bool → (Spot → Knowledge) → Spot → Knowledge
without_cells n all know k = known_if (is_meant_cell n all k) nothing (know k)

-- of a variable that is known, and nothing of its cells
abbrev pub renewed_at : Key → Knowledge → (Spot → Knowledge) → Spot → Knowledge
renewed_at v x know k =
    known_if (same_key v k.of) (known_if (is_none k.index) x nothing) (know k)

-- a name and a copy without a cell
abbrev pub whole_spot : Key → Spot
whole_spot v = record { of = record { name = v.name; copy = v.copy; cell = None }; index = None }

-- nothing is known of any variable of its name and copy, nor of its cells
abbrev pub forgotten_at : Key → (Spot → Knowledge) → Spot → Knowledge
forgotten_at v know k =
    known_if (bytes_eq v.name k.of.name && (v.copy == k.of.copy)) nothing (know k)

-- a cell of an array has a value
abbrev pub with_cell : Key → ℕ → (Spot → Knowledge) → Spot → Knowledge
with_cell a i know k =
    known_if (same_spot (record { of = a; index = Some i }) k) (record nothing { set = true })
    (know k)

-- of a variable alone, whatever its cells are
abbrev pub own : given.Given → Knowledge → Facts
own g k (Cell a j) = false
own g k f = says g.constants g.params k f
