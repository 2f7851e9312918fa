-- What the code finds to be secret.
use Rattle.std.specs.Prelude.{ℕ, Bool, true, false, not, List, Option, Some, None, get_or}
use Rattle.jz_layers.specs.Spots.{entry_in}
use Rattle.jz_secrets.specs.declared.secrets.Secrets.{Secrets}
use Rattle.jz_secrets.specs.Graphs.{Vertex, hidden, drawn, array}

abbrev pub marked_at : List Bool → ℕ → Bool
marked_at ms n = get_or ms n false

abbrev pub unless_marked : List Bool → Option ℕ → Bool
unless_marked ms None = true
unless_marked ms (Some n) = not (marked_at ms n)

abbrev pub public_by : Secrets → Vertex → Bool
public_by s hidden = false
public_by s (drawn n) = not (marked_at s.marked.items n)
public_by s (array k) =
    unless_marked s.marked.items (entry_in s.arrays (record { of = k; index = None }))
