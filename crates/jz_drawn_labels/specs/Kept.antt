-- What the code has drawn.
use Rattle.std.specs.Prelude.{◌≤◌, ℕ, nat_lt, map, Option, Some, None, if◌then◌else◌}
use Rattle.jz_meaning.specs.States.{Key}
use Rattle.jz_layers.specs.Spots.{Spot}
use Rattle.jz_layers.specs.Layered.{seen}
use Rattle.jz_required.specs.Kept.{demand_of}
use Rattle.jz_secrets.specs.Graphs.{vertex_of, arrows_of}
use Rattle.jz_drawn_labels.specs.declared.sheet.Ask.{Ask}
use Rattle.jz_drawn_labels.specs.declared.sheet.Sheet.{Sheet}
use Rattle.jz_drawn_labels.specs.declared.table.Table.{Table}
use Rattle.jz_drawn_labels.specs.declared.drawing.Drawing.{Drawing}
use Rattle.jz_drawing.specs.Drawings.{Asked, View, next}

abbrev pub asked_of : Ask → Asked
asked_of a = record { at = vertex_of a.at; demand = demand_of a.required }

-- labels that were drawn before the last loop without an end are those of scalars that are public
-- behind it
abbrev pub standing : ℕ → Option ℕ → ℕ
standing floor None = 0
standing floor (Some n) = if nat_lt n floor then 0 else n

abbrev pub whole : Key → Spot
whole k = record { of = k; index = None }

abbrev pub nodes_by : ℕ → (Spot → Option ℕ) → Key → ℕ
nodes_by floor f k = standing floor (f (whole k))

abbrev pub nodes_of : Table → Key → ℕ
nodes_of t = nodes_by t.floor (seen t.layers)

abbrev pub view_with : (Key → ℕ) → Sheet → View
view_with e s =
    record { nodes = e; arrows = arrows_of s.edges.items; asked = map asked_of s.asked.items }

abbrev pub view_of : Drawing → View
view_of d = view_with (nodes_of d.table) d.sheet

-- no label has yet to be drawn for it
abbrev pub IsLow : Drawing → Type 0
IsLow d = d.table.floor ≤ next (view_of d)
