-- That the code has drawn a piece of a body.
use Rattle.std.specs.Prelude.{◌≡◌, ◌⊎◌, ◌≤◌, ℕ, None}
use Rattle.jz_meaning.specs.Runs.{Callees}
use Rattle.jz_meaning.specs.Statements.{Block}
use Rattle.jz_drawing.specs.Drawings.{next, IsBounded}
use Rattle.jz_drawing.specs.Draws.{Draws}
use Rattle.jz_drawn_labels.specs.declared.drawing.Drawing.{Drawing}
use Rattle.jz_drawn_labels.specs.Kept.{view_of, IsLow}

-- no call is left
abbrev pub no_callees : Callees
no_callees = λ n. None

pub record IsDrawn (d : Drawing) : Type 0 where
  pub low : IsLow d
  pub bounded : IsBounded (view_of d)

-- the floor is as it was, or none of the labels before stands
abbrev pub HasRisen : Drawing → ℕ → Type 0
HasRisen old floor = (floor ≡ old.table.floor) ⊎ (next (view_of old) ≤ floor)

pub record Drew (f : Block → Block) (old new : Drawing) : Type 0 where
  pub low : IsLow new
  pub below : new.table.layers.below.items ≡ old.table.layers.below.items
  pub risen : HasRisen old new.table.floor
  pub draws : Draws f (view_of old) (view_of new)
