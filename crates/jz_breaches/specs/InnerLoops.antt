-- Statements with bodies, as the code draws them.
use Rattle.std.specs.Prelude.{◌≡◌, ◌++◌, Bool, false, List, Option}
use Rattle.jz_tree.specs.declared.stmt.Stmt.{Stmt}
use Rattle.jz_meaning.specs.Runs.{block}
use Rattle.jz_terms.specs.Terms.{Term, truth}
use Rattle.jz_layers.specs.Layered.{seen}
use Rattle.jz_drawing.specs.Drawings.{View}
use Rattle.jz_drawing.specs.Draws.{Draws}
use Rattle.jz_drawn_labels.specs.declared.drawing.Drawing.{Drawing}
use Rattle.jz_drawn_labels.specs.Kept.{view_of, view_with}
use Rattle.jz_drawn_labels.specs.Drew.{no_callees, HasRisen}
use Rattle.jz_drawn_arms.specs.declared.arms.Arm.{Arm}
use Rattle.jz_drawn_heads.specs.declared.heads.Head.{Head}
use Rattle.jz_drawn_heads.specs.Pieces.{turn_piece, back_arrows}
use Rattle.jz_drawn_arms.specs.Meetings.{behind_arm}

abbrev pub is_truth : Term → Bool
is_truth (truth b at) = b
is_truth t = false

-- what was laid over the labels is taken away: they are those before it
pub record IsBack (old new : Drawing) : Type 0 where
  pub below : new.table.layers.below.items ≡ old.table.layers.below.items
  pub seen_is : seen new.table.layers ≡ seen old.table.layers
  pub floor : new.table.floor ≡ old.table.floor

-- an arm is drawn over what was there before it
pub record ArmDrawn (ss : List Stmt) (old : Drawing) (arm : Arm) (new : Drawing) : Type 0 where
  pub back : IsBack old new
  pub risen : HasRisen old arm.floor
  pub draws :
      Draws (block no_callees ss) (view_of old)
      (view_with (behind_arm arm (seen old.table.layers)) new.sheet)

-- a turn is drawn, and what scalars have at its end comes back to the heads
pub record TurnDrawn (t : Option (List Stmt)) (hs : List Head) (old new : Drawing) : Type 0 where
  pub back : IsBack old new
  pub end : View
  pub draws : Draws (turn_piece t) (view_of old) end
  pub arrows : (view_of new).arrows ≡ end.arrows ++ back_arrows end.nodes hs
  pub asked : (view_of new).asked ≡ end.asked
