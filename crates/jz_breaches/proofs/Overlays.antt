-- What is drawn in a table that is laid over the others.
use Rattle.std.proofs.Common.{◌≡◌, ℕ, List, [], ◌∷◌, ◌++◌, Option, sym, ap, ◌∙◌, subst, arith}
use Rattle.jz_tree.specs.declared.stmt.Stmt.{Stmt}
use Rattle.jz_meaning.specs.Runs.{block}
use Rattle.jz_meaning.specs.Statements.{Block}
use Rattle.jz_layers.specs.Spots.{over}
use Rattle.jz_layers.specs.Layered.{seen, IsOver, ClosesTo}
use Rattle.jz_drawing.specs.Drawings.{View, next}
use Rattle.jz_drawing.specs.Draws.{Draws}
use Rattle.jz_drawn_labels.specs.declared.drawing.Drawing.{Drawing}
use Rattle.jz_drawn_labels.specs.Kept.{view_of, view_with, nodes_of, nodes_by}
use Rattle.jz_drawn_labels.specs.Drew.{no_callees, IsDrawn, HasRisen, Drew}
use Rattle.jz_drawn_arms.specs.declared.arms.Arm.{Arm}
use Rattle.jz_drawn_heads.specs.declared.heads.Head.{Head}
use Rattle.jz_drawn_heads.specs.Pieces.{turn_piece, back_arrows}
use Rattle.jz_drawn_arms.specs.Meetings.{behind_arm}
use Rattle.jz_breaches.specs.InnerLoops.{IsBack, ArmDrawn, TurnDrawn}
use Rattle.jz_breaches.proofs.LaidOver.{is_over, below_it, below_again, seen_again, same_drawn, risen_from}

-- d: before, o: with an empty table over it, m: behind what is drawn in it
module _ (d o m : Drawing) (opened : o.table.layers.below.items ≡ d.table.layers.below.items ++ d.table.layers.top ∷ []) (seen_is : seen o.table.layers ≡ seen d.table.layers) (floor : o.table.floor ≡ d.table.floor) (sheet : o.sheet ≡ d.sheet) where
  pub same_labels : view_of o ≡ view_of d
  same_labels = λ i. view_with (nodes_by (floor i) (seen_is i)) (sheet i)

  pub opened_drawn : IsDrawn d → IsDrawn o
  opened_drawn b = same_drawn d o same_labels floor b

  module _ (f : Block → Block) (drew : Drew f o m) where
    below : m.table.layers.below.items ≡ d.table.layers.below.items ++ d.table.layers.top ∷ []
    below = drew.below ∙ opened

    pub over_it : IsOver m.table.layers
    over_it = is_over d.table.layers m.table.layers o.table.layers below

    draws_so : Draws f (view_of d) (view_of m)
    draws_so = subst (λ (w : View). Draws f w (view_of m)) same_labels drew.draws

    pub back_is : (e : Drawing) → ClosesTo m.table.layers e.table.layers → e.table.floor ≡ d.table.floor → IsBack d e
    back_is e closed g = record {
      below = below_again d.table.layers m.table.layers e.table.layers below closed;
      seen_is = seen_again d.table.layers m.table.layers e.table.layers below closed;
      floor = g;
    }

    risen_so : (high : ℕ) → high ≡ m.table.floor → HasRisen d high
    risen_so high h =
        let l = ap (λ (v : View). next v) same_labels in
        risen_from d o high (omega (arith, l)) floor (subst (λ (n : ℕ). HasRisen o n) (sym h) drew.risen)

    arm_view : (arm : Arm) (e : Drawing) → arm.layer ≡ m.table.layers.top → arm.floor ≡ m.table.floor → e.sheet ≡ m.sheet → view_of m ≡ view_with (behind_arm arm (seen d.table.layers)) e.sheet
    arm_view arm e l h s =
        let b = below_it d.table.layers m.table.layers e.table.layers below in
        λ i. view_with (nodes_by (sym h i) (over (sym l i) (b i))) (sym s i)

  pub arm_is : (ss : List Stmt) → Drew (block no_callees ss) o m → (arm : Arm) (e : Drawing) → arm.layer ≡ m.table.layers.top → arm.floor ≡ m.table.floor → ClosesTo m.table.layers e.table.layers → e.table.floor ≡ d.table.floor → e.sheet ≡ m.sheet → ArmDrawn ss d arm e
  arm_is ss drew arm e l h closed g s = record {
    back = back_is (block no_callees ss) drew e closed g;
    risen = risen_so (block no_callees ss) drew arm.floor h;
    draws = subst (λ (w : View). Draws (block no_callees ss) (view_of d) w) (arm_view (block no_callees ss) drew arm e l h s) (draws_so (block no_callees ss) drew);
  }

  pub turn_is : (t : Option (List Stmt)) → Drew (turn_piece t) o m → (hs : List Head) (e : Drawing) → ClosesTo m.table.layers e.table.layers → e.table.floor ≡ d.table.floor → (view_of e).arrows ≡ (view_of m).arrows ++ back_arrows (nodes_of m.table) hs
      → (view_of e).asked ≡ (view_of m).asked → TurnDrawn t hs d e
  turn_is t drew hs e closed g a k = record {
    back = back_is (turn_piece t) drew e closed g;
    end = view_of m;
    draws = draws_so (turn_piece t) drew;
    arrows = a;
    asked = k;
  }
