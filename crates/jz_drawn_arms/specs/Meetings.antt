-- Where the arms of the code meet.
use Rattle.std.specs.Prelude.{◌≡◌, ◌⊎◌, ℕ, ◌==◌, Bool, true, false, ◌&&◌, ◌||◌, List, [], ◌∷◌, Option, if◌then◌else◌}
use Rattle.jz_meaning.specs.States.{Key}
use Rattle.jz_layers.specs.Spots.{Spot, over}
use Rattle.jz_layers.specs.Layered.{seen}
use Rattle.jz_drawing.specs.Drawings.{View, next, IsBounded}
use Rattle.jz_drawing.specs.Draws.{Renews}
use Rattle.jz_drawn_labels.specs.declared.drawing.Drawing.{Drawing}
use Rattle.jz_drawn_labels.specs.Kept.{view_of, view_with, nodes_of, nodes_by, whole, IsLow}
use Rattle.jz_drawn_labels.specs.Drew.{HasRisen}
use Rattle.jz_drawn_arms.specs.declared.arms.Arm.{Arm}

-- labels behind an arm, over what was there
abbrev pub behind_arm : Arm → (Spot → Option ℕ) → Key → ℕ
behind_arm x f = nodes_by x.floor (over x.layer f)

abbrev pub two : (Key → ℕ) → (Key → ℕ) → Key → List ℕ
two a b k = a k ∷ b k ∷ []

abbrev pub met_floor : ℕ → ℕ → ℕ → ℕ → ℕ
met_floor f a b start = if a == f then f else (if b == f then f else start)

-- no path goes on behind an arm, or no label before it has fallen
abbrev pub HasEnded : Arm → Drawing → Type 0
HasEnded a d =
    (a.floor ≡ d.table.floor) ⊎ ((k : Key) → nodes_by a.floor (seen d.table.layers) k ≡ 0)

-- of the tables of arms these scalars have been given labels
pub record Meeting (a b : Key → ℕ) (start : View) (before : Spot → Option ℕ) (new : View)
    (behind : Spot → Option ℕ) (given : Key → Bool) : Type 0 where
  pub is_new : Key → Bool
  pub renews : Renews (two a b) is_new start new
  pub stays : (k : Key) → is_new k ≡ false → behind (whole k) ≡ before (whole k)
  pub given_is : (k : Key) → given k ≡ true → is_new k ≡ true

-- how far the labels of arms have met, from a view and what its layers say
abbrev pub Met : Arm → Arm → View → (Spot → Option ℕ) → Drawing → (Key → Bool) → Type 0
Met a b start before d given =
    Meeting (behind_arm a before) (behind_arm b before) start before (view_of d)
    (seen d.table.layers) given

-- more scalars are given labels, those from n on being the new ones
pub record MeetsFor (a b : Arm) (n : ℕ) (given : Key → Bool) (old new : Drawing) : Type 0 where
  pub low : IsLow new
  pub floor : new.table.floor ≡ old.table.floor
  pub below : new.table.layers.below.items ≡ old.table.layers.below.items
  pub meets :
      (start : View) (before : Spot → Option ℕ) (others : Key → Bool)
      → n ≡ next start → IsBounded start → Met a b start before old others
      → Met a b start before new (λ k. given k || others k)

-- what meets comes of both arms; what neither has given a label to stays, unless no path goes on
pub record AreMet (a b : Arm) (old new : Drawing) : Type 0 where
  pub low : IsLow new
  pub below : new.table.layers.below.items ≡ old.table.layers.below.items
  pub risen : HasRisen old new.table.floor
  pub is_new : Key → Bool
  pub base : Key → ℕ
  pub renews :
      Renews (two (behind_arm a (seen old.table.layers)) (behind_arm b (seen old.table.layers)))
      is_new (view_with base old.sheet) (view_of new)
  pub base_is : (k : Key) → (base k ≡ 0) ⊎ (base k ≡ nodes_of old.table k)
  pub else_is :
      (k : Key) → is_new k ≡ false → (t : ℕ → Bool) → t 0 ≡ true
      → t (base k)
      ≡ (t (behind_arm a (seen old.table.layers) k)
      && t (behind_arm b (seen old.table.layers) k))
