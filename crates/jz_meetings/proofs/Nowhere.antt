-- What stands nowhere in an operand is apart from it.
use Rattle.std.proofs.Common.{◌≡◌, Bool, true, false, ◌&&◌, ◌||◌, Option, None, refl, ap, ap₂}
use Rattle.jz_select.specs.Trees.{Named, names_eq, Tree, Number, Truth, Name, CellOf, Loaded, Minus, Opposite, CastTo, Both}
use Rattle.jz_select.specs.Places.{Answers, same_index, elsewhere, one_or_apart}
use Rattle.jz_select.specs.Rows.{is_apart_from}
use Rattle.jz_meetings.specs.Meetings.{index_tree, stands, Whole, meets}
use Rattle.jz_meetings.specs.Turns.{OverTree}

pub two_are : (b : Bool) → b ≡ false → is_apart_from (one_or_apart b) ≡ true
two_are b e = ap (λ x. is_apart_from (one_or_apart x)) e

pub other : (b : Bool) → b ≡ false → is_apart_from (elsewhere b) ≡ true
other b e = ap (λ x. is_apart_from (elsewhere x)) e

pub stands_apart : (answers : Answers) (d : Named) (u : Tree) → stands answers d None u ≡ false → is_apart_from (meets answers (Whole d) u) ≡ true
stands_apart answers d (Name v) e = two_are (names_eq v d) e
stands_apart answers d (Number n) e = other false refl
stands_apart answers d (Truth b) e = other false refl
stands_apart answers d (CellOf v j) e = other (stands answers d None (CellOf v j)) e
stands_apart answers d (Loaded a) e = other (stands answers d None a) e
stands_apart answers d (Minus a) e = other (stands answers d None a) e
stands_apart answers d (Opposite a) e = other (stands answers d None a) e
stands_apart answers d (CastTo z s a) e = other (stands answers d None a) e
stands_apart answers d (Both o a b) e = other (stands answers d None (Both o a b)) e

-- where no variable has its name
module _ (answers : Answers) (d : Named) (i : Option Tree) (registers : Named → Bool) where
  pub stands_nowhere : (t : Tree) → OverTree (λ v. names_eq v d ≡ false) registers t → stands answers d i t ≡ false
  stands_nowhere (Number n) o = refl
  stands_nowhere (Truth b) o = refl
  stands_nowhere (Name v) o = o
  stands_nowhere (CellOf v j) o = ap₂ (λ x y. (x && same_index answers i (index_tree j)) || y) o.0 (stands_nowhere j o.2)
  stands_nowhere (Loaded a) o = stands_nowhere a o
  stands_nowhere (Minus a) o = stands_nowhere a o
  stands_nowhere (Opposite a) o = stands_nowhere a o
  stands_nowhere (CastTo z s a) o = stands_nowhere a o
  stands_nowhere (Both o a b) h = ap₂ (λ x y. x || y) (stands_nowhere b h.1) (stands_nowhere a h.0)
