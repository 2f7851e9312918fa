-- What a pass keeps of how a destination and an operand meet: one place stays one place, and what is
-- apart stays apart, with the answers that tell of indexes what is told of them behind.
use Rattle.std.specs.Prelude.{◌≡◌, ℕ, Bool, true, None}
use Rattle.jz_tree.specs.declared.expr.Expr.{Expr}
use Rattle.jz_tree.specs.declared.stmt.Lval.{Lval}
use Rattle.jz_select.specs.declared.class.Meeting.{Meeting}
use Rattle.jz_select.specs.Trees.{Named, names_eq, Tree, Name, tree_of}
use Rattle.jz_select.specs.Places.{Answers, one_cell, meeting_of}
use Rattle.jz_select.specs.Rows.{is_same_place, is_apart_from}
use Rattle.jz_meetings.specs.Meetings.{index_tree, Place, Whole, CellAt, place_of, meets}
use Rattle.jz_meetings.specs.Turns.{Turn, turned, turned_place, IsTurn, Indexed, OverTree}

abbrev pub MeetingsAreOfTrees : Type 0
MeetingsAreOfTrees =
    (answers : Answers) (d : Lval) (e : Expr)
    → meeting_of answers d e ≡ meets answers (place_of d) (tree_of e)

-- what these answers tell of trees that a pass makes, told of those before it
abbrev pub pulled : Turn → Answers → Answers
pulled t answers x y = one_cell answers (index_tree (turned t x)) (index_tree (turned t y))

-- the place is no memory and not nothing
abbrev pub IsNamed : Place → Type 0
IsNamed (Whole d) = Unit {0}
IsNamed (CellAt d k) = Unit {0}
IsNamed _ = ⊥

pub record KeepsMeeting (p : Place) (m n : Meeting) : Type 0 where
  pub same : is_same_place m ≡ true → is_same_place n ≡ true
  pub apart : IsNamed p → is_apart_from m ≡ true → is_apart_from n ≡ true

-- a variable that is no cell, before and behind
abbrev pub IsEntire : Turn → Named → Type 0
IsEntire t v = (v.cell ≡ None) × ((t.name v).cell ≡ None)

-- no operand's variable becomes the destination's but that itself
pub record IsSet (t : Turn) (P : Named → Type 0) (d : Named) : Type 0 where
  pub entire : IsEntire t d
  pub others : (v : Named) → P v → IsEntire t v
  pub apart : (v : Named) → P v → names_eq (t.name v) (t.name d) ≡ true → names_eq v d ≡ true

-- a variable becomes no constant; where the array is in registers a number stands behind it
abbrev pub IsSetPlace : Turn → (Named → Type 0) → (Named → Bool) → Place → Type 0
IsSetPlace t P registers (Whole d) = IsSet t P d × (t.whole (Name d) ≡ None)
IsSetPlace t P registers (CellAt d k) = IsSet t P d × Indexed P registers d k
IsSetPlace t P registers _ = Unit {0}

abbrev pub MeetingsAreKept : Type 0
MeetingsAreKept =
    (t : Turn) (read registers : Named → Bool) (answers : Answers) (p : Place) (s : Tree)
    → IsTurn t → ((v : Named) (n : ℕ) → t.cells v n ≡ true → registers v ≡ true)
    → IsSetPlace t (λ v. read v ≡ true) registers p → OverTree (λ v. read v ≡ true) registers s
    → KeepsMeeting p (meets (pulled t answers) p s)
    (meets answers (turned_place t p) (turned t s))
