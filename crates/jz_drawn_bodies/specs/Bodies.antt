-- The laws of what is drawn of arms, of loops and of whole bodies.
use Rattle.std.specs.Prelude.{◌≡◌, ◌⊎◌, ℕ, Bool, true, false, ◌&&◌, List, [], ◌∷◌}
use Rattle.jz_tree.specs.declared.program.Param.{Param}
use Rattle.jz_runs.specs.Trees.{done, choose, loop}
use Rattle.jz_meaning.specs.States.{Key}
use Rattle.jz_meaning.specs.Statements.{Condition, Block}
use Rattle.jz_labels.specs.Operations.{tested_by}
use Rattle.jz_labels.specs.Labels.{leaving}
use Rattle.jz_labels.specs.ConstantTime.{at_entry, IsFirstBreach}
use Rattle.jz_required.specs.Readings.{test_demands}
use Rattle.jz_secrets.specs.Graphs.{Vertex, drawn, hidden, array, AreFewest}
use Rattle.jz_drawing.specs.Drawings.{View, next, asks_in, with_asked, arrow_between, new_arrow, IsFree, sets, labels_of, first_asked}
use Rattle.jz_drawing.specs.Draws.{Draws, Renews, ComesBack}

-- ---- arms

-- its condition has to be public
abbrev pub tested : Condition → View → View
tested c v = with_asked (asks_in v.nodes (test_demands (tested_by c))) v

abbrev pub with_nodes : (Key → ℕ) → View → View
with_nodes e v = record { nodes = e; arrows = v.arrows; asked = v.asked }

-- what the new labels come of: those behind both arms
abbrev pub of_both : View → View → Key → List ℕ
of_both a b k = a.nodes k ∷ b.nodes k ∷ []

-- where neither arm has given a scalar a label it has that before the arms, or where no path goes on
-- the first
pub record AreElse (v va vb : View) (base : Key → ℕ) (is_new : Key → Bool) : Type 0 where
  pub is : (k : Key) → (base k ≡ 0) ⊎ (base k ≡ v.nodes k)
  pub same :
      (k : Key) → is_new k ≡ false → (t : ℕ → Bool) → t 0 ≡ true
      → t (base k) ≡ (t (va.nodes k) && t (vb.nodes k))

abbrev pub ArmsLaw : Type 0
ArmsLaw =
    (c : Condition) (f g : Block → Block) (v va vb vc : View) (base : Key → ℕ)
    (is_new : Key → Bool)
    → Draws f (tested c v) va → Draws g (with_nodes v.nodes va) vb
    → Renews (of_both va vb) is_new (with_nodes base vb) vc → AreElse v va vb base is_new
    → Draws (λ r. choose c (f done) (g done) r) v vc

-- ---- loops

-- what a loop sets has a label of its own at its head
abbrev pub SplitsAll : (Block → Block) → (Block → Block) → (Key → Bool) → Type 0
SplitsAll f g is_new =
    (k : Key) → is_new k ≡ false → (sets k (f done) ≡ false) × (sets k (g done) ≡ false)

-- behind a loop a scalar has the label behind its prologue, or where no path goes on the first
pub record Leaves (c : Condition) (vp : View) (out : Key → ℕ) : Type 0 where
  pub is : (k : Key) → (out k ≡ 0) ⊎ (out k ≡ vp.nodes k)
  pub same :
      (t : ℕ → Bool) → t 0 ≡ true → (k : Key)
      → t (out k) ≡ leaving (tested_by c) (labels_of t vp.nodes) k

abbrev pub LoopLaw : Type 0
LoopLaw =
    (w : Bool) (c : Condition) (f g : Block → Block) (v vh vp vb ve : View) (out : Key → ℕ)
    (is_new : Key → Bool)
    → Renews (λ k. v.nodes k ∷ []) is_new v vh → Draws f vh vp → Draws g (tested c vp) vb
    → ComesBack vh.nodes vb.nodes is_new vb ve → Leaves c vp out → SplitsAll f g is_new
    → Draws (λ r. loop w (f done) c (g done) r) v (with_nodes out ve)

-- ---- the first breach

abbrev pub entry_node : Bool → ℕ
entry_node true = 0
entry_node false = 1

-- before the first statement: one label that is secret, which all secret parameters have
abbrev pub entry_view : (Key → Bool) → View
entry_view public = record {
  nodes = λ k. entry_node (public k);
  arrows = new_arrow 1 ∷ arrow_between hidden (drawn 1) ∷ [];
  asked = [];
}

abbrev pub BreachLaw : Type 0
BreachLaw =
    (params : List Param) (f : Block → Block) (w : View) (public : Vertex → Bool)
    → IsFree (f done) → Draws f (entry_view (at_entry params)) w
    → AreFewest (next w) w.arrows public
    → IsFirstBreach params (f done)
    (first_asked (λ k. public (array k)) (λ i. public (drawn i)) w.asked)
