-- Statements as the code draws them, the scalars that they set, and labels at the head of a loop.
use Rattle.std.specs.Prelude.{◌≡◌, ℕ, Bool, true, false, ◌||◌, List, [], ◌∷◌, Option, Some, None, map}
use Rattle.jz_tree.specs.Span.{Span}
use Rattle.jz_tree.specs.declared.expr.Expr.{Expr}
use Rattle.jz_tree.specs.declared.expr.Var.{Var}
use Rattle.jz_tree.specs.declared.stmt.Lval.{Lval}
use Rattle.jz_tree.specs.declared.stmt.Stmt.{Stmt}
use Rattle.jz_tree.specs.declared.stmt.StmtKind.{StmtKind}
use Rattle.jz_tree.specs.declared.stmt.StmtKind.TheFolds.{fold-StmtKind}
use Rattle.jz_meaning.specs.States.{Key, same_key}
use Rattle.jz_meaning.specs.Runs.{block, kind_tree}
use Rattle.jz_meaning.specs.Statements.{Condition, Block}
use Rattle.jz_labels.specs.Operations.{left_of}
use Rattle.jz_layers.specs.Spots.{variable_key}
use Rattle.jz_secrets.specs.Graphs.{Arrow, drawn}
use Rattle.jz_drawing.specs.Drawings.{View, next, arrow_between, sets_lefts, sets, IsBounded}
use Rattle.jz_drawing.specs.Draws.{Renews}
use Rattle.jz_drawn_labels.specs.declared.drawing.Drawing.{Drawing}
use Rattle.jz_drawn_labels.specs.Kept.{view_of, IsLow}
use Rattle.jz_drawn_labels.specs.Drew.{no_callees}
use Rattle.jz_drawn_heads.specs.declared.heads.Head.{Head}
use Rattle.jz_drawn_heads.specs.declared.heads.Target.{Target}

-- a statement without its annotations, at a place
abbrev pub kind_piece : StmtKind → Span → Block → Block
kind_piece = fold-StmtKind _ _ (kind_tree no_callees) (λ s. s.kind s.span)

abbrev pub condition_at : Expr → Span → Condition
condition_at e at = record { cond = e; at = at }

-- the body of a loop, which may be absent
abbrev pub turn_piece : Option (List Stmt) → Block → Block
turn_piece None r = r
turn_piece (Some b) r = block no_callees b r

-- ---- what statements set

abbrev pub has_key : List Key → Key → Bool
has_key [] k = false
has_key (x ∷ xs) k = same_key k x || has_key xs k

-- these keys and more
abbrev pub Has : List Key → List Key → Type 0
Has new old = (k : Key) → has_key new k ≡ false → has_key old k ≡ false

-- what a piece sets is among these
abbrev pub Covers : (Block → Block) → List Key → Type 0
Covers f ks =
    (r : Block) (k : Key) → sets k r ≡ false → has_key ks k ≡ false → sets k (f r) ≡ false

abbrev pub CoversMore : (Block → Block) → List Key → List Key → Type 0
CoversMore f old new = Has new old × Covers f new

abbrev pub LeftsMore : List Lval → List Key → List Key → Type 0
LeftsMore ds old new =
    Has new old
    × ((k : Key) → has_key new k ≡ false → sets_lefts k (map left_of ds) ≡ false)

-- the keys of variables
abbrev pub keys_of : List Target → List Key
keys_of xs = map (λ (x : Target). variable_key x.var.now) xs

-- ---- labels of their own at the head of a loop

abbrev pub head_keys : List Head → List Key
head_keys hs = map (λ (h : Head). variable_key h.var.now) hs

abbrev pub back_arrows : (Key → ℕ) → List Head → List Arrow
back_arrows e hs =
    map (λ (h : Head). arrow_between (drawn (e (variable_key h.var.now))) (drawn h.node)) hs

abbrev pub own : (Key → ℕ) → Key → List ℕ
own e k = e k ∷ []

-- the label of each
abbrev pub AreHeads : (Key → ℕ) → List Head → Type 0
AreHeads e [] = Unit {0}
AreHeads e (h ∷ hs) = (h.node ≡ e (variable_key h.var.now)) × AreHeads e hs

-- those that have one of their own are the heads
pub record Splits (start : View) (new : View) (hs : List Head) : Type 0 where
  pub is_new : Key → Bool
  pub renews : Renews (own start.nodes) is_new start new
  pub heads : (k : Key) → is_new k ≡ has_key (head_keys hs) k
  pub nodes : AreHeads new.nodes hs

-- one more, unless it has one from n on
pub record SplitsFor (n : ℕ) (x : Var) (old : Drawing) (hs : List Head) (new : Drawing)
    (gs : List Head) : Type 0 where
  pub low : IsLow new
  pub floor : new.table.floor ≡ old.table.floor
  pub below : new.table.layers.below.items ≡ old.table.layers.below.items
  pub grows : Has (head_keys gs) (head_keys hs)
  pub splits :
      (start : View) → n ≡ next start → IsBounded start → Splits start (view_of old) hs
      → Splits start (view_of new) gs × (has_key (head_keys gs) (variable_key x) ≡ true)

-- all of these keys
pub record HasHeads (ks : List Key) (old new : Drawing) (hs : List Head) : Type 0 where
  pub low : IsLow new
  pub floor : new.table.floor ≡ old.table.floor
  pub below : new.table.layers.below.items ≡ old.table.layers.below.items
  pub splits : Splits (view_of old) (view_of new) hs
  pub all : Has (head_keys hs) ks
