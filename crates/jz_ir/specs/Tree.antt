-- Code with branches and loops, and how it runs.
use Rattle.std.specs.Prelude.{ℕ, List, [], ◌∷◌, ◌++◌, Option, Some, None}
use Rattle.jz_ir.specs.declared.code.Op.{Op}
use Rattle.jz_ir.specs.declared.code.Node.{Node}
use Rattle.jz_ir.specs.declared.code.Node.TheOpen.{Node-F}
use Rattle.jz_ir.specs.declared.code.Node.TheFolds.{fold-Node}
use Rattle.jz_ir.specs.Paths.{IsLiveAfter}
use Rattle.jz_ir.specs.Places.{no_op}
use Rattle.std.specs.Prelude.{map, slice_index_or}

-- a block is a statement and what follows it
pub data Tree : Type 0 where
  done : Tree
  op : Op → Tree → Tree
  choose : Op → Tree → Tree → Tree → Tree
  loop : Tree → Option Op → Tree → Tree → Tree

-- at a block, or at the test of a loop
pub data Frame : Type 0 where
  at : Tree → Frame
  test : Tree → Option Op → Tree → Tree → Frame

-- one operation further; what follows stands on the stack
pub data Step : List Frame → Op → List Frame → Type 0 where
  s_done : {k s : List Frame} {o : Op} → Step k o s → Step (at done ∷ k) o s
  s_op : {k : List Frame} {o : Op} {t : Tree} → Step (at (op o t) ∷ k) o (at t ∷ k)
  s_then :
      {k : List Frame} {c : Op} {a b r : Tree} → Step (at (choose c a b r) ∷ k) c (at a ∷ at r ∷ k)
  s_else :
      {k : List Frame} {c : Op} {a b r : Tree} → Step (at (choose c a b r) ∷ k) c (at b ∷ at r ∷ k)
  s_loop :
      {k s : List Frame} {o : Op} {p : Tree} {c : Option Op} {b r : Tree}
      → Step (at p ∷ test p c b r ∷ k) o s → Step (at (loop p c b r) ∷ k) o s
  s_more :
      {k : List Frame} {p : Tree} {c : Op} {b r : Tree}
      → Step (test p (Some c) b r ∷ k) c (at b ∷ at (loop p (Some c) b r) ∷ k)
  s_leave :
      {k : List Frame} {p : Tree} {c : Op} {b r : Tree}
      → Step (test p (Some c) b r ∷ k) c (at r ∷ k)
  s_ever :
      {k s : List Frame} {o : Op} {p : Tree} {b r : Tree}
      → Step (at b ∷ at (loop p None b r) ∷ k) o s → Step (test p None b r ∷ k) o s

-- the states before each operation, in the order of the code
abbrev pub at_test : Tree → Option Op → Tree → Tree → List Frame → List (List Frame)
at_test p None b r k = []
at_test p (Some c) b r k = (test p (Some c) b r ∷ k) ∷ []

abbrev pub states : Tree → List Frame → List (List Frame)
states done k = []
states (op o t) k = (at (op o t) ∷ k) ∷ states t k
states (choose c a b r) k =
    (at (choose c a b r) ∷ k) ∷ (states a (at r ∷ k) ++ (states b (at r ∷ k) ++ states r k))
states (loop p c b r) k =
    states p (test p c b r ∷ k)
    ++ (at_test p c b r k ++ (states b (at (loop p c b r) ∷ k) ++ states r k))

-- v is live after the operation i of the tree
abbrev pub LiveInTree : Tree → ℕ → ℕ → Type 0
LiveInTree t i v = IsLiveAfter Step v (slice_index_or (states t []) i [])

-- the tree that a block stands for
abbrev pub in_order : List (Tree → Tree) → Tree
in_order [] = done
in_order (f ∷ fs) = f (in_order fs)

abbrev pub node_step : Node-F (Tree → Tree) → Tree → Tree
node_step (Node-F.Op o) r = op o r
node_step (Node-F.If c a b) r = choose c (in_order a) (in_order b) r
node_step (Node-F.While p c b) r = loop (in_order p) c (in_order b) r

abbrev pub then_tree : Node → Tree → Tree
then_tree = fold-Node _ node_step

abbrev pub tree_of : List Node → Tree
tree_of ns = in_order (map then_tree ns)

-- the operation at a state, and those of a tree in the order of the code
abbrev pub op_of : List Frame → Op
op_of (at (op o t) ∷ k) = o
op_of (at (choose c a b r) ∷ k) = c
op_of (test p (Some c) b r ∷ k) = c
op_of _ = no_op

abbrev pub ops_of : Tree → List Op
ops_of t = map op_of (states t [])
