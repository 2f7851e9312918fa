-- The depths of statements as the code goes over them.
use Rattle.std.specs.Prelude.{ℕ, ◌+◌, ◌≤◌, ◌<◌, ◌≡◌, nat_lt, if◌then◌else◌, List, [], ◌∷◌, length, Option, Some, None, Result, Ok, Err}
use Rattle.jz_tree.specs.declared.expr.BinOp.{BinOp}
use Rattle.jz_tree.specs.declared.expr.Expr.{Expr}
use Rattle.jz_tree.specs.declared.stmt.Rhs.{Rhs}
use Rattle.jz_tree.specs.declared.stmt.Rhs.TheVariants as rhs
use Rattle.jz_tree.specs.declared.stmt.Stmt.{Stmt}
use Rattle.jz_meaning.specs.Trees.{done}
use Rattle.jz_meaning.specs.Statements.{Block}
use Rattle.jz_meaning.specs.Runs.{Callee, Callees, callees_of, block}
use Rattle.jz_copies.specs.declared.callable.Callable.{Callable}
use Rattle.jz_copies.specs.declared.extent.Extent.{Extent}
use Rattle.jz_copies.specs.declared.extent.CopyLimit.{CopyLimit}
use Rattle.jz_copies.specs.Counts.{depths_in, most_statements}

-- the functions that can be called where calls may be so deep
abbrev pub callees_in : Callable → ℕ → Callees
callees_in callable left = callees_of callable.funs.now left

-- of one statement
abbrev pub piece_depths : ℕ → (Block → Block) → List ℕ
piece_depths d f = depths_in d (f done)

-- of statements in their order
abbrev pub block_depths : Callees → ℕ → List Stmt → List ℕ
block_depths callees d ss = depths_in d (block callees ss done)

-- of a body that may be absent
abbrev pub some_depths : Callees → ℕ → Option (List Stmt) → List ℕ
some_depths callees d None = []
some_depths callees d (Some b) = block_depths callees d b

-- of what a call copies
abbrev pub callee_depths : ℕ → Option Callee → List ℕ
callee_depths d None = []
callee_depths d (Some f) = depths_in (d + 1) f.body

-- a call with an operation or a condition copies nothing
abbrev pub named_depths : Callees → ℕ → Option BinOp → List ℕ → Option Expr → List ℕ
named_depths callees d None n None = callee_depths d (callees n)
named_depths callees d _ n _ = []

abbrev pub right_depths : Callees → ℕ → Option BinOp → Rhs → Option Expr → List ℕ
right_depths callees d o (rhs.Call n args at) c = named_depths callees d o n c
right_depths callees d o _ c = []

-- the greatest of these, and of one more
abbrev pub greatest : ℕ → List ℕ → ℕ
greatest m [] = m
greatest m (d ∷ ds) = greatest (if nat_lt m d then d else m) ds

-- what is so far, with statements at these depths behind it
pub record IsFurther (before : Extent) (ds : List ℕ) (now : Extent) : Type 0 where
  pub count : now.count ≡ before.count + length ds
  pub few : now.count ≤ most_statements
  pub deepest : now.deepest ≡ greatest before.deepest ds

-- the walk went over statements at these depths, or there are too many with them
abbrev pub IsWalked : Extent → List ℕ → Result Extent CopyLimit → Type 0
IsWalked before ds (Ok now) = IsFurther before ds now
IsWalked before ds (Err limit) = most_statements < before.count + length ds
