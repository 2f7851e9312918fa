-- What the code makes of walks.
use Rattle.std.specs.Prelude.{ℕ, ◌+◌, ◌≤◌, ◌≡◌, ◌⊎◌, ℤ, true, false, List, Option, Some, None}
use Rattle.jz_tree.specs.Span.{Span}
use Rattle.jz_tree.specs.declared.expr.Expr.{Expr}
use Rattle.jz_tree.specs.declared.stmt.Stmt.{Stmt}
use Rattle.jz_integers.specs.Integers.{KnownNumbers, inline_value}
use Rattle.jz_integers.specs.declared.constant.Constant.{Constant}
use Rattle.jz_type_names.specs.Kinds.{is_inline}
use Rattle.jz_type_names.specs.Parts.{span_of}
use Rattle.jz_meaning.specs.Trees.{done}
use Rattle.jz_meaning.specs.Statements.{Block, values_between}
use Rattle.jz_meaning.specs.Runs.{Callees, block}
use Rattle.jz_limits.specs.declared.limit.Limit.{Limit}
use Rattle.jz_limits.specs.Limits.{Step, most_statements, count_of}
use Rattle.jz_limits.specs.declared.limit.Limit.TheVariants.{InlineWidth}
use Rattle.jz_limits.specs.InnerFirst.{first_from}
use Rattle.jz_limits.specs.InnerLooked.{first}
use Rattle.jz_limits.specs.Asked.{asked_condition}
use Rattle.jz_limits.specs.Values.{truth_of}
use Rattle.jz_limits.specs.Walks.{Walk, silent, walk}
use Rattle.jz_first_limit.specs.declared.met.Met.{Met}
use Rattle.jz_first_limit.specs.declared.met.Met.TheVariants.{Within, Passed}
use Rattle.jz_first_limit.specs.declared.testing.Arms.{Arms}
use Rattle.jz_first_limit.specs.declared.testing.Arms.TheVariants as arm
use Rattle.jz_first_limit.specs.declared.turns.Values.{Values}

-- ---- how far a walk has come

-- all is within the limits, with so many statements
pub record IsPassedBy (n : ℕ) (steps : List Step) (m : ℕ) : Type 0 where
  pub none : first_from n steps ≡ None
  pub count : m ≡ n + count_of steps
  pub few : m ≤ most_statements

abbrev pub MeetsSteps : ℕ → List Step → Met → Type 0
MeetsSteps n steps (Within m) = IsPassedBy n steps m
MeetsSteps n steps (Passed l) = first_from n steps ≡ Some l

-- and that is known at the end
abbrev pub Knows : Met → KnownNumbers → KnownNumbers → Type 0
Knows (Within m) k known = k ≡ known
Knows (Passed l) k known = Unit {0}

abbrev pub Meets : ℕ → Walk → Met → KnownNumbers → Type 0
Meets n w r k = MeetsSteps n w.steps r × Knows r k w.known

-- ---- parts

abbrev pub piece_walk : (Block → Block) → KnownNumbers → Walk
piece_walk f = walk (f done)

abbrev pub block_walk : Callees → List Stmt → KnownNumbers → Walk
block_walk callees ss = walk (block callees ss done)

abbrev pub body_walk : Callees → Option (List Stmt) → KnownNumbers → Walk
body_walk callees None = silent
body_walk callees (Some ss) = block_walk callees ss

-- ---- tests

abbrev pub IsConstantTest : Span → Option Constant → Arms → Type 0
IsConstantTest at v arm.Both = ⊥
IsConstantTest at v arm.First = truth_of v ≡ Some true
IsConstantTest at v arm.Second = truth_of v ≡ Some false
IsConstantTest at v (arm.Neither l) = (truth_of v ≡ None) × (l ≡ InlineWidth at)

abbrev pub StaysTest : KnownNumbers → Expr → Option Limit → Type 0
StaysTest e c l = (is_inline c ≡ false) × (first (asked_condition e c) ≡ l)

abbrev pub IsTest : KnownNumbers → Expr → Arms → Type 0
IsTest e c arm.Both = StaysTest e c None
IsTest e c arm.First = (is_inline c ≡ true) × (truth_of (inline_value e c) ≡ Some true)
IsTest e c arm.Second = (is_inline c ≡ true) × (truth_of (inline_value e c) ≡ Some false)
IsTest e c (arm.Neither l) =
    StaysTest e c (Some l)
    ⊎ ((is_inline c ≡ true) × (truth_of (inline_value e c) ≡ None) × (l ≡ InlineWidth (span_of c)))

-- ---- turns

-- the values that are left, in their order
abbrev pub values_left : Values → List ℤ
values_left v = values_between v.down v.next v.end
