-- What statements become, before whatever follows, with the steps of the change.
use Rattle.std.specs.Prelude.{◌≡◌, Bool, not, is_some, List, [], ◌∷◌, ◌++◌, map, Option, Some, None}
use Rattle.jz_tree.specs.Span.{Span}
use Rattle.jz_tree.specs.declared.expr.Expr.{Expr}
use Rattle.jz_tree.specs.declared.expr.Var.{Var}
use Rattle.jz_tree.specs.declared.stmt.Stmt.{Stmt}
use Rattle.jz_integers.specs.Integers.{KnownNumbers}
use Rattle.jz_integers.specs.declared.constant.Constant.TheVariants as constant
use Rattle.jz_meaning.specs.Trees.{done, choose, loop, each}
use Rattle.jz_meaning.specs.Runs.{block, assign_tree}
use Rattle.jz_meaning.specs.Statements.{Operation, assign, Block}
use Rattle.jz_interp.specs.InnerParts.{body_piece}
pub use Rattle.jz_function_runs.specs.Statements.{no_callees}
use Rattle.jz_change.specs.Changes as model
use Rattle.jz_change.specs.Views.{chain, then_step}
use Rattle.jz_change.specs.declared.change.Numbers.TheVariants.{Same}
use Rattle.jz_change.specs.declared.change.Step.{Step}
use Rattle.jz_change.specs.declared.change.Step.TheVariants as step
use Rattle.jz_pass.specs.Unrolling.{Unrolls}
use Rattle.jz_unroll.specs.Values.{InlineNames}
use Rattle.jz_unroll.specs.Unrolling.{HasValue, IsInlineInt, KnowsLess, unrolling}
use Rattle.jz_unrolling_values.specs.declared.known.Known.{Known}
use Rattle.jz_unrolling.specs.declared.statements.Assignment.{Assignment}
use Rattle.jz_unrolling.specs.declared.statements.Setting.{Setting}
use Rattle.jz_unrolling.specs.declared.statements.Branch.{Branch}
use Rattle.jz_unrolling.specs.declared.statements.Loop.{Loop}
use Rattle.jz_unrolling.specs.declared.statements.Rounds.{Rounds}
use Rattle.jz_unrolling.specs.declared.statements.Turn.{Turn}
use Rattle.jz_unrolling.specs.declared.statements.Turns.{Turns}
use Rattle.jz_unrolling.specs.Fits.{Fits}
use Rattle.jz_unrolling.specs.Forgetting.{forgotten}
use Rattle.jz_unrolling_values.specs.Numbers.{numbers_in, Went}
use Rattle.jz_unrolling_values.specs.Parts.{IsLoopTest}

-- ---- trees of statements

abbrev pub assignment_of : Assignment → Span → Block → Block
assignment_of a at = assign_tree no_callees a.to.now a.op a.rhs.now a.cond.now at

abbrev pub setting_of : Setting → Span → Operation
setting_of s at = assign s.to.now s.op s.value.now s.cond.now at

abbrev pub branch_of : Branch → Span → Block → Block
branch_of b at =
    choose (record { cond = b.cond.now; at = at }) (block no_callees b.yes.now done)
    (block no_callees b.no.now done)

abbrev pub while_of : List Stmt → Expr → Option (List Stmt) → Span → Block → Block
while_of prologue cond body at =
    loop (not (is_some body)) (block no_callees prologue done)
    (record { cond = cond; at = at }) (body_piece no_callees body done)

abbrev pub turns_of : Turns → Span → Block → Block
turns_of t at = while_of t.prologue.now t.cond.now t.body.now at

-- ---- what they become

-- one item, all of whose numbers stay
abbrev pub one_item : Step
one_item = step.Ops (Same ∷ [])

abbrev pub step_list : Option Step → List Step
step_list None = []
step_list (Some s) = s ∷ []

abbrev pub list_or : Option (List Stmt) → List Stmt
list_or None = []
list_or (Some ss) = ss

abbrev pub for_of : Rounds → Expr → Expr → Span → List Stmt → Block → Block
for_of r from to at body =
    each
    (record { counter = r.counter.now; from = from; down = r.down; to = to; at = at })
    (block no_callees body done)

module _ (names : InlineNames) where
  -- a piece of a tree, where e is known, becomes these statements; e1 is known behind it
  abbrev pub Becomes : (Block → Block) → KnownNumbers → List Stmt → KnownNumbers → List Step → Type 0
  Becomes piece e made e1 steps =
      (t rest u : Block) (e2 : KnownNumbers) (k : model.Change)
      → Unrolls (unrolling names) t e1 rest u e2 k
      → Unrolls (unrolling names) (piece t) e rest (block no_callees made u) e2
      (chain (map then_step steps) k)

  -- what fits, with this piece in front, fits behind it, where e1 is known
  abbrev pub FitsOn : (Block → Block) → KnownNumbers → KnownNumbers → Type 0
  FitsOn piece e e1 =
      (t : Block) (e2 : KnownNumbers) → Fits names (piece t) e e2 → Fits names t e1 e2

  -- what is known and not set is known behind it
  abbrev pub Spares : (Block → Block) → KnownNumbers → KnownNumbers → Type 0
  Spares piece e e1 = KnowsLess (forgotten names (piece done) e) e1

  -- behind what is there
  pub record Adds (piece : Block → Block) (old new : Known) (before behind : List Stmt)
      (steps : List Step) : Type 0 where
    pub made : List Stmt
    pub added : behind ≡ before ++ made
    pub becomes : Becomes piece (numbers_in old) made (numbers_in new) steps
    pub only : FitsOn piece (numbers_in old) (numbers_in new)
    pub spares : Spares piece (numbers_in old) (numbers_in new)
    pub went : Went old new

  abbrev pub AddsStep :
      (Block → Block) → Known → Known → List Stmt → List Stmt → Step → Type 0
  AddsStep piece old new before behind s = Adds piece old new before behind (s ∷ [])

  abbrev pub AddsOne :
      (Block → Block) → Known → Known → List Stmt → List Stmt → Option Step → Type 0
  AddsOne piece old new before behind s = Adds piece old new before behind (step_list s)

  -- by themselves
  pub record IsApart (piece : Block → Block) (e : KnownNumbers) (made : List Stmt)
      (steps : List Step) : Type 0 where
    pub behind : KnownNumbers
    pub becomes : Becomes piece e made behind steps
    pub only : FitsOn piece e behind
    pub spares : Spares piece e behind

  -- nothing is known any more of what a piece sets
  pub record Forgets (piece : Block → Block) (old new : Known) : Type 0 where
    pub numbers : numbers_in new ≡ forgotten names (piece done) (numbers_in old)
    pub went : Went old new

  -- ---- `while`

  -- a body, where there is one
  pub record IsTurn (body : Option (List Stmt)) (e : KnownNumbers) (made : Turn) : Type 0 where
    pub there : is_some made.body ≡ is_some body
    pub apart : IsApart (body_piece no_callees body) e (list_or made.body) made.steps

  -- one that stays
  pub record IsLoop (t : Turns) (e : KnownNumbers) (made : Loop) : Type 0 where
    pub prologue :
        IsApart (block no_callees t.prologue.now) e made.prologue.statements made.prologue.steps
    pub test : IsLoopTest names prologue.behind t.cond.now made.cond
    pub turn : IsTurn t.body.now prologue.behind made.turn

  -- ---- rounds

  pub record HasRounds (e : KnownNumbers) (r : Rounds) (counter : Var) (from : Expr)
      (down : Bool) (to : Expr) : Type 0 where
    pub same : r.counter.now ≡ counter
    pub way : r.down ≡ down
    pub inline : IsInlineInt names counter
    pub first : HasValue e from (constant.Int r.first)
    pub bound : HasValue e to (constant.Int r.bound)

  -- with bounds that have these values it is a whole loop
  abbrev pub AddsRounds :
      Rounds → List Stmt → Known → Known → List Stmt → List Stmt → Step → Type 0
  AddsRounds r body old new before behind s =
      (from to : Expr) (at : Span)
      → HasRounds (numbers_in old) r r.counter.now from r.down to
      → AddsStep (for_of r from to at body) old new before behind s
