-- The parts of a body, and the first of them that has no operations.
use Rattle.std.specs.Prelude.{◌≡◌, ℕ, List, [], ◌∷◌, ◌++◌, All, Option, Result, Ok, Err}
use Rattle.jz_tree.specs.Span.{Span}
use Rattle.jz_tree.specs.declared.expr.BinOp.{BinOp}
use Rattle.jz_tree.specs.declared.expr.Expr.{Expr}
use Rattle.jz_tree.specs.declared.stmt.Lval.{Lval}
use Rattle.jz_runs.specs.Trees.{done, op, quiet, choose, loop, each, call}
use Rattle.jz_meaning.specs.Statements.{Operation, assign, instruction, meaningless, Condition, Counter, Call, Block}
use Rattle.jz_homes.specs.Homes.{Homes}
use Rattle.jz_flag_rows.specs.Results.{begins_at}
use Rattle.jz_total_flags.specs.Ready.{HasOperations, HasTest, HasLoopTest}

-- an operation, a test of an `if`, a test of a `while`, a `for`, a call
pub data Part : Type 0 where
  does : Operation → Part
  asks : Condition → Part
  asks_each : Condition → Part
  counts : Counter → Part
  calls : Call → Part

-- those of a body in the order of its statements; a statement's test comes before what stands in it
abbrev pub parts_in : Block → List Part
parts_in done = []
parts_in (op o r) = does o ∷ parts_in r
parts_in (quiet o r) = parts_in r
parts_in (choose c a b r) = asks c ∷ (parts_in a ++ (parts_in b ++ parts_in r))
parts_in (loop q p c b r) = asks_each c ∷ (parts_in p ++ (parts_in b ++ parts_in r))
parts_in (each f b r) = counts f ∷ (parts_in b ++ parts_in r)
parts_in (call c b r) = calls c ∷ (parts_in b ++ parts_in r)

-- it stands there
pub data StandsAt : Part → Span → Type 0 where
  an_assignment : (to : List Lval) (o : Option BinOp) (e : Expr) (c : Option Expr) (at : Span)
      → StandsAt (does (assign to o e c at)) at
  -- where its first left side does
  an_instruction : (to : List Lval) (n : List ℕ) (args : List Expr) (at : Span)
      → StandsAt (does (instruction to n args at)) (begins_at to at)
  a_call : (at : Span) → StandsAt (does (meaningless at)) at
  a_test : (c : Condition) → StandsAt (asks c) c.at
  a_loop_test : (c : Condition) → StandsAt (asks_each c) c.at
  a_for : (f : Counter) → StandsAt (counts f) f.at

-- it has operations
abbrev pub HasCode : Homes → Part → Type 0
HasCode home (does o) = HasOperations home o
HasCode home (asks c) = HasTest home c
HasCode home (asks_each c) = HasLoopTest home c
HasCode home (counts f) = ⊥
HasCode home (calls c) = ⊥

-- the first part that has none stands there
pub record IsFirstWithout (home : Homes) (ps : List Part) (at : Span) : Type 0 where
  pub front : List Part
  pub part : Part
  pub back : List Part
  pub split : ps ≡ front ++ (part ∷ back)
  pub before : All (HasCode home) front
  pub none : HasCode home part → ⊥
  pub stands : StandsAt part at

-- all of them have operations, or the first that has none stands where it is refused
abbrev pub HaveCode : {A : Type 0} → Homes → List Part → Result A Span → Type 0
HaveCode home ps (Ok x) = All (HasCode home) ps
HaveCode home ps (Err at) = IsFirstWithout home ps at
