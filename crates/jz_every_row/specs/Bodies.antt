-- The body over variables of a function's body.
use Rattle.std.specs.Prelude.{◌≡◌, ℕ, [], ⊤}
use Rattle.x64_insn.specs.declared.types.Place.{Place}
use Rattle.jz_runs.specs.Trees.{Tree, done, op, quiet, choose, loop, each, call}
use Rattle.jz_runs.specs.Rules.{Goes}
use Rattle.jz_meaning.specs.States as source
use Rattle.jz_meaning.specs.Statements.{Operation, Condition, Counter, Block}
use Rattle.jz_meaning.specs.Statements as statements
use Rattle.jz_meaning.specs.declared.value.Stuck.{Stuck}
use Rattle.jz_operations.specs.declared.operation.Operation.{Operation as Made}
use Rattle.jz_operations.specs.Values.{State}
use Rattle.jz_operations.specs.Rows.{Frame}
use Rattle.jz_operations.specs.Reading.{needs_of}
use Rattle.jz_operations.specs.Standing.{NeedsMet}
use Rattle.jz_placing.specs.Variables.{Asked, Body, variables}
use Rattle.jz_change.specs.Changes.{Change}
use Rattle.jz_pass.specs.Unrolling.{Knowing, Unrolls}
use Rattle.jz_pass.specs.Laws.{Relating, Carries}
use Rattle.jz_pass.specs.Cases.{IsBetween, cases_of}
use Rattle.jz_homes.specs.Homes.{Homes, IsHoming, IsRelated}
use Rattle.jz_every_row.specs.Statements.{Makes, MakesTest, MakesLoopTest}

-- no operation stands before a test, no test of an `if` is constant, and no `for` is left
abbrev pub lowering : Homes → Knowing Operation Condition Counter ⊤ Made Asked
lowering home = record {
  Op = λ o k os items k1. Makes home o os items;
  Quiet = λ o k o2 k1. ⊤;
  Test = λ t k os items asked i. (os ≡ []) × (items ≡ []) × MakesTest home t asked i;
  LoopTest = λ t k os items asked i. (os ≡ []) × (items ≡ []) × MakesLoopTest home t asked i;
  Constant = λ t k answer. ⊥;
  Values = λ f k is. ⊥;
  Less = λ k0 k. ⊤;
  set = λ f i k. k;
  restore = λ f k k1. k;
}

-- marks have no operation
abbrev pub without_marks : {O T F C : Type 0} → Tree O T F C → Tree O T F C
without_marks done = done
without_marks (op o r) = op o (without_marks r)
without_marks (quiet o r) = without_marks r
without_marks (choose c a b r) =
    choose c (without_marks a) (without_marks b) (without_marks r)
without_marks (loop q p c b r) =
    loop q (without_marks p) c (without_marks b) (without_marks r)
without_marks (each f b r) = each f (without_marks b) (without_marks r)
without_marks (call c b r) = call c (without_marks b) (without_marks r)

-- each statement's operations stand where it stood, and each of their numbers comes of its item
pub record IsLowered (home : Homes) (b : Block) (u : Body) (k : Change) : Type 0 where
  pub marked : Body
  pub made : Unrolls (lowering home) b tt done marked tt k
  pub body : u ≡ without_marks marked

-- a source state and one over variables; nothing is owed of a source that is stuck
abbrev pub beside : Homes → Relating source.State State source.State State Stuck (Unit {0})
beside home = record {
  Starts = IsRelated home;
  Ends = IsRelated home;
  Fails = λ w w2. ⊤;
  Exact = ⊥;
}

-- these places are all that each operation of a statement needs
abbrev pub HasNeedsMet : (ℕ → Place) → Body → Type 0
HasNeedsMet places done = ⊤
HasNeedsMet places (op o r) = NeedsMet places (needs_of o) × HasNeedsMet places r
HasNeedsMet places (quiet o r) = HasNeedsMet places r
HasNeedsMet places (choose c a b r) =
    HasNeedsMet places a × HasNeedsMet places b × HasNeedsMet places r
HasNeedsMet places (loop q p c b r) =
    HasNeedsMet places p × HasNeedsMet places b × HasNeedsMet places r
HasNeedsMet places (each f b r) = absurd f
HasNeedsMet places (call c b r) = absurd c

-- for each number of turns, where some places meet all needs
abbrev pub BodiesCarry : Type 0
BodiesCarry =
    (places : ℕ → Place) (frame : Frame) (home : Homes) (b : Block) (u : Body) (k : Change)
    → IsHoming frame home → IsLowered home b u k → HasNeedsMet places u
    → Carries (beside home) (λ s n. Goes statements.source b n s)
    (λ σ n. Goes (variables frame) u n σ) k

abbrev pub BodiesHaveCases : Type 0
BodiesHaveCases =
    (home : Homes) (b : Block) (u : Body) (k : Change)
    → IsLowered home b u k → IsBetween (cases_of b) (cases_of u) k
