-- Operations over variables in a tree: what each does and shows, what a test asks, and what the
-- placing of variables sees of a test.
use Rattle.std.specs.Prelude.{ℕ, Bool, true, List, [], ◌++◌, Option, Some, None}
use Rattle.jz_ir.specs.declared.code.Op.{Op}
use Rattle.jz_runs.specs.Trees.{Tree}
use Rattle.jz_runs.specs.Rules.{Attempt, stuck, went, Parts}
use Rattle.jz_operations.specs.declared.operation.Condition.{Condition}
use Rattle.jz_operations.specs.declared.operation.Operation.{Operation}
use Rattle.jz_operations.specs.Values.{State}
use Rattle.jz_operations.specs.Rows.{Frame, holds_in, Done, step}
use Rattle.jz_operations.specs.Reading.{flag_read, seen_of}
use Rattle.jz_operations.specs.Standing.{division_of}
use Rattle.jz_placing.specs.Instructions.{division_numbers}

-- `true`; or whether a condition holds, behind an operation that sets flags, or by the flags that
-- are there
pub data Asked : Type 0 where
  always : Asked
  asks : Option Operation → Condition → Asked

-- there are no counters and no calls
abbrev pub Body : Type 0
Body = Tree Operation Asked ⊥ ⊥

abbrev pub numbers_of : Done → List ℕ
numbers_of d = d.shown ++ division_numbers (division_of d.division)

-- an operation is stuck where it is no step; the reason isn't told
abbrev pub by_step : Option Done → Attempt (Unit {0}) State
by_step None = stuck tt
by_step (Some d) = went (numbers_of d) d.state

abbrev pub answer : List ℕ → Option Bool → Attempt (Unit {0}) Bool
answer ns None = stuck tt
answer ns (Some b) = went ns b

abbrev pub answer_behind : Condition → Attempt (Unit {0}) State → Attempt (Unit {0}) Bool
answer_behind k (stuck w) = stuck w
answer_behind k (went ns σ) = answer ns (holds_in k σ)

abbrev pub state_behind : State → Attempt (Unit {0}) State → State
state_behind σ (stuck w) = σ
state_behind σ (went ns τ) = τ

module _ (frame : Frame) where
  abbrev pub does : Operation → State → Attempt (Unit {0}) State
  does o σ = by_step (step frame o σ)

  abbrev pub does_if : Option Operation → State → Attempt (Unit {0}) State
  does_if None σ = went [] σ
  does_if (Some o) σ = does o σ

  abbrev pub tests : Asked → State → Attempt (Unit {0}) Bool
  tests always σ = went [] true
  tests (asks o k) σ = answer_behind k (does_if o σ)

  abbrev pub settled : Asked → State → State
  settled always σ = σ
  settled (asks o k) σ = state_behind σ (does_if o σ)

  abbrev pub variables : Parts Operation Asked ⊥ ⊥ State (Unit {0})
  variables = record {
    does = does;
    quiets = λ o σ. σ;
    tests = tests;
    settled = settled;
    counts = λ f s. absurd f;
    begins = λ f i s. s;
    restores = λ f s t. t;
    enters = λ c s. absurd c;
    leaves = λ c s t. absurd c;
  }

-- ---- a test as the placing of variables sees it; `true` is none
abbrev pub test_seen : Option Operation → Condition → Op
test_seen None k = record {
  span = record { line = 0; col = 0 };
  reads = flag_read k;
  writes = [];
  fixed = [];
  needs = [];
}
test_seen (Some o) k = seen_of o

abbrev pub test_of : Asked → Option Op
test_of always = None
test_of (asks o k) = Some (test_seen o k)
