-- The values of the counter of a `for`, and its rounds.
use Rattle.std.specs.Prelude.{◌≡◌, ℕ, ℤ, List, Result, Ok, Err}
use Rattle.jz_tree.specs.Failure.{Failure}
use Rattle.jz_tree.specs.Failures.{IfAnswered}
use Rattle.jz_leak.specs.declared.leak.Leak as shown_leak
use Rattle.jz_tree.specs.declared.expr.Var.{Var}
use Rattle.jz_runs.specs.Views.{items_view}
use Rattle.jz_runs.specs.ShownRuns.{RunsRounds}
use Rattle.jz_meaning.specs.Rules.{stuck, went, Outcome}
use Rattle.jz_meaning.specs.declared.value.Stuck as why
use Rattle.jz_meaning.specs.Attempts.{Evaluation, numbers_first}
use Rattle.jz_meaning.specs.States.{State}
use Rattle.jz_meaning.specs.Statements.{Block, Counter, source, values_between}
use Rattle.jz_interp.specs.declared.counters.Values.{Values}

-- the values that are left, in their order
abbrev pub values_left : Values → List ℤ
values_left v = values_between v.down v.next v.end

-- what the code answers of them
abbrev pub evaluated_values : List ℕ → Result Values why.Stuck → Evaluation (List ℤ)
evaluated_values ns (Ok v) = went ns (values_left v)
evaluated_values ns (Err k) = stuck k

-- the values and their numbers behind those before, as the definition gives them
abbrev pub GivesValues :
    Result Values (Failure why.Stuck) → List ℕ → List ℕ → Evaluation (List ℤ) → Type 0
GivesValues result before now e =
    IfAnswered result (λ r. evaluated_values now r ≡ numbers_first before e)

-- the rounds of each `for` with this counter
pub record RoundsOf (x : Var) (b : Block) (js : List ℤ) (n : ℕ) (s : State)
    (o : Outcome State why.Stuck (List shown_leak.Leak)) : Type 0 where
  pub so : (f : Counter) → f.counter ≡ x → RunsRounds items_view source f b js n s o
