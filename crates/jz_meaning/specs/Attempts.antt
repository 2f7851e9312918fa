-- The parts of a statement, one after another: each leaks numbers and gives something, or is stuck
-- at a place for a reason.
use Rattle.std.specs.Prelude.{◌≡◌, ℕ, List, [], ◌++◌, Option, Some, None, Result, Ok, Err}
use Rattle.jz_tree.specs.Failure.{Failure}
use Rattle.jz_tree.specs.Failures.{IfAnswered}
use Rattle.jz_tree.specs.Span.{Span}
use Rattle.jz_runs.specs.Rules.{Attempt, stuck, went}
use Rattle.jz_meaning.specs.declared.value.Value as code
use Rattle.jz_meaning.specs.declared.value.Why.{Why}
use Rattle.jz_meaning.specs.declared.value.Why.TheVariants.{Init}
use Rattle.jz_meaning.specs.declared.value.Stuck.{Stuck}
use Rattle.jz_meaning.specs.States.{Value, as_value}

abbrev pub Evaluation : Type 0 → Type 0
Evaluation A = Attempt Stuck A

abbrev pub stuck_at : {A : Type 0} → Span → Why → Evaluation A
stuck_at span why = stuck (record { span = span; why = why })

-- these numbers first
abbrev pub numbers_first : {A : Type 0} → List ℕ → Evaluation A → Evaluation A
numbers_first ns (stuck w) = stuck w
numbers_first ns (went ms x) = went (ns ++ ms) x

-- one part, and then another with what came out
abbrev pub and_then : {A B : Type 0} → Evaluation A → (A → Evaluation B) → Evaluation B
and_then (stuck w) go = stuck w
and_then (went ns x) go = numbers_first ns (go x)

-- what is there, without numbers
abbrev pub defined : {A : Type 0} → Span → Option A → Evaluation A
defined at None = stuck_at at Init
defined at (Some x) = went [] x

-- what the code did: the numbers that it has, and its answer
abbrev pub did : {A : Type 0} → List ℕ → Result A Stuck → Evaluation A
did ns (Ok x) = went ns x
did ns (Err k) = stuck k

-- the same of a value
abbrev pub seen : List ℕ → Result code.Value Stuck → Evaluation Value
seen ns (Ok x) = went ns (as_value x)
seen ns (Err k) = stuck k

-- a value alone
abbrev pub value_seen : Result code.Value Stuck → Result Value Stuck
value_seen (Ok x) = Ok (as_value x)
value_seen (Err k) = Err k

-- what the code did to a thing, a memory or a whole state: the numbers that it has, and the thing
-- as it is then
abbrev pub changed : {A S : Type 0} → List ℕ → S → Result A Stuck → Evaluation S
changed ns x (Ok u) = went ns x
changed ns x (Err k) = stuck k

-- ---- what the code promises; where memory did not suffice it promises nothing

-- the numbers, behind those before, and the answer are those of the definition
abbrev pub Gives : {A : Type 0} → Result A (Failure Stuck) → List ℕ → List ℕ → Evaluation A → Type 0
Gives result before now e = IfAnswered result (λ r. did now r ≡ numbers_first before e)

-- the same of a value
abbrev pub Evaluates : Result code.Value (Failure Stuck) → List ℕ → List ℕ → Evaluation Value → Type 0
Evaluates result before now e = IfAnswered result (λ r. seen now r ≡ numbers_first before e)

-- the same of a thing that is changed, as it is now
abbrev pub Changes : {A S : Type 0} → Result A (Failure Stuck) → List ℕ → List ℕ → S → Evaluation S → Type 0
Changes result before now x e = IfAnswered result (λ r. changed now x r ≡ numbers_first before e)

-- the same where it has no numbers
abbrev pub ChangesSilently : {A S : Type 0} → Result A (Failure Stuck) → S → Evaluation S → Type 0
ChangesSilently result x e = (ns : List ℕ) → Changes result ns ns x e
