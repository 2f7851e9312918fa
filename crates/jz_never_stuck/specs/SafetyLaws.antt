-- A function without an alarm is never stuck on an input that meets its preconditions.
use Rattle.std.specs.Prelude.{◌≡◌, ℕ, List, None, Contains}
use Rattle.jz_tree.specs.Memory.{Memory}
use Rattle.jz_tree.specs.declared.expr.Var.{Var}
use Rattle.jz_tree.specs.declared.program.Fun.{Fun}
use Rattle.jz_tree.specs.declared.program.Program.{Program}
use Rattle.jz_runs.specs.RunLeaks.{Leak}
use Rattle.jz_runs.specs.Rules.{Outcome, Stuck, Goes}
use Rattle.jz_meaning.specs.declared.value.Stuck.{Stuck as Reason}
use Rattle.jz_meaning.specs.States.{Value, State}
use Rattle.jz_meaning.specs.Statements.{Block, source}
use Rattle.jz_meaning.specs.Runs.{entry_state, outcome_of_body}
use Rattle.jz_preconditions.specs.Meeting.{MeetsPreconditions}
use Rattle.jz_flow.specs.Flow.{After}
use Rattle.jz_facts.specs.Facts.{Facts, Given, at_entry}
use Rattle.jz_facts.specs.Along.{fact_steps}
use Rattle.jz_alarms.specs.Alarms.{IsFirstAlarm}
use Rattle.jz_fact_entry.specs.Entry.{AreWords}
use Rattle.jz_never_stuck.specs.Safety.{IsFineFunction, HasNoAlarm, SharesHead}

-- a body without an alarm has kept sets at its heads, and so one behind it
abbrev pub NoneHasSets : Type 0
NoneHasSets =
    (g : Given) (b : Block) (results : List Var) → IsFirstAlarm g b results None
    → (x : Facts) × After (fact_steps g) b (at_entry g) x

-- g, with the body b: what a function f of a program is expanded to
abbrev pub ExpandedIsNeverStuck : Type 0
ExpandedIsNeverStuck =
    (p : Program) (f g : Fun) (b : Block) (words : List ℕ) (values : List Value)
    (memory : Memory) (n : ℕ) (o : Outcome State Reason Leak) (w : Reason)
    → Contains p.funs f → SharesHead f g → IsFineFunction b g → HasNoAlarm b g
    → MeetsPreconditions f words memory → AreWords f.params words values
    → Goes source b n (entry_state g values memory) o → outcome_of_body g.result o ≡ Stuck w → ⊥
