-- The conditions along a body, and the first alarm of a function.
use Rattle.std.specs.Prelude.{◌≡◌, List, Option}
use Rattle.jz_tree.specs.declared.expr.Var.{Var}
use Rattle.jz_meaning.specs.Statements.{Operation, Condition, Block}
use Rattle.jz_flow.specs.Alarms.{Asks, First}
use Rattle.jz_facts.specs.Facts.{Fact, Given, at_entry}
use Rattle.jz_facts.specs.Along.{fact_steps}
use Rattle.jz_alarms.specs.Conditions.{Alarm, asks_operation, asks_test, asks_results}

abbrev pub fact_asks : Given → Asks Operation Condition Fact Alarm
fact_asks g = record { op = asks_operation g; test = asks_test g }

-- w is the first alarm of a body and of the results at its end, or none is there
abbrev pub IsFirstAlarm : Given → Block → List Var → Option Alarm → Type 0
IsFirstAlarm g body results w =
    First (fact_steps g) (fact_asks g) body (at_entry g) w (λ s v. v ≡ asks_results results s)
