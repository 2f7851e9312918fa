-- The first alarm by the set of the constants.
use Rattle.std.proofs.Common.{◌≡◌, ℕ, List, Option, sym, ap₂, subst}
use Rattle.jz_tree.specs.declared.expr.Var.{Var}
use Rattle.jz_meaning.specs.Statements.{Operation, Condition, Block}
use Rattle.jz_flow.specs.Flow.{Steps}
use Rattle.jz_flow.specs.Alarms.{Asks, First}
use Rattle.jz_facts.specs.Facts.{Fact, Facts, Start, Region, Given, is_among, at_entry}
use Rattle.jz_facts.specs.Along.{fact_steps}
use Rattle.jz_alarms.specs.Conditions.{Alarm, asks_results}
use Rattle.jz_alarms.specs.Alarms.{fact_asks, IsFirstAlarm}
use Rattle.jz_alarms.proofs.Lawful.{one_alarm}
use Rattle.jz_one_alarm.specs.SetLaws.{OneAlarmOfSet}
use Rattle.jz_one_alarm.proofs.SameNumbers.{alike}
use Rattle.jz_one_alarm.proofs.SameIntervals.{given}
use Rattle.jz_one_alarm.proofs.SameSteps.{entry_same}
use Rattle.jz_one_alarm.proofs.SameTests.{steps_same}
use Rattle.jz_one_alarm.proofs.SameAsks.{all_asks_same}

alarm_same : (cs ds : List ℕ) (P : List Start) (R : List Region) → ((c : ℕ) → is_among c cs ≡ is_among c ds) → (body : Block) (results : List Var) (w : Option Alarm) → IsFirstAlarm (given ds P R) body results w → IsFirstAlarm (given cs P R) body results w
alarm_same cs ds P R e body results w f =
    let E = alike cs ds e in
    let Then : Facts → Option Alarm → Type 0 = λ (s : Facts) (v : Option Alarm). v ≡ asks_results results s in
    subst (λ (r : Steps Operation Condition Fact). First r (fact_asks (given cs P R)) body (at_entry (given cs P R)) w Then) (sym (steps_same cs ds P R E))
    (subst (λ (a : Asks Operation Condition Fact Alarm). First (fact_steps (given ds P R)) a body (at_entry (given cs P R)) w Then) (sym (all_asks_same cs ds P R E))
    (subst (λ (s : Facts). First (fact_steps (given ds P R)) (fact_asks (given ds P R)) body s w Then) (sym (entry_same cs ds P R E)) f))

pub one_alarm_of_set : OneAlarmOfSet
one_alarm_of_set g h body results v w a f k =
    one_alarm g body results v w f
    (alarm_same g.consts h.consts g.params g.regions a.consts body results w
    (subst (λ (i : Given). IsFirstAlarm i body results w) (ap₂ (λ p r. given h.consts p r) (sym a.params) (sym a.regions)) k))
