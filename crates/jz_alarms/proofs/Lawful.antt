-- The laws of alarms.
use Rattle.std.proofs.Common.{◌≡◌, sym, ◌∙◌, subst}
use Rattle.jz_meaning.specs.Values.{Meaning}
use Rattle.jz_flow.proofs.OneFirst.{one_first}
use Rattle.jz_terms.specs.Terms.{term_of}
use Rattle.jz_terms.proofs.Bridge.{term_so}
use Rattle.jz_facts.specs.Facts.{at_entry}
use Rattle.jz_facts.specs.Along.{fact_steps}
use Rattle.jz_facts.proofs.MoreFacts.{monotone}
use Rattle.jz_alarms.specs.Conditions.{asks_results}
use Rattle.jz_alarms.specs.Alarms.{fact_asks}
use Rattle.jz_alarms.specs.AlarmLaws.{Calm, OneFirstAlarm, MetIsCalm}
use Rattle.jz_alarms.proofs.Meeting.{calm_term}

pub one_alarm : OneFirstAlarm
one_alarm g body results v w f h = one_first (fact_steps g) (fact_asks g) (monotone g) body (at_entry g) v w (λ s u. u ≡ asks_results results s) (λ s u z a b. a ∙ sym b) f h

pub met_is_calm : MetIsCalm
met_is_calm g sizes entry s st H e w p z q = subst (λ (m : Meaning). Calm (m.run w st)) (sym (term_so e)) (calm_term g sizes entry s st H (term_of e) w p z q)
