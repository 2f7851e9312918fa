-- The laws of facts and runs.
use Rattle.std.proofs.Common.{Bool, sym, subst}
use Rattle.x64_insn.specs.Size.{Size}
use Rattle.jz_intervals.specs.declared.interval.Interval.{Interval}
use Rattle.jz_meaning.specs.States.{Value, word, boolean, integer}
use Rattle.jz_meaning.specs.Values.{Meaning}
use Rattle.jz_facts.specs.Terms.{term_of, means}
use Rattle.jz_facts.proofs.Bridge.{term_so}
use Rattle.jz_facts.specs.Intervals.{interval}
use Rattle.jz_fact_laws.specs.Saying.{Yields, IsWithin, MultipleWord, is_number}
use Rattle.jz_fact_laws.specs.FactLaws.{IntervalsHold, MultiplesHold, AssignmentsHold, TestsHold}
use Rattle.jz_fact_laws.proofs.Fitting.{yields_all}
use Rattle.jz_fact_laws.proofs.Ranges.{Good, term_ok}
use Rattle.jz_fact_laws.proofs.MultipleTerms.{multiple_word, multiple_ok}
use Rattle.jz_fact_laws.proofs.Law.{assign_ok, tested_ok}

within : (i : Interval) (k : Bool) (z : Size) (v : Value) → Good i k z v → IsWithin i z v
within i k z (word s a) h = h.1
within i k z (boolean c) h = h
within i k z (integer j) h = h.1

pub intervals_hold : IntervalsHold
intervals_hold g sizes entry s st H e p z w =
    subst (λ (m : Meaning). Yields (IsWithin (interval g s z (term_of e)) z) (m.run w st)) (sym (term_so e))
    (yields_all (Good (interval g s z (term_of e)) (is_number (term_of e)) z) (IsWithin (interval g s z (term_of e)) z) ((means (term_of e)).run w st) (within (interval g s z (term_of e)) (is_number (term_of e)) z) (term_ok g sizes entry s st H (term_of e) p z w))

pub multiples_hold : MultiplesHold
multiples_hold g sizes entry s st H e p m w a q =
    subst (λ (n : Meaning). Yields (MultipleWord m) (n.run w st)) (sym (term_so e)) (multiple_word g sizes entry s st H m a (term_of e) p w q)

pub assignments_hold : AssignmentsHold
assignments_hold g sizes entry s st H x o e at h = assign_ok g sizes entry s st H (λ t p z w. multiple_ok g sizes entry s st H t p z w) x o e at h

pub tests_hold : TestsHold
tests_hold g sizes entry s st H c p u = tested_ok g sizes entry s st H (λ t p z w. multiple_ok g sizes entry s st H t p z w) c p u
