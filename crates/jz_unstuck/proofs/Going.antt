-- The laws of what is not stuck.
use Rattle.std.proofs.Common.{◌≡◌, ℕ, [], ◌∷◌, None, Bool, sym, subst}
use Rattle.jz_runs.specs.Rules.{stuck, went}
use Rattle.jz_meaning.specs.Attempts.{Evaluation, and_then}
use Rattle.jz_meaning.specs.States.{Value, word, boolean, integer, Key, State}
use Rattle.jz_meaning.specs.Values.{Meaning}
use Rattle.jz_meaning.specs.Assignments.{truth as truth_of}
use Rattle.jz_meaning.specs.Statements as source
use Rattle.jz_meaning.specs.Statements.{Condition}
use Rattle.jz_run_laws.specs.Kinds.{Kinds}
use Rattle.jz_terms.specs.Terms.{term_of, means}
use Rattle.jz_terms.proofs.Bridge.{term_so}
use Rattle.jz_facts.specs.Facts.{Facts, Given}
use Rattle.jz_fact_laws.specs.Saying.{is_number}
use Rattle.jz_alarms.specs.Conditions.{asks_test}
use Rattle.jz_standing.specs.Typing.{NoNumbers, IsAnswer}
use Rattle.jz_standing.specs.Standing.{Stands}
use Rattle.jz_unstuck.specs.MetLaws.{IsOn, WordsGo, TestsGo, TestsStand, MarksStand}
use Rattle.jz_standing.proofs.Making.{OfSize, IsTruth}
use Rattle.jz_unstuck.proofs.Sums.{Runs, runs_then}
use Rattle.jz_unstuck.proofs.Firm.{word_runs, answer_runs}
use Rattle.jz_unstuck.proofs.Apart.{tested_stands}
use Rattle.jz_unstuck.proofs.Marks.{marked_stands}

pub goes : {A : Type 0} (Q : A → Type 0) (e : Evaluation A) → Runs Q e → IsOn e
goes Q (stuck k) h = h
goes Q (went ns x) h = tt

pub words_go : WordsGo
words_go g kinds in_frame entry s st nn H e w z i q =
    subst (λ (m : Meaning). IsOn (m.run w st)) (sym (term_so e))
    (goes (OfSize z (is_number (term_of e))) ((means (term_of e)).run w st) (word_runs g kinds in_frame entry s st H nn (term_of e) w z i q))

module _ (g : Given) (kinds : Kinds) (in_frame : Key → Bool) (entry : Key → ℕ) (s : Facts) (st : State) (nn : NoNumbers kinds) (H : Stands g kinds in_frame entry s st) where
  pub tests_run : (c : Condition) → IsAnswer kinds in_frame (term_of c.cond) → asks_test g c s ≡ None → Runs (λ b. Unit {0}) (source.tests c st)
  tests_run c i q =
      subst (λ (m : Meaning). Runs (λ b. Unit {0}) (and_then (m.run None st) (truth_of c.at))) (sym (term_so c.cond))
      (runs_then IsTruth (λ b. Unit {0}) ((means (term_of c.cond)).run None st) (truth_of c.at) (answer_runs g kinds in_frame entry s st H nn (term_of c.cond) None i q) (λ v h. by v h))
    where
      by : (v : Value) → IsTruth v → Runs (λ b. Unit {0}) (truth_of c.at v)
      by (boolean b) h = tt
      by (word z n) h = absurd h
      by (integer j) h = absurd h

pub tests_go : TestsGo
tests_go g kinds in_frame entry s st nn H c i q = goes (λ b. Unit {0}) (source.tests c st) (tests_run g kinds in_frame entry s st nn H c i q)

pub tests_stand : TestsStand
tests_stand g kinds in_frame entry s st nn H c i = tested_stands g kinds in_frame entry s st H nn c i

pub marks_stand : MarksStand
marks_stand g kinds in_frame entry s st nn H xs i = marked_stands g kinds in_frame entry s st H xs i
