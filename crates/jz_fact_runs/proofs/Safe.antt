-- Where a function has no alarm, no run of it is stuck.
use Rattle.std.proofs.Common.{◌≡◌, ℕ, List, [], ◌∷◌, Some, None, Bool, true, false, refl, ap, sym, ◌∙◌, subst}
use Rattle.jz_tree.specs.Span.{Span}
use Rattle.x64_insn.specs.Size.{Size}
use Rattle.jz_tree.specs.declared.expr.Var.{Var}
use Rattle.jz_tree.specs.Spellings.{spelled}
use Rattle.jz_runs.specs.RunLeaks.{Leak}
use Rattle.jz_runs.specs.Rules.{stuck, went, Outcome, End, Cut, Stuck}
use Rattle.jz_meaning.specs.declared.access.Kind.TheVariants as kind
use Rattle.jz_meaning.specs.declared.value.Why.TheVariants.{Init}
use Rattle.jz_meaning.specs.declared.value.Stuck as code
use Rattle.jz_meaning.specs.Attempts.{Evaluation, and_then, defined}
use Rattle.jz_meaning.specs.States.{Value, word, boolean, integer, Key, State}
use Rattle.jz_meaning.specs.Values.{key_of, ref_of}
use Rattle.jz_meaning.specs.Statements as source
use Rattle.jz_meaning.specs.Statements.{Operation, Condition, assign, instruction, unset, meaningless}
use Rattle.jz_meaning.specs.Assignments.{truth as truth_of}
use Rattle.jz_meaning.specs.Runs.{only_word, result_word, result_words, outcome_of_words, outcome_of_body}
use Rattle.jz_run_laws.specs.Kinds.{Kinds, IsOfKind}
use Rattle.jz_flow.specs.Sets.{Below}
use Rattle.jz_flow.specs.Alarms.{Meets, no_more}
use Rattle.jz_flow.specs.Soundness.{Fine, Sound}
use Rattle.jz_flow.proofs.Calm.{calm}
use Rattle.jz_flow.proofs.Holding.{sound}
use Rattle.jz_terms.specs.Terms.{Term, num, truth, var, cell, load, neg, inv, cast, bin, term_of, means}
use Rattle.jz_terms.proofs.Bridge.{term_so}
use Rattle.jz_facts.specs.Facts.{Set, Facts, Given, at_entry}
use Rattle.jz_facts.specs.Holding.{does, quieted}
use Rattle.jz_facts.specs.Tests.{tested, leaving, leaves}
use Rattle.jz_facts.specs.Along.{fact_steps}
use Rattle.jz_facts.proofs.MoreFacts.{monotone}
use Rattle.jz_fact_laws.specs.Saying.{Yields}
use Rattle.jz_alarms.specs.Conditions.{named, asks_operation, asks_results}
use Rattle.jz_alarms.specs.Alarms.{fact_asks}
use Rattle.jz_standing.specs.Typing.{NoNumbers}
use Rattle.jz_fact_runs.specs.Fine.{IsFine, IsFineTest, AreResults}
use Rattle.jz_standing.specs.Standing.{Stands}
use Rattle.jz_fact_runs.specs.RunLaws.{BodiesGo, SafeGoes}
use Rattle.jz_standing.proofs.Held.{scalar_holds}
use Rattle.jz_two_results.proofs.Totals.{some_is}
use Rattle.jz_two_results.proofs.Sums.{met, both_met, Runs, runs_then}
use Rattle.jz_two_results.proofs.Apart.{tested_stands}
use Rattle.jz_two_results.proofs.Marks.{marked_stands}
use Rattle.jz_two_results.proofs.OneValue.{one_stands, one_runs}
use Rattle.jz_two_results.proofs.Outcomes.{instructed_stands, instructed_runs}
use Rattle.jz_two_results.proofs.Paired.{paired_stands, paired_runs}
use Rattle.jz_two_results.proofs.Going.{tests_run}

from_went : {A : Type 0} (P : A → Type 0) (e : Evaluation A) (ns : List ℕ) (x : A) → e ≡ went ns x → Yields P e → P x
from_went P e ns x q h = subst (Yields P) q h

from_stuck : {A : Type 0} (P : A → Type 0) (e : Evaluation A) (k : code.Stuck) → e ≡ stuck k → Runs P e → ⊥
from_stuck P e k q h = subst (Runs P) q h

module _ (g : Given) (kinds : Kinds) (in_frame : Key → Bool) (entry : Key → ℕ) (nn : NoNumbers kinds) where
  abbrev There : Facts → State → Type 0
  There s st = Stands g kinds in_frame entry s st

  less : (a b : Facts) (st : State) → Below a b → There b st → There a st
  less a b st l H = record { says = λ f e. H.says f (l f e); apart = λ f e. H.apart f (l f e); kept = H.kept; ranges = H.ranges; least = H.least; regions = H.regions }

  operation_stands : (o : Operation) (s : Facts) (st : State) → IsFine kinds in_frame o → There s st → Yields (There (does g o s)) (source.does o st)
  operation_stands (assign (d ∷ []) o e c at) s st i H = one_stands g kinds in_frame entry s st nn H d o e c at i
  operation_stands (assign (d ∷ b ∷ []) o e None at) s st i H = paired_stands g kinds in_frame entry s st H nn d b o e at i
  operation_stands (assign [] o e c at) s st i H = absurd i
  operation_stands (assign (d ∷ b ∷ []) o e (Some c) at) s st i H = absurd i
  operation_stands (assign (d ∷ b ∷ f ∷ ds) o e c at) s st i H = absurd i
  operation_stands (instruction to n args at) s st i H = instructed_stands g kinds in_frame entry s st H nn (spelled n) to args at i
  operation_stands (unset xs) s st i H = H
  operation_stands (meaningless at) s st i H = absurd i

  operation_runs : (o : Operation) (s : Facts) (st : State) → IsFine kinds in_frame o → There s st → asks_operation g o s ≡ None → Runs (λ t. Unit {0}) (source.does o st)
  operation_runs (assign (d ∷ []) o e c at) s st i H q = one_runs g kinds in_frame entry s st nn H d o e c at i q
  operation_runs (assign (d ∷ b ∷ []) o e None at) s st i H q = paired_runs g kinds in_frame entry s st H nn d b o e at i q
  operation_runs (assign [] o e c at) s st i H q = absurd i
  operation_runs (assign (d ∷ b ∷ []) o e (Some c) at) s st i H q = absurd i
  operation_runs (assign (d ∷ b ∷ f ∷ ds) o e c at) s st i H q = absurd i
  operation_runs (instruction to n args at) s st i H q = instructed_runs g kinds in_frame entry s st H nn (spelled n) to args at i q
  operation_runs (unset xs) s st i H q = tt
  operation_runs (meaningless at) s st i H q = absurd i

  mark_stands : (o : Operation) (s : Facts) (st : State) → IsFine kinds in_frame o → There s st → There (quieted o s) (source.quiets o st)
  mark_stands (unset xs) s st i H = marked_stands g kinds in_frame entry s st H xs i
  mark_stands (assign to o e c at) s st i H = H
  mark_stands (instruction to n args at) s st i H = H
  mark_stands (meaningless at) s st i H = H

  -- a test that is false is not `true`
  leaves_stands : (c : Condition) (h s : Facts) (st : State) (ns : List ℕ) → IsFineTest kinds in_frame c → There s st → source.tests c st ≡ went ns false → There (leaves g c h s) st
  leaves_stands c h s st ns i H q = by (term_of c.cond) refl
    where
      behind : Stands g kinds in_frame entry (tested g c false s) st
      behind = from_went (λ z. Stands g kinds in_frame entry (tested g c z s) st) (source.tests c st) ns false q (tested_stands g kinds in_frame entry s st H nn c i)

      no_false : (at : Span) → term_of c.cond ≡ truth true at → ⊥
      no_false at e = absurd (cc (sym (subst (λ (m : Evaluation Value). and_then m (truth_of c.at) ≡ went ns false) (ap (λ t. (means t).run None st) e) (sym (ap (λ (m : Evaluation Value). and_then m (truth_of c.at)) (ap (λ m. m.run None st) (term_so c.cond))) ∙ q))))

      by : (t : Term) → term_of c.cond ≡ t → Stands g kinds in_frame entry (leaving g c t h s) st
      by (truth true at) e = absurd (no_false at e)
      by (truth false at) e = behind
      by (num n at) e = behind
      by (var x) e = behind
      by (cell x j) e = behind
      by (load p a) e = behind
      by (neg a at) e = behind
      by (inv a at) e = behind
      by (cast y sign a at) e = behind
      by (bin op a b at) e = behind

  rules : Sound (IsFine kinds in_frame) (IsFineTest kinds in_frame) (fact_steps g) (fact_asks g) source.source There
  rules = record {
    less = less;
    does = λ o s st t ns i H q. from_went (λ t. Stands g kinds in_frame entry (does g o s) t) (source.does o st) ns t q (operation_stands o s st i H);
    quiets = mark_stands;
    tests = λ c z s st ns i H q. from_went (λ z. Stands g kinds in_frame entry (tested g c z s) st) (source.tests c st) ns z q (tested_stands g kinds in_frame entry s st H nn c i);
    leaves = leaves_stands;
    runs = λ o s st k i H a q. from_stuck (λ t. Unit {0}) (source.does o st) k q (operation_runs o s st i H a);
    answers = λ c s st k i H a q. from_stuck (λ b. Unit {0}) (source.tests c st) k q (tests_run g kinds in_frame entry s st nn H c i a);
  }

  -- ---- the results

  word_alone : (at : Span) (z : Size) (v : Value) → IsOfKind (kind.Word z) v → Runs (λ v. Unit {0}) (only_word at v)
  word_alone at z (word y n) h = tt
  word_alone at z (boolean c) h = absurd h
  word_alone at z (integer j) h = absurd h

  results_run : (xs : List Var) (s : Facts) (st : State) → There s st → AreResults kinds in_frame xs → asks_results xs s ≡ None → Runs (λ vs. Unit {0}) (result_words xs st.store)
  results_run [] s st H i q = tt
  results_run (x ∷ xs) s st H i q =
      let r = ref_of x in
      let a = both_met _ (asks_results xs s) q in
      let b = some_is (st.store (key_of r)) (H.says (Set (key_of r)) (met (s (Set (key_of r))) r.span Init (named r.name r.cell) a.0)) in
      let k = subst (λ d. IsOfKind d b.0) i.0.is (scalar_holds g kinds in_frame entry s st H r i.0.scalar b.0 b.1) in
      runs_then (λ v. Unit {0}) (λ vs. Unit {0}) (result_word x st.store) (λ v. and_then (result_words xs st.store) (λ vs. went [] (v ∷ vs)))
      (subst (λ o. Runs (λ v. Unit {0}) (and_then (defined r.span o) (only_word r.span))) (sym b.1) (first b.0 (word_alone r.span i.0.size b.0 k))) (λ v u.
      runs_then (λ vs. Unit {0}) (λ vs. Unit {0}) (result_words xs st.store) (λ vs. went [] (v ∷ vs)) (results_run xs s st H i.1 a.1) (λ vs u. tt))
    where
      first : (v : Value) → Runs (λ v. Unit {0}) (only_word (ref_of x).span v) → Runs (λ v. Unit {0}) (and_then (went [] v) (only_word (ref_of x).span))
      first v h = runs_then (λ u. u ≡ v) (λ v. Unit {0}) (went [] v) (only_word (ref_of x).span) refl (λ u e. subst (λ u. Runs (λ v. Unit {0}) (only_word (ref_of x).span u)) (sym e) h)

pub bodies_go : BodiesGo
bodies_go g kinds in_frame entry b s x nn f a e n st o H r =
    sound (IsFine kinds in_frame) (IsFineTest kinds in_frame) (fact_steps g) (fact_asks g) source.source (There g kinds in_frame entry nn) (rules g kinds in_frame entry nn) r s x f H (calm (fact_steps g) (fact_asks g) (monotone g) b s x no_more a e).0

words_not : {A : Type 0} (P : A → Type 0) (e : Evaluation A) → Runs P e → (k : code.Stuck) → e ≡ stuck k → ⊥
words_not P e h k q = from_stuck P e k q h

pub safe_goes : SafeGoes
safe_goes g kinds in_frame entry b xs x nn f i a e st H n o r k q = by o (sound (IsFine kinds in_frame) (IsFineTest kinds in_frame) (fact_steps g) (fact_asks g) source.source (There g kinds in_frame entry nn) (rules g kinds in_frame entry nn) r (at_entry g) x f H c.0) q
  where
    c : Meets (fact_steps g) (fact_asks g) b (at_entry g) x × (None ≡ asks_results xs x)
    c = calm (fact_steps g) (fact_asks g) (monotone g) b (at_entry g) x (λ s v. v ≡ asks_results xs s) a e

    results : (t : State) → There g kinds in_frame entry nn x t → (m : ℕ) (l : Leak) (w : _) → result_words xs t.store ≡ w → Runs (λ vs. Unit {0}) w → outcome_of_words t.memory m l w ≡ Stuck k → ⊥
    results t h m l (stuck j) e u p = u
    results t h m l (went ns vs) e u p = cc p

    by : (o : Outcome State code.Stuck Leak) → Fine (There g kinds in_frame entry nn x) o → outcome_of_body xs o ≡ Stuck k → ⊥
    by (End t m l) h p = results t h m l (result_words xs t.store) refl (results_run g kinds in_frame entry nn xs x t h i (sym c.1)) p
    by (Cut l) h p = cc p
    by (Stuck j) h p = h
