-- What carries the runs of bodies carries those of functions.
use Rattle.std.proofs.Common.{◌≡◌, ℕ, List, [], refl, ap, sym, ◌∙◌, subst}
use Rattle.jz_tree.specs.Memory.{Memory}
use Rattle.jz_tree.specs.declared.program.Fun.{Fun}
use Rattle.jz_runs.specs.RunLeaks.{Leak}
use Rattle.jz_runs.specs.Rules.{stuck, went, Outcome, End, Cut, Stuck, Goes}
use Rattle.jz_runs.proofs.Steady.{one_outcome, has_outcome}
use Rattle.jz_meaning.specs.declared.value.Stuck as code
use Rattle.jz_meaning.specs.Attempts.{Evaluation}
use Rattle.jz_meaning.specs.States.{Value, State}
use Rattle.jz_meaning.specs.Statements.{Block, source}
use Rattle.jz_meaning.specs.Runs.{FunOutcome, entry_state, result_words, outcome_of_words, outcome_of_body}
use Rattle.jz_change.specs.Changes.{Change, map_of}
use Rattle.jz_pass.specs.Laws.{Follows, has_ended, was_cut, was_stuck, Carries, between_trees}
use Rattle.jz_inline.specs.Functions.{Given, IsBodyRun, body_runs}
use Rattle.jz_function_runs.specs.FunctionRuns.{alike_where, alike_always}

pub one_run : (b : Block) (f : Fun) (given : Given) (n : ℕ) (o q : FunOutcome) → IsBodyRun b f given n o → IsBodyRun b f given n q → o ≡ q
one_run b f given n o q r s = sym r.gives ∙ ap (outcome_of_body f.result) (one_outcome source r.goes s.goes) ∙ s.gives

pub some_run : (b : Block) (f : Fun) (given : Given) (n : ℕ) → (o : FunOutcome) × IsBodyRun b f given n o
some_run b f given n =
    let z = has_outcome source b n (entry_state f given.words given.memory) in
    (outcome_of_body f.result z.0, record { out = z.0; goes = z.1; gives = refl })

module _ (P : Given → Type 0) (Starts Ends : State → State → Type 0) (f g : Fun) (F G : Block) (k : Change)
    (enters : (given : Given) → P given → Starts (entry_state f given.words given.memory) (entry_state g given.words given.memory))
    (memory : (s t : State) → Ends s t → t.memory ≡ s.memory)
    (words : (s t : State) → Ends s t → result_words g.result t.store ≡ result_words f.result s.store)
    (bodies : Carries (between_trees Starts Ends) (λ s n. Goes source F n s) (λ t n. Goes source G n t) k) where
  -- what an end gives back is the same
  same_outcome : (s t : State) (m : ℕ) (l : Leak) (r : Evaluation (List Value)) → Ends s t → result_words f.result s.store ≡ r → outcome_of_words t.memory m l (result_words g.result t.store) ≡ outcome_of_words s.memory m l r
  same_outcome s t m l r e q = ap (λ a. outcome_of_words a m l (result_words g.result t.store)) (memory s t e) ∙ ap (outcome_of_words s.memory m l) (words s t e ∙ q)

  follows : (given : Given) (n : ℕ) (w : Outcome State code.Stuck Leak) → Follows (between_trees Starts Ends) k (Goes source G n (entry_state g given.words given.memory)) w → Follows (alike_where P) k (body_runs G g given n) (outcome_of_body f.result w)
  follows given n _ (has_ended {v} {m} {l} v2 e fit run) = by_words (result_words f.result v.store) refl
    where
      by_words : (r : Evaluation (List Value)) → result_words f.result v.store ≡ r → Follows (alike_where P) k (body_runs G g given n) (outcome_of_words v.memory m l r)
      by_words (stuck w) q = was_stuck (λ x. (w, refl, record { out = End v2 m (map_of k l); goes = run; gives = same_outcome v v2 m (map_of k l) (stuck w) e q }))
      by_words (went ns vs) q = has_ended (record { words = vs; memory = v.memory }) refl fit (record { out = End v2 m (map_of k l); goes = run; gives = same_outcome v v2 m (map_of k l) (went ns vs) e q })
  follows given n _ (was_cut {l} fit run) = was_cut fit (record { out = Cut (map_of k l); goes = run; gives = refl })
  follows given n _ (was_stuck {w} h) = was_stuck (λ x. let a = h tt in (a.0, a.1, record { out = Stuck a.0; goes = a.2; gives = refl }))

  follow : (given : Given) (n : ℕ) (o : FunOutcome) → P given → body_runs F f given n o → Follows (alike_where P) k (body_runs G g given n) o
  follow given n o p r =
      subst (Follows (alike_where P) k (body_runs G g given n)) r.gives
      (follows given n r.out (bodies.forth (entry_state f given.words given.memory) (entry_state g given.words given.memory) n r.out (enters given p) r.goes))

  -- where the other run is stuck, so is the function's
  stuck_back : (given : Given) (n : ℕ) (w2 : code.Stuck) (o : FunOutcome) → body_runs F f given n o → Follows (alike_where P) k (body_runs G g given n) o → body_runs G g given n (Stuck w2) → (w : code.Stuck) × (w ≡ w2) × body_runs F f given n (Stuck w)
  stuck_back given n w2 _ r (has_ended v2 e fit run) b = let q = one_run G g given n _ (Stuck w2) run b in absurd cc
  stuck_back given n w2 _ r (was_cut fit run) b = let q = one_run G g given n _ (Stuck w2) run b in absurd cc
  stuck_back given n w2 _ r (was_stuck {w} h) b =
      let a = h tt in
      let q : Stuck a.0 ≡ Stuck w2 = one_run G g given n (Stuck a.0) (Stuck w2) a.2 b in
      let same : a.0 ≡ w2 = cc in
      (w, a.1 ∙ same, r)

  pub functions_carry : Carries (alike_where P) (body_runs F f) (body_runs G g) k
  functions_carry = record {
    forth = λ given other n o st r. subst (λ (i : Given). Follows (alike_where P) k (body_runs G g i n) o) st.0 (follow given n o st.1 r);
    back = back;
  }
    where
      back : (given other : Given) (n : ℕ) (w2 : code.Stuck) → (given ≡ other) × P given → body_runs G g other n (Stuck w2) → (w : code.Stuck) × (w ≡ w2) × body_runs F f given n (Stuck w)
      back given other n w2 st b =
          let z = some_run F f given n in
          stuck_back given n w2 z.0 z.1 (follow given n z.0 st.1 z.1) (subst (λ (i : Given). body_runs G g i n (Stuck w2)) (sym st.0) b)

-- where nothing is asked of an input
pub always_carry : (F G : Block) (f g : Fun) (k : Change) → Carries (alike_where (λ given. Unit {0})) (body_runs F f) (body_runs G g) k → Carries alike_always (body_runs F f) (body_runs G g) k
always_carry F G f g k h = record { forth = λ given other n o st r. always (h.forth given other n o (st, tt) r); back = λ given other n w2 st b. h.back given other n w2 (st, tt) b }
  where
    always : {Comes : FunOutcome → Type 0} {o : FunOutcome} → Follows (alike_where (λ given. Unit {0})) k Comes o → Follows alike_always k Comes o
    always (has_ended v2 e fit run) = has_ended v2 e fit run
    always (was_cut fit run) = was_cut fit run
    always (was_stuck w) = was_stuck w
