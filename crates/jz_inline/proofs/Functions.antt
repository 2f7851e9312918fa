-- The law of inlining for whole functions.
use Rattle.std.proofs.Common.{◌≡◌, ℕ, List, [], ◌∷◌, refl, ap, sym, ◌∙◌, subst, arith}
use Rattle.jz_tree.specs.Memory.{Memory}
use Rattle.jz_tree.specs.declared.program.Fun.{Fun}
use Rattle.jz_tree.specs.declared.program.Program.{Program}
use Rattle.jz_tree.specs.declared.expr.Var.{Var}
use Rattle.jz_runs.specs.RunLeaks.{Leak}
use Rattle.jz_runs.specs.Trees.{done}
use Rattle.jz_runs.specs.Rules.{stuck, went, Outcome, End, Cut, Stuck, Goes}
use Rattle.jz_runs.proofs.Steady.{one_outcome, has_outcome}
use Rattle.jz_meaning.specs.declared.value.Stuck as code
use Rattle.jz_meaning.specs.Attempts.{Evaluation, and_then, defined}
use Rattle.jz_meaning.specs.States.{Value, Key, State, same_key}
use Rattle.jz_meaning.specs.Values.{key_of, ref_of}
use Rattle.jz_meaning.specs.Shapes.{HoldsSorts}
use Rattle.jz_meaning.specs.Statements.{Block, source}
use Rattle.jz_meaning.specs.Runs.{FunOutcome, IsInput, IsRun, body_of, entry_state, only_word, result_word, result_words, outcome_of_words, outcome_of_body}
use Rattle.jz_change.specs.Changes.{Change, map_of}
use Rattle.jz_change.specs.Fitting.{LeakFits}
use Rattle.jz_pass.specs.Copying.{inlined, inlining}
use Rattle.jz_pass.specs.Laws.{Follows, has_ended, was_cut, was_stuck, Carries}
use Rattle.jz_pass.proofs.Stretches.{Matches, m_end, m_cut, m_stuck, alone}
use Rattle.jz_pass.proofs.Along.{inlined_along, inlining_along}
use Rattle.jz_bodies.specs.Scopes.{Scope, a_scalar, Has, Sets, IsScope}
use Rattle.jz_bodies.specs.Bodies.{IsBody, AreReturned}
use Rattle.jz_inline.specs.Calls.{inline_calls}
use Rattle.jz_inline.specs.Functions.{own_names, inlined_body, inlining_of, Given, IsBodyRun, runs_of, body_runs, alike}
use Rattle.jz_inline.proofs.Copies.{ScopeCopy, key_in, IsBelow, Stands, Within, callee_copy, inline}
use Rattle.jz_inline.proofs.Naming.{sets_has}
use Rattle.jz_inline.proofs.Keeping.{inlining_keeps}

module _ (scopes : Fun → Scope) (p : Program) (f : Fun) (scope : IsScope (scopes f)) (zero : (k : Key) → Has (scopes f) k → k.copy ≡ 0) (body : IsBody scopes (scopes f) (body_of p f)) (returned : AreReturned (scopes f) f.result) where
  abbrev X : ScopeCopy
  X = record { names = own_names; scope = scopes f }

  own_key : (k : Key) → Has X.scope k → key_in own_names k ≡ k
  own_key k h = ap (λ n. record { name = k.name; copy = n; cell = k.cell }) (sym (zero k h))

  below : IsBelow X 1
  below = record { scope = scope; below = λ k h. omega arith; apart = λ k q s h. ap2 k q (own_key k (sets k s)) (own_key q h) }
    where
      sets : (k : Key) → Sets X.scope k → Has X.scope k
      sets k s = sets_has X.scope scope k s

      ap2 : (k q : Key) → key_in own_names k ≡ k → key_in own_names q ≡ q → same_key (key_in own_names k) (key_in own_names q) ≡ same_key k q
      ap2 k q e g = ap (λ v. same_key v (key_in own_names q)) e ∙ ap (same_key k) g

  stands : (s : State) → HoldsSorts X.scope.sorts s.store → Stands X s s
  stands s h = record { agrees = record { store = λ k has. ap s.store (own_key k has); memory = refl }; sorted = h }

  -- the words that are returned
  same_words : (vs : List Var) (s t : State) → AreReturned X.scope vs → Stands X s t → result_words vs t.store ≡ result_words vs s.store
  same_words [] s t r st = refl
  same_words (v ∷ vs) s t r st =
      let k = key_of (ref_of v) in
      let has = a_scalar (ref_of v) r.0 in
      let e : t.store k ≡ s.store k = ap t.store (sym (own_key k has)) ∙ st.agrees.store k has in
      ap (λ o. and_then (and_then (defined (ref_of v).span o) (only_word (ref_of v).span)) (λ w. and_then (result_words vs t.store) (λ ws. went [] (w ∷ ws)))) e
      ∙ ap (λ g. and_then (result_word v s.store) (λ w. and_then g (λ ws. went [] (w ∷ ws)))) (same_words vs s t r.1 st)

  abbrev Told : Change → Outcome State code.Stuck Leak → Outcome State code.Stuck Leak → Type 0
  Told k (End s m l) o = (t : State) × (o ≡ End t m (map_of k l)) × Stands X s t × LeakFits l k
  Told k (Cut l) o = (o ≡ Cut (map_of k l)) × LeakFits l k
  Told k (Stuck w) o = o ≡ Stuck w

  forth : {n : ℕ} {s : State} {w : Outcome State code.Stuck Leak} → Matches source (inlined (inline scopes) X 1 (body_of p f)) n s (inlining (inline scopes) X 1 (body_of p f)) (λ s1 t1. Stands X s1 t1 × Within X 1 s t1) w →
      (o : Outcome State code.Stuck Leak) × Goes source (inlined (inline scopes) X 1 (body_of p f) done) n s o × Told (inlining (inline scopes) X 1 (body_of p f)) w o
  forth (m_end {m} t1 r ft wh on) = (End t1 m _, alone source on, (t1, refl, r.0, ft))
  forth (m_cut ft wh stop) = (Cut _, stop done, (refl, ft))
  forth (m_stuck stop) = (Stuck _, stop done, refl)

  abbrev Body : Block
  Body = inlined_body p f

  abbrev K : Change
  K = inlining_of p f

  -- each run of the function's body is one of the other body
  pub carried : (n : ℕ) (s : State) (w : Outcome State code.Stuck Leak) → HoldsSorts X.scope.sorts s.store → Goes source (body_of p f) n s w → (o : Outcome State code.Stuck Leak) × Goes source Body n s o × Told K w o
  carried n s w h g =
      let z = forth (inlining_keeps scopes g X 1 s body below (stands s h)) in
      let t = inlined_along inline_calls (λ y. y.names) (callee_copy scopes) (λ x c q. refl) (body_of p f) X 1 done in
      let k = inlining_along inline_calls (λ y. y.names) (callee_copy scopes) (λ x c q. refl) (body_of p f) X 1 in
      (z.0, subst (λ y. Goes source y n s z.0) t z.1, subst (λ y. Told y w z.0) k z.2)

  -- what the function gives back is the same
  same_outcome : (s t : State) (m : ℕ) (l : Leak) (r : Evaluation (List Value)) → Stands X s t → result_words f.result s.store ≡ r → outcome_of_words t.memory m l (result_words f.result t.store) ≡ outcome_of_words s.memory m l r
  same_outcome s t m l r st q = ap (λ a. outcome_of_words a m l (result_words f.result t.store)) st.agrees.memory ∙ ap (outcome_of_words s.memory m l) (same_words f.result s t returned st ∙ q)

  follows : (given : Given) (n : ℕ) (w o : Outcome State code.Stuck Leak) → Goes source Body n (entry_state f given.words given.memory) o → Told K w o → Follows (alike p f) K (body_runs Body f given n) (outcome_of_body f.result w)
  follows given n (End s m l) o g (t, is, st, fit) = by_words (result_words f.result s.store) refl
    where
      by_words : (r : Evaluation (List Value)) → result_words f.result s.store ≡ r → Follows (alike p f) K (body_runs Body f given n) (outcome_of_words s.memory m l r)
      by_words (stuck w) q = was_stuck (λ e. (w, refl, record { out = End t m (map_of K l); goes = subst (Goes source Body n (entry_state f given.words given.memory)) is g; gives = same_outcome s t m (map_of K l) (stuck w) st q }))
      by_words (went ns vs) q = has_ended (record { words = vs; memory = s.memory }) refl fit (record { out = End t m (map_of K l); goes = subst (Goes source Body n (entry_state f given.words given.memory)) is g; gives = same_outcome s t m (map_of K l) (went ns vs) st q })
  follows given n (Cut l) o g (is, fit) = was_cut fit (record { out = Cut (map_of K l); goes = subst (Goes source Body n (entry_state f given.words given.memory)) is g; gives = refl })
  follows given n (Stuck w) o g is = was_stuck (λ e. (w, refl, record { out = Stuck w; goes = subst (Goes source Body n (entry_state f given.words given.memory)) is g; gives = refl }))

  one_run : (given : Given) (n : ℕ) (o q : FunOutcome) → IsBodyRun Body f given n o → IsBodyRun Body f given n q → o ≡ q
  one_run given n o q a b = sym a.gives ∙ ap (outcome_of_body f.result) (one_outcome source a.goes b.goes) ∙ b.gives

  -- where the other run is stuck, so is the function's
  stuck_back : (given : Given) (n : ℕ) (w2 : code.Stuck) (o : FunOutcome) → runs_of p f given n o → Follows (alike p f) K (body_runs Body f given n) o → body_runs Body f given n (Stuck w2) → (w : code.Stuck) × (w ≡ w2) × runs_of p f given n (Stuck w)
  stuck_back given n w2 _ r (has_ended v2 e fit run) b = let q = one_run given n _ (Stuck w2) run b in absurd cc
  stuck_back given n w2 _ r (was_cut fit run) b = let q = one_run given n _ (Stuck w2) run b in absurd cc
  stuck_back given n w2 _ r (was_stuck {w} h) b =
      let a = h tt in
      let q : Stuck a.0 ≡ Stuck w2 = one_run given n (Stuck a.0) (Stuck w2) a.2 b in
      let same : a.0 ≡ w2 = cc in
      (w, a.1 ∙ same, r)

  module _ (entered : (words : List Value) (memory : Memory) → IsInput p f words → HoldsSorts X.scope.sorts (entry_state f words memory).store) where
    follow : (given : Given) (n : ℕ) (o : FunOutcome) → runs_of p f given n o → Follows (alike p f) K (body_runs Body f given n) o
    follow given n o r =
        let c = carried n (entry_state f given.words given.memory) r.out (entered given.words given.memory r.input) r.goes in
        subst (Follows (alike p f) K (body_runs Body f given n)) r.gives (follows given n r.out c.0 c.1 c.2)

    pub carries : Carries (alike p f) (runs_of p f) (body_runs Body f) K
    carries = record {
      forth = λ given other n o st r. subst (λ (i : Given). Follows (alike p f) K (body_runs Body f i n) o) st.0 (follow given n o r);
      back = back_stuck;
    }
      where
        back_stuck : (given other : Given) (n : ℕ) (w2 : code.Stuck) → (given ≡ other) × IsInput p f given.words → body_runs Body f other n (Stuck w2) → (w : code.Stuck) × (w ≡ w2) × runs_of p f given n (Stuck w)
        back_stuck given other n w2 st b =
            let z = has_outcome source (body_of p f) n (entry_state f given.words given.memory) in
            let r : IsRun p f given.words given.memory n (outcome_of_body f.result z.0) = record { input = st.1; out = z.0; goes = z.1; gives = refl } in
            stuck_back given n w2 (outcome_of_body f.result z.0) r (follow given n (outcome_of_body f.result z.0) r) (subst (λ (i : Given). body_runs Body f i n (Stuck w2)) (sym st.0) b)
