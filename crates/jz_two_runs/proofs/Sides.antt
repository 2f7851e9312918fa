-- Two runs that go together are two runs, and these leak the same.
use Rattle.std.proofs.Common.{◌≡◌, ℕ, ℤ, Bool, true, false, if◌then◌else◌, List, ◌∷◌, refl, sym, subst}
use Rattle.std.specs.Prelude.{⊤}
use Rattle.jz_leak.specs.RunLeaks as leak
use Rattle.jz_leak.specs.RunLeaks.{Leak, Turns, Rounds}
use Rattle.jz_runs.specs.Trees.{Tree, op, quiet, choose, loop, each, call}
use Rattle.jz_runs.specs.Rules.{went, Parts, Outcome, End, Cut, Stuck, after, Goes, finished, did, did_not, quieted, chosen, chosen_cut, chosen_stuck, chose_not, loop_left, loop_cut, loop_stuck, counted, counted_cut, counted_stuck, counted_not, call_ended, call_cut, call_stuck, entered_not, left_not, Loops, in_prologue, prologue_stuck, tested_not, leaves_loop, no_turn, in_body, body_stuck, more_turns, Counts, no_count, more_counts, count_cut, count_stuck}
use Rattle.jz_runs.proofs.Steady.{one_outcome}
use Rattle.jz_two_runs.specs.Two.{two, same_answer, same_values, NotStuck, GoTogether, SameLeak}
use Rattle.jz_two_runs.proofs.Comparing.{both_went, both_alike, answers_same, values_same}

-- what is no stuck run, with its state as f sees it
abbrev Sees : {S Z V W L : Type 0} → (S → Z) → (Outcome Z W L → Type 0) → Outcome S V L → Type 0
Sees f G (End s n l) = G (End (f s) n l)
Sees f G (Cut l) = G (Cut l)
Sees f G (Stuck w) = ⊤

sees_after : {S Z V W L K : Type 0} (f : S → Z) (A : L → K) (G : Outcome Z W L → Type 0) (H : Outcome Z W K → Type 0) → ((o : Outcome Z W L) → G o → H (after A o)) → (o : Outcome S V L) → Sees f G o → Sees f H (after A o)
sees_after f A G H go (End s n l) g = go _ g
sees_after f A G H go (Cut l) g = go _ g
sees_after f A G H go (Stuck w) g = tt

-- what goes in P goes in M
record Projects {O T F C S Z V W : Type 0} (P : Parts O T F C S V) (M : Parts O T F C Z W) (f : S → Z) : Type 0 where
  does : (o : O) (s s1 : S) (ns : List ℕ) → P.does o s ≡ went ns s1 → M.does o (f s) ≡ went ns (f s1)
  quiets : (o : O) (s : S) → f (P.quiets o s) ≡ M.quiets o (f s)
  tests : (p : T) (s : S) (ns : List ℕ) (z : Bool) → P.tests p s ≡ went ns z → M.tests p (f s) ≡ went ns z
  settled : (p : T) (s : S) → f (P.settled p s) ≡ M.settled p (f s)
  counts : (c : F) (s : S) (ns : List ℕ) (is : List ℤ) → P.counts c s ≡ went ns is → M.counts c (f s) ≡ went ns is
  begins : (c : F) (i : ℤ) (s : S) → f (P.begins c i s) ≡ M.begins c i (f s)
  restores : (c : F) (s t : S) → f (P.restores c s t) ≡ M.restores c (f s) (f t)
  enters : (q : C) (s s1 : S) (ns : List ℕ) → P.enters q s ≡ went ns s1 → M.enters q (f s) ≡ went ns (f s1)
  leaves : (q : C) (s t s1 : S) (ns : List ℕ) → P.leaves q s t ≡ went ns s1 → M.leaves q (f s) (f t) ≡ went ns (f s1)

module _ {O T F C S Z V W : Type 0} (P : Parts O T F C S V) (M : Parts O T F C Z W) (f : S → Z) (L : Projects P M f) where
  abbrev G : Tree O T F C → ℕ → Z → Outcome Z W Leak → Type 0
  G b n s o = Goes M b n s o

  mutual
    goes : {b : Tree O T F C} {n : ℕ} {s : S} {o : Outcome S V Leak} → Goes P b n s o → Sees f (G b n (f s)) o
    goes finished = finished
    goes {n} {s} (did {o} {r} {s1} {ns} {w} q g) = sees_after f (leak.ran ns) (G r n (f s1)) (G (op o r) n (f s)) (λ v h. did (L.does o s s1 ns q) h) w (goes g)
    goes (did_not q) = tt
    goes {n} {s} (quieted {o} {r} {w} g) = as_quiet w (goes g)
      where
        as_quiet : (w : Outcome S V Leak) → Sees f (G r n (f (P.quiets o s))) w → Sees f (G (quiet o r) n (f s)) w
        as_quiet (End t m l) h = quieted (subst (λ x. G r n x (End (f t) m l)) (L.quiets o s) h)
        as_quiet (Cut l) h = quieted (subst (λ x. G r n x (Cut l)) (L.quiets o s) h)
        as_quiet (Stuck v) h = tt
    goes {n} {s} (chosen {c} {a} {b} {r} {m} {s1} {ns} {z} {l} {w} q g h) =
        let arm : G (if z then a else b) n (M.settled c (f s)) (End (f s1) m l) = subst (λ x. G (if z then a else b) n x (End (f s1) m l)) (L.settled c s) (goes g) in
        sees_after f (leak.chose ns z l) (G r m (f s1)) (G (choose c a b r) n (f s)) (λ v k. chosen (L.tests c s ns z q) arm k) w (goes h)
    goes {n} {s} (chosen_cut {c} {a} {b} {ns} {z} {l} q g) = chosen_cut (L.tests c s ns z q) (subst (λ x. G (if z then a else b) n x (Cut l)) (L.settled c s) (goes g))
    goes (chosen_stuck q g) = tt
    goes (chose_not q) = tt
    goes {n} {s} (loop_left {q} {p} {c} {b} {r} {m} {s1} {ts} {w} g h) = let k = loops g in sees_after f (leak.looped ts) (G r m (f s1)) (G (loop q p c b r) n (f s)) (λ v i. loop_left k i) w (goes h)
    goes (loop_cut g) = loop_cut (loops g)
    goes (loop_stuck g) = tt
    goes {n} {s} (counted {f = c} {b} {r} {m} {s1} {ns} {is} {ls} {w} q g h) =
        let k = counts g in
        sees_after f (leak.each ls) (G r m (f (P.restores c s s1))) (G (each c b r) n (f s)) (λ v i. counted (L.counts c s ns is q) k (subst (λ x. G r m x v) (L.restores c s s1) i)) w (goes h)
    goes {s} (counted_cut {f = c} {ns} {is} q g) = counted_cut (L.counts c s ns is q) (counts g)
    goes (counted_stuck q g) = tt
    goes (counted_not q) = tt
    goes {n} {s} (call_ended {c} {b} {r} {m} {s1} {s2} {s3} {ns} {ms} {l} {w} q g k h) =
        let i = goes g in sees_after f (leak.called ns l ms) (G r m (f s3)) (G (call c b r) n (f s)) (λ v j. call_ended (L.enters c s s1 ns q) i (L.leaves c s s2 s3 ms k) j) w (goes h)
    goes {s} (call_cut {c} {s1} {ns} q g) = call_cut (L.enters c s s1 ns q) (goes g)
    goes (call_stuck q g) = tt
    goes (entered_not q) = tt
    goes (left_not q g k) = tt

    loops : {p : Tree O T F C} {c : T} {b : Tree O T F C} {n : ℕ} {s : S} {o : Outcome S V Turns} → Loops P p c b n s o → Sees f (λ o. Loops M p c b n (f s) o) o
    loops (in_prologue g) = in_prologue (goes g)
    loops (prologue_stuck g) = tt
    loops (tested_not g q) = tt
    loops {p} {c} {b} {n} {s} (leaves_loop {m} {s1} {ns} {l} g q) = subst (λ x. Loops M p c b n (f s) (End x m (leak.left l ns))) (sym (L.settled c s1)) (leaves_loop (goes g) (L.tests c s1 ns false q))
    loops {c} (no_turn {s1} {ns} g q) = no_turn (goes g) (L.tests c s1 ns true q)
    loops {c} {b} (in_body {m} {s1} {ns} {lb} g q h) = in_body (goes g) (L.tests c s1 ns true q) (subst (λ x. G b m x (Cut lb)) (L.settled c s1) (goes h))
    loops (body_stuck g q h) = tt
    loops {p} {c} {b} {n} {s} (more_turns {m} {m2} {s1} {s2} {ns} {l} {lb} {w} g q h k) =
        let first = goes g in let body : G b m (M.settled c (f s1)) (End (f s2) m2 lb) = subst (λ x. G b m x (End (f s2) m2 lb)) (L.settled c s1) (goes h) in
        sees_after f (leak.turn l ns lb) (λ o. Loops M p c b m2 (f s2) o) (λ o. Loops M p c b n (f s) o) (λ v i. more_turns first (L.tests c s1 ns true q) body i) w (loops k)

    counts : {c : F} {b : Tree O T F C} {is : List ℤ} {n : ℕ} {s : S} {o : Outcome S V Rounds} → Counts P c b is n s o → Sees f (λ o. Counts M c b is n (f s) o) o
    counts no_count = no_count
    counts {c} {b} {n} {s} (more_counts {i} {is} {m} {s1} {l} {w} g h) =
        let body : G b n (M.begins c i (f s)) (End (f s1) m l) = subst (λ x. G b n x (End (f s1) m l)) (L.begins c i s) (goes g) in
        sees_after f (leak.round l) (λ o. Counts M c b is m (f s1) o) (λ o. Counts M c b (i ∷ is) n (f s) o) (λ v k. more_counts body k) w (counts h)
    counts {c} {b} {n} {s} (count_cut {i} {l} g) = count_cut (subst (λ x. G b n x (Cut l)) (L.begins c i s) (goes g))
    counts (count_stuck g) = tt

-- ---- the two sides

module _ {O T F C S W : Type 0} (M : Parts O T F C S W) where
  one_side : Projects (two M) M (λ s. s.0)
  one_side = record {
    does = λ o s s1 ns e. (both_went (M.does o s.0) (M.does o s.1) ns s1 e).0;
    quiets = λ o s. refl;
    tests = λ p s ns z e. (both_alike same_answer answers_same (M.tests p s.0) (M.tests p s.1) ns z e).0;
    settled = λ p s. refl;
    counts = λ c s ns is e. (both_alike same_values values_same (M.counts c s.0) (M.counts c s.1) ns is e).0;
    begins = λ c i s. refl;
    restores = λ c s t. refl;
    enters = λ q s s1 ns e. (both_went (M.enters q s.0) (M.enters q s.1) ns s1 e).0;
    leaves = λ q s t s1 ns e. (both_went (M.leaves q s.0 t.0) (M.leaves q s.1 t.1) ns s1 e).0;
  }

  other_side : Projects (two M) M (λ s. s.1)
  other_side = record {
    does = λ o s s1 ns e. (both_went (M.does o s.0) (M.does o s.1) ns s1 e).1;
    quiets = λ o s. refl;
    tests = λ p s ns z e. (both_alike same_answer answers_same (M.tests p s.0) (M.tests p s.1) ns z e).1;
    settled = λ p s. refl;
    counts = λ c s ns is e. (both_alike same_values values_same (M.counts c s.0) (M.counts c s.1) ns is e).1;
    begins = λ c i s. refl;
    restores = λ c s t. refl;
    enters = λ q s s1 ns e. (both_went (M.enters q s.0) (M.enters q s.1) ns s1 e).1;
    leaves = λ q s t s1 ns e. (both_went (M.leaves q s.0 t.0) (M.leaves q s.1 t.1) ns s1 e).1;
  }

  -- what goes together leaks the same
  pub leaks_same : {b : Tree O T F C} {n : ℕ} {s t : S} → GoTogether M b n s t → (o q : Outcome S W Leak) → Goes M b n s o → Goes M b n t q → SameLeak o q
  leaks_same {b} {n} {s} {t} h o q g k = by_outcome h.out (goes (two M) M (λ p. p.0) one_side h.goes) (goes (two M) M (λ p. p.1) other_side h.goes) h.whole
    where
      by_outcome : (x : Outcome (S × S) ⊤ Leak) → Sees (λ p. p.0) (λ v. Goes M b n s v) x → Sees (λ p. p.1) (λ v. Goes M b n t v) x → NotStuck x → SameLeak {S = S} {V = S} o q
      by_outcome (End p m l) a c w = subst (λ (v : Outcome S W Leak). SameLeak v q) (one_outcome M a g) (subst (λ (v : Outcome S W Leak). SameLeak (End p.0 m l) v) (one_outcome M c k) (refl, refl))
      by_outcome (Cut l) a c w = subst (λ (v : Outcome S W Leak). SameLeak v q) (one_outcome M a g) (subst (λ (v : Outcome S W Leak). SameLeak {S = S} {V = S} (Cut l) v) (one_outcome M c k) refl)
      by_outcome (Stuck v) a c w = absurd w
