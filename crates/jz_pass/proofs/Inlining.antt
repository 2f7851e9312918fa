-- Inlining keeps the runs.
use Rattle.std.proofs.Common.{◌≡◌, ℕ, suc, ◌+◌, ◌≤◌, Bool, true, false, List, [], ℤ, refl, sym, ◌∙◌, subst, arith}
use Rattle.jz_leak.specs.RunLeaks.{Leak, over, ran, chose, looped, looped_cut, each as each_leak, each_cut, called, Turns, Rounds}
use Rattle.jz_runs.specs.Trees.{Tree, done, op, quiet, choose, loop, each}
use Rattle.jz_runs.specs.Rules.{Parts, Attempt, stuck, went, Outcome, End, Cut, Stuck, after, Goes, finished, did, did_not, quieted, chosen, chosen_cut, chosen_stuck, chose_not, loop_left, loop_cut, loop_stuck, counted, counted_cut, counted_stuck, counted_not, call_ended, call_cut, call_stuck, entered_not, left_not, Loops, in_prologue, prologue_stuck, tested_not, leaves_loop, no_turn, in_body, body_stuck, more_turns, Counts, no_count, more_counts, count_cut, count_stuck}
use Rattle.jz_change.specs.declared.change.Numbers.TheVariants.{Same}
use Rattle.jz_change.specs.Changes.{Change, stays_while, stays_for, operations, map_before, map_turns, map_each}
use Rattle.jz_change.specs.Fitting.{fits_over, fits_ran, fits_if, fits_if_cut, fits_while, fits_while_cut, fits_for, fits_for_cut, fits_opened, fits_opened_cut, turns_left, turns_prologue_cut, turns_wanted, turns_body_cut, same_none, same_cut}
use Rattle.jz_pass.specs.Operations.{in_turn}
use Rattle.jz_pass.specs.Copying.{Copying, copies, inlined, inlining}
use Rattle.jz_pass.specs.Keeping.{Alike, both_stuck, both_went, IsOf, Keeps}
use Rattle.jz_pass.proofs.Stretches.{after_none, none_there, same_there, leads_on, alone, all_there, ops_lead, ops_stop, quiet_leads, Matches, m_end, m_cut, m_stuck, ended, cut_so, stuck_so, weaken, goes_through, LoopMatches, l_end, l_cut, l_stuck, one_turn, EachMatches, c_end, c_cut, c_stuck, one_round}

-- what is alike, by what it is of the first
abbrev Given : {W A B : Type 0} → (A → B → Type 0) → Attempt W A → Attempt W B → Type 0
Given P (stuck w) g = g ≡ stuck w
Given {B} P (went ns a) g = (b : B) × (g ≡ went ns b) × P a b

given : {W A B : Type 0} {P : A → B → Type 0} {f : Attempt W A} {g : Attempt W B} → Alike P f g → Given P f g
given both_stuck = refl
given (both_went {b} p) = (b, refl, p)

module _ {O T F C S W X : Type 0} (M : Parts O T F C S W) (K : Copying O T F C X) (L : Keeps M K) where
  abbrev Body : Type 0
  Body = Tree O T F C

  abbrev Of : X → Body → Type 0
  Of = IsOf K L.OpIn L.TestIn L.CounterIn L.CallIn

  -- at the end
  abbrev Stands : X → ℕ → S → S → S → Type 0
  Stands x c t s1 t1 = L.At x s1 t1 × L.Within x c t t1

  further : (x : X) (c d : ℕ) (t t1 : S) → c ≤ d → L.Within x c t t1 → (s2 t2 : S) → Stands x d t1 s2 t2 → Stands x c t s2 t2
  further x c d t t1 le w s2 t2 p = (p.0, L.within_both x c t t1 t2 w (L.within_less x c d t1 t2 le p.1))

  op_went : (x : X) (c : ℕ) (o : O) (s t s1 : S) (ns : List ℕ) → L.OpIn x o → L.Below x c → L.At x s t → M.does o s ≡ went ns s1 → (t1 : S) × (M.does (K.op_in x o) t ≡ went ns t1) × Stands x c t s1 t1
  op_went x c o s t s1 ns i b a q = subst (λ f. Given (λ s1 t1. L.At x s1 t1 × L.Within x c t t1) f (M.does (K.op_in x o) t)) q (given (L.op_same x c o s t i b a))

  op_stuck : (x : X) (c : ℕ) (o : O) (s t : S) (w : W) → L.OpIn x o → L.Below x c → L.At x s t → M.does o s ≡ stuck w → M.does (K.op_in x o) t ≡ stuck w
  op_stuck x c o s t w i b a q = subst (λ f. Given (λ s1 t1. L.At x s1 t1 × L.Within x c t t1) f (M.does (K.op_in x o) t)) q (given (L.op_same x c o s t i b a))

  through_loop : {p b : Body} {v : T} {g : Body → Body} {n m : ℕ} {kp kb k : Change} {Fate : W → Type 0} {ts : Turns} {s1 : S} {w : Outcome S W Leak} (q : Bool) (x : X) (c c1 d : ℕ) (t : S) → c ≤ d → LoopMatches M p v b n t kp [] Same kb (Stands x c t) Fate (End s1 m ts) →
      ((t1 : S) → L.At x s1 t1 → Matches M g m t1 k (Stands x d t1) w) → Matches M (λ rest. loop q p v b (g rest)) n t (stays_while kp [] Same kb k) (Stands x c t) (after (looped ts) w)
  through_loop {p} {b} {v} {g} {kp} {kb} {ts} q x c c1 d t le (l_end t1 r ft wh run) f =
      goes_through M (loop q p v b) g (looped (map_turns ts kp [] Same kb)) (looped ts) (λ rest w h. loop_left run h) (λ l next. refl) (λ l f. fits_while wh ft f) (λ l. refl)
      (weaken M (further x c d t t1 le r.1) (f t1 r.0))

  halted_loop : {p b : Body} {v : T} {g : Body → Body} {n : ℕ} {t : S} {kp kb k : Change} {Fate : W → Type 0} {ts : Turns} {P Q : S → S → Type 0} (q : Bool) → LoopMatches M p v b n t kp [] Same kb P Fate (Cut ts) → Matches M (λ rest. loop q p v b (g rest)) n t (stays_while kp [] Same kb k) Q (Cut (looped_cut ts))
  halted_loop q (l_cut ft wh run) = m_cut (fits_while_cut wh ft) refl (λ rest. loop_cut run)

  failed_loop : {p b : Body} {v : T} {g : Body → Body} {n : ℕ} {t : S} {kp kb k : Change} {e : W} {P Q : S → S → Type 0} (q : Bool) → LoopMatches M p v b n t kp [] Same kb P (λ w. Loops M p v b n t (Stuck w)) (Stuck e) → Matches M (λ rest. loop q p v b (g rest)) n t (stays_while kp [] Same kb k) Q (Stuck e)
  failed_loop q (l_stuck run) = m_stuck (λ rest. loop_stuck run)

  through_each : {b : Body} {g : Body → Body} {n m : ℕ} {kb k : Change} {ns : List ℕ} {is : List ℤ} {rs : Rounds} {s1 : S} {w : Outcome S W Leak} (x : X) (c d : ℕ) (f : F) (t s : S) → c ≤ d → L.CounterIn x f → L.Below x c → L.At x s t →
      M.counts (K.counter_in x f) t ≡ went ns is → EachMatches M (K.counter_in x f) b is n t kb (Stands x c t) (End s1 m rs) →
      ((t1 : S) → L.At x (M.restores f s s1) t1 → Matches M g m t1 k (Stands x d t1) w) → Matches M (λ rest. each (K.counter_in x f) b (g rest)) n t (stays_for kb k) (Stands x c t) (after (each_leak rs) w)
  through_each {b} {g} {kb} {rs} {s1} x c d f t s le i lt a q (c_end t1 r ft wh run) h =
      let z = L.restores_same x c f s t s1 t1 i lt a r.0 in
      let t2 = M.restores (K.counter_in x f) t t1 in
      goes_through M (each (K.counter_in x f) b) g (each_leak (map_each rs kb)) (each_leak rs) (λ rest w y. counted q run y) (λ l next. refl) (λ l f. fits_for wh ft f) (λ l. refl)
      (weaken M (further x c d t t2 le (L.within_both x c t t1 t2 r.1 z.1)) (h t2 z.0))

  halted_each : {f : F} {b : Body} {g : Body → Body} {n : ℕ} {t : S} {kb k : Change} {ns : List ℕ} {is : List ℤ} {rs : Rounds} {P Q : S → S → Type 0} → M.counts f t ≡ went ns is → EachMatches M f b is n t kb P (Cut rs) → Matches M (λ rest. each f b (g rest)) n t (stays_for kb k) Q (Cut (each_cut rs))
  halted_each q (c_cut ft wh run) = m_cut (fits_for_cut wh ft) refl (λ rest. counted_cut q run)

  failed_each : {f : F} {b : Body} {g : Body → Body} {n : ℕ} {t : S} {kb k : Change} {ns : List ℕ} {is : List ℤ} {e : W} {P Q : S → S → Type 0} → M.counts f t ≡ went ns is → EachMatches M f b is n t kb P (Stuck e) → Matches M (λ rest. each f b (g rest)) n t (stays_for kb k) Q (Stuck e)
  failed_each q (c_stuck run) = m_stuck (λ rest. counted_stuck q run)

  mutual
    pub matches : {b : Body} {n : ℕ} {s : S} {w : Outcome S W Leak} → Goes M b n s w → (x : X) (c : ℕ) (t : S) → Of x b → L.Below x c → L.At x s t → Matches M (inlined K x c b) n t (inlining K x c b) (Stands x c t) w
    matches finished x c t i lt a = m_end t (a, L.within_none x c t) fits_over refl (λ rest w run. subst (Goes M rest _ t) (sym (after_none w)) run)
    matches {s} (did {o} {r} {s1} {ns} q g) x c t i lt a =
        let e = op_went x c o s t s1 ns i.0 lt a q in
        goes_through M (op (K.op_in x o)) (inlined K x c r) (ran ns) (ran ns) (λ rest w run. did e.1 run) (λ l k. refl) (λ l f. fits_ran (same_there ns) f) (λ l. refl)
        (weaken M (further x c c t e.0 (omega arith) e.2.1) (matches g x c e.0 i.1 lt e.2.0))
    matches {s} (did_not {o} {w} q) x c t i lt a = m_stuck (λ rest. did_not (op_stuck x c o s t w i.0 lt a q))
    matches (quieted g) x c t i lt a = absurd i
    matches {s} (chosen {c = p} {a = b1} {b = b2} {r} {ns} {z = true} {l} q g h) x c t i lt a =
        let y = L.settled_same x c p s t i.0 lt a in
        let t0 = M.settled (K.test_in x p) t in
        let j = ended M (matches g x c t0 i.1 lt y.0) in
        let d = c + copies b1 + copies b2 in
        goes_through M (choose (K.test_in x p) (inlined K x c b1 done) (inlined K x (c + copies b1) b2 done)) (inlined K x d r) (chose ns true (map_before l (inlining K x c b1) over)) (chose ns true l)
        (λ rest w run. chosen (L.test_same x p s t i.0 a ∙ q) (alone M j.on) run) (λ l k. refl) (λ l f. fits_if (none_there ns) tt j.whole j.fits f) (λ l. refl)
        (weaken M (further x c d t j.at (omega arith) (L.within_both x c t t0 j.at y.1 j.relates.1)) (matches h x d j.at i.3 (L.below_more x c d (omega arith) lt) j.relates.0))
    matches {s} (chosen {c = p} {a = b1} {b = b2} {r} {ns} {z = false} {l} q g h) x c t i lt a =
        let y = L.settled_same x c p s t i.0 lt a in
        let t0 = M.settled (K.test_in x p) t in
        let d = c + copies b1 + copies b2 in let c1 = c + copies b1 in
        let j = ended M (matches g x c1 t0 i.2 (L.below_more x c c1 (omega arith) lt) y.0) in
        goes_through M (choose (K.test_in x p) (inlined K x c b1 done) (inlined K x c1 b2 done)) (inlined K x d r) (chose ns false (map_before l (inlining K x c1 b2) over)) (chose ns false l)
        (λ rest w run. chosen (L.test_same x p s t i.0 a ∙ q) (alone M j.on) run) (λ l k. refl) (λ l f. fits_if (none_there ns) tt j.whole j.fits f) (λ l. refl)
        (weaken M (further x c d t j.at (omega arith) (L.within_both x c t t0 j.at y.1 (L.within_less x c c1 t0 j.at (omega arith) j.relates.1))) (matches h x d j.at i.3 (L.below_more x c d (omega arith) lt) j.relates.0))
    matches {s} (chosen_cut {c = p} {a = b1} {ns} {z = true} q g) x c t i lt a =
        let j = cut_so M (matches g x c (M.settled (K.test_in x p) t) i.1 lt (L.settled_same x c p s t i.0 lt a).0) in
        m_cut (fits_if_cut (none_there ns) tt j.1 j.0) refl (λ rest. chosen_cut (L.test_same x p s t i.0 a ∙ q) (j.2 done))
    matches {s} (chosen_cut {c = p} {a = b1} {ns} {z = false} q g) x c t i lt a =
        let c1 = c + copies b1 in
        let j = cut_so M (matches g x c1 (M.settled (K.test_in x p) t) i.2 (L.below_more x c c1 (omega arith) lt) (L.settled_same x c p s t i.0 lt a).0) in
        m_cut (fits_if_cut (none_there ns) tt j.1 j.0) refl (λ rest. chosen_cut (L.test_same x p s t i.0 a ∙ q) (j.2 done))
    matches {s} (chosen_stuck {c = p} {z = true} q g) x c t i lt a =
        let j = stuck_so M (matches g x c (M.settled (K.test_in x p) t) i.1 lt (L.settled_same x c p s t i.0 lt a).0) in m_stuck (λ rest. chosen_stuck (L.test_same x p s t i.0 a ∙ q) (j done))
    matches {s} (chosen_stuck {c = p} {a = b1} {z = false} q g) x c t i lt a =
        let c1 = c + copies b1 in
        let j = stuck_so M (matches g x c1 (M.settled (K.test_in x p) t) i.2 (L.below_more x c c1 (omega arith) lt) (L.settled_same x c p s t i.0 lt a).0) in
        m_stuck (λ rest. chosen_stuck (L.test_same x p s t i.0 a ∙ q) (j done))
    matches {s} (chose_not {c = p} q) x c t i lt a = m_stuck (λ rest. chose_not (L.test_same x p s t i.0 a ∙ q))
    matches (loop_left {q} {p} {c = v} {b} {r} {ts} g h) x c t i lt a =
        let c1 = c + copies p in let d = c1 + copies b in
        through_loop q x c c1 d t (omega arith) (loops g x c c1 t (omega arith) i.1 i.2 i.0 lt a) (λ t1 a1. matches h x d t1 i.3 (L.below_more x c d (omega arith) lt) a1)
    matches (loop_cut {q} {p} {c = v} {b} {r} g) x c t i lt a = let c1 = c + copies p in halted_loop q (loops g x c c1 t (omega arith) i.1 i.2 i.0 lt a)
    matches (loop_stuck {q} {p} {c = v} {b} {r} g) x c t i lt a = let c1 = c + copies p in failed_loop q (loops g x c c1 t (omega arith) i.1 i.2 i.0 lt a)
    matches {s} (counted {f} {b} {r} {s1} {ls} q g h) x c t i lt a =
        let d = c + copies b in
        through_each x c d f t s (omega arith) i.0 lt a (L.counts_same x f s t i.0 a ∙ q) (rounds g x c t i.1 i.0 lt a) (λ t1 a1. matches h x d t1 i.2 (L.below_more x c d (omega arith) lt) a1)
    matches {s} (counted_cut {f} q g) x c t i lt a = halted_each (L.counts_same x f s t i.0 a ∙ q) (rounds g x c t i.1 i.0 lt a)
    matches {s} (counted_stuck {f} q g) x c t i lt a = failed_each (L.counts_same x f s t i.0 a ∙ q) (rounds g x c t i.1 i.0 lt a)
    matches {s} (counted_not {f} q) x c t i lt a = m_stuck (λ rest. counted_not (L.counts_same x f s t i.0 a ∙ q))
    matches {s} (call_ended {c = v} {b} {r} {s1} {s2} {s3} {ns} {ms} {l} q g k h) x c t i lt a =
        let y = K.callee x c v in let c1 = suc c in let d = c1 + copies b in
        let e = L.entered x c v s t s1 ns i.0 lt a q in
        let t2 = M.quiets (K.mark x c v) e.0 in
        let j = ended M (matches g y c1 t2 (i.1 c) (L.callee_below x c v i.0 lt) e.2) in
        let w2 = L.within_both y c1 t t2 j.at e.3 j.relates.1 in
        let z = L.left x c v s t s2 j.at s3 ms i.0 lt a w2 j.relates.0 k in
        let T1 : Body → Body = in_turn (K.arguments x c v) in let T2 : Body → Body = quiet (K.mark x c v) in let T3 : Body → Body = inlined K y c1 b in let T4 : Body → Body = in_turn (K.results x c v) in
        let A1 : Leak → Leak = operations (K.argument_items x v) ns in let A3 : Leak → Leak = map_before l (inlining K y c1 b) in let A4 : Leak → Leak = operations (K.result_items x v) ms in
        goes_through M (λ rest. T1 (T2 (T3 (T4 rest)))) (inlined K x d r) (λ next. A1 (A3 (A4 next))) (called ns l ms)
        (leads_on M T1 (λ rest. T2 (T3 (T4 rest))) A1 (λ next. A3 (A4 next)) (ops_lead M e.1)
        (leads_on M T2 (λ rest. T3 (T4 rest)) (λ next. next) (λ next. A3 (A4 next)) (quiet_leads M (K.mark x c v)) (leads_on M T3 T4 A3 A4 j.on (ops_lead M z.1))))
        (λ l2 next. refl) (λ l2 f2. fits_opened (all_there M e.1) j.whole j.fits (all_there M z.1) f2) (λ l2. refl)
        (weaken M (further x c d t z.0 (omega arith) (L.within_both x c t j.at z.0 (L.callee_within x c v t j.at i.0 lt w2) z.3)) (matches h x d z.0 i.2 (L.below_more x c d (omega arith) lt) z.2))
    matches {s} (call_cut {c = v} {b} {s1} {ns} {l} q g) x c t i lt a =
        let y = K.callee x c v in let c1 = suc c in
        let e = L.entered x c v s t s1 ns i.0 lt a q in
        let t2 = M.quiets (K.mark x c v) e.0 in
        let j = cut_so M (matches g y c1 t2 (i.1 c) (L.callee_below x c v i.0 lt) e.2) in
        m_cut (fits_opened_cut (all_there M e.1) j.1 j.0) refl (λ rest. ops_lead M e.1 _ _ (quieted (j.2 _)))
    matches {s} (call_stuck {c = v} {b} {s1} {ns} {w} q g) x c t i lt a =
        let y = K.callee x c v in let c1 = suc c in
        let e = L.entered x c v s t s1 ns i.0 lt a q in
        let t2 = M.quiets (K.mark x c v) e.0 in
        let j = stuck_so M (matches g y c1 t2 (i.1 c) (L.callee_below x c v i.0 lt) e.2) in
        m_stuck (λ rest. ops_lead M e.1 _ _ (quieted (j _)))
    matches {s} (entered_not {c = v} {b} {r} {w} q) x c t i lt a = m_stuck (λ rest. ops_stop M (L.entered_not x c v s t w i.0 lt a q) _)
    matches {s} (left_not {c = v} {b} {s1} {s2} {ns} {l} {w} q g k) x c t i lt a =
        let y = K.callee x c v in let c1 = suc c in
        let e = L.entered x c v s t s1 ns i.0 lt a q in
        let t2 = M.quiets (K.mark x c v) e.0 in
        let j = ended M (matches g y c1 t2 (i.1 c) (L.callee_below x c v i.0 lt) e.2) in
        let w2 = L.within_both y c1 t t2 j.at e.3 j.relates.1 in
        m_stuck (λ rest. ops_lead M e.1 _ _ (quieted (j.on _ _ (ops_stop M (L.left_not x c v s t s2 j.at w i.0 lt a w2 j.relates.0 k) _))))

    loops : {p b : Body} {v : T} {n : ℕ} {s : S} {w : Outcome S W Turns} → Loops M p v b n s w → (x : X) (c c1 : ℕ) (t : S) → c ≤ c1 → Of x p → Of x b → L.TestIn x v → L.Below x c → L.At x s t →
        LoopMatches M (inlined K x c p done) (K.test_in x v) (inlined K x c1 b done) n t (inlining K x c p) [] Same (inlining K x c1 b) (Stands x c t) (λ e. Loops M (inlined K x c p done) (K.test_in x v) (inlined K x c1 b done) n t (Stuck e)) w
    loops (in_prologue g) x c c1 t le ip ib iv lt a = let j = cut_so M (matches g x c t ip lt a) in l_cut (turns_prologue_cut j.1 j.0) refl (in_prologue (j.2 done))
    loops (prologue_stuck g) x c c1 t le ip ib iv lt a = let j = stuck_so M (matches g x c t ip lt a) in l_stuck (prologue_stuck (j done))
    loops {v} (tested_not {s1} g q) x c c1 t le ip ib iv lt a = let j = ended M (matches g x c t ip lt a) in l_stuck (tested_not (alone M j.on) (L.test_same x v s1 j.at iv j.relates.0 ∙ q))
    loops {v} (leaves_loop {s1} {ns} g q) x c c1 t le ip ib iv lt a =
        let j = ended M (matches g x c t ip lt a) in
        let y = L.settled_same x c v s1 j.at iv lt j.relates.0 in
        let t0 = M.settled (K.test_in x v) j.at in
        l_end t0 (y.0, L.within_both x c t j.at t0 j.relates.1 y.1) (turns_left (none_there ns) tt j.whole j.fits) refl (leaves_loop (alone M j.on) (L.test_same x v s1 j.at iv j.relates.0 ∙ q))
    loops {v} (no_turn {s1} {ns} g q) x c c1 t le ip ib iv lt a = let j = ended M (matches g x c t ip lt a) in l_cut (turns_wanted (none_there ns) tt j.whole j.fits) refl (no_turn (alone M j.on) (L.test_same x v s1 j.at iv j.relates.0 ∙ q))
    loops {v} (in_body {s1} {ns} g q h) x c c1 t le ip ib iv lt a =
        let j = ended M (matches g x c t ip lt a) in
        let y = L.settled_same x c v s1 j.at iv lt j.relates.0 in
        let k = cut_so M (matches h x c1 (M.settled (K.test_in x v) j.at) ib (L.below_more x c c1 le lt) y.0) in
        l_cut (turns_body_cut (none_there ns) tt j.whole j.fits k.1 k.0) refl (in_body (alone M j.on) (L.test_same x v s1 j.at iv j.relates.0 ∙ q) (k.2 done))
    loops {v} (body_stuck {s1} g q h) x c c1 t le ip ib iv lt a =
        let j = ended M (matches g x c t ip lt a) in
        let y = L.settled_same x c v s1 j.at iv lt j.relates.0 in
        let k = stuck_so M (matches h x c1 (M.settled (K.test_in x v) j.at) ib (L.below_more x c c1 le lt) y.0) in
        l_stuck (body_stuck (alone M j.on) (L.test_same x v s1 j.at iv j.relates.0 ∙ q) (k done))
    loops {v} (more_turns {s1} {s2} {ns} {l} {lb} g q h k) x c c1 t le ip ib iv lt a =
        let j = ended M (matches g x c t ip lt a) in
        let y = L.settled_same x c v s1 j.at iv lt j.relates.0 in
        let t0 = M.settled (K.test_in x v) j.at in
        let e = ended M (matches h x c1 t0 ib (L.below_more x c c1 le lt) y.0) in
        let test = L.test_same x v s1 j.at iv j.relates.0 ∙ q in
        one_turn M ns l lb (none_there ns) tt j.fits j.whole e.fits e.whole (alone M j.on) test (alone M e.on)
        (further x c c t e.at (omega arith) (L.within_both x c t t0 e.at (L.within_both x c t j.at t0 j.relates.1 y.1) (L.within_less x c c1 t0 e.at le e.relates.1))) (λ o f. more_turns (alone M j.on) test (alone M e.on) f)
        (loops k x c c1 e.at le ip ib iv lt e.relates.0)

    rounds : {f : F} {b : Body} {is : List ℤ} {n : ℕ} {s : S} {w : Outcome S W Rounds} → Counts M f b is n s w → (x : X) (c : ℕ) (t : S) → Of x b → L.CounterIn x f → L.Below x c → L.At x s t →
        EachMatches M (K.counter_in x f) (inlined K x c b done) is n t (inlining K x c b) (Stands x c t) w
    rounds no_count x c t ib iv lt a = c_end t (a, L.within_none x c t) same_none refl no_count
    rounds {f} {s} (more_counts {i} {l} g h) x c t ib iv lt a =
        let e = L.begins_same x c f i s t iv lt a in
        let j = ended M (matches g x c (M.begins (K.counter_in x f) i t) ib lt e.0) in
        one_round M l j.fits j.whole (alone M j.on) (further x c c t j.at (omega arith) (L.within_both x c t (M.begins (K.counter_in x f) i t) j.at e.1 j.relates.1)) (rounds h x c j.at ib iv lt j.relates.0)
    rounds {f} {s} (count_cut {i} g) x c t ib iv lt a =
        let e = L.begins_same x c f i s t iv lt a in let j = cut_so M (matches g x c (M.begins (K.counter_in x f) i t) ib lt e.0) in c_cut (same_cut j.1 j.0) refl (count_cut (j.2 done))
    rounds {f} {s} (count_stuck {i} g) x c t ib iv lt a =
        let e = L.begins_same x c f i s t iv lt a in let j = stuck_so M (matches g x c (M.begins (K.counter_in x f) i t) ib lt e.0) in c_stuck (count_stuck (j done))
