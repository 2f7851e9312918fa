-- Calls that become copies, in two runs at a time: what goes together in the copies went together before.
use Rattle.std.proofs.Common.{◌≡◌, ℕ, suc, Bool, true, false, if◌then◌else◌, List, [], ◌∷◌, ◌⊎◌, inl, inr, refl, ap, ◌∙◌, subst}
use Rattle.std.specs.Prelude.{⊤}
use Rattle.std.specs.Str.{bytes_eq}
use Rattle.jz_leak.specs.RunLeaks.{Leak}
use Rattle.jz_runs.specs.Trees.{Tree, done}
use Rattle.jz_runs.specs.Rules.{Parts, Attempt, stuck, went, Outcome, End, Cut, Stuck, Goes}
use Rattle.jz_runs.proofs.Steady.{one_outcome, has_outcome}
use Rattle.jz_change.specs.declared.change.Numbers.{Numbers}
use Rattle.jz_pass.specs.Laws.{Follows, was_stuck}
use Rattle.jz_pass.specs.Operations.{DoAll}
use Rattle.jz_pass.specs.Copying.{Copying, inlined, inlining}
use Rattle.jz_pass.specs.Keeping.{Alike, both_stuck, both_went, IsOf, Keeps}
use Rattle.jz_pass.proofs.Bodies.{inlines, inlining_carries}
use Rattle.jz_two_runs.specs.Two.{together, alike, same_answer, same_values, two, NotStuck, GoTogether}
use Rattle.jz_two_runs.specs.Telling.{HaveSame, AreCallsTold}
use Rattle.jz_two_runs.proofs.Comparing.{not_apart, Compared, agree, first_not, second_not, differ, compared, agreed, both_went as went_both}
use Rattle.jz_two_runs.proofs.Stretches.{Fail, do_both, same_or_fails, first_fails, second_fails}

-- what is alike in each is alike together
alike_both : {W A B C D : Type 0} {P : A → B → Type 0} {Q : C → D → Type 0} {x : Attempt W A} {y : Attempt W B} {z : Attempt W C} {v : Attempt W D} → Alike P x y → Alike Q z v → Alike {W = ⊤} {A = A × C} {B = B × D} (λ p q. P p.0 q.0 × Q p.1 q.1) (together x z) (together y v)
alike_both both_stuck h = both_stuck
alike_both (both_went p) both_stuck = both_stuck
alike_both {A} {B} {C} {D} {P} {Q} (both_went {ns} {a} {b} p) (both_went {ns = ms} {a = c} {b = d} q) = by_test (bytes_eq ns ms)
  where
    by_test : (t : Bool) → Alike {W = ⊤} {A = A × C} {B = B × D} (λ p q. P p.0 q.0 × Q p.1 q.1) (if t then went ns (a, c) else stuck tt) (if t then went ns (b, d) else stuck tt)
    by_test true = both_went (p, q)
    by_test false = both_stuck

alike_so : {A B : Type 0} {P Q : A → B → Type 0} {x : Attempt ⊤ A} {y : Attempt ⊤ B} → ((a : A) (b : B) → P a b → Q a b) → Alike P x y → Alike Q x y
alike_so f both_stuck = both_stuck
alike_so f (both_went {a} {b} p) = both_went (f a b p)

module _ {O T F C S W X : Type 0} (M : Parts O T F C S W) (K : Copying O T F C X) (L : Keeps M K) (told : AreCallsTold L) where
  abbrev At : X → S × S → S × S → Type 0
  At x s t = L.At x s.0 t.0 × L.At x s.1 t.1

  abbrev Within : X → ℕ → S × S → S × S → Type 0
  Within x c s t = L.Within x c s.0 t.0 × L.Within x c s.1 t.1

  same_items : (is : List Numbers) (ns : List ℕ) → HaveSame is ns ns
  same_items [] ns = tt
  same_items (i ∷ is) ns = (refl, same_items is ns)

  tests_same : (x : X) (p : T) (s t : S × S) → L.TestIn x p → At x s t → alike same_answer (together (M.tests (K.test_in x p) t.0) (M.tests (K.test_in x p) t.1)) ≡ alike same_answer (together (M.tests p s.0) (M.tests p s.1))
  tests_same x p s t i a = ap (λ y. alike same_answer (together y (M.tests (K.test_in x p) t.1))) (L.test_same x p s.0 t.0 i a.0) ∙ ap (λ y. alike same_answer (together (M.tests p s.0) y)) (L.test_same x p s.1 t.1 i a.1)

  counts_same : (x : X) (f : F) (s t : S × S) → L.CounterIn x f → At x s t → alike same_values (together (M.counts (K.counter_in x f) t.0) (M.counts (K.counter_in x f) t.1)) ≡ alike same_values (together (M.counts f s.0) (M.counts f s.1))
  counts_same x f s t i a = ap (λ y. alike same_values (together y (M.counts (K.counter_in x f) t.1))) (L.counts_same x f s.0 t.0 i a.0) ∙ ap (λ y. alike same_values (together (M.counts f s.0) y)) (L.counts_same x f s.1 t.1 i a.1)

  entered : (x : X) (c : ℕ) (q : C) (s t s1 : S × S) (ns : List ℕ) → L.CallIn x q → L.Below x c → At x s t → together (M.enters q s.0) (M.enters q s.1) ≡ went ns s1
      → (t1 : S × S) × DoAll (two M) ns (K.arguments x c q) (K.argument_items x q) t t1 × At (K.callee x c q) s1 (M.quiets (K.mark x c q) t1.0, M.quiets (K.mark x c q) t1.1) × Within (K.callee x c q) (suc c) t (M.quiets (K.mark x c q) t1.0, M.quiets (K.mark x c q) t1.1)
  entered x c q s t s1 ns i b a e =
      let w = went_both (M.enters q s.0) (M.enters q s.1) ns s1 e in
      let y = L.entered x c q s.0 t.0 s1.0 ns i b a.0 w.0 in let z = L.entered x c q s.1 t.1 s1.1 ns i b a.1 w.1 in
      ((y.0, z.0), do_both M y.1 z.1 (same_items (K.argument_items x q) ns), (y.2, z.2), (y.3, z.3))

  entered_not : (x : X) (c : ℕ) (q : C) (s t : S × S) (w : ⊤) → L.CallIn x q → L.Below x c → At x s t → together (M.enters q s.0) (M.enters q s.1) ≡ stuck w → Fail M (K.arguments x c q) t.0 t.1
  entered_not x c q s t w i b a e = by_parts (compared (M.enters q s.0) (M.enters q s.1))
    where
      by_parts : Compared (M.enters q s.0) (M.enters q s.1) → Fail M (K.arguments x c q) t.0 t.1
      by_parts (agree u v) = absurd (not_apart (together (M.enters q s.0) (M.enters q s.1)) (agreed u v) e)
      by_parts (first_not {w = k} u) = first_fails M (L.entered_not x c q s.0 t.0 k i b a.0 u) t.1
      by_parts (second_not {w = k} u) = second_fails M (L.entered_not x c q s.1 t.1 k i b a.1 u) t.0
      by_parts (differ {ns} {ms} {a = s1} {b = r1} u v n) = by_items (same_or_fails M (L.entered x c q s.0 t.0 s1 ns i b a.0 u).1 (L.entered x c q s.1 t.1 r1 ms i b a.1 v).1)
        where
          by_items : HaveSame (K.argument_items x q) ns ms ⊎ Fail M (K.arguments x c q) t.0 t.1 → Fail M (K.arguments x c q) t.0 t.1
          by_items (inl h) = absurd (n (told.entered_told x c q s.0 s.1 s1 r1 t.0 t.1 ns ms i b a.0 a.1 u v h))
          by_items (inr f) = f

  left : (x : X) (c : ℕ) (q : C) (s t s2 t2 s3 : S × S) (ns : List ℕ) → L.CallIn x q → L.Below x c → At x s t → Within (K.callee x c q) (suc c) t t2 → At (K.callee x c q) s2 t2 → together (M.leaves q s.0 s2.0) (M.leaves q s.1 s2.1) ≡ went ns s3
      → (t3 : S × S) × DoAll (two M) ns (K.results x c q) (K.result_items x q) t2 t3 × At x s3 t3 × Within x c t2 t3
  left x c q s t s2 t2 s3 ns i b a w a2 e =
      let u = went_both (M.leaves q s.0 s2.0) (M.leaves q s.1 s2.1) ns s3 e in
      let y = L.left x c q s.0 t.0 s2.0 t2.0 s3.0 ns i b a.0 w.0 a2.0 u.0 in let z = L.left x c q s.1 t.1 s2.1 t2.1 s3.1 ns i b a.1 w.1 a2.1 u.1 in
      ((y.0, z.0), do_both M y.1 z.1 (same_items (K.result_items x q) ns), (y.2, z.2), (y.3, z.3))

  left_not : (x : X) (c : ℕ) (q : C) (s t s2 t2 : S × S) (w : ⊤) → L.CallIn x q → L.Below x c → At x s t → Within (K.callee x c q) (suc c) t t2 → At (K.callee x c q) s2 t2 → together (M.leaves q s.0 s2.0) (M.leaves q s.1 s2.1) ≡ stuck w → Fail M (K.results x c q) t2.0 t2.1
  left_not x c q s t s2 t2 w i b a wi a2 e = by_parts (compared (M.leaves q s.0 s2.0) (M.leaves q s.1 s2.1))
    where
      by_parts : Compared (M.leaves q s.0 s2.0) (M.leaves q s.1 s2.1) → Fail M (K.results x c q) t2.0 t2.1
      by_parts (agree u v) = absurd (not_apart (together (M.leaves q s.0 s2.0) (M.leaves q s.1 s2.1)) (agreed u v) e)
      by_parts (first_not {w = k} u) = first_fails M (L.left_not x c q s.0 t.0 s2.0 t2.0 k i b a.0 wi.0 a2.0 u) t2.1
      by_parts (second_not {w = k} u) = second_fails M (L.left_not x c q s.1 t.1 s2.1 t2.1 k i b a.1 wi.1 a2.1 u) t2.0
      by_parts (differ {ns} {ms} {a = s3} {b = r3} u v n) = by_items (same_or_fails M (L.left x c q s.0 t.0 s2.0 t2.0 s3 ns i b a.0 wi.0 a2.0 u).1 (L.left x c q s.1 t.1 s2.1 t2.1 r3 ms i b a.1 wi.1 a2.1 v).1)
        where
          by_items : HaveSame (K.result_items x q) ns ms ⊎ Fail M (K.results x c q) t2.0 t2.1 → Fail M (K.results x c q) t2.0 t2.1
          by_items (inl h) = absurd (n (told.left_told x c q s.0 s.1 t.0 t.1 s2.0 s2.1 t2.0 t2.1 s3 r3 ns ms i b a.0 a.1 wi.0 wi.1 a2.0 a2.1 u v h))
          by_items (inr f) = f

  abbrev keeps_of_two : Keeps (two M) K
  keeps_of_two = record {
    OpIn = L.OpIn;
    TestIn = L.TestIn;
    CounterIn = L.CounterIn;
    CallIn = L.CallIn;
    At = At;
    Within = Within;
    Below = L.Below;
    within_none = λ x c t. (L.within_none x c t.0, L.within_none x c t.1);
    within_both = λ x c t t1 t2 a b. (L.within_both x c t.0 t1.0 t2.0 a.0 b.0, L.within_both x c t.1 t1.1 t2.1 a.1 b.1);
    within_less = λ x c d t t1 le a. (L.within_less x c d t.0 t1.0 le a.0, L.within_less x c d t.1 t1.1 le a.1);
    below_more = L.below_more;
    op_same = λ x c o s t i b a.
        alike_so (λ u v p. ((p.0.0, p.1.0), (p.0.1, p.1.1))) (alike_both (L.op_same x c o s.0 t.0 i b a.0) (L.op_same x c o s.1 t.1 i b a.1));
    test_same = tests_same;
    settled_same = λ x c p s t i b a.
        let y = L.settled_same x c p s.0 t.0 i b a.0 in let z = L.settled_same x c p s.1 t.1 i b a.1 in ((y.0, z.0), (y.1, z.1));
    counts_same = counts_same;
    begins_same = λ x c f n s t i b a.
        let y = L.begins_same x c f n s.0 t.0 i b a.0 in let z = L.begins_same x c f n s.1 t.1 i b a.1 in ((y.0, z.0), (y.1, z.1));
    restores_same = λ x c f s t s1 t1 i b a a1.
        let y = L.restores_same x c f s.0 t.0 s1.0 t1.0 i b a.0 a1.0 in let z = L.restores_same x c f s.1 t.1 s1.1 t1.1 i b a.1 a1.1 in ((y.0, z.0), (y.1, z.1));
    callee_below = L.callee_below;
    callee_within = λ x c q t t1 i b w. (L.callee_within x c q t.0 t1.0 i b w.0, L.callee_within x c q t.1 t1.1 i b w.1);
    entered = λ x c q s t s1 ns i b a e. entered x c q s t s1 ns i b a e;
    entered_not = λ x c q s t w i b a e. entered_not x c q s t w i b a e;
    left = λ x c q s t s2 t2 s3 ns i b a w a2 e. left x c q s t s2 t2 s3 ns i b a w a2 e;
    left_not = λ x c q s t s2 t2 w i b a wi a2 e. left_not x c q s t s2 t2 w i b a wi a2 e;
  }

  -- what goes together in the copy went together in the body
  pub copied_together : (x : X) (c : ℕ) {b : Tree O T F C} {n : ℕ} {s r t v : S} → IsOf K L.OpIn L.TestIn L.CounterIn L.CallIn x b → L.Below x c → L.At x s t → L.At x r v → GoTogether M (inlined K x c b done) n t v → GoTogether M b n s r
  copied_together x c {b} {n} {s} {r} {t} {v} of below p q g =
      let o = has_outcome (two M) b n (s, r) in
      let h = inlining_carries (two M) K keeps_of_two x c b of below in
      by_outcome o.0 o.1 (h.forth (s, r) (t, v) n o.0 (p, q) o.1)
    where
      by_outcome : (o : Outcome (S × S) ⊤ Leak) → Goes (two M) b n (s, r) o → Follows (inlines (two M) K keeps_of_two x) (inlining K x c b) (λ y. Goes (two M) (inlined K x c b done) n (t, v) y) o → GoTogether M b n s r
      by_outcome (End y m l) o f = record { out = End y m l; goes = o; whole = tt }
      by_outcome (Cut l) o f = record { out = Cut l; goes = o; whole = tt }
      by_outcome (Stuck w) o (was_stuck f) = let z = f tt in absurd (subst NotStuck (one_outcome (two M) g.goes z.2) g.whole)
