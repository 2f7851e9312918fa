-- Statements that become others, in two runs at a time: what goes together behind the pass went together before it.
use Rattle.std.proofs.Common.{◌≡◌, ℕ, Bool, List, [], ◌∷◌, ◌⊎◌, inl, inr, refl, sym, ap, ◌∙◌, subst}
use Rattle.std.specs.Prelude.{⊤}
use Rattle.jz_leak.specs.RunLeaks.{Leak}
use Rattle.jz_runs.specs.Trees.{Tree, done}
use Rattle.jz_runs.specs.Rules.{Parts, stuck, went, Outcome, End, Cut, Stuck, Goes}
use Rattle.jz_runs.proofs.Steady.{one_outcome, has_outcome}
use Rattle.jz_change.specs.declared.change.Numbers.{Numbers}
use Rattle.jz_change.specs.Changes.{numbers_in, Change}
use Rattle.jz_change.specs.Fitting.{HasThese}
use Rattle.jz_pass.specs.Laws.{Follows, was_stuck}
use Rattle.jz_pass.specs.Operations.{DoAll, OneFails, TestFails}
use Rattle.jz_pass.specs.Unrolling.{Knowing, Unrolls, IsKnown, unrolled_to}
use Rattle.jz_pass.proofs.Bodies.{unrolling_carries}
use Rattle.jz_two_runs.specs.Two.{together, alike, same_answer, same_values, two, NotStuck, GoTogether}
use Rattle.jz_two_runs.specs.Telling.{HaveSame, IsTold}
use Rattle.jz_two_runs.proofs.Comparing.{not_apart, Compared, agree, first_not, second_not, differ, compared, agreed, both_went, both_alike, alike_went, answers_same, answer_itself, values_itself, Parted, one_stuck, other_stuck, numbers_differ, answers_differ, parted, answers_apart, differing}
use Rattle.jz_two_runs.proofs.Stretches.{Fail, do_both, same_or_fails, first_fails, second_fails, before_test, at_test, first_test_fails, second_test_fails}

module _ {O T F C S W E O2 T2 F2 C2 U W2 : Type 0} (M : Parts O T F C S W) (N : Parts O2 T2 F2 C2 U W2) (K : Knowing O T F E O2 T2) (L : IsKnown M N K) (told : IsTold L) where
  abbrev Relate : E → S × S → U × U → Type 0
  Relate e s t = L.Relates e s.0 t.0 × L.Relates e s.1 t.1

  same_items : (is : List Numbers) (ns : List ℕ) → HaveSame is ns ns
  same_items [] ns = tt
  same_items (i ∷ is) ns = (refl, same_items is ns)

  op_went : (o : O) (e e1 : E) (os : List O2) (is : List Numbers) (s s1 : S × S) (t : U × U) (ns : List ℕ) → K.Op o e os is e1 → Relate e s t → together (M.does o s.0) (M.does o s.1) ≡ went ns s1 → (t1 : U × U) × DoAll (two N) ns os is t t1 × Relate e1 s1 t1
  op_went o e e1 os is s s1 t ns h r q =
      let b = both_went (M.does o s.0) (M.does o s.1) ns s1 q in
      let x = L.op_went o e e1 os is s.0 s1.0 t.0 ns h r.0 b.0 in let y = L.op_went o e e1 os is s.1 s1.1 t.1 ns h r.1 b.1 in
      ((x.0, y.0), do_both N x.1 y.1 (same_items is ns), (x.2, y.2))

  op_stuck : (o : O) (e e1 : E) (os : List O2) (is : List Numbers) (s : S × S) (t : U × U) (w : ⊤) → L.Exact → K.Op o e os is e1 → Relate e s t → together (M.does o s.0) (M.does o s.1) ≡ stuck w → OneFails (two N) tt os t
  op_stuck o e e1 os is s t w x h r q = by_parts (compared (M.does o s.0) (M.does o s.1))
    where
      by_parts : Compared (M.does o s.0) (M.does o s.1) → OneFails (two N) tt os t
      by_parts (agree a b) = absurd (not_apart (together (M.does o s.0) (M.does o s.1)) (agreed a b) q)
      by_parts (first_not {w = v} a) = first_fails N (L.op_stuck o e e1 os is s.0 t.0 v x h r.0 a).2 t.1
      by_parts (second_not {w = v} a) = second_fails N (L.op_stuck o e e1 os is s.1 t.1 v x h r.1 a).2 t.0
      by_parts (differ {ns} {ms} {a = s1} {b = r1} a b n) =
          by_items (same_or_fails N (L.op_went o e e1 os is s.0 s1 t.0 ns h r.0 a).1 (L.op_went o e e1 os is s.1 r1 t.1 ms h r.1 b).1)
        where
          by_items : HaveSame is ns ms ⊎ Fail N os t.0 t.1 → OneFails (two N) tt os t
          by_items (inl i) = absurd (n (told.op_told o e e1 os is s.0 s.1 s1 r1 t.0 t.1 ns ms h r.0 r.1 a b i))
          by_items (inr f) = f

  -- ---- tests

  abbrev Went : T → E → List O2 → List Numbers → T2 → Numbers → S → U → List ℕ → Bool → Type 0
  Went p e os is p2 i s t ns z = (t1 : U) × DoAll N ns os is t t1 × HasThese ns i × (N.tests p2 t1 ≡ went (numbers_in i ns) z) × L.Relates e (M.settled p s) (N.settled p2 t1)

  test_went : (p : T) (e : E) (os : List O2) (is : List Numbers) (p2 : T2) (i : Numbers) (s : S × S) (t : U × U) (ns : List ℕ) (z : Bool) → Went p e os is p2 i s.0 t.0 ns z → Went p e os is p2 i s.1 t.1 ns z
      → (t1 : U × U) × DoAll (two N) ns os is t t1 × HasThese ns i × (alike same_answer (together (N.tests p2 t1.0) (N.tests p2 t1.1)) ≡ went (numbers_in i ns) z) × Relate e (M.settled p s.0, M.settled p s.1) (N.settled p2 t1.0, N.settled p2 t1.1)
  test_went p e os is p2 i s t ns z x y = ((x.0, y.0), do_both N x.1 y.1 (same_items is ns), x.2, alike_went same_answer answer_itself x.3 y.3, (x.4, y.4))

  -- two tests whose numbers, or answers, are not the same
  test_parts : (p : T) (e : E) (os : List O2) (is : List Numbers) (p2 : T2) (i : Numbers) (s : S × S) (t : U × U) (ns ms : List ℕ) (y z : Bool) → Went p e os is p2 i s.0 t.0 ns y → Went p e os is p2 i s.1 t.1 ms z
      → (HaveSame is ns ms → numbers_in i ns ≡ numbers_in i ms → ns ≡ ms) → (ns ≡ ms → y ≡ z → ⊥) → TestFails (two N) tt os p2 t
  test_parts p e os is p2 i s t ns ms y z a b tell apart = by_items (same_or_fails N a.1 b.1)
    where
      by_numbers : HaveSame is ns ms → Compared (N.tests p2 a.0) (N.tests p2 b.0) → alike same_answer (together (N.tests p2 a.0) (N.tests p2 b.0)) ≡ stuck tt
      by_numbers h (agree {ns = ks} {a = u} {b = v} q r) =
          let f : went ks u ≡ went (numbers_in i ns) y = sym q ∙ a.3 in let g : went ks v ≡ went (numbers_in i ms) z = sym r ∙ b.3 in
          let f0 : ks ≡ numbers_in i ns = cc in let g0 : ks ≡ numbers_in i ms = cc in let f1 : u ≡ y = cc in let g1 : v ≡ z = cc in
          answers_apart same_answer answers_same q r (λ k. apart (tell h (sym f0 ∙ g0)) (sym f1 ∙ k ∙ g1))
      by_numbers h (first_not q) = absurd (not_apart (N.tests p2 a.0) a.3 q)
      by_numbers h (second_not q) = absurd (not_apart (N.tests p2 b.0) b.3 q)
      by_numbers h (differ q r n) = ap (alike same_answer) (differing q r n)

      by_items : HaveSame is ns ms ⊎ Fail N os t.0 t.1 → TestFails (two N) tt os p2 t
      by_items (inl h) = at_test N p2 (do_both N a.1 b.1 h) (by_numbers h (compared (N.tests p2 a.0) (N.tests p2 b.0)))
      by_items (inr f) = before_test N p2 f

  abbrev Tells : T → List Numbers → Numbers → S × S → Type 0
  Tells p is i s = (ns ms : List ℕ) (y z : Bool) → M.tests p s.0 ≡ went ns y → M.tests p s.1 ≡ went ms z → HaveSame is ns ms → numbers_in i ns ≡ numbers_in i ms → ns ≡ ms

  test_stuck : (p : T) (e : E) (os : List O2) (is : List Numbers) (p2 : T2) (i : Numbers) (s : S × S) (t : U × U) (w : ⊤)
      → ((ns : List ℕ) (z : Bool) → M.tests p s.0 ≡ went ns z → Went p e os is p2 i s.0 t.0 ns z) → ((ns : List ℕ) (z : Bool) → M.tests p s.1 ≡ went ns z → Went p e os is p2 i s.1 t.1 ns z)
      → ((v : W) → M.tests p s.0 ≡ stuck v → (w2 : W2) × L.Fails v w2 × TestFails N w2 os p2 t.0) → ((v : W) → M.tests p s.1 ≡ stuck v → (w2 : W2) × L.Fails v w2 × TestFails N w2 os p2 t.1)
      → Tells p is i s → alike same_answer (together (M.tests p s.0) (M.tests p s.1)) ≡ stuck w → TestFails (two N) tt os p2 t
  test_stuck p e os is p2 i s t w go goes fail fails tell q = by_parts (parted same_answer answer_itself (M.tests p s.0) (M.tests p s.1) w q)
    where
      by_parts : Parted (M.tests p s.0) (M.tests p s.1) → TestFails (two N) tt os p2 t
      by_parts (one_stuck {w = v} a) = first_test_fails N (fail v a).2 t.1
      by_parts (other_stuck {w = v} a) = second_test_fails N (fails v a).2 t.0
      by_parts (numbers_differ {ns} {ms} {a = y} {b = z} a b n) = test_parts p e os is p2 i s t ns ms y z (go ns y a) (goes ms z b) (tell ns ms y z a b) (λ k j. n k)
      by_parts (answers_differ {ns} {a = y} {b = z} a b n) = test_parts p e os is p2 i s t ns ns y z (go ns y a) (goes ns z b) (λ h k. refl) (λ k j. n j)

  abbrev known_of_two : IsKnown (two M) (two N) K
  known_of_two = record {
    Relates = Relate;
    Fails = λ w w2. ⊤;
    Exact = L.Exact;
    settles = λ w w2. inr tt;
    less_so = λ e0 e s t k r. (L.less_so e0 e s.0 t.0 k r.0, L.less_so e0 e s.1 t.1 k r.1);
    op_went = λ o e e1 os is s s1 t ns h r q. op_went o e e1 os is s s1 t ns h r q;
    op_stuck = λ o e e1 os is s t w x h r q. (tt, tt, op_stuck o e e1 os is s t w x h r q);
    quiet_so = λ o e e1 o2 s t h r. (L.quiet_so o e e1 o2 s.0 t.0 h r.0, L.quiet_so o e e1 o2 s.1 t.1 h r.1);
    test_went = λ p e os is p2 i s t ns z h r q.
        let b = both_alike same_answer answers_same (M.tests p s.0) (M.tests p s.1) ns z q in
        test_went p e os is p2 i s t ns z (L.test_went p e os is p2 i s.0 t.0 ns z h r.0 b.0) (L.test_went p e os is p2 i s.1 t.1 ns z h r.1 b.1);
    test_stuck = λ p e os is p2 i s t w x h r q. (
      tt,
      tt,
      test_stuck p e os is p2 i s t w (λ ns z a. L.test_went p e os is p2 i s.0 t.0 ns z h r.0 a) (λ ns z a. L.test_went p e os is p2 i s.1 t.1 ns z h r.1 a)
          (λ v a. L.test_stuck p e os is p2 i s.0 t.0 v x h r.0 a) (λ v a. L.test_stuck p e os is p2 i s.1 t.1 v x h r.1 a)
          (λ ns ms y z a b. told.test_told p e os is p2 i s.0 s.1 t.0 t.1 ns ms y z h r.0 r.1 a b) q,
    );
    loop_test_went = λ p e os is p2 i s t ns z h r q.
        let b = both_alike same_answer answers_same (M.tests p s.0) (M.tests p s.1) ns z q in
        test_went p e os is p2 i s t ns z (L.loop_test_went p e os is p2 i s.0 t.0 ns z h r.0 b.0) (L.loop_test_went p e os is p2 i s.1 t.1 ns z h r.1 b.1);
    loop_test_stuck = λ p e os is p2 i s t w x h r q. (
      tt,
      tt,
      test_stuck p e os is p2 i s t w (λ ns z a. L.loop_test_went p e os is p2 i s.0 t.0 ns z h r.0 a) (λ ns z a. L.loop_test_went p e os is p2 i s.1 t.1 ns z h r.1 a)
          (λ v a. L.loop_test_stuck p e os is p2 i s.0 t.0 v x h r.0 a) (λ v a. L.loop_test_stuck p e os is p2 i s.1 t.1 v x h r.1 a)
          (λ ns ms y z a b. told.loop_test_told p e os is p2 i s.0 s.1 t.0 t.1 ns ms y z h r.0 r.1 a b) q,
    );
    constant_so = λ p e z s t h r.
        let a = L.constant_so p e z s.0 t.0 h r.0 in let b = L.constant_so p e z s.1 t.1 h r.1 in
        (alike_went same_answer answer_itself a.0 b.0, (a.1, b.1));
    values_so = λ f e is s t h r. alike_went same_values values_itself (L.values_so f e is s.0 t.0 h r.0) (L.values_so f e is s.1 t.1 h r.1);
    set_so = λ f i e0 e is s t h r. (L.set_so f i e0 e is s.0 t.0 h r.0, L.set_so f i e0 e is s.1 t.1 h r.1);
    restore_so = λ f e e1 is s s1 t t1 h r r1. (L.restore_so f e e1 is s.0 s1.0 t.0 t1.0 h r.0 r1.0, L.restore_so f e e1 is s.1 s1.1 t.1 t1.1 h r.1 r1.1);
  }

  -- what goes together behind the pass went together before it
  pub unrolled_together : {e e1 : E} {b : Tree O T F C} {u : Tree O2 T2 F2 C2} {k : Change} {n : ℕ} {s r : S} {t v : U} → L.Exact → Unrolls K b e done u e1 k → L.Relates e s t → L.Relates e r v → GoTogether N u n t v → GoTogether M b n s r
  unrolled_together {e} {e1} {b} {u} {k} {n} {s} {r} {t} {v} x h p q g =
      let o = has_outcome (two M) b n (s, r) in
      let c = unrolling_carries (two M) (two N) K known_of_two e e1 b u k h in
      by_outcome o.0 o.1 (c.forth (s, r) (t, v) n o.0 (p, q) o.1)
    where
      by_outcome : (o : Outcome (S × S) ⊤ Leak) → Goes (two M) b n (s, r) o → Follows (unrolled_to known_of_two e e1) k (λ y. Goes (two N) u n (t, v) y) o → GoTogether M b n s r
      by_outcome (End y m l) o f = record { out = End y m l; goes = o; whole = tt }
      by_outcome (Cut l) o f = record { out = Cut l; goes = o; whole = tt }
      by_outcome (Stuck w) o (was_stuck f) = let z = f x in absurd (subst NotStuck (one_outcome (two N) g.goes z.2) g.whole)
