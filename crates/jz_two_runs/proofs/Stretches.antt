-- Operations in two states: they go together, or at one of them both are stuck.
use Rattle.std.proofs.Common.{◌≡◌, ℕ, List, ◌∷◌, ◌⊎◌, inl, inr, sym, ap, ◌∙◌}
use Rattle.std.specs.Prelude.{⊤}
use Rattle.jz_runs.specs.Rules.{Parts, stuck, went}
use Rattle.jz_change.specs.declared.change.Numbers.{Numbers}
use Rattle.jz_change.specs.Changes.{numbers_in}
use Rattle.jz_pass.specs.Operations.{DoAll, do_none, do_one, OneFails, fails_here, fails_later, TestFails, fails_at_test, fails_before, fails_behind}
use Rattle.jz_two_runs.specs.Two.{together, alike, same_answer, two}
use Rattle.jz_two_runs.specs.Telling.{HaveSame}
use Rattle.jz_two_runs.proofs.Comparing.{Compared, agree, first_not, second_not, differ, compared, agreed, first_stuck, second_stuck, differing}

module _ {O T F C S W : Type 0} (N : Parts O T F C S W) where
  abbrev Both : Parts O T F C (S × S) ⊤
  Both = two N

  abbrev pub Fail : List O → S → S → Type 0
  Fail os s t = OneFails Both tt os (s, t)

  abbrev pub TestFail : List O → T → S → S → Type 0
  TestFail os p s t = TestFails Both tt os p (s, t)

  -- where the items have the same numbers
  pub do_both : {ns ms : List ℕ} {os : List O} {is : List Numbers} {s s1 t t1 : S} → DoAll N ns os is s s1 → DoAll N ms os is t t1 → HaveSame is ns ms → DoAll Both ns os is (s, t) (s1, t1)
  do_both do_none do_none h = do_none
  do_both (do_one a q d) (do_one {s1 = u} b r e) h = do_one a (agreed q (r ∙ ap (λ l. went l u) (sym h.0))) (do_both d e h.1)

  pub same_or_fails : {ns ms : List ℕ} {os : List O} {is : List Numbers} {s s1 t t1 : S} → DoAll N ns os is s s1 → DoAll N ms os is t t1 → HaveSame is ns ms ⊎ Fail os s t
  same_or_fails do_none do_none = inl tt
  same_or_fails {ns} {ms} {s} {t} (do_one {o} {os} {i} {is} {s1} a q d) (do_one {s1 = t1} b r e) = by_parts (compared (N.does o s) (N.does o t)) (same_or_fails d e)
    where
      by_parts : Compared (N.does o s) (N.does o t) → HaveSame is ns ms ⊎ Fail os s1 t1 → HaveSame (i ∷ is) ns ms ⊎ Fail (o ∷ os) s t
      by_parts (agree {ns = ks} {a = x} {b = y} u v) (inl h) =
          let f : went ks x ≡ went (numbers_in i ns) s1 = sym u ∙ q in let g : went ks y ≡ went (numbers_in i ms) t1 = sym v ∙ r in
          let f1 : ks ≡ numbers_in i ns = cc in let g1 : ks ≡ numbers_in i ms = cc in
          inl (sym f1 ∙ g1, h)
      by_parts (agree {ns = ks} {a = x} {b = y} u v) (inr h) =
          let f : went ks x ≡ went (numbers_in i ns) s1 = sym u ∙ q in let g : went ks y ≡ went (numbers_in i ms) t1 = sym v ∙ r in
          let f1 : x ≡ s1 = cc in let g1 : y ≡ t1 = cc in
          inr (fails_later (agreed (u ∙ ap (went ks) f1) (v ∙ ap (went ks) g1)) h)
      by_parts (first_not u) h = inr (fails_here (first_stuck (N.does o t) u))
      by_parts (second_not u) h = inr (fails_here (second_stuck (N.does o s) u))
      by_parts (differ u v n) h = inr (fails_here (differing u v n))

  -- ---- one of them is stuck

  pub first_fails : {w : W} {os : List O} {s : S} → OneFails N w os s → (t : S) → Fail os s t
  first_fails {s} (fails_here {o} q) t = fails_here (first_stuck (N.does o t) q)
  first_fails {s} (fails_later {o} {os} {s1} {ns} q f) t = by_parts (λ y. first_fails f y) (compared (N.does o s) (N.does o t))
    where
      by_parts : ((y : S) → Fail os s1 y) → Compared (N.does o s) (N.does o t) → Fail (o ∷ os) s t
      by_parts next (agree {ns = ks} {a = x} {b = y} u v) =
          let e : went ks x ≡ went ns s1 = sym u ∙ q in let f1 : x ≡ s1 = cc in
          fails_later (agreed (u ∙ ap (went ks) f1) v) (next y)
      by_parts next (first_not u) = fails_here (first_stuck (N.does o t) u)
      by_parts next (second_not u) = fails_here (second_stuck (N.does o s) u)
      by_parts next (differ u v n) = fails_here (differing u v n)

  pub second_fails : {w : W} {os : List O} {t : S} → OneFails N w os t → (s : S) → Fail os s t
  second_fails {t} (fails_here {o} q) s = fails_here (second_stuck (N.does o s) q)
  second_fails {t} (fails_later {o} {os} {s1} {ns} q f) s = by_parts (λ y. second_fails f y) (compared (N.does o s) (N.does o t))
    where
      by_parts : ((y : S) → Fail os y s1) → Compared (N.does o s) (N.does o t) → Fail (o ∷ os) s t
      by_parts next (agree {ns = ks} {a = x} {b = y} u v) =
          let e : went ks y ≡ went ns s1 = sym v ∙ q in let f1 : y ≡ s1 = cc in
          fails_later (agreed u (v ∙ ap (went ks) f1)) (next x)
      by_parts next (first_not u) = fails_here (first_stuck (N.does o t) u)
      by_parts next (second_not u) = fails_here (second_stuck (N.does o s) u)
      by_parts next (differ u v n) = fails_here (differing u v n)

  -- ---- a test behind them

  pub before_test : {os : List O} {s t : S} (p : T) → Fail os s t → TestFail os p s t
  before_test p (fails_here q) = fails_before q
  before_test p (fails_later q f) = fails_behind q (before_test p f)

  pub at_test : {ns : List ℕ} {os : List O} {is : List Numbers} {s s1 t t1 : S} (p : T) → DoAll Both ns os is (s, t) (s1, t1) → alike same_answer (together (N.tests p s1) (N.tests p t1)) ≡ stuck tt → TestFail os p s t
  at_test p do_none q = fails_at_test q
  at_test p (do_one {s1 = x} a e d) q = fails_behind e (at_test p d q)

  pub first_test_fails : {w : W} {os : List O} {p : T} {s : S} → TestFails N w os p s → (t : S) → TestFail os p s t
  first_test_fails {s} (fails_at_test {p} q) t = fails_at_test (ap (alike same_answer) (first_stuck (N.tests p t) q))
  first_test_fails {s} (fails_before {o} q) t = fails_before (first_stuck (N.does o t) q)
  first_test_fails {s} (fails_behind {o} {os} {p} {s1} {ns} q f) t = by_parts (λ y. first_test_fails f y) (compared (N.does o s) (N.does o t))
    where
      by_parts : ((y : S) → TestFail os p s1 y) → Compared (N.does o s) (N.does o t) → TestFail (o ∷ os) p s t
      by_parts next (agree {ns = ks} {a = x} {b = y} u v) =
          let e : went ks x ≡ went ns s1 = sym u ∙ q in let f1 : x ≡ s1 = cc in
          fails_behind (agreed (u ∙ ap (went ks) f1) v) (next y)
      by_parts next (first_not u) = fails_before (first_stuck (N.does o t) u)
      by_parts next (second_not u) = fails_before (second_stuck (N.does o s) u)
      by_parts next (differ u v n) = fails_before (differing u v n)

  pub second_test_fails : {w : W} {os : List O} {p : T} {t : S} → TestFails N w os p t → (s : S) → TestFail os p s t
  second_test_fails {t} (fails_at_test {p} q) s = fails_at_test (ap (alike same_answer) (second_stuck (N.tests p s) q))
  second_test_fails {t} (fails_before {o} q) s = fails_before (second_stuck (N.does o s) q)
  second_test_fails {t} (fails_behind {o} {os} {p} {s1} {ns} q f) s = by_parts (λ y. second_test_fails f y) (compared (N.does o s) (N.does o t))
    where
      by_parts : ((y : S) → TestFail os p y s1) → Compared (N.does o s) (N.does o t) → TestFail (o ∷ os) p s t
      by_parts next (agree {ns = ks} {a = x} {b = y} u v) =
          let e : went ks y ≡ went ns s1 = sym v ∙ q in let f1 : y ≡ s1 = cc in
          fails_behind (agreed u (v ∙ ap (went ks) f1)) (next x)
      by_parts next (first_not u) = fails_before (first_stuck (N.does o t) u)
      by_parts next (second_not u) = fails_before (second_stuck (N.does o s) u)
      by_parts next (differ u v n) = fails_before (differing u v n)
