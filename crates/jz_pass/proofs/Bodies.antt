-- Whole bodies: what inlining and unrolling keep, as the law of a pass.
use Rattle.std.proofs.Common.{ℕ, inl, refl}
use Rattle.jz_leak.specs.RunLeaks.{Leak}
use Rattle.jz_runs.specs.Trees.{Tree, done}
use Rattle.jz_runs.specs.Rules.{Parts, Outcome, Goes, finished}
use Rattle.jz_change.specs.Changes.{Change}
use Rattle.jz_pass.specs.Laws.{Relating, between_trees, Follows, has_ended, was_cut, was_stuck, Carries}
use Rattle.jz_pass.specs.Copying.{Copying, inlined, inlining}
use Rattle.jz_pass.specs.Keeping.{IsOf, Keeps}
use Rattle.jz_pass.specs.Unrolling.{Knowing, Unrolls, IsKnown, unrolled_to}
use Rattle.jz_pass.proofs.Stretches.{alone, Matches, m_end, m_cut, m_stuck}
use Rattle.jz_pass.proofs.Inlining.{matches}
use Rattle.jz_pass.proofs.Unrolling.{Passes, p_end, p_cut, p_stuck, passes}
use Rattle.jz_pass.proofs.Twice.{body_both_ways}

module _ {O T F C S W X : Type 0} (M : Parts O T F C S W) (K : Copying O T F C X) (L : Keeps M K) where
  -- the variables of a copy, in the state of all copies
  abbrev pub inlines : X → Relating S S S S W W
  inlines x = between_trees (L.At x) (L.At x)

  inlined_end : {n : ℕ} {t : S} {x : X} {k : Change} {o : Outcome S W Leak} {P : S → S → Type 0} (g : Tree O T F C → Tree O T F C) → ((s z : S) → P s z → L.At x s z) → Matches M g n t k P o → Follows (inlines x) k (Goes M (g done) n t) o
  inlined_end g h (m_end {x = s} t1 p f w run) = has_ended t1 (h s t1 p) f (alone M run)
  inlined_end g h (m_cut f w run) = was_cut f (run done)
  inlined_end g h (m_stuck {w} run) = was_stuck (λ e. (w, refl, run done))

  pub inlining_carries : (x : X) (c : ℕ) (b : Tree O T F C) → IsOf K L.OpIn L.TestIn L.CounterIn L.CallIn x b → L.Below x c → Carries (inlines x) (λ s n. Goes M b n s) (λ t n. Goes M (inlined K x c b done) n t) (inlining K x c b)
  inlining_carries x c b of below =
      body_both_ways M M (inlines x) (inlining K x c b) b (inlined K x c b done) (λ w w2. inl tt) (λ s t n o at run. inlined_end (inlined K x c b) (λ s1 t1 p. p.0) (matches M K L run x c t of below at))

module _ {O T F C S W E O2 T2 F2 C2 U W2 : Type 0} (M : Parts O T F C S W) (N : Parts O2 T2 F2 C2 U W2) (K : Knowing O T F E O2 T2) (L : IsKnown M N K) where
  unrolled_end : {u : Tree O2 T2 F2 C2} {n : ℕ} {t : U} {e e1 : E} {k : Change} {o : Outcome S W Leak} → Passes N L.Exact L.Fails done u n t k (L.Relates e1) o → Follows (unrolled_to L e e1) k (Goes N u n t) o
  unrolled_end (p_end t1 p f w run) = has_ended t1 p f (run _ finished)
  unrolled_end (p_cut f w run) = was_cut f run
  unrolled_end (p_stuck run) = was_stuck run

  pub unrolling_carries : (e e1 : E) (b : Tree O T F C) (u : Tree O2 T2 F2 C2) (k : Change) → Unrolls K b e done u e1 k → Carries (unrolled_to L e e1) (λ s n. Goes M b n s) (λ t n. Goes N u n t) k
  unrolling_carries e e1 b u k h = body_both_ways M N (unrolled_to L e e1) k b u L.settles (λ s t n o at run. unrolled_end {e = e} (passes M N K L run h t at))
