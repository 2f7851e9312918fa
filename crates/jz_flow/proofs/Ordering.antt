-- More facts before: more behind. One set behind a body; one head; one first alarm.
use Rattle.std.proofs.Common.{◌≡◌, Bool, true, false, refl, sym, subst, ◌&&◌}
use Rattle.std.proofs.Math.Path.{fun_ext}
use Rattle.jz_runs.specs.Trees.{Tree, done, op, quiet, choose, loop, each, call}
use Rattle.jz_flow.specs.Sets.{Facts, Below, common}
use Rattle.jz_flow.specs.Flow.{Steps, IsHead, After, OneTurn}
use Rattle.jz_flow.specs.Soundness.{Monotone}

same_answer : (a b : Bool) → (a ≡ true → b ≡ true) → (b ≡ true → a ≡ true) → a ≡ b
same_answer true b h k = sym (h refl)
same_answer false true h k = k refl
same_answer false false h k = refl

both_true : (a b : Bool) → (a && b) ≡ true → (a ≡ true) × (b ≡ true)
both_true true true h = (refl, refl)
both_true true false h = absurd (cc h)
both_true false b h = absurd (cc h)

and_true : (a b : Bool) → a ≡ true → b ≡ true → (a && b) ≡ true
and_true true true h k = refl
and_true true false h k = absurd (cc k)
and_true false b h k = absurd (cc h)

module _ {F : Type 0} where
  pub below_self : (a : Facts F) → Below a a
  below_self a f h = h

  pub below_trans : (a b c : Facts F) → Below a b → Below b c → Below a c
  below_trans a b c h k f i = k f (h f i)

  pub same_sets : (a b : Facts F) → Below a b → Below b a → a ≡ b
  same_sets a b h k = fun_ext (λ f. same_answer (a f) (b f) (h f) (k f))

  pub common_left : (a b : Facts F) → Below (common a b) a
  common_left a b f h = (both_true (a f) (b f) h).0

  pub common_right : (a b : Facts F) → Below (common a b) b
  common_right a b f h = (both_true (a f) (b f) h).1

  pub common_greatest : (x a b : Facts F) → Below x a → Below x b → Below x (common a b)
  common_greatest x a b h k f i = and_true (a f) (b f) (h f i) (k f i)

  pub common_below : (a b c d : Facts F) → Below a c → Below b d → Below (common a b) (common c d)
  common_below a b c d h k f i = let p = both_true (a f) (b f) i in and_true (c f) (d f) (h f p.0) (k f p.1)

module _ {O T F N C : Type 0} (R : Steps O T F) (M : Monotone R) where
  pub more : (t : Tree O T N C) (s u s' u' : Facts F) → Below s u → After R t s s' → After R t u u' → Below s' u'
  more done s u s' u' h a b = subst (λ x. Below x u') (sym a) (subst (λ x. Below s x) (sym b) h)
  more (op o r) s u s' u' h a b = more r _ _ s' u' (M.does o s u h) a b
  more (quiet o r) s u s' u' h a b = more r _ _ s' u' (M.quiets o s u h) a b
  more (choose c a b r) s u s' u' h (x, y, p, q, f) (x', y', p', q', f') =
      more r _ _ s' u' (common_below x y x' y' (more a _ _ x x' (M.tests c true s u h) p p') (more b _ _ y y' (M.tests c false s u h) q q')) f f'
  more (loop w p c b r) s u s' u' h (g, q, k, e, f) (g', q', k', e', f') =
      let low = k'.1 g (below_trans g s u k.0.0 h, k.0.1, k.0.2, k.0.3) in
      more r _ _ s' u' (M.leaves c g g' q q' low (more p g g' q q' low e e')) f f'
  more (each f b r) s u s' u' h a b' = absurd a
  more (call c b r) s u s' u' h a b' = absurd a

  pub one_after : (t : Tree O T N C) (s a b : Facts F) → After R t s a → After R t s b → a ≡ b
  one_after t s a b h k = same_sets a b (more t s s a b (below_self s) h k) (more t s s b a (below_self s) k h)

  pub one_head : (p : Tree O T N C) (c : T) (b : Tree O T N C) (s g h : Facts F) → IsHead (OneTurn R p c b) s g → IsHead (OneTurn R p c b) s h → g ≡ h
  one_head p c b s g h k l = same_sets g h (l.1 g k.0) (k.1 h l.0)
