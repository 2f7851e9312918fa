-- There is one first alarm.
use Rattle.std.proofs.Common.{◌≡◌, true, false, Option, Some, None, refl, sym, ◌∙◌, subst}
use Rattle.jz_runs.specs.Trees.{Tree, done, op, quiet, choose, loop, each, call}
use Rattle.jz_flow.specs.Sets.{Facts, common}
use Rattle.jz_flow.specs.Flow.{Steps, After}
use Rattle.jz_flow.specs.Alarms.{Asks, FirstOf, no_more, First}
use Rattle.jz_flow.specs.Soundness.{Monotone}
use Rattle.jz_flow.proofs.Ordering.{one_after, one_head}

-- of equal first conditions
first_same : {W : Type 0} (x y v w : Option W) (P Q : Type 0) → x ≡ y → FirstOf x v P → FirstOf y w Q → (P → Q → v ≡ w) → v ≡ w
first_same {W} x y v w P Q e f h k = by x f (subst (λ z. FirstOf z w Q) (sym e) h)
  where
    by : (x : Option W) → FirstOf x v P → FirstOf x w Q → v ≡ w
    by None f h = k (f.later refl) (h.later refl)
    by (Some a) f h = f.now a refl ∙ sym (h.now a refl)

-- what follows says so of one alarm alone
abbrev pub OneThen : {F W : Type 0} → (Facts F → Option W → Type 0) → Type 0
OneThen {F} {W} Then = (s : Facts F) (v w : Option W) → Then s v → Then s w → v ≡ w

pub none_more : {F W : Type 0} → OneThen {F = F} {W = W} no_more
none_more s v w e f = e ∙ sym f

module _ {O T F N C W : Type 0} (R : Steps O T F) (A : Asks O T F W) (M : Monotone R) where
  pub one_first : (t : Tree O T N C) (s : Facts F) (v w : Option W) (Then : Facts F → Option W → Type 0) → OneThen Then → First R A t s v Then → First R A t s w Then → v ≡ w
  one_first done s v w Then one f h = one s v w f h
  one_first (op o r) s v w Then one f h =
      first_same (A.op o s) (A.op o s) v w _ _ refl f h (λ p q. one_first r (R.does o s) v w Then one p q)
  one_first (quiet o r) s v w Then one f h = one_first r (R.quiets o s) v w Then one f h
  one_first (choose c a b r) s v w Then one f h =
      first_same (A.test c s) (A.test c s) v w _ _ refl f h (λ p q.
      first_same p.0 q.0 v w _ _ (one_first a (R.tests c true s) p.0 q.0 no_more none_more p.1 q.1) p.2 q.2 (λ i j.
      first_same i.0 j.0 v w _ _ (one_first b (R.tests c false s) i.0 j.0 no_more none_more i.1 j.1) i.2 j.2 (λ k l.
      let ex = one_after R M a (R.tests c true s) k.0 l.0 k.2 l.2 in
      let ey = one_after R M b (R.tests c false s) k.1 l.1 k.3 l.3 in
      one_first r (common k.0 k.1) v w Then one k.4
      (subst (λ z. First R A r (common z k.1) w Then) (sym ex) (subst (λ z. First R A r (common l.0 z) w Then) (sym ey) l.4)))))
  one_first (loop d p c b r) s v w Then one (h, k, u, f, m) (h', k', u', f', m') =
      let eh = one_head R M p c b s h h' k k' in
      let fp = subst (λ z. First R A p z u' no_more) (sym eh) f' in
      first_same u u' v w _ _ (one_first p h u u' no_more none_more f fp) m m' (λ i j.
      let eq = one_after R M p h i.0 j.0 i.1 (subst (λ z. After R p z j.0) (sym eh) j.1) in
      let et = subst (λ z. A.test c i.0 ≡ A.test c z) eq refl in
      first_same (A.test c i.0) (A.test c j.0) v w _ _ et i.2 j.2 (λ x y.
      let fb = subst (λ z. First R A b (R.tests c true z) y.0 no_more) (sym eq) y.1 in
      first_same x.0 y.0 v w _ _ (one_first b (R.tests c true i.0) x.0 y.0 no_more none_more x.1 fb) x.2 y.2 (λ m n.
      one_first r (R.leaves c h i.0) v w Then one m
      (subst (λ z. First R A r (R.leaves c z i.0) w Then) (sym eh) (subst (λ z. First R A r (R.leaves c h' z) w Then) (sym eq) n)))))
  one_first (each g b r) s v w Then one f h = absurd f
  one_first (call g b r) s v w Then one f h = absurd f
