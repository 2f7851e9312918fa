-- Where there is no first alarm, some kept sets meet each condition.
use Rattle.std.proofs.Common.{◌≡◌, true, false, Option, Some, None, refl, sym, subst}
use Rattle.jz_runs.specs.Trees.{Tree, done, op, quiet, choose, loop, each, call}
use Rattle.jz_flow.specs.Sets.{Facts, common}
use Rattle.jz_flow.specs.Flow.{Steps, After}
use Rattle.jz_flow.specs.Alarms.{Asks, FirstOf, no_more, First, Meets}
use Rattle.jz_flow.specs.Soundness.{Monotone}
use Rattle.jz_flow.proofs.Ordering.{one_after, one_head}

some_none : {A : Type 0} {a : A} → Some a ≡ None → ⊥
some_none e = cc e

pub no_first : {W : Type 0} (x : Option W) {P : Type 0} → FirstOf x None P → x ≡ None
no_first None h = refl
no_first (Some a) h = absurd (some_none (sym (h.now a refl)))

pub then_follows : {W : Type 0} (x : Option W) {P : Type 0} → FirstOf x None P → P
then_follows x h = h.later (no_first x h)

module _ {O T F N C W : Type 0} (R : Steps O T F) (A : Asks O T F W) (M : Monotone R) where
  pub calm : (t : Tree O T N C) (s s' : Facts F) (Then : Facts F → Option W → Type 0) → After R t s s' → First R A t s None Then → Meets R A t s s' × Then s' None
  calm done s s' Then a f = (a, subst (λ x. Then x None) (sym a) f)
  calm (op o r) s s' Then a f = let i = calm r (R.does o s) s' Then a (then_follows _ f) in ((no_first _ f, i.0), i.1)
  calm (quiet o r) s s' Then a f = calm r (R.quiets o s) s' Then a f
  calm (choose c a b r) s s' Then (x, y, p, q, e) f =
      let g = then_follows (A.test c s) f in
      let i = then_follows g.0 g.2 in
      let j = then_follows i.0 i.2 in
      let ex = one_after R M a (R.tests c true s) j.0 x j.2 p in
      let ey = one_after R M b (R.tests c false s) j.1 y j.3 q in
      let fa = subst (λ z. First R A a (R.tests c true s) z no_more) (no_first g.0 g.2) g.1 in
      let fb = subst (λ z. First R A b (R.tests c false s) z no_more) (no_first i.0 i.2) i.1 in
      let fr = subst (λ z. First R A r (common z y) None Then) ex (subst (λ z. First R A r (common j.0 z) None Then) ey j.4) in
      let k = calm r (common x y) s' Then e fr in
      ((x, y, no_first (A.test c s) f, (calm a (R.tests c true s) x no_more p fa).0, (calm b (R.tests c false s) y no_more q fb).0, k.0), k.1)
  calm (loop w p c b r) s s' Then (h, q, k, l, e) f =
      let eh = one_head R M p c b s f.0 h f.1 k in
      let j = then_follows f.2 f.4 in
      let eq = one_after R M p h j.0 q (subst (λ z. After R p z j.0) eh j.1) l in
      let i = then_follows (A.test c j.0) j.2 in
      let t = k.0.2 in
      let et = one_after R M p h t.0 q t.1 l in
      let ab = subst (λ z. After R b (R.tests c true z) k.0.1) et t.2 in
      let fp = subst (λ z. First R A p z None no_more) eh (subst (λ z. First R A p f.0 z no_more) (no_first f.2 f.4) f.3) in
      let ft = subst (λ z. A.test c z ≡ None) eq (no_first (A.test c j.0) j.2) in
      let fb = subst (λ z. First R A b (R.tests c true z) None no_more) eq (subst (λ z. First R A b (R.tests c true j.0) z no_more) (no_first i.0 i.2) i.1) in
      let fr = subst (λ z. First R A r (R.leaves c z q) None Then) eh (subst (λ z. First R A r (R.leaves c f.0 z) None Then) eq (then_follows i.0 i.2)) in
      let kr = calm r (R.leaves c h q) s' Then e fr in
      ((h, q, k.0.1, k.0.0, (calm p h q no_more l fp).0, ft, (calm b (R.tests c true q) k.0.1 no_more ab fb).0, k.0.3, kr.0), kr.1)
  calm (each g b r) s s' Then a f = absurd a
  calm (call g b r) s s' Then a f = absurd a
