-- Where a body has no alarm, a set stands behind it.
use Rattle.std.proofs.Common.{◌≡◌, Option, Some, None, refl}
use Rattle.jz_runs.specs.Trees.{Tree, done, op, quiet, choose, loop, each, call}
use Rattle.jz_flow.specs.Sets.{Facts, common}
use Rattle.jz_flow.specs.Flow.{Steps, After}
use Rattle.jz_flow.specs.Alarms.{Asks, FirstOf, First}

none_now : {W : Type 0} (P : Type 0) (x : Option W) → FirstOf x None P → x ≡ None
none_now P None h = refl
none_now P (Some a) h = absurd (let e : None ≡ Some a = h.now a refl in cc)

module _ {O T F N C W : Type 0} (R : Steps O T F) (A : Asks O T F W) where
  pub behind : (b : Tree O T N C) (s : Facts F) (Then : Facts F → Option W → Type 0) → First R A b s None Then → (x : Facts F) × After R b s x
  behind done s Then h = (s, refl)
  behind (op o r) s Then h = behind r (R.does o s) Then (h.later (none_now _ (A.op o s) h))
  behind (quiet o r) s Then h = behind r (R.quiets o s) Then h
  behind (choose c a b r) s Then h =
      let t = h.later (none_now _ (A.test c s) h) in
      let u = t.2.later (none_now _ t.0 t.2) in
      let m = u.2.later (none_now _ u.0 u.2) in
      let z = behind r (common m.0 m.1) Then m.4 in
      (z.0, (m.0, m.1, m.2, m.3, z.1))
  behind (loop w p c b r) s Then h =
      let k = h.4.later (none_now _ h.2 h.4) in
      let m = k.2.later (none_now _ (A.test c k.0) k.2) in
      let n = m.2.later (none_now _ m.0 m.2) in
      let z = behind r (R.leaves c h.0 k.0) Then n in
      (z.0, (h.0, k.0, h.1, k.1, z.1))
  behind (each f b r) s Then h = absurd h
  behind (call c b r) s Then h = absurd h
