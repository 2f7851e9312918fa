-- The first condition of a body that the facts there don't give.
use Rattle.std.specs.Prelude.{◌≡◌, true, false, Option, Some, None}
use Rattle.jz_runs.specs.Trees.{Tree, done, op, quiet, choose, loop, each, call}
use Rattle.jz_flow.specs.Sets.{Facts, Below, common}
use Rattle.jz_flow.specs.Flow.{Steps, IsHead, After}

-- the first condition of an operation and of a test that these facts don't give
pub record Asks (O T F W : Type 0) : Type 0 where
  pub op : O → Facts F → Option W
  pub test : T → Facts F → Option W

-- w is the first of x and of what follows
pub record FirstOf {W : Type 0} (x w : Option W) (P : Type 0) : Type 0 where
  pub now : (a : W) → x ≡ Some a → w ≡ Some a
  pub later : x ≡ None → P

-- what follows inside an arm or a turn: no more conditions
abbrev pub no_more : {F W : Type 0} → Facts F → Option W → Type 0
no_more s w = w ≡ None

module _ {O T F N C W : Type 0} (R : Steps O T F) (A : Asks O T F W) where
  -- w is the first alarm of the body and of what follows it, of which Then says this by its facts
  abbrev pub First :
      Tree O T N C → Facts F → Option W → (Facts F → Option W → Type 0) → Type 0
  First done s w Then = Then s w
  First (op o r) s w Then = FirstOf (A.op o s) w (First r (R.does o s) w Then)
  First (quiet o r) s w Then = First r (R.quiets o s) w Then
  First (choose c a b r) s w Then = FirstOf (A.test c s) w
      ((v : Option W) × First a (R.tests c true s) v no_more × FirstOf v w
      ((u : Option W) × First b (R.tests c false s) u no_more × FirstOf u w
      ((x : Facts F) × (y : Facts F)
      × After R a (R.tests c true s) x × After R b (R.tests c false s) y
      × First r (common x y) w Then)))
  First (loop q p c b r) s w Then =
      (h : Facts F)
      × IsHead (λ x y. (z : Facts F) × After R p x z × After R b (R.tests c true z) y) s h
      × (v : Option W) × First p h v no_more × FirstOf v w
      ((q : Facts F) × After R p h q × FirstOf (A.test c q) w
      ((u : Option W) × First b (R.tests c true q) u no_more × FirstOf u w
      (First r (R.leaves c h q) w Then)))
  First (each f b r) s w Then = ⊥
  First (call c b r) s w Then = ⊥

  -- a kept set stands at the head of each loop, and each condition is given
  abbrev pub Meets : Tree O T N C → Facts F → Facts F → Type 0
  Meets done s s' = s' ≡ s
  Meets (op o r) s s' = (A.op o s ≡ None) × Meets r (R.does o s) s'
  Meets (quiet o r) s s' = Meets r (R.quiets o s) s'
  Meets (choose c a b r) s s' =
      (x : Facts F) × (y : Facts F) × (A.test c s ≡ None)
      × Meets a (R.tests c true s) x × Meets b (R.tests c false s) y × Meets r (common x y) s'
  Meets (loop w p c b r) s s' =
      (h : Facts F) × (q : Facts F) × (y : Facts F)
      × Below h s × Meets p h q × (A.test c q ≡ None) × Meets b (R.tests c true q) y × Below h y
      × Meets r (R.leaves c h q) s'
  Meets (each f b r) s s' = ⊥
  Meets (call c b r) s s' = ⊥
