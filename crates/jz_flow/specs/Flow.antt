-- Which facts hold behind a body, by those before it. In the bodies that are spoken of there is
-- neither a call nor a `for`.
use Rattle.std.specs.Prelude.{◌≡◌, Bool, true, false}
use Rattle.jz_runs.specs.Trees.{Tree, done, op, quiet, choose, loop, each, call}
use Rattle.jz_flow.specs.Sets.{Facts, Below, common}

-- what an operation, a mark and a test with its answer do to the facts; and what holds behind a
-- loop, by the facts at its head and by those behind its prologue
pub record Steps (O T F : Type 0) : Type 0 where
  pub does : O → Facts F → Facts F
  pub quiets : O → Facts F → Facts F
  pub tests : T → Bool → Facts F → Facts F
  pub leaves : T → Facts F → Facts F → Facts F

-- x is part of the facts at entry, and of those behind a turn that begins with x
abbrev pub Kept : {F : Type 0} → (Facts F → Facts F → Type 0) → Facts F → Facts F → Type 0
Kept {F} Turn s x = Below x s × (y : Facts F) × Turn x y × Below x y

-- the greatest kept set
abbrev pub IsHead : {F : Type 0} → (Facts F → Facts F → Type 0) → Facts F → Facts F → Type 0
IsHead {F} Turn s h = Kept Turn s h × ((x : Facts F) → Kept Turn s x → Below x h)

module _ {O T F N C : Type 0} (R : Steps O T F) where
  abbrev pub After : Tree O T N C → Facts F → Facts F → Type 0
  After done s s' = s' ≡ s
  After (op o r) s s' = After r (R.does o s) s'
  After (quiet o r) s s' = After r (R.quiets o s) s'
  -- where arms meet, the common facts stay
  After (choose c a b r) s s' =
      (x : Facts F) × (y : Facts F)
      × After a (R.tests c true s) x × After b (R.tests c false s) y × After r (common x y) s'
  -- the greatest kept set stands at the head of a loop
  After (loop w p c b r) s s' =
      (h : Facts F) × (q : Facts F)
      × IsHead (λ x y. (z : Facts F) × After p x z × After b (R.tests c true z) y) s h
      × After p h q × After r (R.leaves c h q) s'
  After (each f b r) s s' = ⊥
  After (call c b r) s s' = ⊥

  -- a turn of a loop: the prologue, the true test, the body
  abbrev pub OneTurn : Tree O T N C → T → Tree O T N C → Facts F → Facts F → Type 0
  OneTurn p c b x y = (z : Facts F) × After p x z × After b (R.tests c true z) y
