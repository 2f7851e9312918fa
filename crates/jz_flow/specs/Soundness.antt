-- What rules owe so that facts hold of runs.
use Rattle.std.specs.Prelude.{◌≡◌, ℕ, List, Bool, false, None}
use Rattle.jz_runs.specs.Trees.{Tree, done, op, quiet, choose, loop, each, call}
use Rattle.jz_runs.specs.Rules.{stuck, went, Parts, Outcome, End, Cut, Stuck}
use Rattle.jz_flow.specs.Sets.{Facts, Below}
use Rattle.jz_flow.specs.Flow.{Steps}
use Rattle.jz_flow.specs.Alarms.{Asks}

-- of more facts before there are more facts behind
pub record Monotone {O T F : Type 0} (R : Steps O T F) : Type 0 where
  pub does : (o : O) (s t : Facts F) → Below s t → Below (R.does o s) (R.does o t)
  pub quiets : (o : O) (s t : Facts F) → Below s t → Below (R.quiets o s) (R.quiets o t)
  pub tests :
      (c : T) (z : Bool) (s t : Facts F) → Below s t → Below (R.tests c z s) (R.tests c z t)
  pub leaves :
      (c : T) (h g s t : Facts F)
      → Below h g → Below s t → Below (R.leaves c h s) (R.leaves c g t)

-- what holds at an end; nothing is stuck
abbrev pub Fine : {S W L : Type 0} → (S → Type 0) → Outcome S W L → Type 0
Fine Holds (End s n l) = Holds s
Fine Holds (Cut l) = Unit {0}
Fine Holds (Stuck w) = ⊥

-- each operation, mark and test of a body is such a one; there is neither a call nor a `for`
abbrev pub AllAre : {O T N C : Type 0} → (O → Type 0) → (T → Type 0) → Tree O T N C → Type 0
AllAre P Q done = Unit {0}
AllAre P Q (op o r) = P o × AllAre P Q r
AllAre P Q (quiet o r) = P o × AllAre P Q r
AllAre P Q (choose c a b r) = Q c × AllAre P Q a × AllAre P Q b × AllAre P Q r
AllAre P Q (loop w p c b r) = Q c × AllAre P Q p × AllAre P Q b × AllAre P Q r
AllAre P Q (each f b r) = ⊥
AllAre P Q (call c b r) = ⊥

-- one operation and one test of these are sound: of what holds before, that holds behind; and what
-- meets its condition is not stuck
pub record Sound {O T F N C S V W : Type 0} (IsFine : O → Type 0) (IsFineTest : T → Type 0)
    (R : Steps O T F) (A : Asks O T F V) (M : Parts O T N C S W) (Holds : Facts F → S → Type 0) :
    Type 0 where
  pub less : (a b : Facts F) (s : S) → Below a b → Holds b s → Holds a s
  pub does :
      (o : O) (a : Facts F) (s t : S) (ns : List ℕ) → IsFine o
      → Holds a s → M.does o s ≡ went ns t → Holds (R.does o a) t
  pub quiets :
      (o : O) (a : Facts F) (s : S) → IsFine o
      → Holds a s → Holds (R.quiets o a) (M.quiets o s)
  pub tests :
      (c : T) (z : Bool) (a : Facts F) (s : S) (ns : List ℕ) → IsFineTest c
      → Holds a s → M.tests c s ≡ went ns z → Holds (R.tests c z a) (M.settled c s)
  pub leaves :
      (c : T) (h a : Facts F) (s : S) (ns : List ℕ) → IsFineTest c
      → Holds a s → M.tests c s ≡ went ns false → Holds (R.leaves c h a) (M.settled c s)
  pub runs :
      (o : O) (a : Facts F) (s : S) (w : W) → IsFine o
      → Holds a s → A.op o a ≡ None → M.does o s ≡ stuck w → ⊥
  pub answers :
      (c : T) (a : Facts F) (s : S) (w : W) → IsFineTest c
      → Holds a s → A.test c a ≡ None → M.tests c s ≡ stuck w → ⊥
