-- Two runs of one body, from states that agree where facts say that they do: the same leaks.
use Rattle.std.specs.Prelude.{◌≡◌, ℕ, List, Bool, false, None}
use Rattle.jz_runs.specs.Rules.{Attempt, stuck, went, Parts, Outcome, End, Cut, Stuck}
use Rattle.jz_flow.specs.Sets.{Facts, Below}
use Rattle.jz_flow.specs.Flow.{Steps}
use Rattle.jz_flow.specs.Alarms.{Asks}

-- both leak the same numbers, and this is so of what comes out; or one of both is stuck
abbrev pub BothGive : {W A : Type 0} → (A → A → Type 0) → Attempt W A → Attempt W A → Type 0
BothGive Q (went ns x) (went ms y) = (ns ≡ ms) × Q x y
BothGive Q (went ns x) (stuck v) = Unit {0}
BothGive Q (stuck w) (went ms y) = Unit {0}
BothGive Q (stuck w) (stuck v) = Unit {0}

-- both are at the end, with as many turns left and the same leak, and this is so of the states; both
-- are cut, with the same leak; or one of both is stuck
abbrev pub Same : {S W L : Type 0} → (S → S → Type 0) → Outcome S W L → Outcome S W L → Type 0
Same Q (End s n l) (End t m k) = (n ≡ m) × (l ≡ k) × Q s t
Same Q (End s n l) (Cut k) = ⊥
Same Q (End s n l) (Stuck v) = Unit {0}
Same Q (Cut l) (End t m k) = ⊥
Same Q (Cut l) (Cut k) = l ≡ k
Same Q (Cut l) (Stuck v) = Unit {0}
Same Q (Stuck w) (End t m k) = Unit {0}
Same Q (Stuck w) (Cut k) = Unit {0}
Same Q (Stuck w) (Stuck v) = Unit {0}

-- two states that agree by the facts before an operation, a mark or a test do so by those behind it;
-- and where the facts give what is asked of it, it leaks the same from both and answers the same
pub record KeepsAgreeing {O T F N C S V W : Type 0} (IsFine : O → Type 0) (IsFineTest : T → Type 0)
    (R : Steps O T F) (A : Asks O T F V) (M : Parts O T N C S W) (Agree : Facts F → S → S → Type 0)
    : Type 0 where
  pub less : (a b : Facts F) (s t : S) → Below a b → Agree b s t → Agree a s t
  pub does :
      (o : O) (a : Facts F) (s t : S) → IsFine o → Agree a s t → A.op o a ≡ None
      → BothGive (Agree (R.does o a)) (M.does o s) (M.does o t)
  pub quiets :
      (o : O) (a : Facts F) (s t : S) → IsFine o → Agree a s t
      → Agree (R.quiets o a) (M.quiets o s) (M.quiets o t)
  pub answers :
      (c : T) (a : Facts F) (s t : S) → IsFineTest c → Agree a s t → A.test c a ≡ None
      → BothGive (λ y z. y ≡ z) (M.tests c s) (M.tests c t)
  pub tests :
      (c : T) (z : Bool) (a : Facts F) (s t : S) (ns ms : List ℕ) → IsFineTest c → Agree a s t
      → M.tests c s ≡ went ns z → M.tests c t ≡ went ms z
      → Agree (R.tests c z a) (M.settled c s) (M.settled c t)
  pub leaves :
      (c : T) (h a : Facts F) (s t : S) (ns ms : List ℕ) → IsFineTest c → Agree a s t
      → M.tests c s ≡ went ns false → M.tests c t ≡ went ms false
      → Agree (R.leaves c h a) (M.settled c s) (M.settled c t)
