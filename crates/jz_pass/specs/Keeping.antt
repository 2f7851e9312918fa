-- What the parts of a copied body keep: a relation between the variables of a copy and the state in
-- which all copies have theirs.
use Rattle.std.specs.Prelude.{ℕ, suc, ◌≤◌, ◌≡◌, List, ℤ, ⊤}
use Rattle.jz_runs.specs.Trees.{Tree, done, op, quiet, choose, loop, each, call}
use Rattle.jz_runs.specs.Rules.{Parts, Attempt, stuck, went}
use Rattle.jz_pass.specs.Operations.{DoAll, OneFails}
use Rattle.jz_pass.specs.Copying.{Copying}

-- both are stuck, for one reason; or both leak the same numbers, and P holds of what came out
pub data Alike {W A B : Type 0} (P : A → B → Type 0) : Attempt W A → Attempt W B → Type 0 where
  both_stuck : {w : W} → Alike P (stuck w) (stuck w)
  both_went : {ns : List ℕ} {a : A} {b : B} → P a b → Alike P (went ns a) (went ns b)

module _ {O T F C X : Type 0} (K : Copying O T F C X) (OpIn : X → O → Type 0)
    (TestIn : X → T → Type 0) (CounterIn : X → F → Type 0) (CallIn : X → C → Type 0) where
  -- each part of a body is one of the naming; no text has a mark
  abbrev pub IsOf : X → Tree O T F C → Type 0
  IsOf x done = ⊤
  IsOf x (op o r) = OpIn x o × IsOf x r
  IsOf x (quiet o r) = ⊥
  IsOf x (choose t a b r) = TestIn x t × IsOf x a × IsOf x b × IsOf x r
  IsOf x (loop q p t b r) = TestIn x t × IsOf x p × IsOf x b × IsOf x r
  IsOf x (each f b r) = CounterIn x f × IsOf x b × IsOf x r
  IsOf x (call q b r) = CallIn x q × ((j : ℕ) → IsOf (K.callee x j q) b) × IsOf x r

-- what a naming knows, and what each part owes
pub record Keeps {O T F C S W X : Type 0} (M : Parts O T F C S W) (K : Copying O T F C X) :
    Type 1 where
  -- the parts that are of the naming
  pub OpIn : X → O → Type 0
  pub TestIn : X → T → Type 0
  pub CounterIn : X → F → Type 0
  pub CallIn : X → C → Type 0
  -- the state of one body stands in the state of all copies
  pub At : X → S → S → Type 0
  -- from one state of all copies to another no variable changed but those that the naming may set
  -- and those of the copies from this number on
  pub Within : X → ℕ → S → S → Type 0
  -- the variables of the naming are none of the copies from this number on
  pub Below : X → ℕ → Type 0
  pub within_none : (x : X) (c : ℕ) (t : S) → Within x c t t
  pub within_both :
      (x : X) (c : ℕ) (t t1 t2 : S) → Within x c t t1 → Within x c t1 t2 → Within x c t t2
  pub within_less : (x : X) (c d : ℕ) (t t1 : S) → c ≤ d → Within x d t t1 → Within x c t t1
  pub below_more : (x : X) (c d : ℕ) → c ≤ d → Below x c → Below x d
  pub op_same :
      (x : X) (c : ℕ) (o : O) (s t : S) → OpIn x o → Below x c → At x s t
      → Alike (λ s1 t1. At x s1 t1 × Within x c t t1) (M.does o s) (M.does (K.op_in x o) t)
  pub test_same :
      (x : X) (p : T) (s t : S) → TestIn x p → At x s t
      → M.tests (K.test_in x p) t ≡ M.tests p s
  pub settled_same :
      (x : X) (c : ℕ) (p : T) (s t : S) → TestIn x p → Below x c → At x s t
      → At x (M.settled p s) (M.settled (K.test_in x p) t)
      × Within x c t (M.settled (K.test_in x p) t)
  pub counts_same :
      (x : X) (f : F) (s t : S) → CounterIn x f → At x s t
      → M.counts (K.counter_in x f) t ≡ M.counts f s
  pub begins_same :
      (x : X) (c : ℕ) (f : F) (i : ℤ) (s t : S) → CounterIn x f → Below x c → At x s t
      → At x (M.begins f i s) (M.begins (K.counter_in x f) i t)
      × Within x c t (M.begins (K.counter_in x f) i t)
  pub restores_same :
      (x : X) (c : ℕ) (f : F) (s t s1 t1 : S) → CounterIn x f → Below x c → At x s t
      → At x s1 t1
      → At x (M.restores f s s1) (M.restores (K.counter_in x f) t t1)
      × Within x c t1 (M.restores (K.counter_in x f) t t1)
  pub callee_below :
      (x : X) (c : ℕ) (q : C) → CallIn x q → Below x c → Below (K.callee x c q) (suc c)
  pub callee_within :
      (x : X) (c : ℕ) (q : C) (t t1 : S) → CallIn x q → Below x c
      → Within (K.callee x c q) (suc c) t t1 → Within x c t t1
  -- the arguments and the mark make the callee's state
  pub entered :
      (x : X) (c : ℕ) (q : C) (s t s1 : S) (ns : List ℕ) → CallIn x q → Below x c → At x s t
      → M.enters q s ≡ went ns s1
      → (t1 : S)
      × DoAll M ns (K.arguments x c q) (K.argument_items x q) t t1
      × At (K.callee x c q) s1 (M.quiets (K.mark x c q) t1)
      × Within (K.callee x c q) (suc c) t (M.quiets (K.mark x c q) t1)
  pub entered_not :
      (x : X) (c : ℕ) (q : C) (s t : S) (w : W) → CallIn x q → Below x c → At x s t
      → M.enters q s ≡ stuck w → OneFails M w (K.arguments x c q) t
  -- of the caller's state before, and the callee's at its end; in between only the callee's
  -- variables changed
  pub left :
      (x : X) (c : ℕ) (q : C) (s t s2 t2 s3 : S) (ns : List ℕ) → CallIn x q → Below x c
      → At x s t → Within (K.callee x c q) (suc c) t t2 → At (K.callee x c q) s2 t2
      → M.leaves q s s2 ≡ went ns s3
      → (t3 : S)
      × DoAll M ns (K.results x c q) (K.result_items x q) t2 t3
      × At x s3 t3
      × Within x c t2 t3
  pub left_not :
      (x : X) (c : ℕ) (q : C) (s t s2 t2 : S) (w : W) → CallIn x q → Below x c → At x s t
      → Within (K.callee x c q) (suc c) t t2 → At (K.callee x c q) s2 t2
      → M.leaves q s s2 ≡ stuck w → OneFails M w (K.results x c q) t2
