-- Statements of which each becomes others: operations and tests by a rule for each; loops that are
-- unrolled; and arms and loops of which a constant test leaves a part.
use Rattle.std.specs.Prelude.{ℕ, ◌≡◌, Bool, false, if◌then◌else◌, List, [], ◌∷◌, ℤ, ◌⊎◌}
use Rattle.jz_runs.specs.Trees.{Tree, done, op, quiet, choose, loop, each}
use Rattle.jz_runs.specs.Rules.{Parts, stuck, went}
use Rattle.jz_change.specs.declared.change.Numbers.{Numbers}
use Rattle.jz_change.specs.Changes.{numbers_in, Change, ends, ops, stays_if, arm, stays_while, once, unrolled, Changes, none, more}
use Rattle.jz_change.specs.Fitting.{HasThese}
use Rattle.jz_pass.specs.Laws.{Relating}
use Rattle.jz_pass.specs.Operations.{in_turn, DoAll, OneFails, TestFails}

-- what parts become where E is known, and what is known behind them
pub record Knowing (O T F E O2 T2 : Type 0) : Type 1 where
  -- the operations of an operation, with their numbers
  pub Op : O → E → List O2 → List Numbers → E → Type 0
  pub Quiet : O → E → O2 → E → Type 0
  -- a test that stays: the operations before it with their numbers, the test with its numbers
  pub Test : T → E → List O2 → List Numbers → T2 → Numbers → Type 0
  -- the test of a `while`, of which a constant true one stays too
  pub LoopTest : T → E → List O2 → List Numbers → T2 → Numbers → Type 0
  -- a test that has this answer and leaks nothing
  pub Constant : T → E → Bool → Type 0
  -- a counter that takes these values
  pub Values : F → E → List ℤ → Type 0
  -- the first knows no more than the second
  pub Less : E → E → Type 0
  -- as a round begins, and after the last one
  pub set : F → ℤ → E → E
  pub restore : F → E → E → E

module _ {O T F C E O2 T2 F2 C2 : Type 0} (K : Knowing O T F E O2 T2) where
  mutual
    -- a tree, where this is known, before what follows: what it becomes together with that, what is
    -- known behind it, and what it makes of a leak
    pub data Unrolls :
        Tree O T F C → E → Tree O2 T2 F2 C2 → Tree O2 T2 F2 C2 → E → Change → Type 0 where
      u_done : {e : E} {rest : Tree O2 T2 F2 C2} → Unrolls done e rest rest e ends
      u_op :
          {o : O} {r : Tree O T F C} {e e1 e2 : E} {rest u : Tree O2 T2 F2 C2} {os : List O2}
          {is : List Numbers} {k : Change}
          → K.Op o e os is e1 → Unrolls r e1 rest u e2 k
          → Unrolls (op o r) e rest (in_turn os u) e2 (ops is k)
      u_quiet :
          {o : O} {r : Tree O T F C} {e e1 e2 : E} {rest u : Tree O2 T2 F2 C2} {o2 : O2}
          {k : Change}
          → K.Quiet o e o2 e1 → Unrolls r e1 rest u e2 k
          → Unrolls (quiet o r) e rest (quiet o2 u) e2 k
      -- behind it no more is known than behind each arm
      u_if :
          {p : T} {a b r : Tree O T F C} {e ea eb e0 e2 : E} {rest u a2 b2 : Tree O2 T2 F2 C2}
          {os : List O2} {is : List Numbers} {p2 : T2} {i : Numbers} {ta tb k : Change}
          → K.Test p e os is p2 i → Unrolls a e done a2 ea ta → Unrolls b e done b2 eb tb
          → K.Less e0 ea → K.Less e0 eb → Unrolls r e0 rest u e2 k
          → Unrolls (choose p a b r) e rest (in_turn os (choose p2 a2 b2 u)) e2
          (stays_if is i ta tb k)
      -- the arm of the answer is left
      u_arm :
          {p : T} {a b r : Tree O T F C} {e e1 e2 : E} {rest u v : Tree O2 T2 F2 C2} {z : Bool}
          {ta k : Change}
          → K.Constant p e z → Unrolls (if z then a else b) e u v e1 ta
          → Unrolls r e1 rest u e2 k → Unrolls (choose p a b r) e rest v e2 (arm z [] ta k)
      -- e0 is known before each prologue, behind which the operations of the test stand; behind the
      -- loop no more is known than behind its prologue
      u_while :
          {h : Bool} {q : Tree O T F C} {p : T} {b r : Tree O T F C} {e e0 eq eb e3 e2 : E}
          {rest u q2 b2 : Tree O2 T2 F2 C2} {os : List O2} {is : List Numbers} {p2 : T2}
          {i : Numbers} {tq tb k : Change}
          → K.Less e0 e → K.LoopTest p eq os is p2 i → Unrolls q e0 (in_turn os done) q2 eq tq
          → Unrolls b eq done b2 eb tb → K.Less e0 eb → K.Less e3 eq → Unrolls r e3 rest u e2 k
          → Unrolls (loop h q p b r) e rest (loop h q2 p2 b2 u) e2 (stays_while tq is i tb k)
      -- false at once: the prologue is left
      u_once :
          {h : Bool} {q : Tree O T F C} {p : T} {b r : Tree O T F C} {e e1 e2 : E}
          {rest u v : Tree O2 T2 F2 C2} {tq k : Change}
          → Unrolls q e u v e1 tq → K.Constant p e1 false → Unrolls r e1 rest u e2 k
          → Unrolls (loop h q p b r) e rest v e2 (once tq [] k)
      u_for :
          {f : F} {b r : Tree O T F C} {e e1 e2 : E} {rest u v : Tree O2 T2 F2 C2} {is : List ℤ}
          {ts : Changes} {k : Change}
          → K.Values f e is → UnrollsEach f b is e u v e1 ts
          → Unrolls r (K.restore f e e1) rest u e2 k
          → Unrolls (each f b r) e rest v e2 (unrolled ts k)

    -- the rounds of these values, one after another
    pub data UnrollsEach :
        F → Tree O T F C → List ℤ → E → Tree O2 T2 F2 C2 → Tree O2 T2 F2 C2 → E → Changes
        → Type 0 where
      u_none :
          {f : F} {b : Tree O T F C} {e : E} {rest : Tree O2 T2 F2 C2}
          → UnrollsEach f b [] e rest rest e none
      u_more :
          {f : F} {b : Tree O T F C} {i : ℤ} {is : List ℤ} {e e1 e2 : E}
          {rest u v : Tree O2 T2 F2 C2} {t : Change} {ts : Changes}
          → Unrolls b (K.set f i e) u v e1 t → UnrollsEach f b is e1 rest u e2 ts
          → UnrollsEach f b (i ∷ is) e rest v e2 (more t ts)

-- what is known is so, of the state s of what is unrolled and the state t of what it becomes
pub record IsKnown {O T F C S W E O2 T2 F2 C2 U W2 : Type 0} (M : Parts O T F C S W)
    (N : Parts O2 T2 F2 C2 U W2) (K : Knowing O T F E O2 T2) : Type 1 where
  pub Relates : E → S → U → Type 0
  -- why one is stuck where the other is; and whether anything is owed of what is stuck
  pub Fails : W → W2 → Type 0
  pub Exact : Type 0
  -- where nothing is owed each reason stands for each
  pub settles : (w : W) (w2 : W2) → Exact ⊎ Fails w w2
  pub less_so : (e0 e : E) (s : S) (t : U) → K.Less e0 e → Relates e s t → Relates e0 s t
  pub op_went :
      (o : O) (e e1 : E) (os : List O2) (is : List Numbers) (s s1 : S) (t : U) (ns : List ℕ)
      → K.Op o e os is e1 → Relates e s t → M.does o s ≡ went ns s1
      → (t1 : U) × DoAll N ns os is t t1 × Relates e1 s1 t1
  pub op_stuck :
      (o : O) (e e1 : E) (os : List O2) (is : List Numbers) (s : S) (t : U) (w : W)
      → Exact → K.Op o e os is e1 → Relates e s t → M.does o s ≡ stuck w
      → (w2 : W2) × Fails w w2 × OneFails N w2 os t
  pub quiet_so :
      (o : O) (e e1 : E) (o2 : O2) (s : S) (t : U) → K.Quiet o e o2 e1 → Relates e s t
      → Relates e1 (M.quiets o s) (N.quiets o2 t)
  -- the operations before it, and then the same answer
  pub test_went :
      (p : T) (e : E) (os : List O2) (is : List Numbers) (p2 : T2) (i : Numbers) (s : S) (t : U)
      (ns : List ℕ) (z : Bool)
      → K.Test p e os is p2 i → Relates e s t → M.tests p s ≡ went ns z
      → (t1 : U)
      × DoAll N ns os is t t1
      × HasThese ns i
      × (N.tests p2 t1 ≡ went (numbers_in i ns) z)
      × Relates e (M.settled p s) (N.settled p2 t1)
  pub test_stuck :
      (p : T) (e : E) (os : List O2) (is : List Numbers) (p2 : T2) (i : Numbers) (s : S) (t : U)
      (w : W)
      → Exact → K.Test p e os is p2 i → Relates e s t → M.tests p s ≡ stuck w
      → (w2 : W2) × Fails w w2 × TestFails N w2 os p2 t
  pub loop_test_went :
      (p : T) (e : E) (os : List O2) (is : List Numbers) (p2 : T2) (i : Numbers) (s : S) (t : U)
      (ns : List ℕ) (z : Bool)
      → K.LoopTest p e os is p2 i → Relates e s t → M.tests p s ≡ went ns z
      → (t1 : U)
      × DoAll N ns os is t t1
      × HasThese ns i
      × (N.tests p2 t1 ≡ went (numbers_in i ns) z)
      × Relates e (M.settled p s) (N.settled p2 t1)
  pub loop_test_stuck :
      (p : T) (e : E) (os : List O2) (is : List Numbers) (p2 : T2) (i : Numbers) (s : S) (t : U)
      (w : W)
      → Exact → K.LoopTest p e os is p2 i → Relates e s t → M.tests p s ≡ stuck w
      → (w2 : W2) × Fails w w2 × TestFails N w2 os p2 t
  pub constant_so :
      (p : T) (e : E) (z : Bool) (s : S) (t : U) → K.Constant p e z → Relates e s t
      → (M.tests p s ≡ went [] z) × Relates e (M.settled p s) t
  pub values_so :
      (f : F) (e : E) (is : List ℤ) (s : S) (t : U) → K.Values f e is → Relates e s t
      → M.counts f s ≡ went [] is
  pub set_so :
      (f : F) (i : ℤ) (e0 e : E) (is : List ℤ) (s : S) (t : U) → K.Values f e0 is
      → Relates e s t → Relates (K.set f i e) (M.begins f i s) t
  pub restore_so :
      (f : F) (e e1 : E) (is : List ℤ) (s s1 : S) (t t1 : U) → K.Values f e is
      → Relates e s t → Relates e1 s1 t1
      → Relates (K.restore f e e1) (M.restores f s s1) t1

-- what stands for what, where e is known before a body and e1 behind it
abbrev pub unrolled_to :
    {O T F C S W E O2 T2 F2 C2 U W2 : Type 0} {M : Parts O T F C S W} {N : Parts O2 T2 F2 C2 U W2}
    {K : Knowing O T F E O2 T2} → IsKnown M N K → E → E → Relating S U S U W W2
unrolled_to L e e1 = record {
  Starts = L.Relates e;
  Ends = L.Relates e1;
  Fails = L.Fails;
  Exact = L.Exact;
}
