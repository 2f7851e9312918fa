-- Where the numbers that a pass leaves of an item tell all of its numbers, of any two runs.
use Rattle.std.specs.Prelude.{◌≡◌, ℕ, suc, Bool, List, [], ◌∷◌, ⊤}
use Rattle.jz_runs.specs.Trees.{Tree, done, op, quiet, choose, loop, each, call}
use Rattle.jz_runs.specs.Rules.{Parts, went}
use Rattle.jz_change.specs.declared.change.Numbers.{Numbers}
use Rattle.jz_change.specs.Changes.{numbers_in}
use Rattle.jz_pass.specs.Copying.{Copying}
use Rattle.jz_pass.specs.Keeping.{Keeps}
use Rattle.jz_pass.specs.Unrolling.{Knowing, IsKnown}

-- of two lists of numbers these items have the same
abbrev pub HaveSame : List Numbers → List ℕ → List ℕ → Type 0
HaveSame [] ns ms = ⊤
HaveSame (i ∷ is) ns ms = (numbers_in i ns ≡ numbers_in i ms) × HaveSame is ns ms

-- where statements become others
pub record IsTold {O T F C S W E O2 T2 F2 C2 U W2 : Type 0} {M : Parts O T F C S W}
    {N : Parts O2 T2 F2 C2 U W2} {K : Knowing O T F E O2 T2} (L : IsKnown M N K) : Type 0 where
  pub op_told :
      (o : O) (e e1 : E) (os : List O2) (is : List Numbers) (s r s1 r1 : S) (t u : U)
      (ns ms : List ℕ)
      → K.Op o e os is e1 → L.Relates e s t → L.Relates e r u → M.does o s ≡ went ns s1
      → M.does o r ≡ went ms r1 → HaveSame is ns ms → ns ≡ ms
  pub test_told :
      (p : T) (e : E) (os : List O2) (is : List Numbers) (p2 : T2) (i : Numbers) (s r : S)
      (t u : U) (ns ms : List ℕ) (y z : Bool)
      → K.Test p e os is p2 i → L.Relates e s t → L.Relates e r u → M.tests p s ≡ went ns y
      → M.tests p r ≡ went ms z → HaveSame is ns ms → numbers_in i ns ≡ numbers_in i ms
      → ns ≡ ms
  pub loop_test_told :
      (p : T) (e : E) (os : List O2) (is : List Numbers) (p2 : T2) (i : Numbers) (s r : S)
      (t u : U) (ns ms : List ℕ) (y z : Bool)
      → K.LoopTest p e os is p2 i → L.Relates e s t → L.Relates e r u → M.tests p s ≡ went ns y
      → M.tests p r ≡ went ms z → HaveSame is ns ms → numbers_in i ns ≡ numbers_in i ms
      → ns ≡ ms

-- where calls become copies
pub record AreCallsTold {O T F C S W X : Type 0} {M : Parts O T F C S W} {K : Copying O T F C X}
    (L : Keeps M K) : Type 0 where
  pub entered_told :
      (x : X) (c : ℕ) (q : C) (s r s1 r1 t u : S) (ns ms : List ℕ)
      → L.CallIn x q → L.Below x c → L.At x s t → L.At x r u → M.enters q s ≡ went ns s1
      → M.enters q r ≡ went ms r1 → HaveSame (K.argument_items x q) ns ms → ns ≡ ms
  pub left_told :
      (x : X) (c : ℕ) (q : C) (s r t u s2 r2 t2 u2 s3 r3 : S) (ns ms : List ℕ)
      → L.CallIn x q → L.Below x c → L.At x s t → L.At x r u
      → L.Within (K.callee x c q) (suc c) t t2 → L.Within (K.callee x c q) (suc c) u u2
      → L.At (K.callee x c q) s2 t2 → L.At (K.callee x c q) r2 u2
      → M.leaves q s s2 ≡ went ns s3 → M.leaves q r r2 ≡ went ms r3
      → HaveSame (K.result_items x q) ns ms → ns ≡ ms

-- no call and no `for`
abbrev pub IsFlat : {O T F C : Type 0} → Tree O T F C → Type 0
IsFlat done = ⊤
IsFlat (op o r) = IsFlat r
IsFlat (quiet o r) = IsFlat r
IsFlat (choose p a b r) = IsFlat a × IsFlat b × IsFlat r
IsFlat (loop q p c b r) = IsFlat p × IsFlat b × IsFlat r
IsFlat (each f b r) = ⊥
IsFlat (call c b r) = ⊥
