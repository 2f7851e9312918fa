-- A body over variables in its places: the instructions that it becomes, what they leak, what the
-- places have to do with what is live, and how a machine stands beside a run.
use Rattle.std.specs.Prelude.{◌≡◌, ◌≢◌, ℕ, Bool, false, ◌||◌, IsTrue, IsFalse, List, [], ◌∷◌, Option, Some, None, pos, ◌+ℤ◌, is_some, ⊤}
use Rattle.std.specs.FinMap.{get}
use Rattle.jz_words.specs.declared.size.Size.{Size}
use Rattle.jz_words.specs.declared.size.Size.TheVariants.{S64}
use Rattle.jz_words.specs.Words.{residue}
use Rattle.jz_words.specs.Memory.{Memory}
use Rattle.x64_insn.specs.declared.types.Place.{Place}
use Rattle.x64_insn.specs.declared.types.Place.TheVariants as place
use Rattle.x64_insn.specs.declared.types.Reg.TheVariants as reg
use Rattle.jz_ir.specs.Order.{number_of, has_place}
use Rattle.jz_ir.specs.Paths.{among}
use Rattle.jz_ir.specs.Places.{place_at}
use Rattle.jz_ir.specs.Tree as ir
use Rattle.jz_live.specs.Lives.{transfer, live_before, test_before}
use Rattle.jz_leak.specs.RunLeaks.{Leak}
use Rattle.jz_runs.specs.Trees.{Tree, done, op, quiet, choose, loop, each, call}
use Rattle.jz_operations.specs.declared.operation.Cell.{Cell}
use Rattle.jz_operations.specs.declared.operation.Arg.{Arg}
use Rattle.jz_operations.specs.declared.operation.Arg.TheVariants as arg
use Rattle.jz_operations.specs.declared.operation.Condition.TheVariants as condition
use Rattle.jz_operations.specs.declared.operation.Operation.{Operation}
use Rattle.jz_operations.specs.Values.{Cells, State}
use Rattle.jz_operations.specs.Rows.{Frame, Output, outputs, accesses}
use Rattle.jz_operations.specs.Reading.{seen_of, fixed_of, written_in}
use Rattle.jz_operations.specs.Insns.{insn_of, cond_of, reg_of}
use Rattle.jz_operations.specs.Standing.{Agrees, IsPlaced, cell_address}
use Rattle.jz_operations.specs.Frames.{Holds}
use Rattle.jz_placing.specs.Instructions.{Machine, state_of, Code, Test}
use Rattle.jz_placing.specs.Instructions as insn
use Rattle.jz_placing.specs.Variables.{Asked, always, asks, Body, test_of}
use Rattle.jz_placing.specs.Renumbering.{renumbered}
use Rattle.jz_placing.specs.Flow.{flow}

-- ---- the instructions
module _ (places : ℕ → Place) (slots : ℕ → ℕ) where
  abbrev pub test_for : Asked → Test
  test_for always = insn.always
  test_for (asks None k) = insn.if_holds None (cond_of places slots k)
  test_for (asks (Some o) k) =
      insn.if_holds (Some (insn_of places slots o.action)) (cond_of places slots k)

  abbrev pub code_of : Body → Code
  code_of done = done
  code_of (op o r) = op (insn_of places slots o.action) (code_of r)
  code_of (quiet o r) = code_of r
  code_of (choose c a b r) = choose (test_for c) (code_of a) (code_of b) (code_of r)
  code_of (loop q p c b r) = loop q (code_of p) (test_for c) (code_of b) (code_of r)
  code_of (each f b r) = absurd f
  code_of (call c b r) = absurd c

-- ---- what they leak: a cell's number is its address, and a cell without an index has one then
abbrev pub first_of : List ℕ → ℕ
first_of [] = 0
first_of (n ∷ ns) = n

abbrev pub rest_of : List ℕ → List ℕ
rest_of [] = []
rest_of (n ∷ ns) = ns

module _ (slots : ℕ → ℕ) (low : ℕ) where
  abbrev pub cell_by_address : Size → Cell → Option ℕ → List ℕ → List ℕ
  cell_by_address s c None ns =
      cell_address low (slots c.of) s (residue S64 (pos 0 +ℤ c.offset)) ∷ ns
  cell_by_address s c (Some v) ns = cell_address low (slots c.of) s (first_of ns) ∷ rest_of ns

  abbrev pub access_by_address : Output → (List ℕ → List ℕ) → List ℕ → List ℕ
  access_by_address (s, arg.Mem a) rest ns = ns
  access_by_address (s, arg.Cell c) rest ns = cell_by_address s c c.index ns
  access_by_address (s, _) rest ns = rest ns

  abbrev pub accesses_by_address : List Output → List ℕ → List ℕ
  accesses_by_address [] ns = ns
  accesses_by_address (o ∷ os) ns = access_by_address o (accesses_by_address os) ns

  abbrev pub numbers : Operation → List ℕ → List ℕ
  numbers o ns = accesses_by_address (accesses o.action) ns

  abbrev pub test_numbers : Asked → List ℕ → List ℕ
  test_numbers always ns = ns
  test_numbers (asks None k) ns = ns
  test_numbers (asks (Some o) k) ns = numbers o ns

  -- the stack pointer being low
  abbrev pub leak_of : Body → Leak → Leak
  leak_of t = renumbered numbers test_numbers t

-- ---- one access: of the operands one at most is in memory or a cell
abbrev pub IsOutside : Arg → Type 0
IsOutside (arg.Mem a) = ⊥
IsOutside (arg.Cell c) = ⊥
IsOutside _ = ⊤

abbrev pub AreOutside : List Output → Type 0
AreOutside [] = ⊤
AreOutside (o ∷ os) = IsOutside o.1 × AreOutside os

abbrev pub OneAfter : Arg → List Output → Type 0 → Type 0
OneAfter (arg.Mem a) os Rest = AreOutside os
OneAfter (arg.Cell c) os Rest = AreOutside os
OneAfter _ os Rest = Rest

abbrev pub HasOneAccess : List Output → Type 0
HasOneAccess [] = ⊤
HasOneAccess (o ∷ os) = OneAfter o.1 os (HasOneAccess os)

-- ---- what the places have to do with what is live
-- `true` is asked by a loop alone
abbrev pub Asks : Asked → Type 0
Asks always = ⊥
Asks (asks o k) = ⊤

module _ (places : ℕ → Place) where
  -- an operation in its places, where these variables are live behind it
  pub record IsMet (o : Operation) (behind : ℕ → Bool) : Type 0 where
    pub placed :
        IsPlaced places
        (λ v. IsTrue
        (transfer (among (seen_of o).reads v) (among (seen_of o).writes v) (behind v)))
        (λ v. IsTrue (behind v)) o
    pub one : HasOneAccess (accesses o.action)

  -- a test is a condition behind an operation, or a flag that is a variable; `on` are live where it
  -- is true, and `off` where it is false
  abbrev pub IsMetTest : Asked → (ℕ → Bool) → (ℕ → Bool) → Type 0
  IsMetTest always on off = ⊤
  IsMetTest (asks (Some o) (condition.Cc c)) on off = IsMet o (λ v. on v || off v)
  IsMetTest (asks None (condition.Flag v no')) on off = ⊤
  IsMetTest _ on off = ⊥

  abbrev pub AreMet : Body → ir.Tree → (ℕ → Bool) → Type 0
  AreMet done rest behind = ⊤
  AreMet (op o r) rest behind =
      IsMet o (λ v. live_before v (flow seen_of test_of r rest) (behind v)) × AreMet r rest behind
  AreMet (quiet o r) rest behind = AreMet r rest behind
  AreMet (choose c a b r) rest behind =
      let B : ℕ → Bool = λ v. live_before v (flow seen_of test_of r rest) (behind v) in
      IsMetTest c (λ v. live_before v (flow seen_of test_of a ir.done) (B v))
      (λ v. live_before v (flow seen_of test_of b ir.done) (B v))
      × Asks c × AreMet a ir.done B × AreMet b ir.done B × AreMet r rest behind
  AreMet (loop q p c b r) rest behind =
      let B : ℕ → Bool = λ v. live_before v (flow seen_of test_of r rest) (behind v) in
      let H : ℕ → Bool = λ v. live_before v (flow seen_of test_of p ir.done)
      (test_before v (test_of c) (live_before v (flow seen_of test_of b ir.done) false) (B v)) in
      AreMet p ir.done
      (λ v. test_before v (test_of c) (live_before v (flow seen_of test_of b ir.done) (H v)) (B v))
      × IsMetTest c (λ v. live_before v (flow seen_of test_of b ir.done) (H v)) B
      × AreMet b ir.done H × AreMet r rest behind
  AreMet (each f b r) rest behind = absurd f
  AreMet (call c b r) rest behind = absurd c

-- ---- a machine beside a run
-- the memory of a machine with this stack pointer; the run's has bytes exactly where r0 has
pub record HoldsAt (frame : Frame) (slots : ℕ → ℕ) (end low : ℕ) (r0 m0 : Memory)
    (cells : Cells) (r : Memory) (rsp : ℕ) (m : Memory) : Type 0 where
  pub stack : rsp ≡ low
  pub same : (q : ℕ) → is_some (get r q) ≡ is_some (get r0 q)
  pub holds : Holds frame slots end m0 cells r rsp m

abbrev pub StandsBeside : (ℕ → Place) → Frame → (ℕ → ℕ) → ℕ → ℕ → Memory → Memory → (ℕ → Bool)
    → State → Machine → Type 0
StandsBeside places frame slots end low r0 m0 live σ s =
    Agrees places (HoldsAt frame slots end low r0 m0) (λ v. IsTrue (live v)) σ (state_of s) s.memory

-- ---- what is asked of operations besides a placing of variables
module _ (list : List Place) where
  -- words that it writes stand in registers, none of them the stack pointer
  pub record Suits (o : Operation) : Type 0 where
    pub words : (v : ℕ) → IsTrue (among (written_in (outputs o.action)) v)
        → (place_at list v ≡ place.Reg (reg_of (place_at list v)))
        × (reg_of (place_at list v) ≢ reg.Rsp)
    pub stack : IsFalse (has_place (fixed_of o) (number_of (place.Reg reg.Rsp)))
    pub one : HasOneAccess (accesses o.action)

  abbrev pub SuitsTest : Asked → Type 0
  SuitsTest always = ⊤
  SuitsTest (asks (Some o) (condition.Cc c)) = Suits o
  SuitsTest (asks None (condition.Flag v no')) = ⊤
  SuitsTest _ = ⊥

  abbrev pub AreSuited : Body → Type 0
  AreSuited done = ⊤
  AreSuited (op o r) = Suits o × AreSuited r
  AreSuited (quiet o r) = AreSuited r
  AreSuited (choose c a b r) =
      SuitsTest c × Asks c × AreSuited a × AreSuited b × AreSuited r
  AreSuited (loop q p c b r) = AreSuited p × SuitsTest c × AreSuited b × AreSuited r
  AreSuited (each f b r) = absurd f
  AreSuited (call c b r) = absurd c
