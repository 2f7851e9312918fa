-- A rule for one statement, and what it makes of whole trees.
use Rattle.std.specs.Prelude.{◌≡◌, ◌<◌, ℕ, ◌+◌, Bool, List, [], ◌∷◌, map, Contains, ⊤}
use Rattle.jz_runs.specs.Trees.{Tree, done, op, quiet, choose, loop}
use Rattle.jz_runs.specs.Rules.{Parts}
use Rattle.jz_change.specs.declared.change.Numbers.{Numbers}
use Rattle.jz_change.specs.declared.change.Step.{Step}
use Rattle.jz_change.specs.Changes.{Change}
use Rattle.jz_change.specs.Views.{chain, then_step}
use Rattle.jz_pass.specs.Operations.{in_turn}
use Rattle.jz_pass.specs.Laws.{Relating}
use Rattle.jz_pass.specs.Unrolling.{Knowing, Unrolls, IsKnown, unrolled_to}

-- ---- what a rule says

-- what operations and tests become
pub record Rewriting (O T O2 T2 : Type 0) : Type 1 where
  -- the operations of an operation, with their numbers
  pub Op : O → List O2 → List Numbers → Type 0
  pub Quiet : O → O2 → Type 0
  -- the operations before a test with their numbers, the test with its numbers
  pub Test : T → List O2 → List Numbers → T2 → Numbers → Type 0

-- nothing is known at any place: no test is constant, and no loop is unrolled
abbrev pub knowing_of : {O T F O2 T2 : Type 0} → Rewriting O T O2 T2 → Knowing O T F ⊤ O2 T2
knowing_of R = record {
  Op = λ o e os is e1. R.Op o os is;
  Quiet = λ o e o2 e1. R.Quiet o o2;
  Test = λ p e os is p2 i. R.Test p os is p2 i;
  LoopTest = λ p e os is p2 i. R.Test p os is p2 i;
  Constant = λ p e z. ⊥;
  Values = λ f e is. ⊥;
  Less = λ e0 e. ⊤;
  set = λ f i e. e;
  restore = λ f e e1. e;
}

-- what stands for what by a rule
abbrev pub by_rule :
    {O T F C S W O2 T2 F2 C2 U W2 : Type 0} {M : Parts O T F C S W} {N : Parts O2 T2 F2 C2 U W2}
    {R : Rewriting O T O2 T2} → IsKnown M N (knowing_of R) → Relating S U S U W W2
by_rule L = unrolled_to L tt tt

-- a tree before what follows: what it becomes together with that, and what it makes of a leak
abbrev pub Rewrites :
    {O T F C O2 T2 F2 C2 : Type 0} → Rewriting O T O2 T2 → Tree O T F C → Tree O2 T2 F2 C2
    → Tree O2 T2 F2 C2 → Change → Type 0
Rewrites R t rest u k = Unrolls (knowing_of R) t tt rest u tt k

-- ---- statements

-- what stands in a statement, and whose tree it is before what follows
pub data Shape (O T St : Type 0) : Type 0 where
  one : O → Shape O T St
  -- without a leak
  hidden : O → Shape O T St
  either : T → List St → List St → Shape O T St
  turns : Bool → List St → T → List St → Shape O T St
  -- none of these
  other : Shape O T St

-- the statements of an arm or of a prologue, and those of the other arm or of a body
abbrev pub first_part : {O T St : Type 0} → Shape O T St → List St
first_part (either p a b) = a
first_part (turns h q p b) = q
first_part _ = []

abbrev pub second_part : {O T St : Type 0} → Shape O T St → List St
second_part (either p a b) = b
second_part (turns h q p b) = b
second_part _ = []

-- statements one after another, before what follows
abbrev pub all_before : {St A : Type 0} → (St → A → A) → List St → A → A
all_before before [] rest = rest
all_before before (s ∷ ss) rest = before s (all_before before ss rest)

-- a statement of this shape is this tree
abbrev pub HasTree :
    {O T F C St : Type 0} → (St → Tree O T F C → Tree O T F C) → Shape O T St
    → (Tree O T F C → Tree O T F C) → Type 0
HasTree {O} {T} {F} {C} before (one o) tree = (rest : Tree O T F C) → tree rest ≡ op o rest
HasTree {O} {T} {F} {C} before (hidden o) tree = (rest : Tree O T F C) → tree rest ≡ quiet o rest
HasTree {O} {T} {F} {C} before (either p a b) tree =
    (rest : Tree O T F C)
    → tree rest ≡ choose p (all_before before a done) (all_before before b done) rest
HasTree {O} {T} {F} {C} before (turns h q p b) tree =
    (rest : Tree O T F C)
    → tree rest ≡ loop h (all_before before q done) p (all_before before b done) rest
HasTree before other tree = ⊤

-- the sizes together
abbrev pub sizes : {St : Type 0} → (St → ℕ) → List St → ℕ
sizes size [] = 0
sizes size (s ∷ ss) = size s + sizes size ss

-- what stands in a statement is smaller than that
abbrev pub IsAbove : {O T St : Type 0} → (St → ℕ) → Shape O T St → ℕ → Type 0
IsAbove size (either p a b) n = (sizes size a < n) × (sizes size b < n)
IsAbove size (turns h q p b) n = (sizes size q < n) × (sizes size b < n)
IsAbove size _ n = ⊤

-- ---- what statements become

module _ {O T O2 T2 F2 C2 St : Type 0} (R : Rewriting O T O2 T2)
    (before : St → Tree O2 T2 F2 C2 → Tree O2 T2 F2 C2) where
  -- an operation: these statements, which are the operations that the rule says
  pub record OpBecomes (o : O) (made : List St) (items : List Numbers) : Type 0 where
    pub operations : List O2
    pub rule : R.Op o operations items
    pub trees :
        (rest : Tree O2 T2 F2 C2) → all_before before made rest ≡ in_turn operations rest

  pub record QuietBecomes (o : O) (made : List St) : Type 0 where
    pub operation : O2
    pub rule : R.Quiet o operation
    pub trees : (rest : Tree O2 T2 F2 C2) → all_before before made rest ≡ quiet operation rest

  -- an `if` with these arms: the operations of its test, and an `if`
  pub record IfBecomes (p : T) (a b made : List St) (items : List Numbers) (numbers : Numbers) :
      Type 0 where
    pub operations : List O2
    pub test : T2
    pub rule : R.Test p operations items test numbers
    pub trees :
        (rest : Tree O2 T2 F2 C2)
        → all_before before made rest
        ≡ in_turn operations
        (choose test (all_before before a done) (all_before before b done) rest)

  -- a `while` with this prologue and body: one, with the operations of its test behind the prologue
  pub record WhileBecomes (h : Bool) (q : List St) (p : T) (b made : List St)
      (items : List Numbers) (numbers : Numbers) : Type 0 where
    pub operations : List O2
    pub test : T2
    pub rule : R.Test p operations items test numbers
    pub trees :
        (rest : Tree O2 T2 F2 C2)
        → all_before before made rest
        ≡ loop h (all_before before q (in_turn operations done)) test
        (all_before before b done) rest

-- ---- what a list of statements becomes

module _ {O T F C O2 T2 F2 C2 St St2 : Type 0} (R : Rewriting O T O2 T2)
    (before : St → Tree O T F C → Tree O T F C)
    (before2 : St2 → Tree O2 T2 F2 C2 → Tree O2 T2 F2 C2) where
  -- whatever stands behind the statements, and whatever that becomes
  abbrev pub RewritesTo : List St → List St2 → List Step → Type 0
  RewritesTo ss made steps =
      (t : Tree O T F C) (rest u : Tree O2 T2 F2 C2) (k : Change)
      → Rewrites R t rest u k
      → Rewrites R (all_before before ss t) rest (all_before before2 made u)
      (chain (map then_step steps) k)

-- ---- refusals

-- a statement stands in these, at any depth
pub data StandsIn {O T St : Type 0} (shape : St → Shape O T St) (s : St) : List St → Type 0 where
  stands_here : {ss : List St} → Contains ss s → StandsIn shape s ss
  stands_first :
      {ss : List St} {x : St} → Contains ss x → StandsIn shape s (first_part (shape x))
      → StandsIn shape s ss
  stands_second :
      {ss : List St} {x : St} → Contains ss x → StandsIn shape s (second_part (shape x))
      → StandsIn shape s ss

-- a statement that stands in these is refused with this cause
abbrev pub RefusesOne :
    {O T St Cause : Type 0} → (St → Shape O T St) → (St → Cause → Type 0) → List St → Cause
    → Type 0
RefusesOne {St} shape refuses ss cause = (s : St) × StandsIn shape s ss × refuses s cause
