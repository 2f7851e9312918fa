-- What is kept: expressions give values that fit their sizes, and what the parts of statements do
-- leaves values of their kinds.
use Rattle.std.specs.Prelude.{◌≡◌, ℕ, ℤ, List, All, Option, None}
use Rattle.jz_tree.specs.Size.{Size}
use Rattle.jz_tree.specs.Memory.{Memory}
use Rattle.jz_tree.specs.declared.expr.Expr.{Expr}
use Rattle.jz_tree.specs.declared.expr.Decl.{Decl}
use Rattle.jz_tree.specs.declared.expr.Var.{Var}
use Rattle.jz_tree.specs.declared.expr.Expr.TheViews.{out-Var}
use Rattle.jz_tree.specs.declared.program.Program.{Program}
use Rattle.jz_tree.specs.declared.program.Fun.{Fun}
use Rattle.jz_meaning.specs.RunLeaks.{Leak}
use Rattle.jz_meaning.specs.Rules.{Attempt, stuck, went, Outcome, End, Cut, Stuck, Goes}
use Rattle.jz_meaning.specs.declared.value.Stuck as code
use Rattle.jz_meaning.specs.States.{Value, State, Store}
use Rattle.jz_meaning.specs.Values.{evaluated, ref_of}
use Rattle.jz_meaning.specs.Statements.{Operation, Counter, Call, Block, does, quiets, begins, restores, enters, leaves, source}
use Rattle.jz_meaning.specs.Runs.{Returned, FunOutcome, IsInput, entry_state, body_of, IsRun}
use Rattle.jz_meaning.specs.Shapes.{HoldsSorts}
use Rattle.jz_run_laws.specs.Kinds.{Kinds, FitsSize, HoldsKinds, HoldsBytes, IsOfKinds, sorts_of}
use Rattle.jz_run_laws.specs.DeclaredKinds.{kinds_of, IsDeclared, OperationDeclared, CounterDeclared, ParamDeclared, CallDeclared, BodyDeclared}

-- what is said of what a part gives, unless it is stuck
abbrev pub IfWent : {W A : Type 0} → (A → Type 0) → Attempt W A → Type 0
IfWent P (stuck w) = Unit {0}
IfWent P (went ns x) = P x

-- what is said of a state at an end
abbrev pub AtEnd : {S W L : Type 0} → (S → Type 0) → Outcome S W L → Type 0
AtEnd P (End s n l) = P s
AtEnd P (Cut l) = Unit {0}
AtEnd P (Stuck w) = Unit {0}

abbrev pub ValuesFit : Type 0
ValuesFit =
    (kinds : Kinds) (e : Expr) (w : Option Size) (s : State)
    → IsOfKinds kinds s → IfWent FitsSize (evaluated e w s)

abbrev pub KindsAreSorts : Type 0
KindsAreSorts =
    (kinds : Kinds) (store : Store)
    → HoldsKinds kinds store → HoldsSorts (sorts_of kinds) store

-- a variable of a text that carries what is declared of its name
abbrev pub DeclarationsGiveKinds : Type 0
DeclarationsGiveKinds =
    (declared : List ℕ → Option Decl) (v : Var)
    → (out-Var v).decl ≡ declared (out-Var v).name → (out-Var v).cell ≡ None
    → IsDeclared (kinds_of declared) (ref_of v)

abbrev pub OperationsKeep : Type 0
OperationsKeep =
    (kinds : Kinds) (o : Operation) (s : State) → OperationDeclared kinds o
    → IsOfKinds kinds s → IfWent (IsOfKinds kinds) (does o s)

abbrev pub MarksKeep : Type 0
MarksKeep =
    (kinds : Kinds) (o : Operation) (s : State)
    → IsOfKinds kinds s → IsOfKinds kinds (quiets o s)

abbrev pub CountersBegin : Type 0
CountersBegin =
    (kinds : Kinds) (f : Counter) (i : ℤ) (s : State) → CounterDeclared kinds f
    → IsOfKinds kinds s → IsOfKinds kinds (begins f i s)

abbrev pub CountersRestore : Type 0
CountersRestore =
    (kinds : Kinds) (f : Counter) (before s : State) → IsOfKinds kinds before
    → IsOfKinds kinds s → IsOfKinds kinds (restores f before s)

abbrev pub CallsEnter : Type 0
CallsEnter =
    (caller callee : Kinds) (c : Call) (s : State) → CallDeclared caller callee c
    → IsOfKinds caller s → IfWent (IsOfKinds callee) (enters c s)

-- of the caller's state before, and the callee's at its end
abbrev pub CallsLeave : Type 0
CallsLeave =
    (caller callee : Kinds) (c : Call) (s t : State) → CallDeclared caller callee c
    → IsOfKinds caller s → IsOfKinds callee t → IfWent (IsOfKinds caller) (leaves c s t)

abbrev pub BodiesKeep : Type 0
BodiesKeep =
    (kinds : Kinds) (b : Block) (n : ℕ) (s : State) (o : Outcome State code.Stuck Leak)
    → BodyDeclared kinds b → IsOfKinds kinds s → Goes source b n s o → AtEnd (IsOfKinds kinds) o

-- what a function begins with, on argument words and a memory of bytes
abbrev pub EntriesKeep : Type 0
EntriesKeep =
    (kinds : Kinds) (p : Program) (f : Fun) (words : List Value) (memory : Memory)
    → All (ParamDeclared kinds) f.params → IsInput p f words → HoldsBytes memory
    → IsOfKinds kinds (entry_state f words memory)

-- what a function gives back
abbrev pub IsReturned : Returned → Type 0
IsReturned r = All FitsSize r.words × HoldsBytes r.memory

abbrev pub FunctionsKeep : Type 0
FunctionsKeep =
    (kinds : Kinds) (p : Program) (f : Fun) (words : List Value) (memory : Memory)
    (n : ℕ) (o : FunOutcome) → All (ParamDeclared kinds) f.params
    → BodyDeclared kinds (body_of p f) → HoldsBytes memory
    → IsRun p f words memory n o → AtEnd IsReturned o
