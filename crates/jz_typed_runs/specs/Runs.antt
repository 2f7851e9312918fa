-- What holds in every run of a typed program that comes of a text.
use Rattle.std.specs.Prelude.{◌≡◌, ℕ, List, length, Contains, Option}
use Rattle.jz_tree.specs.Size.{Size}
use Rattle.jz_tree.specs.Memory.{Memory}
use Rattle.jz_tree.specs.declared.expr.Expr.{Expr}
use Rattle.jz_tree.specs.declared.stmt.Stmt.{Stmt}
use Rattle.jz_tree.specs.declared.program.Fun.{Fun}
use Rattle.jz_tree.specs.declared.program.Program.{Program}
use Rattle.jz_type_names.specs.Parts.{exprs_of, layer_of, statements_of}
use Rattle.jz_meaning.specs.Rules.{went}
use Rattle.jz_meaning.specs.States.{Value, State}
use Rattle.jz_meaning.specs.Values.{evaluated}
use Rattle.jz_meaning.specs.Statements.{Operation, Condition, Counter, Call, source}
use Rattle.jz_meaning.specs.Runs.{FunOutcome, IsInput, entry_state, body_of, IsRun}
use Rattle.jz_meaning.specs.Shapes.{shape_of}
use Rattle.jz_run_laws.specs.Kinds.{HoldsBytes, IsOfKinds, sorts_of}
use Rattle.jz_run_laws.specs.Kept.{AtEnd, IsReturned}
use Rattle.jz_typed_runs.specs.TypedTexts.{IsTypedText, kinds_in}
use Rattle.jz_typed_runs.specs.Reached.{Part, operation, test, bounds, arguments, results, Comes}

abbrev pub SourcePart : Type 0
SourcePart = Part Operation Condition Counter Call State

abbrev pub callee_of : Call → Fun
callee_of c = c.callee

-- the run of the program's function f on these words and this memory, with n turns left, comes to
-- that part, of a body of g, in that state
pub record RunComes (q : Program) (f : Fun) (words : List Value) (memory : Memory) (n : ℕ)
    (g : Fun) (p : SourcePart) (s : State) : Type 0 where
  pub input : IsInput q f words
  pub bytes : HoldsBytes memory
  pub comes : Comes source callee_of f (body_of q f) n (entry_state f words memory) g p s

-- what is kept of the states of a part: that of its own function, and at results that of the callee
abbrev pub KeepsKinds : Program → Fun → SourcePart → State → Type 0
KeepsKinds q g (operation o) s = IsOfKinds (kinds_in q g) s
KeepsKinds q g (test c) s = IsOfKinds (kinds_in q g) s
KeepsKinds q g (bounds f) s = IsOfKinds (kinds_in q g) s
KeepsKinds q g (arguments c) s = IsOfKinds (kinds_in q g) s
KeepsKinds q g (results c t) s = IsOfKinds (kinds_in q g) s × IsOfKinds (kinds_in q c.callee) t

-- ---- kinds
abbrev pub ReachedLaw : Type 0
ReachedLaw =
    (q : Program) (f : Fun) (words : List Value) (memory : Memory) (n : ℕ) (g : Fun)
    (p : SourcePart) (s : State) → IsTypedText q → RunComes q f words memory n g p s
    → Contains q.funs g × KeepsKinds q g p s

abbrev pub EndsLaw : Type 0
EndsLaw =
    (q : Program) (f : Fun) (words : List Value) (memory : Memory) (n : ℕ) (o : FunOutcome)
    → IsTypedText q → HoldsBytes memory → IsRun q f words memory n o → AtEnd IsReturned o

-- ---- numbers
-- an expression of a statement of the function
pub record StandsIn (f : Fun) (e : Expr) : Type 0 where
  pub statement : Stmt
  pub of_function : Contains (statements_of f.body) statement
  pub of_statement : Contains (exprs_of (layer_of statement)) e

-- how many numbers an expression of a function leaks, by its text
abbrev pub numbers_by : Program → Fun → Expr → ℕ
numbers_by q f e = (shape_of (sorts_of (kinds_in q f)) e).count

-- of any expression of a function, in any state in which the run does something of that function
abbrev pub NumbersLaw : Type 0
NumbersLaw =
    (q : Program) (f : Fun) (words : List Value) (memory : Memory) (n : ℕ) (g : Fun)
    (p : SourcePart) (s : State) (e : Expr) (w : Option Size) (ns : List ℕ) (v : Value)
    → IsTypedText q → RunComes q f words memory n g p s → StandsIn g e
    → evaluated e w s ≡ went ns v → length ns ≡ numbers_by q g e
