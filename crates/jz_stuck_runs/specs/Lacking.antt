-- Why a run is stuck for want of a value.
use Rattle.std.specs.Prelude.{◌≡◌, ◌⊎◌, ℕ, negsuc, List, [], ◌∷◌, None}
use Rattle.jz_tree.specs.Span.{Span}
use Rattle.jz_tree.specs.Memory.{Memory}
use Rattle.jz_tree.specs.declared.expr.Expr.{Expr}
use Rattle.jz_tree.specs.declared.expr.Expr.TheViews.{out-Expr}
use Rattle.jz_tree.specs.declared.expr.Var.{Var}
use Rattle.jz_tree.specs.declared.stmt.Lval.{Lval}
use Rattle.jz_tree.specs.declared.program.Fun.{Fun}
use Rattle.jz_tree.specs.declared.program.Program.{Program}
use Rattle.jz_types.specs.Carried.{vars_in}
use Rattle.jz_meaning.specs.Rules.{Stuck}
use Rattle.jz_meaning.specs.declared.value.Stuck as code
use Rattle.jz_meaning.specs.declared.value.Why.TheVariants.{Init}
use Rattle.jz_meaning.specs.States.{Value, State}
use Rattle.jz_meaning.specs.Values.{key_of, ref_of}
use Rattle.jz_meaning.specs.Statements.{instruction, Call, source}
use Rattle.jz_meaning.specs.Runs.{IsRun}
use Rattle.jz_run_laws.specs.Kinds.{HoldsBytes}
use Rattle.jz_typed_runs.specs.TypedTexts.{IsTypedText}
use Rattle.jz_typed_runs.specs.Reached.{operation, results}
use Rattle.jz_typed_runs.specs.Runs.{SourcePart, RunComes}
use Rattle.jz_typed_runs.specs.Stuck.{IsStuckAt, EndsUnset}
use Rattle.jz_typed_runs.specs.Causes.{ReadsUnset, HasNumber, HasNoValue}
use Rattle.jz_stuck_runs.specs.Parts.{IsGiven, returned_to, Evaluates}

-- a variable or a cell of the expression holds nothing, or it computes with a number, at the place
-- that is told
abbrev pub IsLacking : Expr → State → code.Stuck → Type 0
IsLacking e s w = ReadsUnset (vars_in e) s.store w ⊎ HasNoValue (out-Expr e) s w

-- why a part is stuck in that state
pub data LacksValue : SourcePart → State → code.Stuck → Type 0 where
  evaluated :
      {p : SourcePart} {s t : State} {e : Expr} {w : code.Stuck} → Evaluates p s e t
      → IsLacking e t w → LacksValue p s w
  -- an instruction that shifts by a number below 0
  shifted :
      {to : List Lval} {n : List ℕ} {a c : Expr} {at : Span} {s : State} {k : ℕ}
      → HasNumber c s (negsuc k)
      → LacksValue (operation (instruction to n (a ∷ c ∷ []) at)) s
      (record { span = at; why = Init })
  -- a variable that the callee gives back holds nothing
  unset :
      {c : Call} {s t u : State} {d : Lval} {x : Var} {w : code.Stuck}
      → IsGiven t.store c.to c.callee.result (returned_to c s t) d x u
      → t.store (key_of (ref_of x)) ≡ None
      → w ≡ record { span = (ref_of x).span; why = Init } → LacksValue (results c t) s w

-- each part to which a run of a typed program comes
abbrev pub PartLaw : Type 0
PartLaw =
    (q : Program) (f : Fun) (words : List Value) (memory : Memory) (n : ℕ) (g : Fun)
    (p : SourcePart) (s : State) (w : code.Stuck)
    → IsTypedText q → RunComes q f words memory n g p s → IsStuckAt source p s w → w.why ≡ Init
    → LacksValue p s w

-- the run comes to such a part
pub record StopsLacking (q : Program) (f : Fun) (words : List Value) (memory : Memory) (n : ℕ)
    (w : code.Stuck) : Type 0 where
  pub fun : Fun
  pub part : SourcePart
  pub state : State
  pub comes : RunComes q f words memory n fun part state
  pub is_stuck : IsStuckAt source part state w
  pub lacks : LacksValue part state w

-- each run of a typed program that is stuck for want of a value
abbrev pub RunLaw : Type 0
RunLaw =
    (q : Program) (f : Fun) (words : List Value) (memory : Memory) (n : ℕ) (w : code.Stuck)
    → IsTypedText q → HoldsBytes memory → IsRun q f words memory n (Stuck w) → w.why ≡ Init
    → StopsLacking q f words memory n w ⊎ EndsUnset q f words memory n w
