-- A compiled function as its parts make it: the expansion, the function over variables, its machine
-- code, and what is listed.
use Rattle.std.specs.Prelude.{◌≡◌, ℕ, List, [], ◌∷◌, map, ⊤, Some, Contains}
use Rattle.jz_words.specs.declared.size.Size.{Size}
use Rattle.jz_words.specs.Memory.{Memory}
use Rattle.jz_tree.specs.declared.expr.Var.{Var}
use Rattle.jz_tree.specs.declared.program.Fun.{Fun}
use Rattle.jz_tree.specs.declared.program.Program.{Program}
use Rattle.jz_runs.specs.Rules.{Stuck, Goes}
use Rattle.jz_meaning.specs.declared.value.Stuck.{Stuck as Reason}
use Rattle.jz_meaning.specs.Statements as statements
use Rattle.jz_meaning.specs.Values.{key_of, ref_of}
use Rattle.jz_meaning.specs.Runs.{IsInput, body_of}
use Rattle.jz_run_laws.specs.Kinds.{HoldsBytes}
use Rattle.jz_preconditions.specs.Meeting.{MeetsPreconditions}
use Rattle.jz_operations.specs.declared.operation.Stacked.{Stacked}
use Rattle.jz_placing.specs.Variables.{variables}
use Rattle.jz_change.specs.Changes.{Change}
use Rattle.jz_change.specs.Composing.{compose_of}
use Rattle.jz_change.specs.Flattening.{flatten_of}
use Rattle.jz_pass.specs.Laws.{Carries}
use Rattle.jz_function_runs.specs.Functions.{own_names, Given, runs_of, body_runs}
use Rattle.jz_function_runs.specs.FunctionRuns.{plain_body, alike_where}
use Rattle.jz_place.specs.declared.tree.Ir.{Ir}
use Rattle.jz_place.specs.Bodies as ir
use Rattle.jz_homes.specs.Homes.{Homes, IsHoming, in_register}
use Rattle.jz_lowered.specs.Bodies.{beside}
use Rattle.jz_lowered.specs.Functions.{IsLoweredFun}
use Rattle.jz_listing.specs.declared.compiled.Arg.{Arg}
use Rattle.jz_listing.specs.declared.compiled.Compiled.{Compiled}
use Rattle.jz_correct.specs.Registers.{argument_registers, result_registers}
use Rattle.jz_called.specs.Laying.{frame_of}
use Rattle.jz_called.specs.MachineCode.{MachineCode}
use Rattle.jz_codable.specs.Ready.{IsReady}
use Rattle.jz_called.specs.Made.{IsCodeOf}
use Rattle.jz_called.specs.Called.{HasCode}
use Rattle.jz_compiled.specs.Layout.{stack_variables_of, layout_of}
use Rattle.jz_compiled.specs.Lines.{AreArgumentLines, AreResultLines, listed_preconditions}
use Rattle.jz_compiled.specs.Showing.{CasesStayIn}
use Rattle.jz_compiled.specs.Matching.{values_of}

-- ---- what is listed
-- a variable of a parameter or a result has the size of its line
abbrev pub HaveSizes : Homes → List Var → List Arg → Type 0
HaveSizes home [] [] = ⊤
HaveSizes home (x ∷ xs) (a ∷ args) =
    ((n : ℕ) (z : Size) → home (key_of (ref_of x)) ≡ Some (in_register n z) → z ≡ a.size)
    × HaveSizes home xs args
HaveSizes home _ _ = ⊥

abbrev pub parameters_of : Fun → List Var
parameters_of f = map (λ p. p.var) f.params

pub record IsListedAs (f : Fun) (c : Compiled) : Type 0 where
  pub args : AreArgumentLines argument_registers f.params c.args
  pub rets : AreResultLines result_registers f.result f.rets c.rets
  pub pre : c.pre ≡ listed_preconditions f

-- ---- the parts
-- argument words of the function, and a memory of bytes
abbrev pub IsAsked : Program → Fun → Given → Type 0
IsAsked p f given = IsInput p f given.words × HoldsBytes given.memory

-- The function g without calls, loops that count and register arrays, and what becomes of a leak.
pub record IsExpandedTo (p : Program) (f g : Fun) (k : Change) : Type 0 where
  pub params : g.params ≡ f.params
  pub result : g.result ≡ f.result
  pub carries : Carries (alike_where (IsAsked p f)) (runs_of p f) (body_runs (plain_body g) g) k

-- no input that meets the preconditions is stuck in g
abbrev pub IsNeverStuck : Fun → Fun → Compiled → Type 0
IsNeverStuck f g c =
    (words : List ℕ) (memory : Memory) (n : ℕ) (w : Reason)
    → MeetsPreconditions f words memory
    → body_runs (plain_body g) g (record { words = values_of c.args words; memory = memory }) n
    (Stuck w) → ⊥

-- the function over variables of g, with these stack variables
pub record IsLoweredTo (g : Fun) (home : Homes) (l : Ir) (vs : List Stacked) (k : Change)
    : Type 0 where
  pub homing : IsHoming (frame_of vs) home
  pub made : IsLoweredFun home argument_registers result_registers g (plain_body g) l k
  pub carries :
      Carries (beside home) (λ s n. Goes statements.source (plain_body g) n s)
      (λ σ n. Goes (variables (frame_of vs)) (ir.body_of l.body) n σ) k

-- What the parts give of a function of a program. The transformer is the printed one of the code
-- behind what the expansion and then the lowering make of a leak.
pub record IsMade (p : Program) (f : Fun) (c : Compiled) : Type 0 where
  pub of_program : Contains p.funs f
  pub listed : IsListedAs f c
  -- the expansion
  pub expanded : Fun
  pub first : Change
  pub expansion : IsExpandedTo p f expanded first
  pub safe : IsNeverStuck f expanded c
  -- the function over variables
  pub home : Homes
  pub body : Ir
  pub stack : List Stacked
  pub second : Change
  pub lowering : IsLoweredTo expanded home body stack second
  pub params : HaveSizes home (parameters_of f) c.args
  pub results : HaveSizes home f.result c.rets
  -- its machine code
  pub code : MachineCode
  pub ready : IsReady body
  pub is_code : IsCodeOf body stack code
  pub has : HasCode c code
  pub transformer : c.tr ≡ flatten_of (compose_of first second) code.transformer

-- ---- and the rest of the listing
-- the variables of the frame are those of the text in its order
pub record IsMadeWhole (p : Program) (f : Fun) (c : Compiled) : Type 0 where
  pub made : IsMade p f c
  pub name : c.name ≡ f.name
  pub saved : c.saved ≡ made.code.saved
  pub stack :
      made.stack ≡ map (λ v. record { size = v.cell; count = v.count }) (stack_variables_of p f)
  pub places : CasesStayIn (layout_of p f) c.frame own_names 1 (body_of p f) c.tr.body.cases
