-- The run of a source function: what the statements of the text do, parameters in and results out.
-- No register, no place in the frame and no code is named. A body is seen as a tree in which each
-- call holds the body that it calls.
use Rattle.std.specs.Prelude.{◌≡◌, ◌<◌, ℕ, zero, suc, not, is_some, Bool, List, [], ◌∷◌, map, length, Option, Some, None, Contains, if◌then◌else◌}
use Rattle.std.specs.List.{AllZip}
use Rattle.jz_tree.specs.Span.{Span}
use Rattle.x64_insn.specs.Sizes.{modulus}
use Rattle.x64_insn.specs.Memory.{Memory}
use Rattle.jz_tree.specs.declared.expr.BinOp.{BinOp}
use Rattle.jz_tree.specs.declared.expr.Expr.{Expr}
use Rattle.jz_tree.specs.declared.expr.Var.{Var}
use Rattle.jz_tree.specs.declared.stmt.Lval.{Lval}
use Rattle.jz_tree.specs.declared.stmt.Rhs.{Rhs}
use Rattle.jz_tree.specs.declared.stmt.Rhs.TheVariants as rhs
use Rattle.jz_tree.specs.declared.stmt.Stmt.{Stmt}
use Rattle.jz_tree.specs.declared.stmt.StmtKind.TheOpen.{StmtKind-F, Stmt-F}
use Rattle.jz_tree.specs.declared.stmt.StmtKind.TheFolds.{fold-Stmt}
use Rattle.jz_tree.specs.declared.program.Program.{Program}
use Rattle.jz_tree.specs.declared.program.Fun.{Fun}
use Rattle.jz_tree.specs.declared.program.Param.{Param}
use Rattle.jz_runs.specs.RunLeaks.{Leak}
use Rattle.jz_runs.specs.Trees.{Tree, done, op, quiet, choose, loop, each, call}
use Rattle.jz_runs.specs.Rules.{stuck, went, Outcome, End, Cut, Stuck, Goes}
use Rattle.jz_type_names.specs.Scopes.{function_named}
use Rattle.jz_meaning.specs.declared.access.Kind.{Kind}
use Rattle.jz_meaning.specs.declared.access.Kind.TheVariants as kind
use Rattle.jz_meaning.specs.declared.value.Why.TheVariants.{Init}
use Rattle.jz_meaning.specs.declared.value.Stuck as code
use Rattle.jz_meaning.specs.Attempts.{Evaluation, stuck_at, and_then}
use Rattle.jz_meaning.specs.States.{Value, word, Store, empty_store, put, State}
use Rattle.jz_meaning.specs.Values.{key_of, variable_value, ref_of}
use Rattle.jz_meaning.specs.Statements.{Operation, assign, instruction, unset, meaningless, Condition, Counter, Call, Block, source}

-- ---- the trees of bodies

-- a function that can be called, and the tree of its body
pub record Callee : Type 0 where
  pub of : Fun
  pub body : Block

abbrev pub Callees : Type 0
Callees = List ℕ → Option Callee

-- statements, each before what follows it
abbrev pub in_order : List (Block → Block) → Block → Block
in_order [] rest = rest
in_order (f ∷ fs) rest = f (in_order fs rest)

-- a call has neither an operation nor a condition
abbrev pub call_tree : Option Callee → List Lval → Option BinOp → List Expr → Option Expr → Span → Block → Block
call_tree (Some f) to None args None at rest = call (record { to = to; callee = f.of; args = args; at = at }) f.body rest
call_tree _ to o args c at rest = op (meaningless at) rest

abbrev pub instruction_tree : List Lval → Option BinOp → List ℕ → List Expr → Option Expr → Span → Block → Block
instruction_tree to None n args None at rest = op (instruction to n args at) rest
instruction_tree to o n args c at rest = op (meaningless at) rest

abbrev pub assign_tree : Callees → List Lval → Option BinOp → Rhs → Option Expr → Span → Block → Block
assign_tree callees to o (rhs.Value e) c at rest = op (assign to o e c at) rest
assign_tree callees to o (rhs.Call n args place) c at rest = call_tree (callees n) to o args c place rest
assign_tree callees to o (rhs.Intrinsic n args place) c at rest = instruction_tree to o n args c place rest

abbrev pub body_tree : Option (List (Block → Block)) → Block
body_tree None = done
body_tree (Some b) = in_order b done

-- `while (c) { b }`, `while { p } (c) { b }` and `while { p } (c)`: an absent prologue or body has
-- no statement
abbrev pub kind_tree : Callees → StmtKind-F (Span → Block → Block) (Block → Block) → Span → Block → Block
kind_tree callees (StmtKind-F.Assign to o r c) at rest = assign_tree callees to o r c at rest
kind_tree callees (StmtKind-F.If c a b) at rest = choose (record { cond = c; at = at }) (in_order a done) (in_order b done) rest
kind_tree callees (StmtKind-F.While p c b) at rest = loop (not (is_some b)) (in_order p done) (record { cond = c; at = at }) (body_tree b) rest
kind_tree callees (StmtKind-F.For i from down to b) at rest =
    each (record { counter = i; from = from; down = down; to = to; at = at }) (in_order b done) rest
kind_tree callees (StmtKind-F.Mark xs) at rest = quiet (unset xs) rest

abbrev pub statement_tree : Callees → Stmt → Block → Block
statement_tree callees = fold-Stmt _ _ (kind_tree callees) (λ s. s.kind s.span)

-- statements in their order, before what follows them
abbrev pub block : Callees → List Stmt → Block → Block
block callees ss = in_order (map (statement_tree callees) ss)

abbrev pub with_tree : (List Stmt → Block) → Option Fun → Option Callee
with_tree tree None = None
with_tree tree (Some f) = Some (record { of = f; body = tree f.body })

-- the functions that can be called where calls may be so deep; without recursion as many as there
-- are functions are enough
abbrev pub callees_of : List Fun → ℕ → Callees
callees_of fs zero n = None
callees_of fs (suc depth) n = with_tree (λ ss. block (callees_of fs depth) ss done) (function_named n fs)

-- ---- functions

-- the parameters have the argument words, and no other variable has a value
abbrev pub with_arguments : List Param → List Value → Store → Store
with_arguments (p ∷ ps) (v ∷ vs) store = with_arguments ps vs (put store (key_of (ref_of p.var)) (Some v))
with_arguments _ _ store = store

abbrev pub entry_state : Fun → List Value → Memory → State
entry_state f words memory = record { store = with_arguments f.params words empty_store; memory = memory }

abbrev pub only_word : Span → Value → Evaluation Value
only_word at (word z a) = went [] (word z a)
only_word at _ = stuck_at at Init

abbrev pub result_word : Var → Store → Evaluation Value
result_word x store = and_then (variable_value (ref_of x) store) (only_word (ref_of x).span)

-- the words of the variables that are returned, read in their order
abbrev pub result_words : List Var → Store → Evaluation (List Value)
result_words [] store = went [] []
result_words (x ∷ xs) store = and_then (result_word x store) (λ v. and_then (result_words xs store) (λ vs. went [] (v ∷ vs)))

-- the words that a function gives back, and the memory at its end
pub record Returned : Type 0 where
  pub words : List Value
  pub memory : Memory

abbrev pub FunOutcome : Type 0
FunOutcome = Outcome Returned code.Stuck Leak

abbrev pub outcome_of_words : Memory → ℕ → Leak → Evaluation (List Value) → FunOutcome
outcome_of_words memory n l (stuck w) = Stuck w
outcome_of_words memory n l (went ns vs) = End (record { words = vs; memory = memory }) n l

abbrev pub outcome_of_body : List Var → Outcome State code.Stuck Leak → FunOutcome
outcome_of_body xs (End s n l) = outcome_of_words s.memory n l (result_words xs s.store)
outcome_of_body xs (Cut l) = Cut l
outcome_of_body xs (Stuck w) = Stuck w

-- a word of a parameter's size
abbrev pub FitsKind : Kind → Value → Type 0
FitsKind (kind.Word z) (word y a) = (y ≡ z) × (a < modulus z)
FitsKind _ v = ⊥

-- an input of a function of the program; what its memory has to hold is asked by the preconditions
pub record IsInput (p : Program) (f : Fun) (words : List Value) : Type 0 where
  pub of_program : Contains p.funs f
  pub arguments : AllZip (λ q v. FitsKind (ref_of q.var).kind v) f.params words

-- the tree of a function's body, in which calls are as deep as there are functions
abbrev pub body_of : Program → Fun → Block
body_of p f = block (callees_of p.funs (length p.funs)) f.body done

-- the run of a program's function on argument words and a memory, with n true tests of `while` left
pub record IsRun (p : Program) (f : Fun) (words : List Value) (memory : Memory) (n : ℕ) (o : FunOutcome) : Type 0 where
  pub input : IsInput p f words
  pub out : Outcome State code.Stuck Leak
  pub goes : Goes source (body_of p f) n (entry_state f words memory) out
  pub gives : outcome_of_body f.result out ≡ o
