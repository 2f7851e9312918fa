-- The statements of a copied body, and what they make of a leak. Each keeps its annotations and its
-- place; the copies of arguments and results stand at the place of the call's statement.
use Rattle.std.specs.Prelude.{ℕ, zero, suc, ◌+◌, if◌then◌else◌, List, [], ◌∷◌, ◌++◌, map, length, Option, Some, None, option_map}
use Rattle.jz_tree.specs.Span.{Span}
use Rattle.jz_tree.specs.declared.expr.BinOp.{BinOp}
use Rattle.jz_tree.specs.declared.expr.Expr.{Expr}
use Rattle.jz_tree.specs.declared.expr.Expr.TheVariants as expr
use Rattle.jz_tree.specs.declared.expr.Var.{Var}
use Rattle.jz_tree.specs.declared.stmt.Lval.{Lval}
use Rattle.jz_tree.specs.declared.stmt.Lval.TheVariants as lval
use Rattle.jz_tree.specs.declared.stmt.Rhs.{Rhs}
use Rattle.jz_tree.specs.declared.stmt.Rhs.TheVariants as rhs
use Rattle.jz_tree.specs.declared.stmt.Stmt.{Stmt}
use Rattle.jz_tree.specs.declared.stmt.StmtKind.{StmtKind}
use Rattle.jz_tree.specs.declared.stmt.StmtKind.TheVariants as kind
use Rattle.jz_tree.specs.declared.stmt.StmtKind.TheOpen.{StmtKind-F}
use Rattle.jz_tree.specs.declared.stmt.StmtKind.TheViews.{roll-Stmt}
use Rattle.jz_tree.specs.declared.stmt.StmtKind.TheFolds.{fold-Stmt}
use Rattle.jz_tree.specs.declared.program.Fun.{Fun}
use Rattle.jz_tree.specs.declared.program.Note.{Note}
use Rattle.jz_tree.specs.declared.program.Param.{Param}
use Rattle.jz_tree.specs.declared.program.Program.{Program}
use Rattle.jz_change.specs.declared.change.Change.{Change}
use Rattle.jz_change.specs.declared.change.Step.{Step}
use Rattle.jz_change.specs.declared.change.Step.TheVariants as step
use Rattle.jz_change.specs.declared.change.Numbers.TheVariants.{Same}
use Rattle.jz_type_names.specs.Scopes.{function_named}
use Rattle.jz_meaning.specs.Values.{ref_of}
use Rattle.jz_meaning.specs.Runs.{Callees}
use Rattle.jz_bodies.specs.Calls.{is_array}
use Rattle.jz_inline.specs.Names.{Names, var_in, expr_in, lval_in}
use Rattle.jz_inline.specs.Calls.{callee_names, call_place, argument_items, result_items}
use Rattle.jz_inline.specs.Functions.{own_names}

abbrev pub statement : List Note → Span → StmtKind → Stmt
statement notes at k = roll-Stmt (record { notes = notes; span = at; kind = k })

-- ---- pieces

-- what statements become
pub record Piece : Type 0 where
  -- how many copies of bodies stand in it
  pub copies : ℕ
  -- what they make of a leak
  pub steps : List Step
  -- by where the variables are, and the number of the first of its copies
  pub made : Names → ℕ → List Stmt

-- pieces in their order
abbrev pub all_pieces : List Piece → Piece
all_pieces [] = record { copies = 0; steps = []; made = λ names j. [] }
all_pieces (p ∷ ps) =
    let rest = all_pieces ps in
    record {
      copies = p.copies + rest.copies;
      steps = p.steps ++ rest.steps;
      made = λ names j. p.made names j ++ rest.made names (j + p.copies);
    }

-- one statement, without a copy of a body
abbrev pub plain_piece : List Note → Span → List Step → (Names → StmtKind) → Piece
plain_piece notes at steps k =
    record { copies = 0; steps = steps; made = λ names j. statement notes at (k names) ∷ [] }

-- an operation stays as it is
abbrev pub kept : List Step
kept = step.Ops (Same ∷ []) ∷ []

abbrev pub all_steps : List Step → Change
all_steps steps = record { steps = steps }

-- ---- calls

abbrev pub set_statement : Span → Lval → Expr → Stmt
set_statement at d e = statement [] at (kind.Assign (d ∷ []) None (rhs.Value e) None)

-- a copy for each argument that is no array
abbrev pub argument_statements : Names → Names → Span → List Param → List Expr → List Stmt
argument_statements outer inner at (p ∷ ps) (e ∷ es) =
    if is_array (ref_of p.var).kind
    then argument_statements outer inner at ps es
    else (set_statement at (lval.Var (var_in inner p.var)) (expr_in outer e)
    ∷ argument_statements outer inner at ps es)
argument_statements outer inner at _ _ = []

-- and for each result that is no array and is not dropped
abbrev pub result_statement : Names → Names → Span → Lval → Var → List Stmt → List Stmt
result_statement outer inner at (lval.Skip s) x rest = rest
result_statement outer inner at d x rest =
    if is_array (ref_of x).kind then rest
    else (set_statement at (lval_in outer d) (expr.Var (var_in inner x)) ∷ rest)

abbrev pub result_statements : Names → Names → Span → List Lval → List Var → List Stmt
result_statements outer inner at (d ∷ ds) (x ∷ xs) =
    result_statement outer inner at d x (result_statements outer inner at ds xs)
result_statements outer inner at _ _ = []

-- a function that can be called, and what its body becomes
pub record CopiedFun : Type 0 where
  pub of : Fun
  pub body : Piece

abbrev pub CopiedFuns : Type 0
CopiedFuns = List ℕ → Option CopiedFun

-- what a call becomes in a copy: the arguments, a mark, the body with the next number, the results
abbrev pub call_made : CopiedFun → List Lval → List Expr → Span → Names → ℕ → List Stmt
call_made f to args at names j =
    let inner = callee_names names j f.of.params args in
    argument_statements names inner at f.of.params args
    ++ (statement [] at (kind.Mark (map (var_in inner) f.of.vars))
    ∷ (f.body.made inner (suc j) ++ result_statements names inner at to f.of.result))

-- an assignment without a copy of a body
abbrev pub right_in : Names → Rhs → Rhs
right_in names (rhs.Value e) = rhs.Value (expr_in names e)
right_in names (rhs.Call n args place) = rhs.Call n (map (expr_in names) args) place
right_in names (rhs.Intrinsic n args place) = rhs.Intrinsic n (map (expr_in names) args) place

abbrev pub plain_assignment :
    List Note → Span → List Lval → Option BinOp → Rhs → Option Expr → Piece
plain_assignment notes at to o r c =
    plain_piece notes at kept (λ names.
    kind.Assign (map (lval_in names) to) o (right_in names r) (option_map (expr_in names) c))

-- a call as a copy of what it calls
abbrev pub copied_piece : CopiedFun → List Lval → List Expr → Span → Piece
copied_piece f to args place =
    record {
      copies = suc f.body.copies;
      steps =
          step.Opened (argument_items 0 f.of.params args) (all_steps f.body.steps)
          (result_items 0 to f.of.result) ∷ [];
      made = call_made f to args (call_place to place);
    }

-- a call has neither an operation nor a condition
abbrev pub call_piece :
    Option CopiedFun → List Note → Span → List Lval → Option BinOp → List ℕ → List Expr
    → Option Expr → Span → Piece
call_piece (Some f) notes at to None n args None place = copied_piece f to args place
call_piece _ notes at to o n args c place = plain_assignment notes at to o (rhs.Call n args place) c

-- ---- statements

abbrev pub assign_piece :
    CopiedFuns → List Note → Span → List Lval → Option BinOp → Rhs → Option Expr → Piece
assign_piece callees notes at to o (rhs.Value e) c = plain_assignment notes at to o (rhs.Value e) c
assign_piece callees notes at to o (rhs.Call n args place) c =
    call_piece (callees n) notes at to o n args c place
assign_piece callees notes at to o (rhs.Intrinsic n args place) c =
    plain_assignment notes at to o (rhs.Intrinsic n args place) c

abbrev pub if_piece : List Note → Span → Expr → Piece → Piece → Piece
if_piece notes at c a b =
    record {
      copies = a.copies + b.copies;
      steps = step.If [] Same (all_steps a.steps) (all_steps b.steps) ∷ [];
      made = λ names j.
          statement notes at
          (kind.If (expr_in names c) (a.made names j) (b.made names (j + a.copies))) ∷ [];
    }

abbrev pub while_piece : List Note → Span → Piece → Expr → Piece → Piece
while_piece notes at p c b =
    record {
      copies = p.copies + b.copies;
      steps = step.While (all_steps p.steps) [] Same (all_steps b.steps) ∷ [];
      made = λ names j.
          statement notes at
          (kind.While (p.made names j) (expr_in names c) (Some (b.made names (j + p.copies)))) ∷ [];
    }

abbrev pub until_piece : List Note → Span → Piece → Expr → Piece
until_piece notes at p c =
    record {
      copies = p.copies;
      steps = step.While (all_steps p.steps) [] Same (all_steps []) ∷ [];
      made = λ names j.
          statement notes at (kind.While (p.made names j) (expr_in names c) None) ∷ [];
    }

abbrev pub for_piece : List Note → Span → (Names → List Stmt → StmtKind) → Piece → Piece
for_piece notes at k b =
    record {
      copies = b.copies;
      steps = step.For (all_steps b.steps) ∷ [];
      made = λ names j. statement notes at (k names (b.made names j)) ∷ [];
    }

abbrev pub kind_made :
    CopiedFuns → StmtKind-F (List Note → Span → Piece) Piece → List Note → Span → Piece
kind_made callees (StmtKind-F.Assign to o r c) notes at =
    assign_piece callees notes at to o r c
kind_made callees (StmtKind-F.If c a b) notes at =
    if_piece notes at c (all_pieces a) (all_pieces b)
kind_made callees (StmtKind-F.While p c None) notes at = until_piece notes at (all_pieces p) c
kind_made callees (StmtKind-F.While p c (Some b)) notes at =
    while_piece notes at (all_pieces p) c (all_pieces b)
kind_made callees (StmtKind-F.For i from down to b) notes at =
    for_piece notes at
    (λ names ss. kind.For (var_in names i) (expr_in names from) down (expr_in names to) ss)
    (all_pieces b)
kind_made callees (StmtKind-F.Mark xs) notes at =
    plain_piece notes at [] (λ names. kind.Mark (map (var_in names) xs))

abbrev pub statement_piece : CopiedFuns → Stmt → Piece
statement_piece callees = fold-Stmt _ _ (kind_made callees) (λ s. s.kind s.notes s.span)

abbrev pub body_piece : CopiedFuns → List Stmt → Piece
body_piece callees ss = all_pieces (map (statement_piece callees) ss)

abbrev pub with_piece : (List Stmt → Piece) → Option Fun → Option CopiedFun
with_piece piece None = None
with_piece piece (Some f) = Some (record { of = f; body = piece f.body })

-- the functions that can be called where calls may be so deep
abbrev pub copied_funs : List Fun → ℕ → CopiedFuns
copied_funs fs zero n = None
copied_funs fs (suc depth) n =
    with_piece (body_piece (copied_funs fs depth)) (function_named n fs)

-- no call is left
abbrev pub no_callees : Callees
no_callees n = None

-- the statements of a function in which no call is left
abbrev pub inlined_statements : Program → Fun → List Stmt
inlined_statements p f =
    (body_piece (copied_funs p.funs (length p.funs)) f.body).made own_names 1

-- and what they make of a leak
abbrev pub inlining_steps : Program → Fun → List Step
inlining_steps p f = (body_piece (copied_funs p.funs (length p.funs)) f.body).steps
