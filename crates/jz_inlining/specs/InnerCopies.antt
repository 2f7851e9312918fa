-- What the code adds to the statements that it has copied.
use Rattle.std.specs.Prelude.{ℕ, ◌+◌, ◌≤◌, ◌≡◌, Bool, false, not, if◌then◌else◌, List, [], ◌∷◌, ◌++◌, map, Option, Some, None}
use Rattle.jz_tree.specs.Span.{Span}
use Rattle.jz_tree.specs.declared.expr.Expr.{Expr}
use Rattle.jz_tree.specs.declared.expr.Expr.TheVariants as expr
use Rattle.jz_tree.specs.declared.expr.Var.{Var}
use Rattle.jz_tree.specs.declared.stmt.Lval.{Lval}
use Rattle.jz_tree.specs.declared.stmt.Lval.TheVariants as lval
use Rattle.jz_tree.specs.declared.stmt.Rhs.{Rhs}
use Rattle.jz_tree.specs.declared.stmt.Stmt.{Stmt}
use Rattle.jz_tree.specs.declared.stmt.StmtKind.TheVariants as kind
use Rattle.jz_tree.specs.declared.program.Note.{Note}
use Rattle.jz_tree.specs.declared.program.Param.{Param}
use Rattle.jz_meaning.specs.Values.{ref_of}
use Rattle.jz_change.specs.declared.change.Numbers.{Numbers}
use Rattle.jz_change.specs.declared.change.Step.{Step}
use Rattle.jz_inline.specs.BodiesCalls.{is_array}
use Rattle.jz_inline.specs.Names.{Names, var_in, expr_in, lval_in}
use Rattle.jz_inline.specs.Calls.{call_place, argument_items, result_items}
use Rattle.jz_inline.specs.Statements.{Piece, statement, set_statement, CopiedFuns, copied_funs, argument_statements, result_statements, plain_piece, plain_assignment, copied_piece, assign_piece, if_piece, while_piece, until_piece, for_piece, body_piece}
use Rattle.jz_inlining.specs.declared.copier.Copier.{Copier}
use Rattle.jz_inlining.specs.declared.copier.Copied.{Copied}
use Rattle.jz_inlining.specs.declared.copier.Body.{Body}
use Rattle.jz_inlining.specs.declared.parts.Assignment.{Assignment}
use Rattle.jz_inlining.specs.declared.parts.Call.{Call}
use Rattle.jz_inlining.specs.declared.parts.Test.{Test}
use Rattle.jz_inlining.specs.declared.parts.Counter.{Counter}

-- ---- pieces by what the code borrows from the text

-- the functions that can be called where calls may be so deep
abbrev pub funs_in : Copier → ℕ → CopiedFuns
funs_in copier left = copied_funs copier.callable.funs.now left

abbrev pub block_in : Copier → ℕ → List Stmt → Piece
block_in copier left ss = body_piece (funs_in copier left) ss

abbrev pub assignment_piece : CopiedFuns → Assignment → Rhs → Piece
assignment_piece funs a r = assign_piece funs a.notes.now a.span a.to.now a.op r a.cond.now

abbrev pub plain_of : Assignment → Rhs → Piece
plain_of a r = plain_assignment a.notes.now a.span a.to.now a.op r a.cond.now

-- a call, where calls in what it calls may be so deep
abbrev pub called_piece : CopiedFuns → Call → Piece
called_piece funs c =
    copied_piece
    (record { of = c.callee.now; body = body_piece funs c.callee.now.body })
    c.to.now c.args.now c.span

abbrev pub if_of : Test → Piece → Piece → Piece
if_of t a b = if_piece t.notes.now t.span t.cond.now a b

abbrev pub turns_of : Test → Piece → Piece → Piece
turns_of t p b = while_piece t.notes.now t.span p t.cond.now b

abbrev pub until_of : Test → Piece → Piece
until_of t p = until_piece t.notes.now t.span p t.cond.now

-- a `while`, of which the body may be absent
abbrev pub while_by :
    CopiedFuns → List Note → Span → Piece → Expr → Option (List Stmt) → Piece
while_by funs notes at p c None = until_piece notes at p c
while_by funs notes at p c (Some b) = while_piece notes at p c (body_piece funs b)

abbrev pub while_of : CopiedFuns → Test → Piece → Option (List Stmt) → Piece
while_of funs t p b = while_by funs t.notes.now t.span p t.cond.now b

abbrev pub for_of : Counter → Piece → Piece
for_of c b =
    for_piece c.notes.now c.span
    (λ names ss. kind.For (var_in names c.counter.now) (expr_in names c.from.now) c.down
    (expr_in names c.to.now) ss)
    b

abbrev pub mark_piece : List Note → Span → List Var → Piece
mark_piece notes at xs = plain_piece notes at [] (λ names. kind.Mark (map (var_in names) xs))

-- ---- what is added

-- the number behind the last copy that a function may have
abbrev pub last_number : ℕ
last_number = 65537

abbrev pub Fits : ℕ → Piece → Type 0
Fits next p = next + p.copies ≤ last_number

-- the statements of the piece are behind those before, and these are its steps
pub record Adds (p : Piece) (names : Names) (before after : Copied)
    (made : List Step) : Type 0 where
  pub stmts : after.stmts ≡ before.stmts ++ p.made names before.next
  pub next : after.next ≡ before.next + p.copies
  pub steps : made ≡ p.steps

-- a body by itself, whose copies have the numbers from this one on
pub record IsCopied (p : Piece) (names : Names) (first : ℕ) (b : Body) : Type 0 where
  pub stmts : b.stmts ≡ p.made names first
  pub next : b.next ≡ first + p.copies
  pub steps : b.steps ≡ p.steps

-- ---- calls

-- the copy of one argument, and of one result
abbrev pub one_argument : Names → Names → Span → Param → Expr → List Stmt
one_argument outer inner at p e =
    if is_array (ref_of p.var).kind
    then []
    else (set_statement at (lval.Var (var_in inner p.var)) (expr_in outer e) ∷ [])

-- an array is the caller's already, and nothing reads what is dropped
abbrev pub is_copied : Lval → Var → Bool
is_copied (lval.Skip at) x = false
is_copied d x = not (is_array (ref_of x).kind)

abbrev pub one_result : Names → Names → Span → Lval → Var → List Stmt
one_result outer inner at d x =
    if is_copied d x
    then set_statement at (lval_in outer d) (expr.Var (var_in inner x)) ∷ []
    else []

abbrev pub arguments_of : Names → Names → Call → List Stmt
arguments_of outer inner c =
    argument_statements outer inner (call_place c.to.now c.span) c.callee.now.params c.args.now

abbrev pub results_of : Names → Names → Call → List Stmt
results_of outer inner c =
    result_statements outer inner (call_place c.to.now c.span) c.to.now c.callee.now.result

abbrev pub mark_of : Names → Call → Stmt
mark_of inner c =
    statement [] (call_place c.to.now c.span) (kind.Mark (map (var_in inner) c.callee.now.vars))

abbrev pub argument_items_of : Call → List Numbers
argument_items_of c = argument_items 0 c.callee.now.params c.args.now

abbrev pub result_items_of : Call → List Numbers
result_items_of c = result_items 0 c.to.now c.callee.now.result
