-- The tree of a statement, from its parts.
use Rattle.std.specs.Prelude.{ℕ, List, [], ◌∷◌, ◌++◌, Bool, Option, Some, None, codes, bytes_eq, if◌then◌else◌}
use Rattle.std.specs.Option.{option_or}
use Rattle.jz_tree.specs.Span.{Span}
use Rattle.jz_grammar.specs.Token.{Token}
use Rattle.jz_grammar.specs.Kinds.{Kind, sign}
use Rattle.jz_grammar.specs.Tokens.{text_in}
use Rattle.jz_tree.specs.declared.expr.Expr.{Expr}
use Rattle.jz_tree.specs.declared.expr.Expr.TheViews.{out-Var}
use Rattle.jz_tree.specs.declared.expr.BinOp.{BinOp}
use Rattle.jz_tree.specs.declared.expr.BinOp.TheVariants as op
use Rattle.jz_tree.specs.declared.program.Note.{Note}
use Rattle.jz_tree.specs.declared.stmt.Lval.{Lval}
use Rattle.jz_tree.specs.declared.stmt.Lval.TheVariants as lval
use Rattle.jz_tree.specs.declared.stmt.Rhs.{Rhs}
use Rattle.jz_tree.specs.declared.stmt.Rhs.TheVariants as rhs
use Rattle.jz_tree.specs.declared.stmt.Stmt.{Stmt}
use Rattle.jz_tree.specs.declared.stmt.StmtKind.{StmtKind}
use Rattle.jz_tree.specs.declared.stmt.StmtKind.TheVariants.{Assign, If, While, For}
use Rattle.jz_parse_expr.specs.Trees.{used_of}

-- ---- the signs of assignments
-- "=", alone or with an operation before it
abbrev pub sum_assignments : List Kind
sum_assignments = sign (codes "=") ∷ sign (codes "+=") ∷ sign (codes "-=") ∷ sign (codes "*=") ∷ []

abbrev pub quotient_assignments : List Kind
quotient_assignments = sign (codes "/=") ∷ sign (codes "%=") ∷ sign (codes "/s=") ∷ sign (codes "%s=") ∷ []

abbrev pub bit_assignments : List Kind
bit_assignments = sign (codes "&=") ∷ sign (codes "|=") ∷ sign (codes "^=") ∷ []

abbrev pub shift_assignments : List Kind
shift_assignments = sign (codes "<<=") ∷ sign (codes ">>=") ∷ sign (codes ">>s=") ∷ sign (codes "<<r=") ∷ sign (codes ">>r=") ∷ []

abbrev pub assignments : List Kind
assignments = sum_assignments ++ (quotient_assignments ++ (bit_assignments ++ shift_assignments))

-- the operation before the "=", if it is one on numbers, one on bits, or any
unfoldable pub number_operation : Token → Option BinOp
number_operation t =
    if bytes_eq (text_in t.kind) (codes "+=") then Some op.Add else
    if bytes_eq (text_in t.kind) (codes "-=") then Some op.Sub else
    if bytes_eq (text_in t.kind) (codes "*=") then Some op.Mul else
    if bytes_eq (text_in t.kind) (codes "/=") then Some op.Div else
    if bytes_eq (text_in t.kind) (codes "%=") then Some op.Rem else
    if bytes_eq (text_in t.kind) (codes "/s=") then Some op.DivS else
    if bytes_eq (text_in t.kind) (codes "%s=") then Some op.RemS else None

unfoldable pub bit_operation : Token → Option BinOp
bit_operation t =
    if bytes_eq (text_in t.kind) (codes "&=") then Some op.And else
    if bytes_eq (text_in t.kind) (codes "|=") then Some op.Or else
    if bytes_eq (text_in t.kind) (codes "^=") then Some op.Xor else
    if bytes_eq (text_in t.kind) (codes "<<=") then Some op.Shl else
    if bytes_eq (text_in t.kind) (codes ">>=") then Some op.Shr else
    if bytes_eq (text_in t.kind) (codes ">>s=") then Some op.Sar else
    if bytes_eq (text_in t.kind) (codes "<<r=") then Some op.Rol else
    if bytes_eq (text_in t.kind) (codes ">>r=") then Some op.Ror else None

unfoldable pub operation_of : Token → Option BinOp
operation_of t = option_or (number_operation t) (bit_operation t)

-- ---- parts of statements

-- a call, by its name and where that stands; an intrinsic, by where its "#" stands
abbrev pub call_of : (List ℕ × Span) × List Expr → Rhs
call_of p = rhs.Call p.0.0 p.1 p.0.1

abbrev pub intrinsic_of : Span × ((List ℕ × Span) × List Expr) → Rhs
intrinsic_of p = rhs.Intrinsic p.1.0.0 p.1.1 p.0

-- a variable, or the cell of an array
abbrev pub name_lval : (List ℕ × Span) × Option Expr → Lval
name_lval (n, None) = lval.Var (used_of n)
name_lval (n, Some i) = lval.Cell (used_of n) i

-- where a left side stands
abbrev pub span_of_lval : Lval → Span
span_of_lval (lval.Skip s) = s
span_of_lval (lval.Var v) = (out-Var v).span
span_of_lval (lval.Cell v i) = (out-Var v).span
span_of_lval (lval.Store a) = a.span

-- ---- statements: where one stands, and what it does
abbrev pub assign_statement : Span → List Lval → Option BinOp → Rhs → Option Expr → Span × StmtKind
assign_statement s to op from cond = (s, Assign to op from cond)

-- a call that sets nothing
abbrev pub call_statement : (List ℕ × Span) × List Expr → Span × StmtKind
call_statement p = assign_statement p.0.1 [] None (call_of p) None

abbrev pub if_statement : Span → Expr × (List Stmt × List Stmt) → Span × StmtKind
if_statement s p = (s, If p.0 p.1.0 p.1.1)

abbrev pub while_statement : Span → List Stmt → Expr → Option (List Stmt) → Span × StmtKind
while_statement s before cond body = (s, While before cond body)

abbrev pub for_statement : Span → List ℕ × Span → Expr → Bool → Expr → List Stmt → Span × StmtKind
for_statement s name from down to body = (s, For (used_of name) from down to body)

abbrev pub stmt_of : List Note → Span × StmtKind → Stmt
stmt_of notes p = record { notes = notes; span = p.0; kind = p.1 }
