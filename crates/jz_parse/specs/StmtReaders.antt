-- How statements are read: each choice by the next token, that between a call and another form by
-- the next two.
use Rattle.std.specs.Prelude.{ℕ, zero, suc, List, [], ◌∷◌, Bool, true, false, Option, Some, None, Ok, Err, codes}
use Rattle.jz_tree.specs.Span.{Span}
use Rattle.jz_grammar.specs.Causes.{Unexpected}
use Rattle.jz_grammar.specs.Kinds.{Kind, sign, word, identifier}
use Rattle.jz_grammar.specs.Readers.{Reader, ◌>>=◌, through, follow, pick, pick_both, many, leaf, inside, optional, more_of}
use Rattle.jz_tree.specs.declared.expr.Expr.{Expr}
use Rattle.jz_tree.specs.declared.expr.BinOp.{BinOp}
use Rattle.jz_tree.specs.declared.stmt.Lval.{Lval}
use Rattle.jz_tree.specs.declared.stmt.Lval.TheVariants.{Skip, Store}
use Rattle.jz_tree.specs.declared.stmt.Rhs.{Rhs}
use Rattle.jz_tree.specs.declared.stmt.Rhs.TheVariants.{Value}
use Rattle.jz_tree.specs.declared.stmt.Stmt.{Stmt}
use Rattle.jz_tree.specs.declared.stmt.StmtKind.{StmtKind}
use Rattle.jz_parse_expr.specs.Readers.{expr, index, access, expr_starts}
pub use Rattle.jz_grammar.specs.TokenReaders.{the, key, name}
use Rattle.jz_parse.specs.StmtTrees.{assignments, operation_of, call_of, intrinsic_of, name_lval, span_of_lval, assign_statement, call_statement, if_statement, while_statement, for_statement, stmt_of}
use Rattle.jz_grammar.specs.Parts.{or_empty}
use Rattle.jz_parse.specs.NotesReaders.{notes}
pub use Rattle.jz_grammar.specs.TokenReaders.{commas, comma}

-- ---- the tokens that decide
abbrev pub names : List Kind
names = identifier ∷ []

abbrev pub parens : List Kind
parens = sign (codes "(") ∷ []

abbrev pub braces : List Kind
braces = sign (codes "{") ∷ []

abbrev pub marks : List Kind
marks = sign (codes "#") ∷ []

-- the tokens that begin a statement, and those that go on with one
abbrev pub stmt_starts : List Kind
stmt_starts = sign (codes "#") ∷ identifier ∷ word (codes "_") ∷ sign (codes "(") ∷ sign (codes "[") ∷ word (codes "if") ∷ word (codes "while") ∷ word (codes "for") ∷ []

abbrev pub simple_starts : List Kind
simple_starts = identifier ∷ word (codes "_") ∷ sign (codes "(") ∷ sign (codes "[") ∷ []

abbrev pub form_starts : List Kind
form_starts = word (codes "if") ∷ word (codes "while") ∷ word (codes "for") ∷ []

abbrev pub stmt_goes : List Kind
stmt_goes = word (codes "else") ∷ sign (codes "{") ∷ sign (codes ";") ∷ []

-- ---- right sides

unfoldable pub next_arg : ℕ → Reader Expr
next_arg d ts = comma (expr d) ts

unfoldable pub args_more : ℕ → List Expr → Reader (List Expr)
args_more d out ts = more_of commas (next_arg d) out ts

unfoldable pub args : ℕ → Reader (List Expr)
args d ts = expr d ts >>= λ x. args_more d (x.0 ∷ []) x.1

unfoldable pub call_args : ℕ → Reader (List Expr)
call_args d ts = through (λ (_, (es, _)). or_empty es) (inside parens (λ b. follow (optional expr_starts (args b)) (the (codes ")"))) d ts)

unfoldable pub intrinsic : ℕ → Reader Rhs
intrinsic d ts = through intrinsic_of (follow (the (codes "#")) (follow name (call_args d)) ts)

unfoldable pub call_value : ℕ → Reader Rhs
call_value d ts = through call_of (follow name (call_args d) ts)

unfoldable pub rhs : ℕ → Reader Rhs
rhs d = pick marks (intrinsic d) (pick_both names parens (call_value d) (λ ts. through Value (expr d ts)))

-- ---- assignments
unfoldable pub left_side_named : ℕ → Reader Lval
left_side_named d ts = through name_lval (follow name (optional (sign (codes "[") ∷ []) (index d)) ts)

unfoldable pub lval : ℕ → Reader Lval
lval d = pick (word (codes "_") ∷ []) (λ ts. through Skip (key (codes "_") ts)) (pick names (left_side_named d) (λ ts. through Store (access d ts)))

unfoldable pub next_lval : ℕ → Reader Lval
next_lval d ts = comma (lval d) ts

unfoldable pub lvals_more : ℕ → List Lval → Reader (List Lval)
lvals_more d out ts = more_of commas (next_lval d) out ts

abbrev pub operation : Reader (Option BinOp)
operation = leaf assignments operation_of

unfoldable pub condition : ℕ → Reader (Option Expr)
condition d = optional (word (codes "if") ∷ []) (λ ts. through (λ p. p.1) (follow (key (codes "if")) (expr d) ts))

-- what stands behind the left sides
unfoldable pub set_to : ℕ → Reader (Option BinOp × (Rhs × (Option Expr × Span)))
set_to d ts = follow operation (follow (rhs d) (follow (condition d) (the (codes ";")))) ts

unfoldable pub assign : ℕ → Reader (Span × StmtKind)
assign d ts =
    lval d ts >>= λ first. lvals_more d (first.0 ∷ []) first.1 >>= λ to. set_to d to.1 >>= λ y.
    Ok (assign_statement (span_of_lval first.0) to.0 y.0.0 y.0.1.0 y.0.1.1.0, y.1)

unfoldable pub call : ℕ → Reader (Span × StmtKind)
call d ts = through (λ (id, (es, _)). call_statement (id, es)) (follow name (follow (call_args d) (the (codes ";"))) ts)

unfoldable pub simple : ℕ → Reader (Span × StmtKind)
simple d = pick_both names parens (call d) (assign d)

-- ---- what nests
pub record Low : Type 0 where
  pub ifs : Reader (Expr × (List Stmt × List Stmt))
  pub stmts : Reader Stmt

unfoldable pub block : (ℕ → Low) → ℕ → Reader (List Stmt)
block low d ts = through (λ (_, (inner, _)). inner) (inside braces (λ b. follow (many stmt_starts (low b).stmts) (the (codes "}"))) d ts)

unfoldable pub else_body : (ℕ → Low) → ℕ → Reader (List Stmt)
else_body low d = pick (word (codes "if") ∷ []) (λ ts. through (λ p. stmt_of [] (if_statement p.0 p.1) ∷ []) (inside (word (codes "if") ∷ []) (λ b. (low b).ifs) d ts)) (block low d)

unfoldable pub else_arm : (ℕ → Low) → ℕ → Reader (List Stmt)
else_arm low d ts = through (λ p. p.1) (follow (key (codes "else")) (else_body low d) ts)

unfoldable pub if_rest : (ℕ → Low) → ℕ → Reader (Expr × (List Stmt × List Stmt))
if_rest low d ts = through (λ (cond, (arm, other)). (cond, (arm, or_empty other))) (follow (expr d) (follow (block low d) (optional (word (codes "else") ∷ []) (else_arm low d))) ts)

unfoldable pub if_form : (ℕ → Low) → ℕ → Reader (Span × StmtKind)
if_form low d ts = through (λ p. if_statement p.0 p.1) (follow (key (codes "if")) (if_rest low d) ts)

unfoldable pub loop_condition : ℕ → Reader Expr
loop_condition d ts = through (λ (_, (cond, _)). cond) (inside parens (λ b. follow (expr b) (the (codes ")"))) d ts)

unfoldable pub prologue : (ℕ → Low) → ℕ → Reader (List Stmt)
prologue low d ts = through or_empty (optional braces (block low d) ts)

unfoldable pub body : (ℕ → Low) → ℕ → Reader (Option (List Stmt))
body low d = pick braces (λ ts. through (λ b. Some b) (block low d ts)) (λ ts. through (λ p. None) (optional (sign (codes ";") ∷ []) (the (codes ";")) ts))

unfoldable pub while_form : (ℕ → Low) → ℕ → Reader (Span × StmtKind)
while_form low d ts = through (λ (span, (before, (cond, inner))). while_statement span before cond inner) (follow (key (codes "while")) (follow (prologue low d) (follow (loop_condition d) (body low d))) ts)

unfoldable pub direction : Reader Bool
direction = pick (word (codes "to") ∷ []) (λ ts. through (λ p. false) (key (codes "to") ts)) (λ ts. through (λ p. true) (key (codes "downto") ts))

unfoldable pub for_form : (ℕ → Low) → ℕ → Reader (Span × StmtKind)
for_form low d ts = through (λ (span, (counter, (_, (from, (down, (to, inner)))))). for_statement span counter from down to inner)
    (follow (key (codes "for")) (follow name (follow (the (codes "=")) (follow (expr d) (follow direction (follow (expr d) (block low d)))))) ts)

unfoldable pub form : (ℕ → Low) → ℕ → Reader (Span × StmtKind)
form low d = pick (word (codes "if") ∷ []) (if_form low d) (pick (word (codes "while") ∷ []) (while_form low d) (pick (word (codes "for") ∷ []) (for_form low d) (simple d)))

unfoldable pub stmt_in : (ℕ → Low) → ℕ → Reader Stmt
stmt_in low d ts = through (λ p. stmt_of p.0 p.1) (follow (notes d) (form low d) ts)

abbrev pub low_of : (ℕ → Low) → ℕ → Low
low_of low d = record { ifs = if_rest low d; stmts = stmt_in low d }

unfoldable pub nested_in : ℕ → Low
nested_in zero = low_of (λ _. record { ifs = λ ts. Err (Unexpected, ts); stmts = λ ts. Err (Unexpected, ts) }) zero
nested_in (suc d) = low_of (λ _. nested_in d) (suc d)

unfoldable pub stmt : ℕ → Reader Stmt
stmt d ts = (nested_in d).stmts ts

-- what is left of a list of statements, behind what is out already
unfoldable pub stmts_more : ℕ → List Stmt → Reader (List Stmt)
stmts_more d out ts = more_of stmt_starts (stmt d) out ts
