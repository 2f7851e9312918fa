-- The grammar of statements, line by line. At d tokens may still be nested; low has the phrases
-- that stand nested.
use Rattle.std.specs.Prelude.{ℕ, zero, suc, List, [], ◌∷◌, Bool, true, false, Option, Some, None, codes}
use Rattle.jz_tree.specs.Span.{Span}
use Rattle.jz_grammar.specs.Kinds.{sign, word}
use Rattle.jz_grammar.specs.Grammar.{Lang, token, ◌▸◌, ◌⊕◌, ◌⇒◌, never, opens, each, maybe}
use Rattle.jz_tree.specs.declared.expr.Expr.{Expr}
use Rattle.jz_tree.specs.declared.expr.BinOp.{BinOp}
use Rattle.jz_tree.specs.declared.stmt.Lval.{Lval}
use Rattle.jz_tree.specs.declared.stmt.Lval.TheVariants.{Skip, Store}
use Rattle.jz_tree.specs.declared.stmt.Rhs.{Rhs}
use Rattle.jz_tree.specs.declared.stmt.Rhs.TheVariants.{Value}
use Rattle.jz_tree.specs.declared.stmt.Stmt.{Stmt}
use Rattle.jz_tree.specs.declared.stmt.StmtKind.{StmtKind}
use Rattle.jz_parse_expr.specs.Table.{the, key, name, expr, index, access}
use Rattle.jz_parse.specs.StmtTrees.{assignments, operation_of, call_of, intrinsic_of, name_lval, span_of_lval, assign_statement, call_statement, if_statement, while_statement, for_statement, stmt_of}
use Rattle.jz_grammar.specs.Parts.{or_empty}
use Rattle.jz_parse.specs.NotesTable.{notes}

-- "," and what l is
abbrev pub comma : {A : Type 0} → (ℕ → Lang A) → ℕ → Lang A
comma l d = (the (codes ",") d ▸ l d) ⇒ (λ p. p.1)

-- args = expr { "," expr }
abbrev pub args : ℕ → Lang (List Expr)
args d = (expr d ▸ each (comma expr d)) ⇒ (λ p. p.0 ∷ p.1)

-- "(" [ args ] ")"
abbrev pub call_args : ℕ → Lang (List Expr)
call_args d = opens (sign (codes "(") ∷ []) (λ b. maybe (args b) ▸ the (codes ")") b) d ⇒ (λ (_, (es, _)). or_empty es)

-- rhs = expr | ID "(" [ args ] ")" | "#" ID "(" [ args ] ")"
abbrev pub rhs : ℕ → Lang Rhs
rhs d =
    (expr d ⇒ Value)
    ⊕ ((name d ▸ call_args d) ⇒ call_of)
    ⊕ ((the (codes "#") d ▸ name d ▸ call_args d) ⇒ intrinsic_of)

-- lval = "_" | ID | ID "[" expr "]" | mem
abbrev pub lval : ℕ → Lang Lval
lval d =
    (key (codes "_") d ⇒ Skip)
    ⊕ ((name d ▸ maybe (index d)) ⇒ name_lval)
    ⊕ (access d ⇒ Store)

-- aop = "=" | op "="
abbrev pub operation : ℕ → Lang (Option BinOp)
operation d = token assignments d ⇒ operation_of

-- [ "if" expr ]
abbrev pub condition : ℕ → Lang (Option Expr)
condition d = maybe ((key (codes "if") d ▸ expr d) ⇒ (λ p. p.1))

-- assign = lval { "," lval } aop rhs [ "if" expr ] ";"
abbrev pub assign : ℕ → Lang (Span × StmtKind)
assign d = (lval d ▸ each (comma lval d) ▸ operation d ▸ rhs d ▸ condition d ▸ the (codes ";") d)
    ⇒ (λ (to, (tos, (op, (from, (cond, _))))). assign_statement (span_of_lval to) (to ∷ tos) op from cond)

-- call = ID "(" [ args ] ")" ";"
abbrev pub call : ℕ → Lang (Span × StmtKind)
call d = (name d ▸ call_args d ▸ the (codes ";") d) ⇒ (λ (id, (es, _)). call_statement (id, es))

-- what may stand nested: what follows an "if", and statements
pub record Low : Type 1 where
  pub ifs : Lang (Expr × (List Stmt × List Stmt))
  pub stmts : Lang Stmt

-- block = "{" { stmt } "}"
abbrev pub block : (ℕ → Low) → ℕ → Lang (List Stmt)
block low d = opens (sign (codes "{") ∷ []) (λ b. each (low b).stmts ▸ the (codes "}") b) d ⇒ (λ (_, (inner, _)). inner)

-- "else" ( if | block )      an "else if" is open from its "if"
abbrev pub else_arm : (ℕ → Low) → ℕ → Lang (List Stmt)
else_arm low d = (key (codes "else") d
    ▸ ((opens (word (codes "if") ∷ []) (λ b. (low b).ifs) d ⇒ (λ p. stmt_of [] (if_statement p.0 p.1) ∷ [])) ⊕ block low d))
    ⇒ (λ p. p.1)

-- if = "if" expr block [ "else" ( if | block ) ]
abbrev pub if_rest : (ℕ → Low) → ℕ → Lang (Expr × (List Stmt × List Stmt))
if_rest low d = (expr d ▸ block low d ▸ maybe (else_arm low d)) ⇒ (λ (cond, (arm, other)). (cond, (arm, or_empty other)))

abbrev pub if_form : (ℕ → Low) → ℕ → Lang (Span × StmtKind)
if_form low d = (key (codes "if") d ▸ if_rest low d) ⇒ (λ p. if_statement p.0 p.1)

-- "(" expr ")"
abbrev pub test : ℕ → Lang Expr
test d = opens (sign (codes "(") ∷ []) (λ b. expr b ▸ the (codes ")") b) d ⇒ (λ (_, (cond, _)). cond)

-- block | [ ";" ]
abbrev pub body : (ℕ → Low) → ℕ → Lang (Option (List Stmt))
body low d = (block low d ⇒ (λ b. Some b)) ⊕ (maybe (the (codes ";") d) ⇒ (λ p. None))

-- "while" [ block ] "(" expr ")" ( block | [ ";" ] )
abbrev pub while : (ℕ → Low) → ℕ → Lang (Span × StmtKind)
while low d = (key (codes "while") d ▸ (maybe (block low d) ⇒ or_empty) ▸ test d ▸ body low d)
    ⇒ (λ (span, (before, (cond, inner))). while_statement span before cond inner)

-- "to" | "downto"
abbrev pub direction : ℕ → Lang Bool
direction d = (key (codes "to") d ⇒ (λ p. false)) ⊕ (key (codes "downto") d ⇒ (λ p. true))

-- "for" ID "=" expr ( "to" | "downto" ) expr block
abbrev pub for : (ℕ → Low) → ℕ → Lang (Span × StmtKind)
for low d = (key (codes "for") d ▸ name d ▸ the (codes "=") d ▸ expr d ▸ direction d ▸ expr d ▸ block low d)
    ⇒ (λ (span, (counter, (_, (from, (down, (to, inner)))))). for_statement span counter from down to inner)

-- stmt = { annot } ( assign | call | if | while | for )
abbrev pub stmt_in : (ℕ → Low) → ℕ → Lang Stmt
stmt_in low d = (notes d ▸ (assign d ⊕ call d ⊕ if_form low d ⊕ while low d ⊕ for low d)) ⇒ (λ p. stmt_of p.0 p.1)

abbrev pub low_of : (ℕ → Low) → ℕ → Low
low_of low d = record { ifs = if_rest low d; stmts = stmt_in low d }

-- with at most d nested
abbrev pub nested_in : ℕ → Low
nested_in zero = low_of (λ _. record { ifs = never; stmts = never }) zero
nested_in (suc d) = low_of (λ _. nested_in d) (suc d)

abbrev pub stmt : ℕ → Lang Stmt
stmt d = (nested_in d).stmts
