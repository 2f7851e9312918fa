-- Lists, item by item.
use Rattle.std.proofs.Common.{◌≡◌, ℕ, ◌<◌, List, [], ◌∷◌, ◌++◌, length, true, false, ◌||◌, Ok, Err, refl, ap, ◌∙◌}
use Rattle.jz_grammar.specs.Token.{Token}
use Rattle.jz_grammar.specs.Causes.{Cause}
use Rattle.jz_grammar.specs.Kinds.{Kind, token_kind, is_in, has}
use Rattle.jz_grammar.specs.Readers.{Answer, through, many}
use Rattle.jz_grammar.proofs.Combine.{shorter}
use Rattle.jz_grammar.proofs.Basics.{member_append}
use Rattle.jz_grammar.proofs.Steps.{more_done, more_next, more_wrong}
use Rattle.jz_tree.specs.declared.expr.Expr.{Expr}
use Rattle.jz_tree.specs.declared.stmt.Lval.{Lval}
use Rattle.jz_tree.specs.declared.stmt.Stmt.{Stmt}
use Rattle.jz_parse_expr.specs.Readers as q
use Rattle.jz_parse.specs.StmtTrees.{sum_assignments, quotient_assignments, bit_assignments, shift_assignments, assignments}
use Rattle.jz_parse.specs.StmtReaders as r
use Rattle.jz_parse.proofs.Parts.{L, next_arg_law, next_lval_law}
use Rattle.jz_parse.proofs.StmtReads.{stmt_reads}

-- ---- choices of tokens
either : (ks ls : List Kind) (t : Token) → is_in (ks ++ ls) t ≡ (is_in ks t || is_in ls t)
unfolding is_in
either ks ls t = member_append ks ls (token_kind t.kind)

pub any_assignment : (t : Token) → is_in assignments t ≡ (is_in sum_assignments t || (is_in quotient_assignments t || (is_in bit_assignments t || is_in shift_assignments t)))
any_assignment t =
    either sum_assignments (quotient_assignments ++ (bit_assignments ++ shift_assignments)) t
    ∙ ap (λ z. is_in sum_assignments t || z) (either quotient_assignments (bit_assignments ++ shift_assignments) t
    ∙ ap (λ z. is_in quotient_assignments t || z) (either bit_assignments shift_assignments t))

has_either : (ks ls : List Kind) (ts : List Token) → has (ks ++ ls) ts ≡ (has ks ts || has ls ts)
has_either ks ls [] = refl
has_either ks ls (t ∷ ts) = either ks ls t

pub any_start : (ts : List Token) → has r.stmt_starts ts ≡ (has r.marks ts || (has r.simple_starts ts || has r.form_starts ts))
any_start ts = has_either r.marks (r.simple_starts ++ r.form_starts) ts ∙ ap (λ z. has r.marks ts || z) (has_either r.simple_starts r.form_starts ts)

-- ---- arguments
pub args_done : (d : ℕ) (out : List Expr) (ts : List Token) → has r.commas ts ≡ false → r.args_more d out ts ≡ Ok (out, ts)
unfolding r.args_more
args_done d out ts h = more_done r.commas q.expr_goes (next_arg_law d) out ts h

pub args_next : (d : ℕ) (out : List Expr) (a : Expr) (ts us : List Token) → has r.commas ts ≡ true → r.next_arg d ts ≡ Ok (a, us) → r.args_more d out ts ≡ r.args_more d (out ++ a ∷ []) us
unfolding r.args_more
args_next d out a ts us h e = more_next r.commas q.expr_goes (next_arg_law d) out a ts us h e

pub args_wrong : (d : ℕ) (out : List Expr) (ts us : List Token) (k : Cause) → has r.commas ts ≡ true → r.next_arg d ts ≡ Err (k, us) → r.args_more d out ts ≡ Err (k, us)
unfolding r.args_more
args_wrong d out ts us k h e = more_wrong r.commas q.expr_goes (next_arg_law d) out ts us k h e

pub args_shorter : (d : ℕ) (a : Expr) (ts us : List Token) → r.next_arg d ts ≡ Ok (a, us) → length us < length ts
args_shorter d a ts us e = shorter r.commas q.expr_goes (next_arg_law d) ts us a e

-- ---- left sides
pub lvals_done : (d : ℕ) (out : List Lval) (ts : List Token) → has r.commas ts ≡ false → r.lvals_more d out ts ≡ Ok (out, ts)
unfolding r.lvals_more
lvals_done d out ts h = more_done r.commas L.goes (next_lval_law d) out ts h

pub lvals_next : (d : ℕ) (out : List Lval) (a : Lval) (ts us : List Token) → has r.commas ts ≡ true → r.next_lval d ts ≡ Ok (a, us) → r.lvals_more d out ts ≡ r.lvals_more d (out ++ a ∷ []) us
unfolding r.lvals_more
lvals_next d out a ts us h e = more_next r.commas L.goes (next_lval_law d) out a ts us h e

pub lvals_wrong : (d : ℕ) (out : List Lval) (ts us : List Token) (k : Cause) → has r.commas ts ≡ true → r.next_lval d ts ≡ Err (k, us) → r.lvals_more d out ts ≡ Err (k, us)
unfolding r.lvals_more
lvals_wrong d out ts us k h e = more_wrong r.commas L.goes (next_lval_law d) out ts us k h e

pub lvals_shorter : (d : ℕ) (a : Lval) (ts us : List Token) → r.next_lval d ts ≡ Ok (a, us) → length us < length ts
lvals_shorter d a ts us e = shorter r.commas L.goes (next_lval_law d) ts us a e

-- ---- statements
pub stmts_done : (d : ℕ) (out : List Stmt) (ts : List Token) → has r.stmt_starts ts ≡ false → r.stmts_more d out ts ≡ Ok (out, ts)
unfolding r.stmts_more
stmts_done d out ts h = more_done r.stmt_starts r.stmt_goes (stmt_reads d) out ts h

pub stmts_next : (d : ℕ) (out : List Stmt) (a : Stmt) (ts us : List Token) → has r.stmt_starts ts ≡ true → r.stmt d ts ≡ Ok (a, us) → r.stmts_more d out ts ≡ r.stmts_more d (out ++ a ∷ []) us
unfolding r.stmts_more
stmts_next d out a ts us h e = more_next r.stmt_starts r.stmt_goes (stmt_reads d) out a ts us h e

pub stmts_wrong : (d : ℕ) (out : List Stmt) (ts us : List Token) (k : Cause) → has r.stmt_starts ts ≡ true → r.stmt d ts ≡ Err (k, us) → r.stmts_more d out ts ≡ Err (k, us)
unfolding r.stmts_more
stmts_wrong d out ts us k h e = more_wrong r.stmt_starts r.stmt_goes (stmt_reads d) out ts us k h e

pub stmts_shorter : (d : ℕ) (a : Stmt) (ts us : List Token) → r.stmt d ts ≡ Ok (a, us) → length us < length ts
stmts_shorter d a ts us e = shorter r.stmt_starts r.stmt_goes (stmt_reads d) ts us a e

stmts_all : (d : ℕ) (ts : List Token) → many r.stmt_starts (r.nested_in d).stmts ts ≡ r.stmts_more d [] ts
unfolding r.stmts_more r.stmt
stmts_all d ts = last (many r.stmt_starts (r.nested_in d).stmts ts)
  where
    last : (w : Answer (List Stmt)) → w ≡ through (λ ps. [] ++ ps) w
    last (Ok y) = refl
    last (Err e) = refl

pub stmts_ok : (d : ℕ) (out : List Stmt) (ts us : List Token) → r.stmts_more d [] ts ≡ Ok (out, us) → many r.stmt_starts (r.nested_in d).stmts ts ≡ Ok (out, us)
stmts_ok d out ts us h = stmts_all d ts ∙ h

pub stmts_err : (d : ℕ) (k : Cause) (ts us : List Token) → r.stmts_more d [] ts ≡ Err (k, us) → many r.stmt_starts (r.nested_in d).stmts ts ≡ Err (k, us)
stmts_err d k ts us h = stmts_all d ts ∙ h
