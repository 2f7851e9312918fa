-- The grammar of expressions, line by line. At d tokens may still be nested; low has the phrases
-- that stand nested.
use Rattle.std.specs.Prelude.{ℕ, zero, suc, List, [], ◌∷◌, true, false, Option, Some, codes}
use Rattle.jz_tree.specs.Span.{Span}
use Rattle.jz_tree.specs.Size.{Size}
use Rattle.jz_grammar.specs.Kinds.{word, sign, identifier, number, cast, span_of}
use Rattle.jz_grammar.specs.Grammar.{Lang, token, ◌▸◌, ◌⊕◌, ◌⇒◌, never, opens, each, maybe}
use Rattle.jz_grammar.specs.Tokens.{name_of, number_of_token, cast_of, word_types, size_of_token}
use Rattle.jz_tree.specs.declared.expr.Expr.{Expr}
use Rattle.jz_tree.specs.declared.expr.Access.{Access}
use Rattle.jz_parse_expr.specs.Operators.{ops_of, op_of, level_count}
use Rattle.jz_parse_expr.specs.Trees.{number_expr, bool_expr, name_expr, neg_expr, not_expr, access_of, load_expr, cast_expr, chain}

-- a sign, a keyword, by where it stands
abbrev pub the : List ℕ → ℕ → Lang Span
the s d = token (sign s ∷ []) d ⇒ span_of

abbrev pub key : List ℕ → ℕ → Lang Span
key s d = token (word s ∷ []) d ⇒ span_of

-- ID
abbrev pub name : ℕ → Lang (List ℕ × Span)
name d = token (identifier ∷ []) d ⇒ name_of

-- wtype = "u8" | "u16" | "u32" | "u64"
abbrev pub word_type : ℕ → Lang Size
word_type d = token word_types d ⇒ size_of_token

-- level 0 = unary ; level k = level (k - 1) { op level (k - 1) }, the operators those of that level
abbrev pub levels : Lang (Span × Expr) → ℕ → ℕ → Lang (Span × Expr)
levels unary zero d = unary
levels unary (suc k) d = (levels unary k d ▸ each ((token (ops_of k) d ⇒ op_of) ▸ levels unary k d)) ⇒ (λ p. chain p.0 p.1)

-- expr = level 10
abbrev pub expr_at : Lang (Span × Expr) → ℕ → Lang (Span × Expr)
expr_at unary d = levels unary level_count d

-- "[" expr "]"
abbrev pub bracket : (ℕ → Lang (Span × Expr)) → ℕ → Lang Expr
bracket low d = opens (sign (codes "[") ∷ []) (λ b. expr_at (low b) b ▸ the (codes "]") b) d ⇒ (λ (_, ((_, at), _)). at)

-- "(" wtype ")" "[" expr "]"      the parentheses are closed where the bracket stands
abbrev pub cast_access : (ℕ → Lang (Span × Expr)) → ℕ → Lang (Span × (Option Size × Expr))
cast_access low d = (opens (sign (codes "(") ∷ []) (λ b. word_type b ▸ the (codes ")") b) d ▸ bracket low d) ⇒ (λ ((span, (size, _)), at). (span, (Some size, at)))

-- "[" [ ":" wtype ] expr "]"
abbrev pub plain_access : (ℕ → Lang (Span × Expr)) → ℕ → Lang (Span × (Option Size × Expr))
plain_access low d = opens (sign (codes "[") ∷ []) (λ b. maybe ((the (codes ":") b ▸ word_type b) ⇒ (λ p. p.1)) ▸ expr_at (low b) b ▸ the (codes "]") b) d
    ⇒ (λ (span, (size, ((_, at), _))). (span, (size, at)))

-- unary = NUM | ID [ "[" expr "]" ] | "true" | "false" | "-" unary | "!" unary | "[" [ ":" wtype ]
-- expr "]"
--       | "(" wtype ")" "[" expr "]" | "(" CAST ")" unary | "(" expr ")"
-- A sign and a cast are open in their operand.
abbrev pub unary_of : (ℕ → Lang (Span × Expr)) → ℕ → Lang (Span × Expr)
unary_of low d =
    ((token (number ∷ []) d ⇒ number_of_token) ⇒ number_expr)
    ⊕ ((name d ▸ maybe (bracket low d)) ⇒ name_expr)
    ⊕ (key (codes "true") d ⇒ bool_expr true)
    ⊕ (key (codes "false") d ⇒ bool_expr false)
    ⊕ (opens (sign (codes "-") ∷ []) low d ⇒ neg_expr)
    ⊕ (opens (sign (codes "!") ∷ []) low d ⇒ not_expr)
    ⊕ (plain_access low d ⇒ load_expr)
    ⊕ (cast_access low d ⇒ load_expr)
    ⊕ (opens (sign (codes "(") ∷ []) (λ b. (token (cast ∷ []) b ⇒ cast_of) ▸ the (codes ")") b ▸ low b) d ⇒ (λ (span, (size, (_, (_, e)))). cast_expr span size e))
    ⊕ (opens (sign (codes "(") ∷ []) (λ b. expr_at (low b) b ▸ the (codes ")") b) d ⇒ (λ (span, ((_, e), _)). (span, e)))

-- with at most d nested
abbrev pub unary : ℕ → Lang (Span × Expr)
unary zero = unary_of (λ _. never) zero
unary (suc d) = unary_of (λ _. unary d) (suc d)

-- an expression with the span of its first token, and alone
abbrev pub spanned_expression : ℕ → Lang (Span × Expr)
spanned_expression d = expr_at (unary d) d

abbrev pub expr : ℕ → Lang Expr
expr d = spanned_expression d ⇒ (λ p. p.1)

-- what an array's name is followed by
abbrev pub index : ℕ → Lang Expr
index d = bracket unary d

-- mem = "(" wtype ")" "[" expr "]" | "[" [ ":" wtype ] expr "]"
abbrev pub access : ℕ → Lang Access
access d = (cast_access unary d ⇒ access_of) ⊕ (plain_access unary d ⇒ access_of)
