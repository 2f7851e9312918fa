-- How expressions are read: each choice by the next token.
use Rattle.std.specs.Prelude.{ℕ, zero, suc, List, [], ◌∷◌, true, false, Option, Some, Err, codes}
use Rattle.jz_tree.specs.Span.{Span}
use Rattle.jz_tree.specs.Size.{Size}
use Rattle.jz_grammar.specs.Causes.{Unexpected}
use Rattle.jz_grammar.specs.Kinds.{Kind, word, sign, identifier, number, cast, span_of}
use Rattle.jz_grammar.specs.Readers.{Reader, through, follow, pick, many, leaf, inside, optional}
use Rattle.jz_grammar.specs.Tokens.{name_of, number_of_token, cast_of, word_types, size_of_token}
use Rattle.jz_tree.specs.declared.expr.Expr.{Expr}
use Rattle.jz_tree.specs.declared.expr.Access.{Access}
use Rattle.jz_tree.specs.declared.expr.BinOp.{BinOp}
use Rattle.jz_parse_expr.specs.Operators.{ops_of, op_of, operators, level_count}
use Rattle.jz_parse_expr.specs.Trees.{number_expr, bool_expr, name_expr, neg_expr, not_expr, access_of, load_expr, chain, Group, At, As, Plain, group_expr}
pub use Rattle.jz_grammar.specs.TokenReaders.{key, the, name}

-- the signs that begin an expression, the tokens that do, those that go on with one, and those that
-- begin an access
abbrev pub signed_starts : List Kind
signed_starts = sign (codes "-") ∷ sign (codes "!") ∷ sign (codes "[") ∷ sign (codes "(") ∷ []

abbrev pub expr_starts : List Kind
expr_starts = number ∷ identifier ∷ word (codes "true") ∷ word (codes "false") ∷ signed_starts

abbrev pub expr_goes : List Kind
expr_goes = sign (codes "[") ∷ operators

abbrev pub access_starts : List Kind
access_starts = sign (codes "(") ∷ sign (codes "[") ∷ []

-- ---- one token

abbrev pub word_type : Reader Size
word_type = leaf word_types size_of_token

-- ---- levels
-- an operator and what stands behind it
abbrev pub operand : Reader (Span × Expr) → ℕ → Reader (BinOp × (Span × Expr))
operand sub k = follow (leaf (ops_of k) op_of) sub

-- the rest of a level, and the level
unfoldable pub rest_of : Reader (Span × Expr) → ℕ → Span × Expr → Reader (Span × Expr)
rest_of sub k a ts = through (λ ps. chain a ps) (many (ops_of k) (operand sub k) ts)

unfoldable pub levels : Reader (Span × Expr) → ℕ → Reader (Span × Expr)
levels unary zero ts = unary ts
levels unary (suc k) ts = through (λ p. chain p.0 p.1) (follow (levels unary k) (many (ops_of k) (operand (levels unary k) k)) ts)

unfoldable pub expr_of : Reader (Span × Expr) → Reader (Span × Expr)
expr_of unary ts = levels unary level_count ts

-- ---- brackets
unfoldable pub bracket : (ℕ → Reader (Span × Expr)) → ℕ → Reader Expr
bracket low d ts = through (λ (_, ((_, at), _)). at) (inside (sign (codes "[") ∷ []) (λ b. follow (expr_of (low b)) (the (codes "]"))) d ts)

-- the size in parentheses behind their "(", and the address; the bracket is open where the
-- parentheses were
unfoldable pub sized_rest : Reader (Span × Expr) → Reader (Size × Expr)
sized_rest unary ts = through (λ (size, (_, (_, ((_, at), _)))). (size, at)) (follow word_type (follow (the (codes ")")) (follow (the (codes "[")) (follow (expr_of unary) (the (codes "]"))))) ts)

unfoldable pub cast_access : (ℕ → Reader (Span × Expr)) → ℕ → Reader (Span × (Option Size × Expr))
cast_access low d ts = through (λ (span, (size, at)). (span, (Some size, at))) (inside (sign (codes "(") ∷ []) (λ b. sized_rest (low b)) d ts)

unfoldable pub size_mark : Reader Size
size_mark ts = through (λ p. p.1) (follow (the (codes ":")) word_type ts)

unfoldable pub plain_access : (ℕ → Reader (Span × Expr)) → ℕ → Reader (Span × (Option Size × Expr))
plain_access low d ts = through (λ (span, (size, ((_, at), _))). (span, (size, at))) (inside (sign (codes "[") ∷ []) (λ b. follow (optional (sign (codes ":") ∷ []) size_mark) (follow (expr_of (low b)) (the (codes "]")))) d ts)

-- ---- parentheses
unfoldable pub cast_rest : Reader (Span × Expr) → Reader Group
cast_rest unary ts = through (λ (size, (_, (_, e))). As size e) (follow (leaf (cast ∷ []) cast_of) (follow (the (codes ")")) unary) ts)

unfoldable pub plain_rest : Reader (Span × Expr) → Reader Group
plain_rest unary ts = through (λ ((_, e), _). Plain e) (follow (expr_of unary) (the (codes ")")) ts)

unfoldable pub group : Reader (Span × Expr) → Reader Group
group unary = pick word_types (λ ts. through (λ p. At p.0 p.1) (sized_rest unary ts)) (pick (cast ∷ []) (cast_rest unary) (plain_rest unary))

unfoldable pub group_form : (ℕ → Reader (Span × Expr)) → ℕ → Reader (Span × Expr)
group_form low d ts = through (λ p. group_expr p.0 p.1) (inside (sign (codes "(") ∷ []) (λ b. group (low b)) d ts)

-- ---- the other forms
unfoldable pub number_form : Reader (Span × Expr)
number_form ts = through number_expr (leaf (number ∷ []) number_of_token ts)

unfoldable pub name_form : (ℕ → Reader (Span × Expr)) → ℕ → Reader (Span × Expr)
name_form low d ts = through name_expr (follow name (optional (sign (codes "[") ∷ []) (bracket low d)) ts)

unfoldable pub true_form : Reader (Span × Expr)
true_form ts = through (bool_expr true) (key (codes "true") ts)

unfoldable pub false_form : Reader (Span × Expr)
false_form ts = through (bool_expr false) (key (codes "false") ts)

unfoldable pub neg_form : (ℕ → Reader (Span × Expr)) → ℕ → Reader (Span × Expr)
neg_form low d ts = through neg_expr (inside (sign (codes "-") ∷ []) low d ts)

unfoldable pub not_form : (ℕ → Reader (Span × Expr)) → ℕ → Reader (Span × Expr)
not_form low d ts = through not_expr (inside (sign (codes "!") ∷ []) low d ts)

unfoldable pub load_form : (ℕ → Reader (Span × Expr)) → ℕ → Reader (Span × Expr)
load_form low d ts = through load_expr (plain_access low d ts)

-- the forms that begin with a sign
unfoldable pub signed_of : (ℕ → Reader (Span × Expr)) → ℕ → Reader (Span × Expr)
signed_of low d =
    pick (sign (codes "-") ∷ []) (neg_form low d)
    (pick (sign (codes "!") ∷ []) (not_form low d)
    (pick (sign (codes "[") ∷ []) (load_form low d)
    (group_form low d)))

unfoldable pub unary_of : (ℕ → Reader (Span × Expr)) → ℕ → Reader (Span × Expr)
unary_of low d =
    pick (number ∷ []) number_form
    (pick (identifier ∷ []) (name_form low d)
    (pick (word (codes "true") ∷ []) true_form
    (pick (word (codes "false") ∷ []) false_form
    (signed_of low d))))

-- ---- the whole
unfoldable pub unary : ℕ → Reader (Span × Expr)
unary zero = unary_of (λ _ ts. Err (Unexpected, ts)) zero
unary (suc d) = unary_of (λ _. unary d) (suc d)

unfoldable pub spanned_expression : ℕ → Reader (Span × Expr)
spanned_expression d ts = expr_of (unary d) ts

unfoldable pub expr : ℕ → Reader Expr
expr d ts = through (λ p. p.1) (spanned_expression d ts)

unfoldable pub index : ℕ → Reader Expr
index d ts = bracket unary d ts

unfoldable pub access : ℕ → Reader Access
access d = pick (sign (codes "(") ∷ []) (λ ts. through access_of (cast_access unary d ts)) (λ ts. through access_of (plain_access unary d ts))
