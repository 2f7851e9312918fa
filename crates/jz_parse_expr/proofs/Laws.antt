-- What is read of an expression is the grammar's.
use Rattle.std.proofs.Common.{◌≡◌, inr, ℕ, zero, suc, List, [], ◌∷◌, ◌++◌, true, false, Option, None, refl, ap, ◌∙◌, subst, codes}
use Rattle.jz_tree.specs.Span.{Span}
use Rattle.jz_tree.specs.Size.{Size}
use Rattle.jz_grammar.specs.Token.{Token}
use Rattle.jz_grammar.specs.Kinds.{Kind, word, sign, identifier, number}
use Rattle.jz_grammar.specs.Readers.{Reader, through, follow, pick, optional}
use Rattle.jz_grammar.specs.Grammar.{Marked, Lang, token, ◌▸◌, ◌⊕◌, ◌⇒◌, opens, maybe}
use Rattle.jz_grammar.proofs.Laws.{IsReader, HasPhrase, full}
use Rattle.jz_grammar.specs.Deriving.{plus}
use Rattle.jz_grammar.proofs.Combine.{follow_reads, map_reads, pick_reads, inside_reads, optional_reads, reads_as, same_reads, shaped}
use Rattle.jz_grammar.proofs.Opening.{inside_same, HasPhraseAnyway, some_opens}
use Rattle.jz_grammar.proofs.Samples.{sign_token, sign_in, identifier_reads, number_reads, some_then, some_map, some_maybe, some_right, up}
use Rattle.jz_grammar.specs.Tokens.{name_of, number_of_token}
use Rattle.jz_tree.specs.declared.expr.Expr.{Expr}
use Rattle.jz_parse_expr.specs.Trees.{number_expr, bool_expr, name_expr, neg_expr, not_expr, access_of, load_expr, Group, group_expr}
use Rattle.jz_parse_expr.specs.Table as g
use Rattle.jz_parse_expr.specs.Readers as r
use Rattle.jz_parse_expr.proofs.Levels.{Unary, unary_goes, unary_shape, the_reads, some_the, key_reads, word_type_reads, some_word_type, some_unary, some_spanned, some_closed, any_closed, expr_of_reads}
use Rattle.jz_parse_expr.proofs.Parentheses.{Below, three, cast_access_reads, group_form_reads}

-- ---- brackets
abbrev square : List Kind
square = sign (codes "[") ∷ []

pub bracket_reads : (d : ℕ) → Below d → IsReader (r.bracket r.unary d) (λ e. g.bracket g.unary (plus d e)) (full square [])
unfolding r.bracket
bracket_reads d below = map_reads (λ p. p.1.0.1)
    (inside_reads square (sign_token (codes "[")) (sign_in (codes "[") []) (λ b. follow (r.expr_of (r.unary b)) (r.the (codes "]"))) (λ b. g.spanned_expression b ▸ g.the (codes "]") b) (some_closed (codes "]")) (full r.expr_starts []) d
    (λ b h. follow_reads (expr_of_reads b (below b h)) (the_reads (codes "]") b) (up (λ b. g.the (codes "]") b) b (some_the (codes "]"))) refl))

abbrev size_mark : ℕ → Lang Size
size_mark b = (g.the (codes ":") b ▸ g.word_type b) ⇒ (λ p. p.1)

size_mark_reads : (b : ℕ) → IsReader r.size_mark (λ e. size_mark (plus b e)) (full (sign (codes ":") ∷ []) [])
unfolding r.size_mark
size_mark_reads b = map_reads (λ p. p.1) (follow_reads (the_reads (codes ":") b) (word_type_reads b) (up (λ b. g.word_type b) b some_word_type) refl)

abbrev address_starts : List Kind
address_starts = sign (codes ":") ∷ r.expr_starts

pub plain_access_reads : (d : ℕ) → Below d → IsReader (r.plain_access r.unary d) (λ e. g.plain_access g.unary (plus d e)) (full square [])
unfolding r.plain_access
plain_access_reads d below = map_reads (λ p. (p.0, (p.1.0, p.1.1.0.1)))
    (inside_reads square (sign_token (codes "[")) (sign_in (codes "[") [])
    (λ b. follow (optional (sign (codes ":") ∷ []) r.size_mark) (follow (r.expr_of (r.unary b)) (r.the (codes "]"))))
    (λ b. maybe (size_mark b) ▸ g.spanned_expression b ▸ g.the (codes "]") b)
    (some_then (λ b. maybe (size_mark b)) (λ b. g.spanned_expression b ▸ g.the (codes "]") b) (some_maybe size_mark) (some_closed (codes "]")))
    (full address_starts []) d
    (λ b h. shaped (full address_starts [])
    (follow_reads (optional_reads (sign (codes ":") ∷ []) [] (size_mark_reads b))
    (follow_reads (expr_of_reads b (below b h)) (the_reads (codes "]") b) (up (λ b. g.the (codes "]") b) b (some_the (codes "]"))) refl)
    (up (λ b. g.spanned_expression b ▸ g.the (codes "]") b) b (some_closed (codes "]"))) refl)
    refl refl refl))

-- ---- the other forms
number_reads' : (d : ℕ) → IsReader r.number_form (λ e. (token (number ∷ []) (plus d e) ⇒ number_of_token) ⇒ number_expr) (full (number ∷ []) [])
unfolding r.number_form
number_reads' d = map_reads number_expr (number_reads number_of_token d)

name_reads : (d : ℕ) → Below d → IsReader (r.name_form r.unary d) (λ e. (g.name (plus d e) ▸ maybe (g.bracket g.unary (plus d e))) ⇒ name_expr) (full (identifier ∷ []) unary_goes)
unfolding r.name_form
name_reads d below = map_reads name_expr (follow_reads (identifier_reads name_of d) (optional_reads square [] (bracket_reads d below)) (λ e h. ([], None, inr (refl, refl))) refl)

true_reads : (d : ℕ) → IsReader r.true_form (λ e. g.key (codes "true") (plus d e) ⇒ bool_expr true) (full (word (codes "true") ∷ []) [])
unfolding r.true_form
true_reads d = map_reads (bool_expr true) (key_reads (codes "true") d)

false_reads : (d : ℕ) → IsReader r.false_form (λ e. g.key (codes "false") (plus d e) ⇒ bool_expr false) (full (word (codes "false") ∷ []) [])
unfolding r.false_form
false_reads d = map_reads (bool_expr false) (key_reads (codes "false") d)

neg_reads : (d : ℕ) → Below d → IsReader (r.neg_form r.unary d) (λ e. opens (sign (codes "-") ∷ []) g.unary (plus d e) ⇒ neg_expr) (full (sign (codes "-") ∷ []) unary_goes)
unfolding r.neg_form
neg_reads d below = map_reads neg_expr (inside_reads (sign (codes "-") ∷ []) (sign_token (codes "-")) (sign_in (codes "-") []) r.unary g.unary some_unary unary_shape d below)

not_reads : (d : ℕ) → Below d → IsReader (r.not_form r.unary d) (λ e. opens (sign (codes "!") ∷ []) g.unary (plus d e) ⇒ not_expr) (full (sign (codes "!") ∷ []) unary_goes)
unfolding r.not_form
not_reads d below = map_reads not_expr (inside_reads (sign (codes "!") ∷ []) (sign_token (codes "!")) (sign_in (codes "!") []) r.unary g.unary some_unary unary_shape d below)

load_reads : (d : ℕ) → Below d → IsReader (r.load_form r.unary d) (λ e. g.plain_access g.unary (plus d e) ⇒ load_expr) (full square [])
unfolding r.load_form
load_reads d below = map_reads load_expr (plain_access_reads d below)

-- ---- the whole
abbrev signed_of : ℕ → Lang (Span × Expr)
signed_of d =
    (opens (sign (codes "-") ∷ []) g.unary d ⇒ neg_expr)
    ⊕ (opens (sign (codes "!") ∷ []) g.unary d ⇒ not_expr)
    ⊕ (g.plain_access g.unary d ⇒ load_expr)
    ⊕ three d

signed_reads : (d : ℕ) → Below d → IsReader (r.signed_of r.unary d) (λ e. signed_of (plus d e)) (full r.signed_starts unary_goes)
unfolding r.signed_of
signed_reads d below = shaped (full r.signed_starts unary_goes)
    (pick_reads (neg_reads d below) (pick_reads (not_reads d below) (pick_reads (load_reads d below) (group_form_reads d below) refl refl) refl refl) refl refl)
    refl refl refl

unary_of_reads : (d : ℕ) → Below d → IsReader (r.unary_of r.unary d) (λ e. g.unary_of g.unary (plus d e)) unary_shape
unfolding r.unary_of
unary_of_reads d below = shaped unary_shape
    (pick_reads (number_reads' d) (pick_reads (name_reads d below) (pick_reads (true_reads d) (pick_reads (false_reads d) (signed_reads d below) refl refl) refl refl) refl refl) refl refl)
    refl refl refl

-- ---- only what may stand nested matters
module _ (f h : ℕ → Reader (Span × Expr)) (d : ℕ) (same : (b : ℕ) → d ≡ suc b → f b ≡ h b) where
  bracket_same : r.bracket f d ≡ r.bracket h d
  unfolding r.bracket
  bracket_same = ap (λ (x : Reader (Span × ((Span × Expr) × Span))). λ ts. through (λ p. p.1.0.1) (x ts))
      (inside_same square (λ b. follow (r.expr_of (f b)) (r.the (codes "]"))) (λ b. follow (r.expr_of (h b)) (r.the (codes "]"))) d (λ b e. ap (λ u. follow (r.expr_of u) (r.the (codes "]"))) (same b e)))

  name_same : r.name_form f d ≡ r.name_form h d
  unfolding r.name_form
  name_same = ap (λ x. λ ts. through name_expr (follow r.name (optional square x) ts)) bracket_same

  neg_same : r.neg_form f d ≡ r.neg_form h d
  unfolding r.neg_form
  neg_same = ap (λ (x : Reader (Span × (Span × Expr))). λ ts. through neg_expr (x ts)) (inside_same (sign (codes "-") ∷ []) f h d same)

  not_same : r.not_form f d ≡ r.not_form h d
  unfolding r.not_form
  not_same = ap (λ (x : Reader (Span × (Span × Expr))). λ ts. through not_expr (x ts)) (inside_same (sign (codes "!") ∷ []) f h d same)

  load_same : r.load_form f d ≡ r.load_form h d
  unfolding r.load_form r.plain_access
  load_same = ap (λ (x : Reader (Span × _)). λ ts. through load_expr (through (λ p. (p.0, (p.1.0, p.1.1.0.1))) (x ts)))
      (inside_same square (λ b. follow (optional (sign (codes ":") ∷ []) r.size_mark) (follow (r.expr_of (f b)) (r.the (codes "]")))) (λ b. follow (optional (sign (codes ":") ∷ []) r.size_mark) (follow (r.expr_of (h b)) (r.the (codes "]")))) d
      (λ b e. ap (λ u. follow (optional (sign (codes ":") ∷ []) r.size_mark) (follow (r.expr_of u) (r.the (codes "]")))) (same b e)))

  group_same : r.group_form f d ≡ r.group_form h d
  unfolding r.group_form
  group_same = ap (λ (x : Reader (Span × Group)). λ ts. through (λ p. group_expr p.0 p.1) (x ts))
      (inside_same (sign (codes "(") ∷ []) (λ b. r.group (f b)) (λ b. r.group (h b)) d (λ b e. ap r.group (same b e)))

  signed_same : r.signed_of f d ≡ r.signed_of h d
  unfolding r.signed_of
  signed_same =
      ap (λ x. pick (sign (codes "-") ∷ []) x (pick (sign (codes "!") ∷ []) (r.not_form f d) (pick square (r.load_form f d) (r.group_form f d)))) neg_same
      ∙ ap (λ x. pick (sign (codes "-") ∷ []) (r.neg_form h d) (pick (sign (codes "!") ∷ []) x (pick square (r.load_form f d) (r.group_form f d)))) not_same
      ∙ ap (λ x. pick (sign (codes "-") ∷ []) (r.neg_form h d) (pick (sign (codes "!") ∷ []) (r.not_form h d) (pick square x (r.group_form f d)))) load_same
      ∙ ap (λ x. pick (sign (codes "-") ∷ []) (r.neg_form h d) (pick (sign (codes "!") ∷ []) (r.not_form h d) (pick square (r.load_form h d) x))) group_same

  unary_same : r.unary_of f d ≡ r.unary_of h d
  unfolding r.unary_of
  unary_same =
      ap (λ x. pick (number ∷ []) r.number_form (pick (identifier ∷ []) x (pick (word (codes "true") ∷ []) r.true_form (pick (word (codes "false") ∷ []) r.false_form (r.signed_of f d))))) name_same
      ∙ ap (λ x. pick (number ∷ []) r.number_form (pick (identifier ∷ []) (r.name_form h d) (pick (word (codes "true") ∷ []) r.true_form (pick (word (codes "false") ∷ []) r.false_form x)))) signed_same

-- what is nested is less
pub unary_is : (d : ℕ) (ts : List Token) → r.unary_of r.unary d ts ≡ r.unary d ts
unfolding r.unary
unary_is zero ts = ap (λ f. f ts) (unary_same r.unary _ zero (λ b h. none b h))
  where
    none : {A : Type 0} (b : ℕ) → zero ≡ suc b → A
    none b h = cc
unary_is (suc d) ts = ap (λ f. f ts) (unary_same r.unary (λ _. r.unary d) (suc d) (λ b h. ap r.unary (inj b h)))
  where
    inj : (b : ℕ) → suc d ≡ suc b → b ≡ d
    inj b h = cc

grammar_is : (d : ℕ) (xs : List Marked) (a : Span × Expr) → g.unary_of g.unary d xs a → g.unary d xs a
grammar_is zero xs a h = h
grammar_is (suc d) xs a h = h

grammar_of : (d : ℕ) (xs : List Marked) (a : Span × Expr) → g.unary d xs a → g.unary_of g.unary d xs a
grammar_of zero xs a h = h
grammar_of (suc d) xs a h = h

unary_step : (d : ℕ) → Below d → Unary d
unary_step d below = reads_as (r.unary d) (same_reads (λ e. g.unary (plus d e)) (unary_of_reads d below) (λ e. grammar_is (plus d e)) (λ e. grammar_of (plus d e))) (unary_is d)

pub unary_reads : (d : ℕ) → Unary d
unary_reads zero = unary_step zero (λ b h. none b h)
  where
    none : (b : ℕ) → zero ≡ suc b → Unary b
    none b h = cc
unary_reads (suc d) = unary_step (suc d) (λ b h. subst (λ z. Unary z) (inj b h) (unary_reads d))
  where
    inj : (b : ℕ) → suc d ≡ suc b → d ≡ b
    inj b h = cc

pub below : (d : ℕ) → Below d
below d b h = unary_reads b

-- ---- what others read
pub expr_reads : (d : ℕ) → IsReader (r.expr d) (λ e. g.expr (plus d e)) (full r.expr_starts r.expr_goes)
unfolding r.expr r.spanned_expression
expr_reads d = map_reads (λ p. p.1) (expr_of_reads d (unary_reads d))

pub some_expr : HasPhrase (λ d. g.expr d)
some_expr = some_map g.spanned_expression (λ p. p.1) some_spanned

pub index_reads : (d : ℕ) → IsReader (r.index d) (λ e. g.index (plus d e)) (full square [])
unfolding r.index
index_reads d = bracket_reads d (below d)

pub some_index : HasPhrase (λ d. g.index d)
some_index = some_map (opens square (λ b. g.spanned_expression b ▸ g.the (codes "]") b)) (λ p. p.1.0.1) (some_opens (sign (codes "[")) (sign_token (codes "[")) (sign_in (codes "[") []) (λ b. g.spanned_expression b ▸ g.the (codes "]") b) any_closed)

pub access_reads : (d : ℕ) → IsReader (r.access d) (λ e. g.access (plus d e)) (full r.access_starts [])
unfolding r.access
access_reads d = shaped (full r.access_starts []) (pick_reads (map_reads access_of (cast_access_reads d (below d))) (map_reads access_of (plain_access_reads d (below d))) refl refl) refl refl refl

abbrev address : ℕ → Lang (Option Size × ((Span × Expr) × Span))
address b = maybe (size_mark b) ▸ g.spanned_expression b ▸ g.the (codes "]") b

any_address : HasPhraseAnyway address
any_address d = let x = any_closed d in ([] ++ x.0, (None, x.1), ([], x.0, inr (refl, refl), x.2, refl))

pub some_access : HasPhrase (λ d. g.access d)
some_access = some_right (λ d. g.cast_access g.unary d ⇒ access_of) (λ d. g.plain_access g.unary d ⇒ access_of)
    (some_map (λ d. g.plain_access g.unary d) access_of
    (some_map (opens square address) (λ p. (p.0, (p.1.0, p.1.1.0.1))) (some_opens (sign (codes "[")) (sign_token (codes "[")) (sign_in (codes "[") []) address any_address)))
