-- What is read of a level of operators is the grammar's.
use Rattle.std.proofs.Common.{◌≡◌, inl, ℕ, zero, suc, ◌≤◌, List, [], ◌∷◌, ◌++◌, true, false, refl, sym, subst, arith, codes}
use Rattle.jz_grammar.specs.Token.{Token}
use Rattle.jz_grammar.specs.Kinds.{Kind, word, sign, span_of, disjoint, is_in, has}
use Rattle.jz_grammar.specs.Grammar.{Marked, token, ◌▸◌, ◌⇒◌}
use Rattle.jz_grammar.proofs.Laws.{Shape, First, IsReader, HasPhrase, full, one_shape, many_shape, both}
use Rattle.jz_grammar.specs.Deriving.{plus}
use Rattle.jz_grammar.proofs.Basics.{disjoint_nil, has_append, has_join}
use Rattle.jz_grammar.proofs.Combine.{leaf_reads, follow_reads, map_reads, many_reads, reshape, shaped}
use Rattle.jz_grammar.proofs.Opening.{HasPhraseAnyway}
use Rattle.jz_grammar.proofs.Samples.{sign_token, sign_in, sign_reads, word_token, word_in, word_reads, number_token, number_in, some_leaf, some_sign, some_then, up}
use Rattle.jz_grammar.specs.Tokens.{number_of_token, word_types, size_of_token}
use Rattle.jz_parse_expr.specs.Operators.{ops_of, op_of}
use Rattle.jz_parse_expr.specs.Trees.{number_expr, chain}
use Rattle.jz_parse_expr.specs.Table as g
use Rattle.jz_parse_expr.specs.Readers as r

-- ---- one token
pub the_reads : (s : List ℕ) (d : ℕ) → IsReader (r.the s) (λ e. g.the s (plus d e)) (one_shape (sign s ∷ []))
the_reads s d = sign_reads s span_of d

pub some_the : (s : List ℕ) → HasPhrase (λ d. g.the s d)
some_the s = some_sign s span_of

pub key_reads : (s : List ℕ) (d : ℕ) → IsReader (r.key s) (λ e. g.key s (plus d e)) (one_shape (word s ∷ []))
key_reads s d = word_reads s span_of d

u8_in : is_in word_types (word_token (codes "u8")) ≡ true
u8_in = word_in (codes "u8") (word (codes "u16") ∷ word (codes "u32") ∷ word (codes "u64") ∷ [])

pub word_type_reads : (d : ℕ) → IsReader r.word_type (λ e. g.word_type (plus d e)) (one_shape word_types)
word_type_reads d = leaf_reads word_types size_of_token d (word_token (codes "u8")) u8_in

pub some_word_type : HasPhrase (λ d. g.word_type d)
some_word_type = some_leaf word_types size_of_token (word_token (codes "u8")) u8_in

-- ---- there are phrases
pub any_unary : HasPhraseAnyway g.unary
any_unary zero = ((number_token, zero) ∷ [], number_expr (number_of_token number_token), inl (number_of_token number_token, (number_token, (refl, number_in), refl), refl))
any_unary (suc d) = ((number_token, suc d) ∷ [], number_expr (number_of_token number_token), inl (number_of_token number_token, (number_token, (refl, number_in), refl), refl))

any_levels : (k : ℕ) → HasPhraseAnyway (λ d. g.levels (g.unary d) k d)
any_levels zero d = any_unary d
any_levels (suc k) d = let w = any_levels k d in (w.0 ++ [], chain w.1 [], ((w.1, []), (w.0, [], w.2, refl, refl), refl))

any_spanned : HasPhraseAnyway g.spanned_expression
any_spanned d = any_levels 10 d

pub any_closed : HasPhraseAnyway (λ b. g.spanned_expression b ▸ g.the (codes "]") b)
any_closed d = let x = any_spanned d in
    (x.0 ++ (sign_token (codes "]"), d) ∷ [], (x.1, span_of (sign_token (codes "]"))), (x.0, (sign_token (codes "]"), d) ∷ [], x.2, (sign_token (codes "]"), (refl, sign_in (codes "]") []), refl), refl))

pub some_unary : HasPhrase g.unary
some_unary d h = any_unary d

pub some_spanned : HasPhrase g.spanned_expression
some_spanned d h = any_spanned d

pub some_closed : (s : List ℕ) → HasPhrase (λ b. g.spanned_expression b ▸ g.the s b)
some_closed s = some_then (λ b. g.spanned_expression b) (λ b. g.the s b) some_spanned (some_the s)

-- ---- the operators of a level
first_op : (k : ℕ) → (s : List ℕ) × (ks : List Kind) × (ops_of k ≡ sign s ∷ ks)
first_op zero = (codes "*", sign (codes "/") ∷ sign (codes "%") ∷ sign (codes "/s") ∷ sign (codes "%s") ∷ [], refl)
first_op (suc zero) = (codes "+", sign (codes "-") ∷ [], refl)
first_op (suc (suc zero)) = (codes "<<", sign (codes ">>") ∷ sign (codes ">>s") ∷ sign (codes "<<r") ∷ sign (codes ">>r") ∷ [], refl)
first_op (suc (suc (suc zero))) = (codes "<", sign (codes "<=") ∷ sign (codes ">") ∷ sign (codes ">=") ∷ sign (codes "<s") ∷ sign (codes "<=s") ∷ sign (codes ">s") ∷ sign (codes ">=s") ∷ [], refl)
first_op (suc (suc (suc (suc zero)))) = (codes "==", sign (codes "!=") ∷ [], refl)
first_op (suc (suc (suc (suc (suc zero))))) = (codes "&", [], refl)
first_op (suc (suc (suc (suc (suc (suc zero)))))) = (codes "^", [], refl)
first_op (suc (suc (suc (suc (suc (suc (suc zero))))))) = (codes "|", [], refl)
first_op (suc (suc (suc (suc (suc (suc (suc (suc zero)))))))) = (codes "&&", [], refl)
first_op (suc (suc (suc (suc (suc (suc (suc (suc (suc k))))))))) = (codes "||", [], refl)

op_token : ℕ → Token
op_token k = let w = first_op k in sign_token w.0

op_in : (k : ℕ) → is_in (ops_of k) (op_token k) ≡ true
unfolding op_token
op_in k = let w = first_op k in subst (λ z. is_in z (sign_token w.0) ≡ true) (sym w.2) (sign_in w.0 w.1)

-- the tokens that go on with a unary expression, and with a level
abbrev pub unary_goes : List Kind
unary_goes = sign (codes "[") ∷ []

abbrev pub goes_of : ℕ → List Kind
goes_of zero = unary_goes
goes_of (suc k) = goes_of k ++ ops_of k

-- no operator of a level goes on with what stands at either side of it
clear : (k : ℕ) → k ≤ 9 → disjoint (ops_of k) (goes_of k) ≡ true
clear zero h = refl
clear (suc zero) h = refl
clear (suc (suc zero)) h = refl
clear (suc (suc (suc zero))) h = refl
clear (suc (suc (suc (suc zero)))) h = refl
clear (suc (suc (suc (suc (suc zero))))) h = refl
clear (suc (suc (suc (suc (suc (suc zero)))))) h = refl
clear (suc (suc (suc (suc (suc (suc (suc zero))))))) h = refl
clear (suc (suc (suc (suc (suc (suc (suc (suc zero)))))))) h = refl
clear (suc (suc (suc (suc (suc (suc (suc (suc (suc zero))))))))) h = refl
clear (suc (suc (suc (suc (suc (suc (suc (suc (suc (suc k)))))))))) h = absurd (omega (arith, h))

-- ---- levels
abbrev pub unary_shape : Shape
unary_shape = full r.expr_starts unary_goes

-- the unary expressions with at most d nested are read
abbrev pub Unary : ℕ → Type 0
Unary d = IsReader (r.unary d) (λ e. g.unary (plus d e)) unary_shape

-- those of a level are read
abbrev pub Level : ℕ → ℕ → Type 0
Level d k = IsReader (r.levels (r.unary d) k) (λ e. g.levels (g.unary (plus d e)) k (plus d e)) (full r.expr_starts (goes_of k))

abbrev pub Item : ℕ → ℕ → Type 0
Item d k = IsReader (r.operand (r.levels (r.unary d) k) k) (λ e. (token (ops_of k) (plus d e) ⇒ op_of) ▸ g.levels (g.unary (plus d e)) k (plus d e)) (full (ops_of k) (goes_of k))

item_of : (d k : ℕ) → Level d k → Item d k
item_of d k F = follow_reads (leaf_reads (ops_of k) op_of d (op_token k) (op_in k)) F (up (λ b. g.levels (g.unary b) k b) d (λ b h. any_levels k b)) (disjoint_nil r.expr_starts)

level_step : (d k : ℕ) → disjoint (ops_of k) (goes_of k) ≡ true → Level d k → Level d (suc k)
unfolding r.levels
level_step d k apart F = reshape (full r.expr_starts (goes_of (suc k)))
    (map_reads (λ p. chain p.0 p.1) (follow_reads F (many_reads (ops_of k) (goes_of k) (item_of d k F) apart) (λ e h. ([], [], refl)) apart))
    starts goes
  where
    starts : (xs : List Marked) → First (both (full r.expr_starts (goes_of k)) (many_shape (ops_of k) (goes_of k))) xs → First (full r.expr_starts (goes_of (suc k))) xs
    starts [] h = h
    starts (x ∷ xs) h = h

    goes : (ts : List Token) → has (goes_of k ++ ops_of k) ts ≡ false → has (goes_of k ++ (ops_of k ++ goes_of k)) ts ≡ false
    goes ts h = let two = has_append (goes_of k) (ops_of k) ts h in has_join (goes_of k) (ops_of k ++ goes_of k) ts two.0 (has_join (ops_of k) (goes_of k) ts two.1 two.0)

level_zero : (d : ℕ) → Unary d → Level d 0
unfolding r.levels
level_zero d F = F

pub level_reads : (d : ℕ) → Unary d → (k : ℕ) → k ≤ 10 → Level d k
level_reads d F zero h = level_zero d F
level_reads d F (suc k) h = level_step d k (clear k (omega (arith, h))) (level_reads d F k (omega (arith, h)))

pub item_reads : (d : ℕ) → Unary d → (k : ℕ) → k ≤ 9 → Item d k
item_reads d F k h = item_of d k (level_reads d F k (omega (arith, h)))

-- an expression, where the unary ones are read
pub expr_of_reads : (d : ℕ) → Unary d → IsReader (r.expr_of (r.unary d)) (λ e. g.spanned_expression (plus d e)) (full r.expr_starts r.expr_goes)
unfolding r.expr_of
expr_of_reads d F = shaped (full r.expr_starts r.expr_goes) (level_reads d F 10 (omega arith)) refl refl refl
