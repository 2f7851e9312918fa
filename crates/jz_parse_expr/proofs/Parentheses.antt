-- What is read of the forms that begin with a parenthesis is the grammar's.
use Rattle.std.proofs.Common.{◌≡◌, inl, inr, ⊎_elim, ℕ, zero, suc, List, [], ◌∷◌, ◌++◌, Bool, Option, Some, refl, sym, ap, ◌∙◌, append_assoc, codes}
use Rattle.jz_tree.specs.Span.{Span}
use Rattle.jz_tree.specs.Size.{Size}
use Rattle.jz_grammar.specs.Kinds.{Kind, sign, cast}
use Rattle.jz_grammar.specs.Grammar.{Marked, Lang, token, ◌▸◌, ◌⊕◌, ◌⇒◌, opens}
use Rattle.jz_grammar.proofs.Laws.{IsReader, HasPhrase, full}
use Rattle.jz_grammar.specs.Deriving.{plus}
use Rattle.jz_grammar.proofs.Combine.{follow_reads, map_reads, pick_reads, inside_reads, same_reads, shaped}
use Rattle.jz_grammar.proofs.Samples.{sign_token, sign_in, cast_reads, some_then, some_map, some_left, up}
use Rattle.jz_grammar.specs.Tokens.{word_types, cast_of}
use Rattle.jz_tree.specs.declared.expr.Expr.{Expr}
use Rattle.jz_parse_expr.specs.Trees.{load_expr, cast_expr, Group, At, As, Plain, group_expr}
use Rattle.jz_parse_expr.specs.Table as g
use Rattle.jz_parse_expr.specs.Readers as r
use Rattle.jz_parse_expr.proofs.Levels.{Unary, unary_goes, the_reads, some_the, word_type_reads, some_word_type, some_unary, some_closed, expr_of_reads}

abbrev paren : List Kind
paren = sign (codes "(") ∷ []

-- what may stand nested is read
abbrev pub Below : ℕ → Type 0
Below d = (b : ℕ) → d ≡ suc b → Unary b

-- ---- a size, and its address
abbrev sized_in : ℕ → Lang (Size × (Span × (Span × ((Span × Expr) × Span))))
sized_in b = g.word_type b ▸ g.the (codes ")") b ▸ g.the (codes "[") b ▸ g.spanned_expression b ▸ g.the (codes "]") b

abbrev sized : ℕ → Lang (Size × Expr)
sized b = sized_in b ⇒ (λ p. (p.0, p.1.1.1.0.1))

some_bracket : HasPhrase (λ b. g.the (codes "[") b ▸ g.spanned_expression b ▸ g.the (codes "]") b)
some_bracket = some_then (λ b. g.the (codes "[") b) (λ b. g.spanned_expression b ▸ g.the (codes "]") b) (some_the (codes "[")) (some_closed (codes "]"))

some_after : HasPhrase (λ b. g.the (codes ")") b ▸ g.the (codes "[") b ▸ g.spanned_expression b ▸ g.the (codes "]") b)
some_after = some_then (λ b. g.the (codes ")") b) (λ b. g.the (codes "[") b ▸ g.spanned_expression b ▸ g.the (codes "]") b) (some_the (codes ")")) some_bracket

some_sized : HasPhrase sized
some_sized = some_map sized_in (λ p. (p.0, p.1.1.1.0.1)) (some_then (λ b. g.word_type b) (λ b. g.the (codes ")") b ▸ g.the (codes "[") b ▸ g.spanned_expression b ▸ g.the (codes "]") b) some_word_type some_after)

sized_reads : (b : ℕ) → Unary b → IsReader (r.sized_rest (r.unary b)) (λ e. sized (plus b e)) (full word_types [])
unfolding r.sized_rest
sized_reads b F = map_reads (λ p. (p.0, p.1.1.1.0.1))
    (follow_reads (word_type_reads b)
    (follow_reads (the_reads (codes ")") b)
    (follow_reads (the_reads (codes "[") b)
    (follow_reads (expr_of_reads b F) (the_reads (codes "]") b) (up (λ b. g.the (codes "]") b) b (some_the (codes "]"))) refl)
    (up (λ b. g.spanned_expression b ▸ g.the (codes "]") b) b (some_closed (codes "]"))) refl)
    (up (λ b. g.the (codes "[") b ▸ g.spanned_expression b ▸ g.the (codes "]") b) b some_bracket) refl)
    (up (λ b. g.the (codes ")") b ▸ g.the (codes "[") b ▸ g.spanned_expression b ▸ g.the (codes "]") b) b some_after) refl)

abbrev access_parts : Span × (Size × Expr) → Span × (Option Size × Expr)
access_parts p = (p.0, (Some p.1.0, p.1.1))

abbrev sized_access : ℕ → Lang (Span × (Option Size × Expr))
sized_access d = opens paren sized d ⇒ access_parts

-- the bracket stands where the parentheses did
access_to : (d : ℕ) (xs : List Marked) (a : Span × (Option Size × Expr)) → sized_access d xs a → g.cast_access g.unary d xs a
access_to zero xs a h = absurd h.1.1
access_to (suc d) xs a h =
    let n = h.1.1 in
    let i = n.3 in
    let p1 = i.1 in
    let p2 = p1.3 in
    let p3 = p2.3 in
    let k = p3.2 in (
      ((h.1.0.0.span, (i.0.0, i.0.1.0)), i.0.1.1.1.0.1),
      (
        n.0 ++ (p1.0 ++ p2.0),
        p2.1,
        ((h.1.0.0, (i.0.0, i.0.1.0)), (n.0, p1.0 ++ p2.0, n.2, (p1.0, p2.0, p1.2, p2.2, refl), refl), refl),
        ((k.0.span, i.0.1.1.1), ((k.0, i.0.1.1.1), (p3.0, p3.1, k.1, p3.3, p3.4), refl), refl),
        n.4 ∙ ap (λ z. n.0 ++ z) (p1.4 ∙ ap (λ z. p1.0 ++ z) p2.4 ∙ sym (append_assoc p1.0 p2.0 p2.1)) ∙ sym (append_assoc n.0 (p1.0 ++ p2.0) p2.1),
      ),
      ap (λ z. access_parts (h.1.0.0.span, z)) i.2 ∙ ap access_parts h.1.2 ∙ h.2,
    )

access_from : (d : ℕ) (xs : List Marked) (a : Span × (Option Size × Expr)) → g.cast_access g.unary d xs a → sized_access d xs a
access_from zero xs a h = absurd h.1.2.1
access_from (suc d) xs a h =
    let q = h.0 in
    let op = h.1.2 in
    let br = h.1.3 in
    let n = op.1 in
    let m = br.1.1 in (
      (op.0.0.span, (op.0.1.0, br.1.0.1.0.1)),
      (
        (op.0.0, (op.0.1.0, br.1.0.1.0.1)),
        (
          n.0,
          n.1 ++ h.1.1,
          n.2,
          (
            (op.0.1.0, (op.0.1.1, (br.1.0.0.span, br.1.0.1))),
            (n.3.0, n.3.1 ++ h.1.1, n.3.2, (n.3.1, h.1.1, n.3.3, (m.0, m.1, (br.1.0.0, m.2, refl), m.3, m.4), refl), ap (λ z. z ++ h.1.1) n.3.4 ∙ append_assoc n.3.0 n.3.1 h.1.1),
            refl,
          ),
          h.1.4 ∙ ap (λ z. z ++ h.1.1) n.4 ∙ append_assoc n.0 n.1 h.1.1,
        ),
        refl,
      ),
      ap (λ z. (z.0, (Some z.1.0, br.1.0.1.0.1))) op.2 ∙ ap (λ z. (q.0.0, (Some q.0.1.0, z.1.0.1))) br.1.2 ∙ ap (λ z. (q.0.0, (Some q.0.1.0, z))) br.2 ∙ h.2,
    )

pub cast_access_reads : (d : ℕ) → Below d → IsReader (r.cast_access r.unary d) (λ e. g.cast_access g.unary (plus d e)) (full paren [])
unfolding r.cast_access
cast_access_reads d below = same_reads (λ e. g.cast_access g.unary (plus d e))
    (map_reads access_parts (inside_reads paren (sign_token (codes "(")) (sign_in (codes "(") []) (λ b. r.sized_rest (r.unary b)) sized some_sized (full word_types []) d (λ b h. sized_reads b (below b h))))
    (λ e. access_to (plus d e)) (λ e. access_from (plus d e))

-- ---- casts and parentheses
abbrev cast_in : ℕ → Lang ((Size × Bool) × (Span × (Span × Expr)))
cast_in b = (token (cast ∷ []) b ⇒ cast_of) ▸ g.the (codes ")") b ▸ g.unary b

abbrev plain_in : ℕ → Lang ((Span × Expr) × Span)
plain_in b = g.spanned_expression b ▸ g.the (codes ")") b

cast_rest_reads : (b : ℕ) → Unary b → IsReader (r.cast_rest (r.unary b)) (λ e. cast_in (plus b e) ⇒ (λ p. As p.0 p.1.1.1)) (full (cast ∷ []) unary_goes)
unfolding r.cast_rest
cast_rest_reads b F = map_reads (λ p. As p.0 p.1.1.1)
    (follow_reads (cast_reads cast_of b)
    (follow_reads (the_reads (codes ")") b) F (up g.unary b some_unary) refl)
    (up (λ b. g.the (codes ")") b ▸ g.unary b) b (some_then (λ b. g.the (codes ")") b) g.unary (some_the (codes ")")) some_unary)) refl)

plain_rest_reads : (b : ℕ) → Unary b → IsReader (r.plain_rest (r.unary b)) (λ e. plain_in (plus b e) ⇒ (λ p. Plain p.0.1)) (full r.expr_starts [])
unfolding r.plain_rest
plain_rest_reads b F = map_reads (λ p. Plain p.0.1) (follow_reads (expr_of_reads b F) (the_reads (codes ")") b) (up (λ b. g.the (codes ")") b) b (some_the (codes ")"))) refl)

abbrev not_sized : ℕ → Lang Group
not_sized b = (cast_in b ⇒ (λ p. As p.0 p.1.1.1)) ⊕ (plain_in b ⇒ (λ p. Plain p.0.1))

abbrev group_in : ℕ → Lang Group
group_in b = (sized b ⇒ (λ p. At p.0 p.1)) ⊕ not_sized b

abbrev group_starts : List Kind
group_starts = word_types ++ (cast ∷ r.expr_starts)

some_group : HasPhrase group_in
some_group = some_left (λ b. sized b ⇒ (λ p. At p.0 p.1)) not_sized (some_map sized (λ p. At p.0 p.1) some_sized)

group_reads : (b : ℕ) → Unary b → IsReader (r.group (r.unary b)) (λ e. group_in (plus b e)) (full group_starts unary_goes)
unfolding r.group
group_reads b F = shaped (full group_starts unary_goes) (pick_reads (map_reads (λ p. At p.0 p.1) (sized_reads b F)) (pick_reads (cast_rest_reads b F) (plain_rest_reads b F) refl refl) refl refl) refl refl refl

-- the three forms, as the grammar has them
abbrev pub three : ℕ → Lang (Span × Expr)
three d = (g.cast_access g.unary d ⇒ load_expr) ⊕ ((opens paren cast_in d ⇒ (λ p. cast_expr p.0 p.1.0 p.1.1.1.1)) ⊕ (opens paren plain_in d ⇒ (λ p. (p.0, p.1.0.1))))

abbrev as_one : ℕ → Lang (Span × Expr)
as_one d = opens paren group_in d ⇒ (λ p. group_expr p.0 p.1)

apart_to : (d : ℕ) (xs : List Marked) (a : Span × Expr) → as_one d xs a → three d xs a
apart_to zero xs a h = absurd h.1.1
apart_to (suc d) xs a h =
    let n = h.1.1 in
    let s = h.1.0.0.span in
    ⊎_elim
    (λ i. inl ((s, (Some i.0.0, i.0.1)), access_to (suc d) xs (s, (Some i.0.0, i.0.1)) ((s, i.0), ((h.1.0.0, i.0), (n.0, n.1, n.2, i.1, n.4), refl), refl), ap (λ z. group_expr s z) i.2 ∙ ap (λ z. group_expr z.0 z.1) h.1.2 ∙ h.2))
    (⊎_elim
    (λ i. inr (inl ((s, i.0), ((h.1.0.0, i.0), (n.0, n.1, n.2, i.1, n.4), refl), ap (λ z. group_expr s z) i.2 ∙ ap (λ z. group_expr z.0 z.1) h.1.2 ∙ h.2)))
    (λ i. inr (inr ((s, i.0), ((h.1.0.0, i.0), (n.0, n.1, n.2, i.1, n.4), refl), ap (λ z. group_expr s z) i.2 ∙ ap (λ z. group_expr z.0 z.1) h.1.2 ∙ h.2))))
    n.3

apart_from : (d : ℕ) (xs : List Marked) (a : Span × Expr) → three d xs a → as_one d xs a
apart_from zero xs a h = absurd (⊎_elim (λ i. i.1.1.2.1) (⊎_elim (λ i. i.1.1) (λ i. i.1.1)) h)
apart_from (suc d) xs a h = ⊎_elim
    (λ i.
    let j = access_from (suc d) xs i.0 i.1 in
    let q = j.1 in
    let n = q.1 in (
      (q.0.0.span, At q.0.1.0 q.0.1.1),
      ((q.0.0, At q.0.1.0 q.0.1.1), (n.0, n.1, n.2, inl (q.0.1, n.3, refl), n.4), refl),
      ap (λ z. load_expr (access_parts z)) q.2 ∙ ap load_expr j.2 ∙ i.2,
    ))
    (⊎_elim
    (λ i.
    let q = i.1 in
    let n = q.1 in (
      (q.0.0.span, As q.0.1.0 q.0.1.1.1.1),
      ((q.0.0, As q.0.1.0 q.0.1.1.1.1), (n.0, n.1, n.2, inr (inl (q.0.1, n.3, refl)), n.4), refl),
      ap (λ z. cast_expr z.0 z.1.0 z.1.1.1.1) q.2 ∙ i.2,
    ))
    (λ i.
    let q = i.1 in
    let n = q.1 in (
      (q.0.0.span, Plain q.0.1.0.1),
      ((q.0.0, Plain q.0.1.0.1), (n.0, n.1, n.2, inr (inr (q.0.1, n.3, refl)), n.4), refl),
      ap (λ z. (z.0, z.1.0.1)) q.2 ∙ i.2,
    )))
    h

pub group_form_reads : (d : ℕ) → Below d → IsReader (r.group_form r.unary d) (λ e. three (plus d e)) (full paren unary_goes)
unfolding r.group_form
group_form_reads d below = same_reads (λ e. three (plus d e))
    (map_reads (λ p. group_expr p.0 p.1) (inside_reads paren (sign_token (codes "(")) (sign_in (codes "(") []) (λ b. r.group (r.unary b)) group_in some_group (full group_starts unary_goes) d (λ b h. group_reads b (below b h))))
    (λ e. apart_to (plus d e)) (λ e. apart_from (plus d e))
