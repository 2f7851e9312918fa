-- The readers of statements read their grammar.
use Rattle.std.proofs.Common.{◌≡◌, inl, inr, ⊎_elim, ℕ, zero, suc, List, [], ◌∷◌, ◌++◌, true, false, Bool, Option, Some, None, Err, refl, ap, subst, arith, codes}
use Rattle.jz_tree.specs.Span.{Span}
use Rattle.jz_grammar.specs.Token.{Token}
use Rattle.jz_grammar.specs.Causes.{Unexpected}
use Rattle.jz_grammar.specs.Kinds.{Kind, sign, word, identifier}
use Rattle.jz_grammar.specs.Readers.{through, follow, pick, many, inside, optional}
use Rattle.jz_grammar.specs.Grammar.{Marked, Lang, ◌▸◌, ◌⊕◌, ◌⇒◌, each, opens, maybe}
use Rattle.jz_grammar.proofs.Laws.{Shape, IsReader, HasPhrase, full}
use Rattle.jz_grammar.specs.Deriving.{plus}
use Rattle.jz_grammar.proofs.Combine.{follow_reads, map_reads, pick_reads, inside_reads, optional_reads, many_reads, same_reads, shaped}
use Rattle.jz_grammar.proofs.Opening.{inside_same, HasPhraseAnyway, some_opens}
use Rattle.jz_grammar.proofs.Samples.{sign_token, sign_in, word_token, word_in, some_then, some_map, some_left, some_right, some_maybe, up}
use Rattle.jz_tree.specs.declared.expr.Expr.{Expr}
use Rattle.jz_tree.specs.declared.stmt.Stmt.{Stmt}
use Rattle.jz_tree.specs.declared.stmt.StmtKind.{StmtKind}
use Rattle.jz_parse_expr.specs.Table as t
use Rattle.jz_parse_expr.specs.Readers as q
use Rattle.jz_parse_expr.proofs.Levels.{the_reads, key_reads, some_the}
use Rattle.jz_parse_expr.proofs.Laws.{expr_reads, some_expr}
use Rattle.jz_parse.specs.StmtTrees.{if_statement, while_statement, for_statement, stmt_of}
use Rattle.jz_grammar.specs.Parts.{or_empty}
use Rattle.jz_parse.specs.NotesTable as n
use Rattle.jz_parse.specs.NotesReaders as m
use Rattle.jz_parse.specs.Table as g
use Rattle.jz_parse.specs.StmtReaders as r
use Rattle.jz_parse.proofs.NoteLemmas.{notes_reads, some_notes}
use Rattle.jz_parse.proofs.Parts.{name_reads, some_key, some_name, any_the, any_then, any_each, any_expr, simple_law, some_assign}

-- ---- blocks
-- the shapes of statements, and of what follows an "if"
abbrev pub S : Shape
S = full r.stmt_starts r.stmt_goes

abbrev I : Shape
I = full q.expr_starts (word (codes "else") ∷ [])

abbrev Both : r.Low → ℕ → Type 0
Both low b = IsReader low.stmts (λ e. (g.nested_in (plus b e)).stmts) S × IsReader low.ifs (λ e. (g.nested_in (plus b e)).ifs) I

abbrev Below : (ℕ → r.Low) → ℕ → Type 0
Below low d = (b : ℕ) → d ≡ suc b → Both (low b) b

abbrev in_block : ℕ → Lang (List Stmt × Span)
in_block b = each (g.nested_in b).stmts ▸ t.the (codes "}") b

any_in_block : HasPhraseAnyway in_block
any_in_block = any_then (λ b. each (g.nested_in b).stmts) (λ b. t.the (codes "}") b) (any_each (λ b. (g.nested_in b).stmts)) (any_the (codes "}"))

some_in_block : HasPhrase in_block
some_in_block d h = any_in_block d

block_law : (low : ℕ → r.Low) (d : ℕ) → Below low d → IsReader (r.block low d) (λ e. g.block g.nested_in (plus d e)) (full r.braces [])
unfolding r.block
block_law low d below = map_reads (λ p. p.1.0)
    (inside_reads r.braces (sign_token (codes "{")) (sign_in (codes "{") []) (λ b. follow (many r.stmt_starts (low b).stmts) (q.the (codes "}"))) in_block some_in_block
    (full (r.stmt_starts ++ (sign (codes "}") ∷ [])) []) d
    (λ b h. follow_reads (many_reads r.stmt_starts S.goes (below b h).0 refl) (the_reads (codes "}") b) (up (λ b. t.the (codes "}") b) b (some_the (codes "}"))) refl))

some_block : (low : ℕ → g.Low) → HasPhrase (λ d. g.block low d)
some_block low = some_map (opens r.braces (λ b. each (low b).stmts ▸ t.the (codes "}") b)) (λ p. p.1.0)
    (some_opens (sign (codes "{")) (sign_token (codes "{")) (sign_in (codes "{") []) (λ b. each (low b).stmts ▸ t.the (codes "}") b)
    (any_then (λ b. each (low b).stmts) (λ b. t.the (codes "}") b) (any_each (λ b. (low b).stmts)) (any_the (codes "}"))))

-- ---- "if"
abbrev ifs : List Kind
ifs = word (codes "if") ∷ []

abbrev elses : List Kind
elses = word (codes "else") ∷ []

abbrev else_body : (ℕ → g.Low) → ℕ → Lang (List Stmt)
else_body low d = (opens ifs (λ b. (low b).ifs) d ⇒ (λ p. stmt_of [] (if_statement p.0 p.1) ∷ [])) ⊕ g.block low d

some_else_body : (low : ℕ → g.Low) → HasPhrase (else_body low)
some_else_body low = some_right (λ d. opens ifs (λ b. (low b).ifs) d ⇒ (λ p. stmt_of [] (if_statement p.0 p.1) ∷ [])) (λ d. g.block low d) (some_block low)

abbrev if_tail : (ℕ → g.Low) → ℕ → Lang (List Stmt × Option (List Stmt))
if_tail low d = g.block low d ▸ maybe (g.else_arm low d)

some_if_tail : (low : ℕ → g.Low) → HasPhrase (if_tail low)
some_if_tail low = some_then (λ d. g.block low d) (λ d. maybe (g.else_arm low d)) (some_block low) (some_maybe (g.else_arm low))

some_if_rest : (low : ℕ → g.Low) → HasPhrase (λ d. g.if_rest low d)
some_if_rest low = some_map (λ d. t.expr d ▸ if_tail low d) (λ p. (p.0, (p.1.0, or_empty p.1.1))) (some_then (λ d. t.expr d) (if_tail low) some_expr (some_if_tail low))

some_ifs : HasPhrase (λ d. (g.nested_in d).ifs)
some_ifs zero h = absurd (omega (arith, h))
some_ifs (suc d) h = some_if_rest (λ _. g.nested_in d) (suc d) h

else_body_law : (low : ℕ → r.Low) (d : ℕ) → Below low d → IsReader (r.else_body low d) (λ e. else_body g.nested_in (plus d e)) (full (word (codes "if") ∷ r.braces) elses)
unfolding r.else_body
else_body_law low d below = shaped (full (word (codes "if") ∷ r.braces) elses)
    (pick_reads (map_reads (λ p. stmt_of [] (if_statement p.0 p.1) ∷ []) (inside_reads ifs (word_token (codes "if")) (word_in (codes "if") []) (λ b. (low b).ifs) (λ b. (g.nested_in b).ifs) some_ifs I d (λ b h. (below b h).1)))
    (block_law low d below) refl refl) refl refl refl

else_law : (low : ℕ → r.Low) (d : ℕ) → Below low d → IsReader (r.else_arm low d) (λ e. g.else_arm g.nested_in (plus d e)) (full elses elses)
unfolding r.else_arm
else_law low d below = map_reads (λ p. p.1) (follow_reads (key_reads (codes "else") d) (else_body_law low d below) (up (else_body g.nested_in) d (some_else_body g.nested_in)) refl)

if_rest_law : (low : ℕ → r.Low) (d : ℕ) → Below low d → IsReader (r.if_rest low d) (λ e. g.if_rest g.nested_in (plus d e)) I
unfolding r.if_rest
if_rest_law low d below = shaped I (map_reads (λ p. (p.0, (p.1.0, or_empty p.1.1)))
    (follow_reads (expr_reads d)
    (follow_reads (block_law low d below) (optional_reads elses elses (else_law low d below)) (up (λ d. maybe (g.else_arm g.nested_in d)) d (some_maybe (g.else_arm g.nested_in))) refl)
    (up (if_tail g.nested_in) d (some_if_tail g.nested_in)) refl)) refl refl refl

if_law : (low : ℕ → r.Low) (d : ℕ) → Below low d → IsReader (r.if_form low d) (λ e. g.if_form g.nested_in (plus d e)) (full ifs elses)
unfolding r.if_form
if_law low d below = map_reads (λ p. if_statement p.0 p.1) (follow_reads (key_reads (codes "if") d) (if_rest_law low d below) (up (λ d. g.if_rest g.nested_in d) d (some_if_rest g.nested_in)) refl)

-- ---- "while"
-- one level for the parentheses; an expression in them needs none
some_test : HasPhrase (λ d. g.test d)
some_test = some_map (opens r.parens (λ b. t.expr b ▸ t.the (codes ")") b)) (λ p. p.1.0)
    (some_opens (sign (codes "(")) (sign_token (codes "(")) (sign_in (codes "(") []) (λ b. t.expr b ▸ t.the (codes ")") b) (any_then (λ b. t.expr b) (λ b. t.the (codes ")") b) any_expr (any_the (codes ")"))))

test_law : (d : ℕ) → IsReader (r.loop_condition d) (λ e. g.test (plus d e)) (full r.parens [])
unfolding r.loop_condition
test_law d = map_reads (λ p. p.1.0)
    (inside_reads r.parens (sign_token (codes "(")) (sign_in (codes "(") []) (λ b. follow (q.expr b) (q.the (codes ")"))) (λ b. t.expr b ▸ t.the (codes ")") b) (some_then (λ b. t.expr b) (λ b. t.the (codes ")") b) some_expr (some_the (codes ")"))) (full q.expr_starts []) d
    (λ b h. follow_reads (expr_reads b) (the_reads (codes ")") b) (up (λ b. t.the (codes ")") b) b (some_the (codes ")"))) refl))

prologue_law : (low : ℕ → r.Low) (d : ℕ) → Below low d → IsReader (r.prologue low d) (λ e. maybe (g.block g.nested_in (plus d e)) ⇒ or_empty) (record { starts = r.braces; goes = r.braces; empties = true })
unfolding r.prologue
prologue_law low d below = map_reads or_empty (optional_reads r.braces [] (block_law low d below))

abbrev body_goes : List Kind
body_goes = sign (codes ";") ∷ sign (codes "{") ∷ []

body_law : (low : ℕ → r.Low) (d : ℕ) → Below low d → IsReader (r.body low d) (λ e. g.body g.nested_in (plus d e)) (record { starts = body_goes; goes = body_goes; empties = true })
unfolding r.body
body_law low d below = shaped (record { starts = body_goes; goes = body_goes; empties = true })
    (pick_reads (map_reads (λ b. Some b) (block_law low d below)) (map_reads (λ p. None) (optional_reads (sign (codes ";") ∷ []) [] (the_reads (codes ";") d))) refl refl) refl refl refl

some_body : (low : ℕ → g.Low) → HasPhrase (λ d. g.body low d)
some_body low = some_left (λ d. g.block low d ⇒ (λ b. Some b)) (λ d. maybe (t.the (codes ";") d) ⇒ (λ p. None)) (some_map (λ d. g.block low d) (λ b. Some b) (some_block low))

abbrev tested : (ℕ → g.Low) → ℕ → Lang (Expr × Option (List Stmt))
tested low d = g.test d ▸ g.body low d

some_tested : (low : ℕ → g.Low) → HasPhrase (tested low)
some_tested low = some_then (λ d. g.test d) (λ d. g.body low d) some_test (some_body low)

abbrev prologued : (ℕ → g.Low) → ℕ → Lang (List Stmt × (Expr × Option (List Stmt)))
prologued low d = (maybe (g.block low d) ⇒ or_empty) ▸ tested low d

some_prologued : (low : ℕ → g.Low) → HasPhrase (prologued low)
some_prologued low = some_then (λ d. maybe (g.block low d) ⇒ or_empty) (tested low) (some_map (λ d. maybe (g.block low d)) or_empty (some_maybe (g.block low))) (some_tested low)

while_law : (low : ℕ → r.Low) (d : ℕ) → Below low d → IsReader (r.while_form low d) (λ e. g.while g.nested_in (plus d e)) (full (word (codes "while") ∷ []) body_goes)
unfolding r.while_form
while_law low d below = map_reads (λ p. while_statement p.0 p.1.0 p.1.1.0 p.1.1.1)
    (follow_reads (key_reads (codes "while") d)
    (follow_reads (prologue_law low d below)
    (follow_reads (test_law d) (body_law low d below) (up (λ d. g.body g.nested_in d) d (some_body g.nested_in)) refl)
    (up (tested g.nested_in) d (some_tested g.nested_in)) refl)
    (up (prologued g.nested_in) d (some_prologued g.nested_in)) refl)

-- ---- "for"
direction_law : (d : ℕ) → IsReader r.direction (λ e. g.direction (plus d e)) (full (word (codes "to") ∷ word (codes "downto") ∷ []) [])
unfolding r.direction
direction_law d = pick_reads (map_reads (λ p. false) (key_reads (codes "to") d)) (map_reads (λ p. true) (key_reads (codes "downto") d)) refl refl

some_direction : HasPhrase (λ d. g.direction d)
some_direction = some_left (λ d. t.key (codes "to") d ⇒ (λ p. false)) (λ d. t.key (codes "downto") d ⇒ (λ p. true)) (some_map (λ d. t.key (codes "to") d) (λ p. false) (some_key (codes "to")))

abbrev last_bound : (ℕ → g.Low) → ℕ → Lang (Expr × List Stmt)
last_bound low d = t.expr d ▸ g.block low d

some_last_bound : (low : ℕ → g.Low) → HasPhrase (last_bound low)
some_last_bound low = some_then (λ d. t.expr d) (λ d. g.block low d) some_expr (some_block low)

abbrev from_there : (ℕ → g.Low) → ℕ → Lang (Bool × (Expr × List Stmt))
from_there low d = g.direction d ▸ last_bound low d

some_from_there : (low : ℕ → g.Low) → HasPhrase (from_there low)
some_from_there low = some_then (λ d. g.direction d) (last_bound low) some_direction (some_last_bound low)

abbrev bounds : (ℕ → g.Low) → ℕ → Lang (Expr × (Bool × (Expr × List Stmt)))
bounds low d = t.expr d ▸ from_there low d

some_bounds : (low : ℕ → g.Low) → HasPhrase (bounds low)
some_bounds low = some_then (λ d. t.expr d) (from_there low) some_expr (some_from_there low)

abbrev set_from : (ℕ → g.Low) → ℕ → Lang (Span × (Expr × (Bool × (Expr × List Stmt))))
set_from low d = t.the (codes "=") d ▸ bounds low d

some_set_from : (low : ℕ → g.Low) → HasPhrase (set_from low)
some_set_from low = some_then (λ d. t.the (codes "=") d) (bounds low) (some_the (codes "=")) (some_bounds low)

abbrev counter : (ℕ → g.Low) → ℕ → Lang ((List ℕ × Span) × (Span × (Expr × (Bool × (Expr × List Stmt)))))
counter low d = t.name d ▸ set_from low d

some_counter : (low : ℕ → g.Low) → HasPhrase (counter low)
some_counter low = some_then (λ d. t.name d) (set_from low) some_name (some_set_from low)

for_law : (low : ℕ → r.Low) (d : ℕ) → Below low d → IsReader (r.for_form low d) (λ e. g.for g.nested_in (plus d e)) (full (word (codes "for") ∷ []) [])
unfolding r.for_form
for_law low d below = map_reads (λ p. for_statement p.0 p.1.0 p.1.1.1.0 p.1.1.1.1.0 p.1.1.1.1.1.0 p.1.1.1.1.1.1)
    (follow_reads (key_reads (codes "for") d)
    (follow_reads (name_reads d)
    (follow_reads (the_reads (codes "=") d)
    (follow_reads (expr_reads d)
    (follow_reads (direction_law d)
    (follow_reads (expr_reads d) (block_law low d below) (up (λ d. g.block g.nested_in d) d (some_block g.nested_in)) refl)
    (up (last_bound g.nested_in) d (some_last_bound g.nested_in)) refl)
    (up (from_there g.nested_in) d (some_from_there g.nested_in)) refl)
    (up (bounds g.nested_in) d (some_bounds g.nested_in)) refl)
    (up (set_from g.nested_in) d (some_set_from g.nested_in)) refl)
    (up (counter g.nested_in) d (some_counter g.nested_in)) refl)

-- ---- statements
abbrev forms : (ℕ → g.Low) → ℕ → Lang (Span × StmtKind)
forms low d = g.assign d ⊕ g.call d ⊕ g.if_form low d ⊕ g.while low d ⊕ g.for low d

some_forms : (low : ℕ → g.Low) → HasPhrase (forms low)
some_forms low = some_left (λ d. g.assign d) (λ d. g.call d ⊕ g.if_form low d ⊕ g.while low d ⊕ g.for low d) some_assign

abbrev form_shape : Shape
form_shape = full (identifier ∷ word (codes "_") ∷ sign (codes "(") ∷ sign (codes "[") ∷ word (codes "if") ∷ word (codes "while") ∷ word (codes "for") ∷ []) r.stmt_goes

form_law : (low : ℕ → r.Low) (d : ℕ) → Below low d → IsReader (r.form low d) (λ e. forms g.nested_in (plus d e)) form_shape
unfolding r.form
form_law low d below = same_reads (λ e. forms g.nested_in (plus d e))
    (shaped form_shape (pick_reads (if_law low d below) (pick_reads (while_law low d below) (pick_reads (for_law low d below) (simple_law d) refl refl) refl refl) refl refl) refl refl refl)
    (λ e xs a h. ⊎_elim (λ x. inr (inr (inl x))) (λ y. ⊎_elim (λ x. inr (inr (inr (inl x)))) (λ y. ⊎_elim (λ x. inr (inr (inr (inr x)))) (λ y. ⊎_elim (λ x. inr (inl x)) (λ x. inl x) y) y) y) h)
    (λ e xs a h. ⊎_elim (λ x. inr (inr (inr (inr x)))) (λ y. ⊎_elim (λ x. inr (inr (inr (inl x)))) (λ y. ⊎_elim (λ x. inl x) (λ y. ⊎_elim (λ x. inr (inl x)) (λ x. inr (inr (inl x))) y) y) y) h)

stmt_law : (low : ℕ → r.Low) (d : ℕ) → Below low d → IsReader (r.stmt_in low d) (λ e. g.stmt_in g.nested_in (plus d e)) S
unfolding r.stmt_in
stmt_law low d below = shaped S (map_reads (λ p. stmt_of p.0 p.1) (follow_reads (notes_reads d) (form_law low d below) (up (forms g.nested_in) d (some_forms g.nested_in)) refl)) refl refl refl

some_stmt_in : (low : ℕ → g.Low) → HasPhrase (λ d. g.stmt_in low d)
some_stmt_in low = some_map (λ d. n.notes d ▸ forms low d) (λ p. stmt_of p.0 p.1) (some_then n.notes (forms low) some_notes (some_forms low))

pub some_stmt : HasPhrase (λ d. g.stmt d)
some_stmt zero h = absurd (omega (arith, h))
some_stmt (suc d) h = some_stmt_in (λ _. g.nested_in d) (suc d) h

-- ---- what is nested is less
ifs_to : (d : ℕ) (xs : List Marked) (a : Expr × (List Stmt × List Stmt)) → g.if_rest g.nested_in d xs a → (g.nested_in d).ifs xs a
ifs_to zero xs a h = h
ifs_to (suc d) xs a h = h

ifs_from : (d : ℕ) (xs : List Marked) (a : Expr × (List Stmt × List Stmt)) → (g.nested_in d).ifs xs a → g.if_rest g.nested_in d xs a
ifs_from zero xs a h = h
ifs_from (suc d) xs a h = h

stmts_to : (d : ℕ) (xs : List Marked) (a : Stmt) → g.stmt_in g.nested_in d xs a → (g.nested_in d).stmts xs a
stmts_to zero xs a h = h
stmts_to (suc d) xs a h = h

stmts_from : (d : ℕ) (xs : List Marked) (a : Stmt) → (g.nested_in d).stmts xs a → g.stmt_in g.nested_in d xs a
stmts_from zero xs a h = h
stmts_from (suc d) xs a h = h

low_law : (low : ℕ → r.Low) (d : ℕ) → Below low d → Both (r.low_of low d) d
low_law low d below = (
  same_reads (λ e. (g.nested_in (plus d e)).stmts) (stmt_law low d below) (λ e. stmts_to (plus d e)) (λ e. stmts_from (plus d e)),
  same_reads (λ e. (g.nested_in (plus d e)).ifs) (if_rest_law low d below) (λ e. ifs_to (plus d e)) (λ e. ifs_from (plus d e)),
)

none_below : {A : Type 0} (b : ℕ) → zero ≡ suc b → A
none_below b h = cc

one_below : (d b : ℕ) → suc d ≡ suc b → b ≡ d
one_below d b h = cc

nested_law : (d : ℕ) → Both (r.nested_in d) d
unfolding r.nested_in
nested_law zero = low_law (λ _. record { ifs = λ ts. Err (Unexpected, ts); stmts = λ ts. Err (Unexpected, ts) }) zero (λ b h. none_below b h)
nested_law (suc d) = low_law (λ _. r.nested_in d) (suc d) (λ b h. subst (λ z. Both (r.nested_in d) z) (above b h) (nested_law d))
  where
    above : (b : ℕ) → suc d ≡ suc b → d ≡ b
    above b h = cc

pub stmt_reads : (d : ℕ) → IsReader (r.stmt d) (λ e. g.stmt (plus d e)) (full r.stmt_starts r.stmt_goes)
unfolding r.stmt
stmt_reads d = (nested_law d).0

-- ---- only what may stand nested matters
abbrev SameBelow : (ℕ → r.Low) → (ℕ → r.Low) → ℕ → Type 0
SameBelow f h d = (b : ℕ) → d ≡ suc b → f b ≡ h b

block_same : (f h : ℕ → r.Low) (d : ℕ) → SameBelow f h d → r.block f d ≡ r.block h d
unfolding r.block
block_same f h d same = ap (λ x ts. through {A = Span × (List Stmt × Span)} (λ p. p.1.0) (x ts)) (inside_same r.braces (λ b. follow (many r.stmt_starts (f b).stmts) (q.the (codes "}"))) (λ b. follow (many r.stmt_starts (h b).stmts) (q.the (codes "}"))) d (λ b e. ap (λ z. follow (many r.stmt_starts z.stmts) (q.the (codes "}"))) (same b e)))

nested_if_same : (f h : ℕ → r.Low) (d : ℕ) → SameBelow f h d → inside ifs (λ b. (f b).ifs) d ≡ inside ifs (λ b. (h b).ifs) d
nested_if_same f h d same = inside_same ifs (λ b. (f b).ifs) (λ b. (h b).ifs) d (λ b e. ap (λ z. z.ifs) (same b e))

else_same : (f h : ℕ → r.Low) (d : ℕ) → SameBelow f h d → r.else_arm f d ≡ r.else_arm h d
unfolding r.else_arm r.else_body
else_same f h d same = λ i. λ ts. through {A = Span × List Stmt} (λ p. p.1) (follow (q.key (codes "else")) (pick ifs (λ us. through {A = Span × (Expr × (List Stmt × List Stmt))} (λ p. stmt_of [] (if_statement p.0 p.1) ∷ []) (nested_if_same f h d same i us)) (block_same f h d same i)) ts)

if_rest_same : (f h : ℕ → r.Low) (d : ℕ) → SameBelow f h d → r.if_rest f d ≡ r.if_rest h d
unfolding r.if_rest
if_rest_same f h d same = λ i. λ ts. through {A = Expr × (List Stmt × Option (List Stmt))} (λ p. (p.0, (p.1.0, or_empty p.1.1))) (follow (q.expr d) (follow (block_same f h d same i) (optional elses (else_same f h d same i))) ts)

if_same : (f h : ℕ → r.Low) (d : ℕ) → SameBelow f h d → r.if_form f d ≡ r.if_form h d
unfolding r.if_form
if_same f h d same = λ i. λ ts. through {A = Span × (Expr × (List Stmt × List Stmt))} (λ p. if_statement p.0 p.1) (follow (q.key (codes "if")) (if_rest_same f h d same i) ts)

while_same : (f h : ℕ → r.Low) (d : ℕ) → SameBelow f h d → r.while_form f d ≡ r.while_form h d
unfolding r.while_form r.prologue r.body
while_same f h d same = λ i. λ ts. through {A = Span × (List Stmt × (Expr × Option (List Stmt)))} (λ p. while_statement p.0 p.1.0 p.1.1.0 p.1.1.1)
    (follow (q.key (codes "while")) (follow (λ us. through or_empty (optional r.braces (block_same f h d same i) us))
    (follow (r.loop_condition d) (pick r.braces (λ us. through (λ b. Some b) (block_same f h d same i us)) (λ us. through (λ p. None) (optional (sign (codes ";") ∷ []) (q.the (codes ";")) us))))) ts)

for_same : (f h : ℕ → r.Low) (d : ℕ) → SameBelow f h d → r.for_form f d ≡ r.for_form h d
unfolding r.for_form
for_same f h d same = ap (λ x ts. through (λ p. for_statement p.0 p.1.0 p.1.1.1.0 p.1.1.1.1.0 p.1.1.1.1.1.0 p.1.1.1.1.1.1)
    (follow (q.key (codes "for")) (follow q.name (follow (q.the (codes "=")) (follow (q.expr d) (follow r.direction (follow (q.expr d) x))))) ts)) (block_same f h d same)

stmt_same : (f h : ℕ → r.Low) (d : ℕ) → SameBelow f h d → r.stmt_in f d ≡ r.stmt_in h d
unfolding r.stmt_in r.form
stmt_same f h d same = λ i. λ ts. through {A = _ × (Span × StmtKind)} (λ p. stmt_of p.0 p.1) (follow (m.notes d) (pick ifs (if_same f h d same i) (pick (word (codes "while") ∷ []) (while_same f h d same i) (pick (word (codes "for") ∷ []) (for_same f h d same i) (r.simple d)))) ts)

pub stmts_is : (d : ℕ) (ts : List Token) → r.stmt_in r.nested_in d ts ≡ r.stmt d ts
unfolding r.stmt r.nested_in
stmts_is zero ts = ap (λ f. f ts) (stmt_same r.nested_in _ zero (λ b h. none_below b h))
stmts_is (suc d) ts = ap (λ f. f ts) (stmt_same r.nested_in (λ _. r.nested_in d) (suc d) (λ b h. ap r.nested_in (one_below d b h)))

pub ifs_is : (d : ℕ) (ts : List Token) → r.if_rest r.nested_in d ts ≡ (r.nested_in d).ifs ts
unfolding r.nested_in
ifs_is zero ts = ap (λ f. f ts) (if_rest_same r.nested_in _ zero (λ b h. none_below b h))
ifs_is (suc d) ts = ap (λ f. f ts) (if_rest_same r.nested_in (λ _. r.nested_in d) (suc d) (λ b h. ap r.nested_in (one_below d b h)))
