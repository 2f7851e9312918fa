-- The readers of right sides, calls and assignments read their grammar.
use Rattle.std.proofs.Common.{◌≡◌, inl, inr, ⊎_elim, ℕ, zero, suc, List, [], ◌∷◌, ◌++◌, true, false, Option, None, Ok, Err, refl, ap, ◌∙◌, codes}
use Rattle.jz_tree.specs.Span.{Span}
use Rattle.jz_grammar.specs.Token.{Token}
use Rattle.jz_grammar.specs.Kinds.{Kind, sign, word, identifier, span_of, is_in, has}
use Rattle.jz_grammar.specs.Readers.{Answer, Reader, ◌>>=◌, through, follow, pick_both, many, one, optional}
use Rattle.jz_grammar.specs.Grammar.{Marked, Lang, token, ◌▸◌, ◌⊕◌, ◌⇒◌, each, opens, maybe}
use Rattle.jz_grammar.proofs.Laws.{Shape, IsReader, HasPhrase, Second, one_shape, full}
use Rattle.jz_grammar.specs.Deriving.{plus}
use Rattle.jz_grammar.proofs.Basics.{disjoint_nil}
use Rattle.jz_grammar.proofs.Combine.{follow_reads, map_reads, pick_reads, inside_reads, optional_reads, many_reads, leaf_reads, reads_as, same_reads, shaped}
use Rattle.jz_grammar.proofs.Both.{Alone, alone_second, follow_second, map_second, pick_both_reads, follow_single}
use Rattle.jz_grammar.proofs.Opening.{leaf_first, pick_both_same, HasPhraseAnyway, some_opens}
use Rattle.jz_grammar.proofs.Samples.{sign_token, sign_in, identifier_token, identifier_in, identifier_reads, some_leaf, some_word, some_identifier, some_then, some_map, some_left, some_each, some_maybe, up}
use Rattle.jz_grammar.proofs.Steps.{listed_reads}
use Rattle.jz_grammar.specs.Tokens.{name_of}
use Rattle.jz_tree.specs.declared.expr.Expr.{Expr}
use Rattle.jz_tree.specs.declared.expr.BinOp.{BinOp}
use Rattle.jz_tree.specs.declared.stmt.Lval.{Lval}
use Rattle.jz_tree.specs.declared.stmt.Lval.TheVariants.{Skip, Store}
use Rattle.jz_tree.specs.declared.stmt.Rhs.{Rhs}
use Rattle.jz_tree.specs.declared.stmt.Rhs.TheVariants.{Value}
use Rattle.jz_tree.specs.declared.stmt.StmtKind.{StmtKind}
use Rattle.jz_parse_expr.specs.Table as t
use Rattle.jz_parse_expr.specs.Readers as q
use Rattle.jz_parse_expr.specs.Operators.{level_count}
use Rattle.jz_parse_expr.proofs.Levels.{the_reads, key_reads, some_the}
use Rattle.jz_parse_expr.proofs.Laws.{expr_reads, index_reads, access_reads, some_expr}
use Rattle.jz_parse.specs.StmtTrees.{assignments, operation_of, call_of, intrinsic_of, name_lval, span_of_lval, assign_statement, call_statement}
use Rattle.jz_grammar.specs.Parts.{or_empty}
use Rattle.jz_parse.specs.Table as g
use Rattle.jz_parse.specs.StmtReaders as r

-- ---- one token
pub name_reads : (d : ℕ) → IsReader q.name (λ e. t.name (plus d e)) (one_shape r.names)
name_reads d = identifier_reads name_of d

pub some_key : (s : List ℕ) → HasPhrase (λ d. t.key s d)
some_key s = some_word s span_of

pub some_name : HasPhrase (λ d. t.name d)
some_name = some_identifier name_of

-- ---- phrases at any level
pub any_the : (s : List ℕ) → HasPhraseAnyway (λ d. t.the s d)
any_the s d = ((sign_token s, d) ∷ [], span_of (sign_token s), (sign_token s, (refl, sign_in s []), refl))

pub any_then : {A B : Type 0} (l : ℕ → Lang A) (m : ℕ → Lang B) → HasPhraseAnyway l → HasPhraseAnyway m → HasPhraseAnyway (λ d. l d ▸ m d)
any_then l m a b d = let x = a d in let y = b d in (x.0 ++ y.0, (x.1, y.1), (x.0, y.0, x.2, y.2, refl))

pub any_maybe : {A : Type 0} (l : ℕ → Lang A) → HasPhraseAnyway (λ d. maybe (l d))
any_maybe l d = ([], None, inr (refl, refl))

pub any_each : {A : Type 0} (l : ℕ → Lang A) → HasPhraseAnyway (λ d. each (l d))
any_each l d = ([], [], refl)

-- a name alone is an expression
level_alone : (u : Lang (Span × Expr)) (k d : ℕ) (x : Marked) (a : Span × Expr) → u (x ∷ []) a → t.levels u k d (x ∷ []) a
level_alone u zero d x a l = l
level_alone u (suc k) d x a l = ((a, []), (x ∷ [], [], level_alone u k d x a l, refl, refl), refl)

unary_alone : (d : ℕ) (x : Token) → is_in r.names x ≡ true → (a : Span × Expr) × t.unary d ((x, d) ∷ []) a
unary_alone zero x i = (_, inr (inl ((name_of x, None), ((x, zero) ∷ [], [], (x, (refl, i), refl), inr (refl, refl), refl), refl)))
unary_alone (suc d) x i = (_, inr (inl ((name_of x, None), ((x, suc d) ∷ [], [], (x, (refl, i), refl), inr (refl, refl), refl), refl)))

name_alone : (d : ℕ) (x : Token) → is_in r.names x ≡ true → (a : Expr) × t.expr d ((x, d) ∷ []) a
name_alone d x i = let w = unary_alone d x i in (w.0.1, (w.0, level_alone (t.unary d) level_count d (x, d) w.0 w.1, refl))

pub any_expr : HasPhraseAnyway (λ d. t.expr d)
any_expr d = let w = name_alone d identifier_token identifier_in in ((identifier_token, d) ∷ [], w.0, w.1)

-- ---- arguments
pub comma_reads : {A : Type 0} {f : Reader A} (l : ℕ → Lang A) (st go : List Kind) (d : ℕ) → IsReader f (λ e. l (plus d e)) (full st go) → HasPhrase l → IsReader (r.comma f) (λ e. g.comma l (plus d e)) (full r.commas go)
comma_reads l st go d F some = map_reads (λ p. p.1) (follow_reads (the_reads (codes ",") d) F (up l d some) (disjoint_nil st))

pub next_arg_law : (d : ℕ) → IsReader (r.next_arg d) (λ e. g.comma t.expr (plus d e)) (full r.commas q.expr_goes)
unfolding r.next_arg
next_arg_law d = comma_reads t.expr q.expr_starts q.expr_goes d (expr_reads d) some_expr

abbrev args_shape : Shape
args_shape = full q.expr_starts (q.expr_goes ++ (r.commas ++ q.expr_goes))

args_law : (d : ℕ) → IsReader (r.args d) (λ e. g.args (plus d e)) args_shape
unfolding r.args r.args_more
args_law d = listed_reads q.expr_starts q.expr_goes r.commas q.expr_goes (expr_reads d) (next_arg_law d) refl refl

abbrev in_call : ℕ → Lang (Option (List Expr) × Span)
in_call b = maybe (g.args b) ▸ t.the (codes ")") b

any_in_call : HasPhraseAnyway in_call
any_in_call = any_then (λ b. maybe (g.args b)) (λ b. t.the (codes ")") b) (any_maybe g.args) (any_the (codes ")"))

some_in_call : HasPhrase in_call
some_in_call d h = any_in_call d

call_args_law : (d : ℕ) → IsReader (r.call_args d) (λ e. g.call_args (plus d e)) (full r.parens [])
unfolding r.call_args
call_args_law d = map_reads (λ p. or_empty p.1.0)
    (inside_reads r.parens (sign_token (codes "(")) (sign_in (codes "(") []) (λ b. follow (optional q.expr_starts (r.args b)) (q.the (codes ")"))) in_call some_in_call
    (full (q.expr_starts ++ (sign (codes ")") ∷ [])) []) d
    (λ b h. follow_reads (optional_reads q.expr_starts args_shape.goes (args_law b)) (the_reads (codes ")") b) (up (λ b. t.the (codes ")") b) b (some_the (codes ")"))) refl))

some_call_args : HasPhrase (λ d. g.call_args d)
some_call_args = some_map (opens r.parens in_call) (λ p. or_empty p.1.0) (some_opens (sign (codes "(")) (sign_token (codes "(")) (sign_in (codes "(") []) in_call any_in_call)

-- ---- a name with "(" behind it, or another form
leaf_to : {A B : Type 0} (l : Lang A) (d : ℕ) (to : (List ℕ × Span) × A → B) (xs : List Marked) (b : B) → ((token r.names d ▸ l) ⇒ (λ p. to (name_of p.0, p.1))) xs b → ((t.name d ▸ l) ⇒ to) xs b
leaf_to l d to xs b h = ((name_of h.0.0, h.0.1), (h.1.0, h.1.1, (h.0.0, h.1.2, refl), h.1.3, h.1.4), h.2)

leaf_from : {A B : Type 0} (l : Lang A) (d : ℕ) (to : (List ℕ × Span) × A → B) (xs : List Marked) (b : B) → ((t.name d ▸ l) ⇒ to) xs b → ((token r.names d ▸ l) ⇒ (λ p. to (name_of p.0, p.1))) xs b
leaf_from l d to xs b h = ((h.1.2.0, h.0.1), (h.1.0, h.1.1, h.1.2.1, h.1.3, h.1.4), ap (λ z. to (z, h.0.1)) h.1.2.2 ∙ h.2)

named_or_reads : {A B : Type 0} {f : Reader A} {h : Reader B} (l : ℕ → Lang A) (m : ℕ → Lang B) (go st' go' end : List Kind) (d : ℕ) (to : (List ℕ × Span) × A → B)
    → IsReader f (λ e. l (plus d e)) (full r.parens go) → HasPhrase l → IsReader h m (full st' go') → Second r.names r.parens h m
    → ((e : ℕ) (x : Marked) (a : B) (rest : List Token) → m e (x ∷ []) a → is_in r.names x.0 ≡ true → has end rest ≡ false → has r.parens rest ≡ false)
    → IsReader (pick_both r.names r.parens (λ ts. through to (follow q.name f ts)) h) (λ e. ((t.name (plus d e) ▸ l (plus d e)) ⇒ to) ⊕ m e) (full (r.names ++ st') (go ++ (go' ++ end)))
named_or_reads {A} {f = f} {h = h} l m go st' go' end d to F some H second single = same_reads (λ e. ((t.name (plus d e) ▸ l (plus d e)) ⇒ to) ⊕ m e)
    (reads_as (pick_both r.names r.parens (λ ts. through to (follow q.name f ts)) h)
    (pick_both_reads r.names r.parens go st' go' end d identifier_token identifier_in (λ p. to (name_of p.0, p.1)) F (up l d some) H second single)
    (λ ts. pick_both_same r.names r.parens (λ us. through {A = Token × A} (λ p. to (name_of p.0, p.1)) (follow (one r.names) f us)) (λ us. through to (follow q.name f us)) h ts (leaf_first r.names name_of f to ts)))
    (λ e xs a w. ⊎_elim (λ x. inl (leaf_to (l (plus d e)) (plus d e) to xs a x)) (λ y. inr y) w)
    (λ e xs a w. ⊎_elim (λ x. inl (leaf_from (l (plus d e)) (plus d e) to xs a x)) (λ y. inr y) w)

-- ---- right sides
expr_alone : (d : ℕ) → Alone r.names (λ e. t.expr (plus d e))
expr_alone d x i = let w = name_alone (plus d 0) x i in (plus d 0, w.0, w.1)

call_or_value_law : (d : ℕ) → IsReader (pick_both r.names r.parens (r.call_value d) (λ ts. through Value (q.expr d ts))) (λ e. ((t.name (plus d e) ▸ g.call_args (plus d e)) ⇒ call_of) ⊕ (t.expr (plus d e) ⇒ Value)) (full (r.names ++ q.expr_starts) ([] ++ (q.expr_goes ++ r.parens)))
unfolding r.call_value
call_or_value_law d = named_or_reads g.call_args (λ e. t.expr (plus d e) ⇒ Value) [] q.expr_starts q.expr_goes r.parens d call_of (call_args_law d) some_call_args (map_reads Value (expr_reads d))
    (map_second r.names r.parens Value (alone_second r.names r.parens (expr_reads d) refl (expr_alone d)))
    (λ e x a rest h i free. free)

some_name_args : HasPhrase (λ d. t.name d ▸ g.call_args d)
some_name_args = some_then (λ d. t.name d) (λ d. g.call_args d) some_name some_call_args

intrinsic_law : (d : ℕ) → IsReader (r.intrinsic d) (λ e. (t.the (codes "#") (plus d e) ▸ t.name (plus d e) ▸ g.call_args (plus d e)) ⇒ intrinsic_of) (full r.marks [])
unfolding r.intrinsic
intrinsic_law d = map_reads intrinsic_of (follow_reads (the_reads (codes "#") d)
    (follow_reads (name_reads d) (call_args_law d) (up g.call_args d some_call_args) refl) (up (λ d. t.name d ▸ g.call_args d) d some_name_args) refl)

abbrev rhs_shape : Shape
rhs_shape = full (sign (codes "#") ∷ q.expr_starts) (q.expr_goes ++ r.parens)

pub rhs_law : (d : ℕ) → IsReader (r.rhs d) (λ e. g.rhs (plus d e)) rhs_shape
unfolding r.rhs
rhs_law d = same_reads (λ e. g.rhs (plus d e))
    (shaped rhs_shape (pick_reads (intrinsic_law d) (call_or_value_law d) refl refl) refl refl refl)
    (λ e xs a h. ⊎_elim (λ x. inr (inr x)) (λ y. ⊎_elim (λ x. inr (inl x)) (λ x. inl x) y) h)
    (λ e xs a h. ⊎_elim (λ x. inr (inr x)) (λ y. ⊎_elim (λ x. inr (inl x)) (λ x. inl x) y) h)

some_rhs : HasPhrase (λ d. g.rhs d)
some_rhs = some_left (λ d. t.expr d ⇒ Value) (λ d. ((t.name d ▸ g.call_args d) ⇒ call_of) ⊕ ((t.the (codes "#") d ▸ t.name d ▸ g.call_args d) ⇒ intrinsic_of))
    (some_map (λ d. t.expr d) Value some_expr)

-- ---- left sides
abbrev pub L : Shape
L = full (word (codes "_") ∷ identifier ∷ sign (codes "(") ∷ sign (codes "[") ∷ []) (sign (codes "[") ∷ [])

abbrev bracket : List Kind
bracket = sign (codes "[") ∷ []

named_law : (d : ℕ) → IsReader (r.left_side_named d) (λ e. (t.name (plus d e) ▸ maybe (t.index (plus d e))) ⇒ name_lval) (full r.names bracket)
unfolding r.left_side_named
named_law d = map_reads name_lval (follow_reads (name_reads d) (optional_reads bracket [] (index_reads d)) (up (λ d. maybe (t.index d)) d (some_maybe t.index)) refl)

pub lval_law : (d : ℕ) → IsReader (r.lval d) (λ e. g.lval (plus d e)) L
unfolding r.lval
lval_law d = shaped L (pick_reads (map_reads Skip (key_reads (codes "_") d)) (pick_reads (named_law d) (map_reads Store (access_reads d)) refl refl) refl refl) refl refl refl

some_lval : HasPhrase (λ d. g.lval d)
some_lval = some_left (λ d. t.key (codes "_") d ⇒ Skip) (λ d. ((t.name d ▸ maybe (t.index d)) ⇒ name_lval) ⊕ (t.access d ⇒ Store)) (some_map (λ d. t.key (codes "_") d) Skip (some_key (codes "_")))

lval_alone : (d : ℕ) → Alone r.names (λ e. g.lval (plus d e))
lval_alone d x i = (plus d 0, _, inr (inl ((name_of x, None), ((x, plus d 0) ∷ [], [], (x, (refl, i), refl), inr (refl, refl), refl), refl)))

pub next_lval_law : (d : ℕ) → IsReader (r.next_lval d) (λ e. g.comma g.lval (plus d e)) (full r.commas L.goes)
unfolding r.next_lval
next_lval_law d = comma_reads g.lval L.starts L.goes d (lval_law d) some_lval

-- ---- assignments
condition_law : (d : ℕ) → IsReader (r.condition d) (λ e. g.condition (plus d e)) (record { starts = word (codes "if") ∷ []; goes = q.expr_goes ++ ([] ++ (word (codes "if") ∷ [])); empties = true })
unfolding r.condition
condition_law d = optional_reads (word (codes "if") ∷ []) q.expr_goes (map_reads (λ p. p.1) (follow_reads (key_reads (codes "if") d) (expr_reads d) (up (λ d. t.expr d) d some_expr) refl))

some_condition : HasPhrase (λ d. g.condition d)
some_condition = some_maybe (λ d. (t.key (codes "if") d ▸ t.expr d) ⇒ (λ p. p.1))

operation_law : (d : ℕ) → IsReader r.operation (λ e. g.operation (plus d e)) (one_shape assignments)
operation_law d = leaf_reads assignments operation_of d (sign_token (codes "=")) is_assignment
  where
    is_assignment : is_in assignments (sign_token (codes "=")) ≡ true
    is_assignment = sign_in (codes "=") _

some_operation : HasPhrase (λ d. g.operation d)
some_operation = some_leaf assignments operation_of (sign_token (codes "=")) (sign_in (codes "=") _)

abbrev ending : ℕ → Lang (Option Expr × Span)
ending d = g.condition d ▸ t.the (codes ";") d

some_ending : HasPhrase ending
some_ending = some_then (λ d. g.condition d) (λ d. t.the (codes ";") d) some_condition (some_the (codes ";"))

abbrev value : ℕ → Lang (Rhs × (Option Expr × Span))
value d = g.rhs d ▸ ending d

some_value : HasPhrase value
some_value = some_then (λ d. g.rhs d) ending some_rhs some_ending

abbrev set_to : ℕ → Lang (Option BinOp × (Rhs × (Option Expr × Span)))
set_to d = g.operation d ▸ value d

some_set_to : HasPhrase set_to
some_set_to = some_then (λ d. g.operation d) value some_operation some_value

set_to_law : (d : ℕ) → IsReader (r.set_to d) (λ e. set_to (plus d e)) (full assignments [])
unfolding r.set_to
set_to_law d = follow_reads (operation_law d)
    (follow_reads (rhs_law d)
    (follow_reads (condition_law d) (the_reads (codes ";") d) (up (λ d. t.the (codes ";") d) d (some_the (codes ";"))) refl)
    (up ending d some_ending) refl)
    (up value d some_value) refl

abbrev behind : ℕ → Lang (List Lval × (Option BinOp × (Rhs × (Option Expr × Span))))
behind d = each (g.comma g.lval d) ▸ set_to d

some_behind : HasPhrase behind
some_behind = some_then (λ d. each (g.comma g.lval d)) set_to (some_each (g.comma g.lval)) some_set_to

abbrev after_lval : List Kind
after_lval = r.commas ++ assignments

behind_law : (d : ℕ) → IsReader (follow (many r.commas (r.next_lval d)) (r.set_to d)) (λ e. behind (plus d e)) (full after_lval [])
behind_law d = follow_reads (many_reads r.commas L.goes (next_lval_law d) refl) (set_to_law d) (up set_to d some_set_to) refl

abbrev Parts : Type 0
Parts = Lval × (List Lval × (Option BinOp × (Rhs × (Option Expr × Span))))

abbrev joined : Parts → Span × StmtKind
joined p = assign_statement (span_of_lval p.0) (p.0 ∷ p.1.0) p.1.1.0 p.1.1.1.0 p.1.1.1.1.0

-- an assignment by its parts
abbrev by_parts : ℕ → Reader (Span × StmtKind)
by_parts d ts = through joined (follow (r.lval d) (follow (many r.commas (r.next_lval d)) (r.set_to d)) ts)

parts_law : (d : ℕ) → IsReader (by_parts d) (λ e. g.assign (plus d e)) (full L.starts [])
parts_law d = map_reads joined (follow_reads (lval_law d) (behind_law d) (up behind d some_behind) refl)

assign_is : (d : ℕ) (ts : List Token) → by_parts d ts ≡ r.assign d ts
unfolding r.assign r.lvals_more
assign_is d ts = step (r.lval d ts)
  where
    end : (a : Lval) (ps : List Lval) (w : Answer (Option BinOp × (Rhs × (Option Expr × Span)))) → ◌≡◌ {A = Answer (Span × StmtKind)} (through {A = Parts} joined ((w >>= λ y. Ok ((ps, y.0), y.1)) >>= λ z. Ok ((a, z.0), z.1))) (w >>= λ y. Ok (assign_statement (span_of_lval a) (a ∷ ps) y.0.0 y.0.1.0 y.0.1.1.0, y.1))
    end a ps (Ok y) = refl
    end a ps (Err e) = refl

    mid : (a : Lval) (w : Answer (List Lval)) → ◌≡◌ {A = Answer (Span × StmtKind)} (through {A = Parts} joined ((w >>= λ x. r.set_to d x.1 >>= λ y. Ok ((x.0, y.0), y.1)) >>= λ z. Ok ((a, z.0), z.1))) (through (λ ps. (a ∷ []) ++ ps) w >>= λ to. r.set_to d to.1 >>= λ y. Ok (assign_statement (span_of_lval a) to.0 y.0.0 y.0.1.0 y.0.1.1.0, y.1))
    mid a (Ok y) = end a y.0 (r.set_to d y.1)
    mid a (Err e) = refl

    step : (w : Answer Lval) → ◌≡◌ {A = Answer (Span × StmtKind)} (through {A = Parts} joined (w >>= λ a. (many r.commas (r.next_lval d) a.1 >>= λ x. r.set_to d x.1 >>= λ y. Ok ((x.0, y.0), y.1)) >>= λ z. Ok ((a.0, z.0), z.1))) (w >>= λ a. through (λ ps. (a.0 ∷ []) ++ ps) (many r.commas (r.next_lval d) a.1) >>= λ to. r.set_to d to.1 >>= λ y. Ok (assign_statement (span_of_lval a.0) to.0 y.0.0 y.0.1.0 y.0.1.1.0, y.1))
    step (Ok a) = mid a.0 (many r.commas (r.next_lval d) a.1)
    step (Err e) = refl

assign_second : (d : ℕ) → Second r.names r.parens (by_parts d) (λ e. g.assign (plus d e))
assign_second d = map_second r.names r.parens joined
    (follow_second r.names r.parens L.starts L.goes after_lval [] (lval_law d) (behind_law d) refl (alone_second r.names r.parens (lval_law d) refl (lval_alone d)))

-- ---- a call or an assignment
abbrev call_end : ℕ → Lang (List Expr × Span)
call_end d = g.call_args d ▸ t.the (codes ";") d

some_call_end : HasPhrase call_end
some_call_end = some_then (λ d. g.call_args d) (λ d. t.the (codes ";") d) some_call_args (some_the (codes ";"))

pub simple_law : (d : ℕ) → IsReader (r.simple d) (λ e. g.call (plus d e) ⊕ g.assign (plus d e)) (full (identifier ∷ L.starts) [])
unfolding r.simple r.call
simple_law d = reads_as (r.simple d)
    (named_or_reads call_end (λ e. g.assign (plus d e)) [] L.starts [] [] d (λ p. call_statement (p.0, p.1.0))
    (follow_reads (call_args_law d) (the_reads (codes ";") d) (up (λ d. t.the (codes ";") d) d (some_the (codes ";"))) refl)
    some_call_end (parts_law d) (assign_second d)
    (λ e x a rest h i free. follow_single L.starts L.goes after_lval [] (lval_law d) (behind_law d) _ e x h.0 h.1))
    (λ ts. assign_either ts (assign_is d ts))
  where
    assign_either : (ts : List Token) → by_parts d ts ≡ r.assign d ts → pick_both r.names r.parens (r.call d) (by_parts d) ts ≡ pick_both r.names r.parens (r.call d) (r.assign d) ts
    assign_either ts e = ap (λ z. pick_both r.names r.parens (r.call d) (λ _. z) ts) e

pub some_assign : HasPhrase (λ d. g.assign d)
some_assign = some_map (λ d. g.lval d ▸ behind d) joined (some_then (λ d. g.lval d) behind some_lval some_behind)
