-- The numbers of a body without calls are those of its tree, where nothing in it is without a
-- meaning.
use Rattle.std.proofs.Common.{◌≡◌, List, [], ◌∷◌, ◌++◌, map, flat_map, Option, Some, None, refl, sym, ap, ap₂, ◌∙◌, subst, append_assoc, append-nil}
use Rattle.std.specs.Prelude.{ℕ, option_to_list}
use Rattle.jz_tree.specs.Span.{Span}
use Rattle.jz_tree.specs.declared.expr.BinOp.{BinOp}
use Rattle.jz_tree.specs.declared.expr.Expr.{Expr}
use Rattle.jz_tree.specs.declared.stmt.Lval.{Lval}
use Rattle.jz_tree.specs.declared.stmt.Rhs.{Rhs}
use Rattle.jz_tree.specs.declared.stmt.Rhs.TheVariants as rhs
use Rattle.jz_tree.specs.declared.stmt.Stmt.{Stmt}
use Rattle.jz_tree.specs.declared.stmt.StmtKind.{StmtKind}
use Rattle.jz_tree.specs.declared.stmt.StmtKind.TheOpen.{StmtKind-F, Stmt-F}
use Rattle.jz_tree.specs.declared.stmt.StmtKind.TheViews.{out-StmtKind, out-roll-StmtKind, roll-Stmt, roll-StmtKind}
use Rattle.jz_tree.specs.declared.stmt.StmtKind.TheFolds.{fold-StmtKind, fold-roll-Stmt, fold-roll-StmtKind, ind-Stmt, map-Stmt, map-StmtKind}
use Rattle.jz_type_names.specs.Parts.{Layer, layer_of, left_exprs, exprs_of, nested_statements, nested_step, statements_in, statements_of}
use Rattle.jz_type_names.proofs.NestedLaws.{in_kind, pair, pairs, opened, in_stmt}
use Rattle.jz_runs.specs.Trees.{done, op, quiet, choose, loop, each, call}
use Rattle.jz_meaning.specs.Statements.{Operation, assign, instruction, unset, meaningless, Block}
use Rattle.jz_meaning.specs.Runs.{in_order, instruction_tree, kind_tree, statement_tree, block}
use Rattle.jz_inline.specs.Statements.{no_callees}
use Rattle.jz_body_numbers.specs.Numbers.{Numbers, of_expr, of_statement, of_body}
use Rattle.jz_expanded_numbers.proofs.Spoken.{AreSpoken}

-- ---- of trees

of_all : List Expr → Numbers
of_all es = flat_map of_expr es

of_operation : Operation → Numbers
of_operation (assign to o e c at) = of_all (flat_map left_exprs to ++ (e ∷ []) ++ option_to_list c)
of_operation (instruction to n args at) =
    of_all (flat_map left_exprs to ++ args ++ option_to_list None)
of_operation o = []

pub of_tree : Block → Numbers
of_tree done = []
of_tree (op o r) = of_operation o ++ of_tree r
of_tree (quiet o r) = of_tree r
of_tree (choose c a b r) = of_all (c.cond ∷ []) ++ (of_tree a ++ (of_tree b ++ of_tree r))
of_tree (loop w p c b r) = of_all (c.cond ∷ []) ++ (of_tree p ++ (of_tree b ++ of_tree r))
of_tree (each f b r) = []
of_tree (call c b r) = []

-- ---- of statements

own : Layer → Numbers
own k = of_all (exprs_of k)

total : List Stmt → Numbers
total [] = []
total (s ∷ ss) = own (layer_of s) ++ total ss

total_both : (ss ts : List Stmt) → total (ss ++ ts) ≡ total ss ++ total ts
unfolding total
total_both [] ts = refl
total_both (s ∷ ss) ts =
    ap (λ l. own (layer_of s) ++ l) (total_both ss ts)
    ∙ sym (append_assoc (own (layer_of s)) (total ss) (total ts))

total_is : (ss : List Stmt) → flat_map of_statement ss ≡ total ss
unfolding total own of_all
total_is [] = refl
total_is (s ∷ ss) = ap (λ l. of_statement s ++ l) (total_is ss)

kind_of : StmtKind → Span → Block → Block
kind_of = fold-StmtKind _ _ (kind_tree no_callees) (λ s. s.kind s.span)

abbrev tree_of : Stmt → Block → Block
tree_of = statement_tree no_callees

-- before what follows
pub record IsBefore (t r : Block) (ns : Numbers) : Type 0 where
  pub numbers : of_tree t ≡ ns ++ of_tree r
  pub rest : AreSpoken r

abbrev Adds : (Block → Block) → Numbers → Type 0
Adds f ns = (r : Block) → AreSpoken (f r) → IsBefore (f r) r ns

abbrev StmtLaw : Stmt → Type 0
StmtLaw s = Adds (tree_of s) (total (statements_in s))

abbrev KindLaw : StmtKind → Type 0
KindLaw k = (at : Span) → Adds (kind_of k at) (own (out-StmtKind k) ++ total (in_kind k))

abbrev Kinds : Type 0
Kinds = StmtKind-F ((k : StmtKind) × KindLaw k) ((s : Stmt) × StmtLaw s)

abbrev bare : Kinds → StmtKind-F StmtKind Stmt
bare y = map-StmtKind _ _ _ _ (λ e. e.0) (λ e. e.0) y

abbrev firsts : List ((s : Stmt) × StmtLaw s) → List Stmt
firsts ss = map (λ e. e.0) ss

abbrev trees : List ((s : Stmt) × StmtLaw s) → List (Block → Block)
trees ss = map tree_of (firsts ss)

abbrev inside : List ((s : Stmt) × StmtLaw s) → Numbers
inside ss = total (nested_statements (map pair (firsts ss)))

rows : (ss : List ((s : Stmt) × StmtLaw s)) → Adds (in_order (trees ss)) (inside ss)
unfolding total
rows [] r h = record { numbers = refl; rest = h }
rows (s ∷ ss) r h =
    let first = s.1 (in_order (trees ss) r) h in
    let others = rows ss r first.rest in
    record {
      numbers =
          first.numbers ∙ ap (λ l. total (statements_in s.0) ++ l) others.numbers
          ∙ sym (append_assoc (total (statements_in s.0)) (inside ss) (of_tree r))
          ∙ ap (λ l. l ++ of_tree r) (sym (total_both (statements_in s.0) (nested_statements (map pair (firsts ss)))));
      rest = others.rest;
    }

alone : (ss : List ((s : Stmt) × StmtLaw s)) → AreSpoken (in_order (trees ss) done) → of_tree (in_order (trees ss) done) ≡ inside ss
unfolding of_tree
alone ss h = (rows ss done h).numbers ∙ append-nil (inside ss)

both : (as' bs : List ((s : Stmt) × StmtLaw s)) (r : Block) → AreSpoken (in_order (trees as') done) → AreSpoken (in_order (trees bs) done)
    → of_tree (in_order (trees as') done) ++ (of_tree (in_order (trees bs) done) ++ of_tree r)
    ≡ total (nested_statements (map pair (firsts as')) ++ nested_statements (map pair (firsts bs))) ++ of_tree r
both as' bs r h k =
    ap (λ l. l ++ (of_tree (in_order (trees bs) done) ++ of_tree r)) (alone as' h)
    ∙ ap (λ l. inside as' ++ (l ++ of_tree r)) (alone bs k)
    ∙ sym (append_assoc (inside as') (inside bs) (of_tree r))
    ∙ ap (λ l. l ++ of_tree r) (sym (total_both (nested_statements (map pair (firsts as'))) (nested_statements (map pair (firsts bs)))))

one : (bs : List ((s : Stmt) × StmtLaw s)) (r : Block) → AreSpoken (in_order (trees bs) done) → of_tree (in_order (trees bs) done) ++ of_tree r ≡ inside bs ++ of_tree r
one bs r h = ap (λ l. l ++ of_tree r) (alone bs h)

abbrev mapped : Kinds → StmtKind-F (Span → Block → Block) (Block → Block)
mapped y = map-StmtKind _ _ (Span → Block → Block) (Block → Block) kind_of tree_of (bare y)

-- behind the test of a statement with arms
behind : (c : Expr) (n m r : Numbers) → n ≡ m ++ r → of_all (c ∷ []) ++ n ≡ (of_all (c ∷ []) ++ m) ++ r
behind c n m r e = ap (λ l. of_all (c ∷ []) ++ l) e ∙ sym (append_assoc (of_all (c ∷ [])) m r)

no_exprs : of_all [] ≡ []
unfolding of_all
no_exprs = refl

lone : (o : Operation) (r : Block) → of_operation o ++ of_tree r ≡ (of_operation o ++ []) ++ of_tree r
lone o r = ap (λ l. l ++ of_tree r) (sym (append-nil (of_operation o)))

layer_law : (y : Kinds) (at : Span) → Adds (kind_tree no_callees (mapped y) at) (own (bare y) ++ total (nested_step (pairs (bare y))))
unfolding pairs own total of_tree of_operation
layer_law (StmtKind-F.Assign to o (rhs.Value e) c) at r h = record { numbers = lone (assign to o e c at) r; rest = h.1 }
layer_law (StmtKind-F.Assign to o (rhs.Call n args place) c) at r h = absurd h.0
layer_law (StmtKind-F.Assign to None (rhs.Intrinsic n args place) None) at r h =
    record { numbers = lone (instruction to n args place) r; rest = h.1 }
layer_law (StmtKind-F.Assign to None (rhs.Intrinsic n args place) (Some c)) at r h = absurd h.0
layer_law (StmtKind-F.Assign to (Some o) (rhs.Intrinsic n args place) c) at r h = absurd h.0
layer_law (StmtKind-F.If c a b) at r h =
    record { numbers = behind c _ _ (of_tree r) (both a b r h.0 h.1); rest = h.2 }
layer_law (StmtKind-F.While p c None) at r h =
    record { numbers = behind c _ _ (of_tree r) (one p r h.0); rest = h.2 }
layer_law (StmtKind-F.While p c (Some b)) at r h =
    record { numbers = behind c _ _ (of_tree r) (both p b r h.0 h.1); rest = h.2 }
layer_law (StmtKind-F.For i from down to b) at r h = absurd h
layer_law (StmtKind-F.Mark vs) at r h =
    record { numbers = ap (λ (l : Numbers). (l ++ []) ++ of_tree r) (sym no_exprs); rest = h }

kind_case : (y : Kinds) → KindLaw (roll-StmtKind (bare y))
unfolding kind_of
kind_case y at =
    let z = bare y in
    subst (λ (g : Span → Block → Block). Adds (g at) (own (out-StmtKind (roll-StmtKind z)) ++ total (in_kind (roll-StmtKind z))))
    (sym (fold-roll-StmtKind _ _ (kind_tree no_callees) (λ s. s.kind s.span) z))
    (subst (λ (ns : Numbers). Adds (kind_tree no_callees (mapped y) at) ns)
    (ap₂ (λ k ss. own k ++ total ss) (sym (out-roll-StmtKind z)) (sym (opened z)))
    (layer_law y at))

stmt_case : (y : Stmt-F ((k : StmtKind) × KindLaw k) ((s : Stmt) × StmtLaw s)) → StmtLaw (roll-Stmt (map-Stmt _ _ StmtKind Stmt (λ e. e.0) (λ e. e.0) y))
unfolding kind_of total
stmt_case y =
    let x = map-Stmt _ _ StmtKind Stmt (λ e. e.0) (λ e. e.0) y in
    subst (λ (g : Block → Block). Adds g (total (statements_in (roll-Stmt x)))) (sym (fold-roll-Stmt _ _ (kind_tree no_callees) (λ s. s.kind s.span) x))
    (subst (λ (ns : Numbers). Adds (kind_of x.kind x.span) ns) (ap total (sym (in_stmt x))) (y.kind.1 y.span))

statement_numbers : (s : Stmt) → StmtLaw s
statement_numbers =
    ind-Stmt KindLaw StmtLaw
    (λ x y is. subst (λ z. KindLaw (roll-StmtKind z)) is (kind_case y))
    (λ x y is. subst (λ z. StmtLaw (roll-Stmt z)) is (stmt_case y))

body_numbers : (ss : List Stmt) → Adds (block no_callees ss) (total (statements_of ss))
unfolding total
body_numbers [] r h = record { numbers = refl; rest = h }
body_numbers (s ∷ ss) r h =
    let first = statement_numbers s (block no_callees ss r) h in
    let others = body_numbers ss r first.rest in
    record {
      numbers =
          first.numbers ∙ ap (λ l. total (statements_in s) ++ l) others.numbers
          ∙ sym (append_assoc (total (statements_in s)) (total (statements_of ss)) (of_tree r))
          ∙ ap (λ l. l ++ of_tree r) (sym (total_both (statements_in s) (statements_of ss)));
      rest = others.rest;
    }

pub tree_numbers : (ss : List Stmt) → AreSpoken (block no_callees ss done) → of_body ss ≡ of_tree (block no_callees ss done)
unfolding of_tree
tree_numbers ss h =
    total_is (statements_of ss) ∙ sym ((body_numbers ss done h).numbers ∙ append-nil (total (statements_of ss)))
