-- The tree of a body with scalars is made of the tree of the body.
use Rattle.std.proofs.Common.{◌≡◌, List, [], ◌∷◌, Option, Some, None, refl, ap, sym, ◌∙◌, subst}
use Rattle.std.specs.Prelude.{true, false, map, option_map}
use Rattle.jz_tree.specs.Span.{Span}
use Rattle.jz_tree.specs.declared.expr.BinOp.{BinOp}
use Rattle.jz_tree.specs.declared.expr.Expr.{Expr}
use Rattle.jz_tree.specs.declared.stmt.Lval.{Lval}
use Rattle.jz_tree.specs.declared.stmt.Rhs.{Rhs}
use Rattle.jz_tree.specs.declared.stmt.Rhs.TheVariants as rhs
use Rattle.jz_tree.specs.declared.stmt.Stmt.{Stmt}
use Rattle.jz_tree.specs.declared.stmt.StmtKind.{StmtKind}
use Rattle.jz_tree.specs.declared.stmt.StmtKind.TheVariants as kind
use Rattle.jz_tree.specs.declared.stmt.StmtKind.TheOpen.{StmtKind-F, Stmt-F}
use Rattle.jz_tree.specs.declared.stmt.StmtKind.TheViews.{roll-Stmt, roll-StmtKind}
use Rattle.jz_tree.specs.declared.stmt.StmtKind.TheFolds.{fold-StmtKind, fold-roll-Stmt, fold-roll-StmtKind, ind-Stmt, map-Stmt, map-StmtKind}
use Rattle.jz_runs.specs.Trees.{done, op, quiet, choose, loop, each, call}
use Rattle.jz_meaning.specs.Statements.{Operation, assign, instruction, Condition, Counter, Block}
use Rattle.jz_meaning.specs.Runs.{in_order, assign_tree, kind_tree, statement_tree, block}
use Rattle.jz_expansion.specs.Statements.{no_callees}
use Rattle.jz_arrays.specs.Cells.{with_scalars, left_with_scalars}
use Rattle.jz_expansion.specs.MadeKind.{MadeKind}
use Rattle.jz_expansion.specs.MadeOne.{MadeOne}
use Rattle.jz_expansion.specs.Scalars.{right_with_scalars, all_made, made_layer, one_made, kind_made, statement_made, block_made}

-- ---- trees

abbrev operation_made : Operation → Operation
operation_made (assign to o e c at) =
    assign (map left_with_scalars to) o (with_scalars e) (option_map with_scalars c) at
operation_made (instruction to n args at) =
    instruction (map left_with_scalars to) n (map with_scalars args) at
operation_made o = o

abbrev condition_made : Condition → Condition
condition_made p = record { cond = with_scalars p.cond; at = p.at }

abbrev counter_made : Counter → Counter
counter_made f =
    record { counter = f.counter; from = with_scalars f.from; down = f.down; to = with_scalars f.to; at = f.at }

unfoldable pub tree_made : Block → Block
tree_made done = done
tree_made (op o r) = op (operation_made o) (tree_made r)
tree_made (quiet o r) = quiet o (tree_made r)
tree_made (choose p a b r) = choose (condition_made p) (tree_made a) (tree_made b) (tree_made r)
tree_made (loop h q p b r) = loop h (tree_made q) (condition_made p) (tree_made b) (tree_made r)
tree_made (each f b r) = each (counter_made f) (tree_made b) (tree_made r)
tree_made (call c b r) = call c b (tree_made r)

-- ---- statements

kind_of : StmtKind → Span → Block → Block
kind_of = fold-StmtKind _ _ (kind_tree no_callees) (λ s. s.kind s.span)

abbrev tree_of : Stmt → Block → Block
tree_of = statement_tree no_callees

abbrev KindLaw : StmtKind → Type 0
KindLaw k = (at : Span) (r : Block) → tree_made (kind_of k at r) ≡ kind_of (kind_made k).kind at (tree_made r)

abbrev StmtLaw : Stmt → Type 0
StmtLaw s = (r : Block) → tree_made (tree_of s r) ≡ tree_of (statement_made s).stmt (tree_made r)

abbrev Parts : Type 0
Parts = StmtKind-F ((k : StmtKind) × KindLaw k) ((s : Stmt) × StmtLaw s)

abbrev bare : Parts → StmtKind-F StmtKind Stmt
bare y = map-StmtKind _ _ _ _ (λ e. e.0) (λ e. e.0) y

abbrev firsts : List ((s : Stmt) × StmtLaw s) → List Stmt
firsts ss = map (λ e. e.0) ss

abbrev opened : StmtKind-F StmtKind Stmt → StmtKind-F (Span → Block → Block) (Block → Block)
opened x = map-StmtKind _ _ (Span → Block → Block) (Block → Block) kind_of tree_of x

kind_is : (x : StmtKind-F StmtKind Stmt) → kind_of (roll-StmtKind x) ≡ kind_tree no_callees (opened x)
unfolding kind_of
kind_is x = fold-roll-StmtKind _ _ (kind_tree no_callees) (λ s. s.kind s.span) x

-- a kind by its outermost layer
by_layer : (k : StmtKind) (x : StmtKind-F StmtKind Stmt) (at : Span) (r : Block) → roll-StmtKind x ≡ k → kind_tree no_callees (opened x) at r ≡ kind_of k at r
by_layer k x at r q = ap (λ f. f at r) (sym (kind_is x) ∙ ap kind_of q)

-- statements in their order
rows : (ss : List ((s : Stmt) × StmtLaw s)) (r : Block) → tree_made (in_order (map tree_of (firsts ss)) r) ≡ in_order (map tree_of (all_made (map statement_made (firsts ss))).stmts) (tree_made r)
rows [] r = refl
rows (s ∷ ss) r =
    s.1 (in_order (map tree_of (firsts ss)) r) ∙ ap (tree_of (statement_made s.0).stmt) (rows ss r)

assigned : (to : List Lval) (o : Option BinOp) (from : Rhs) (c : Option Expr) (at : Span) (r : Block) → tree_made (assign_tree no_callees to o from c at r) ≡ assign_tree no_callees (map left_with_scalars to) o (right_with_scalars from) (option_map with_scalars c) at (tree_made r)
unfolding tree_made
assigned to o (rhs.Value e) c at r = refl
assigned to o (rhs.Call n args place) c at r = refl
assigned to None (rhs.Intrinsic n args place) None at r = refl
assigned to None (rhs.Intrinsic n args place) (Some c) at r = refl
assigned to (Some o) (rhs.Intrinsic n args place) c at r = refl

layer_law : (y : Parts) (at : Span) (r : Block) → tree_made (kind_tree no_callees (opened (bare y)) at r) ≡ kind_of (made_layer (map-StmtKind _ _ MadeKind MadeOne kind_made statement_made (bare y))).kind at (tree_made r)
unfolding tree_made
layer_law (StmtKind-F.Assign to o from c) at r =
    assigned to o from c at r
    ∙ by_layer _ (StmtKind-F.Assign (map left_with_scalars to) o (right_with_scalars from) (option_map with_scalars c)) at (tree_made r) (kind.rolls-Assign _ _ _ _)
layer_law (StmtKind-F.If c a b) at r =
    ap (λ t. choose (record { cond = with_scalars c; at = at }) t (tree_made (in_order (map tree_of (firsts b)) done)) (tree_made r)) (rows a done)
    ∙ (ap (λ t. choose (record { cond = with_scalars c; at = at }) (in_order (map tree_of (all_made (map statement_made (firsts a))).stmts) done) t (tree_made r)) (rows b done)
    ∙ by_layer _ (StmtKind-F.If (with_scalars c) (all_made (map statement_made (firsts a))).stmts (all_made (map statement_made (firsts b))).stmts) at (tree_made r) (kind.rolls-If _ _ _))
layer_law (StmtKind-F.While p c None) at r =
    ap (λ t. loop true t (record { cond = with_scalars c; at = at }) done (tree_made r)) (rows p done)
    ∙ by_layer _ (StmtKind-F.While (all_made (map statement_made (firsts p))).stmts (with_scalars c) None) at (tree_made r) (kind.rolls-While _ _ _)
layer_law (StmtKind-F.While p c (Some b)) at r =
    ap (λ t. loop false t (record { cond = with_scalars c; at = at }) (tree_made (in_order (map tree_of (firsts b)) done)) (tree_made r)) (rows p done)
    ∙ (ap (λ t. loop false (in_order (map tree_of (all_made (map statement_made (firsts p))).stmts) done) (record { cond = with_scalars c; at = at }) t (tree_made r)) (rows b done)
    ∙ by_layer _ (StmtKind-F.While (all_made (map statement_made (firsts p))).stmts (with_scalars c) (Some (all_made (map statement_made (firsts b))).stmts)) at (tree_made r) (kind.rolls-While _ _ _))
layer_law (StmtKind-F.For i from down to b) at r =
    ap (λ t. each (record { counter = i; from = with_scalars from; down = down; to = with_scalars to; at = at }) t (tree_made r)) (rows b done)
    ∙ by_layer _ (StmtKind-F.For i (with_scalars from) down (with_scalars to) (all_made (map statement_made (firsts b))).stmts) at (tree_made r) (kind.rolls-For _ _ _ _ _)
layer_law (StmtKind-F.Mark xs) at r = by_layer _ (StmtKind-F.Mark xs) at (tree_made r) (kind.rolls-Mark _)

kind_case : (y : Parts) → KindLaw (roll-StmtKind (bare y))
kind_case y at r =
    ap (λ f. tree_made (f at r)) (kind_is (bare y))
    ∙ (layer_law y at r
    ∙ ap (λ (m : MadeKind). kind_of m.kind at (tree_made r)) (sym (fold-roll-StmtKind MadeKind MadeOne made_layer one_made (bare y))))

stmt_case : (y : Stmt-F ((k : StmtKind) × KindLaw k) ((s : Stmt) × StmtLaw s)) → StmtLaw (roll-Stmt (map-Stmt _ _ StmtKind Stmt (λ e. e.0) (λ e. e.0) y))
unfolding kind_of
stmt_case y r =
    let z = map-Stmt _ _ StmtKind Stmt (λ e. e.0) (λ e. e.0) y in
    let made : Stmt-F StmtKind Stmt = record { notes = z.notes; span = z.span; kind = (kind_made z.kind).kind } in
    ap (λ f. tree_made (f r)) (fold-roll-Stmt _ _ (kind_tree no_callees) (λ s. s.kind s.span) z)
    ∙ (y.kind.1 y.span r
    ∙ (ap (λ f. f (tree_made r)) (sym (fold-roll-Stmt _ _ (kind_tree no_callees) (λ s. s.kind s.span) made))
    ∙ ap (λ (m : MadeOne). tree_of m.stmt (tree_made r)) (sym (fold-roll-Stmt MadeKind MadeOne made_layer one_made z))))

statement_is : (s : Stmt) → StmtLaw s
statement_is =
    ind-Stmt KindLaw StmtLaw
    (λ z y is. subst (λ z. KindLaw (roll-StmtKind z)) is (kind_case y))
    (λ z y is. subst (λ z. StmtLaw (roll-Stmt z)) is (stmt_case y))

pub block_is : (ss : List Stmt) (r : Block) → tree_made (block no_callees ss r) ≡ block no_callees (block_made ss).stmts (tree_made r)
block_is [] r = refl
block_is (s ∷ ss) r = statement_is s (block no_callees ss r) ∙ ap (tree_of (statement_made s).stmt) (block_is ss r)
