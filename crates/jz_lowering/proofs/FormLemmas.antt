-- Each `while` of a body that is written without a body has none.
use Rattle.std.proofs.Common.{ℕ, List, [], ◌∷◌, map, Option, Some, None, sym, ap, subst}
use Rattle.jz_tree.specs.Span.{Span}
use Rattle.jz_tree.specs.declared.expr.BinOp.{BinOp}
use Rattle.jz_tree.specs.declared.expr.Expr.{Expr}
use Rattle.jz_tree.specs.declared.program.Fun.{Fun}
use Rattle.jz_tree.specs.declared.stmt.Lval.{Lval}
use Rattle.jz_tree.specs.declared.stmt.Rhs.TheVariants as rhs
use Rattle.jz_tree.specs.declared.stmt.Stmt.{Stmt}
use Rattle.jz_tree.specs.declared.stmt.StmtKind.{StmtKind}
use Rattle.jz_tree.specs.declared.stmt.StmtKind.TheOpen.{StmtKind-F, Stmt-F}
use Rattle.jz_tree.specs.declared.stmt.StmtKind.TheViews.{roll-Stmt, roll-StmtKind}
use Rattle.jz_tree.specs.declared.stmt.StmtKind.TheFolds.{fold-roll-Stmt, fold-roll-StmtKind, ind-Stmt, map-Stmt, map-StmtKind}
use Rattle.jz_runs.specs.Trees.{done}
use Rattle.jz_meaning.specs.Statements.{Block}
use Rattle.jz_meaning.specs.Runs.{in_order, instruction_tree, block, statement_tree, kind_tree}
use Rattle.jz_lowered.specs.Laws.{AreFormed}
use Rattle.jz_lowering.specs.Becoming.{no_callees}
use Rattle.jz_lowering.specs.InnerParts.{kind_piece}
use Rattle.jz_lowering.specs.Functions.{plain_body}

abbrev StmtLaw : Stmt → Type 0
StmtLaw s = (r : Block) → AreFormed r → AreFormed (statement_tree no_callees s r)

abbrev KindLaw : StmtKind → Type 0
KindLaw k = (at : Span) (r : Block) → AreFormed r → AreFormed (kind_piece k at r)

abbrev Kinds : Type 0
Kinds = StmtKind-F ((k : StmtKind) × KindLaw k) ((s : Stmt) × StmtLaw s)

abbrev bare : Kinds → StmtKind-F StmtKind Stmt
bare y = map-StmtKind _ _ _ _ (λ e. e.0) (λ e. e.0) y

abbrev firsts : List ((s : Stmt) × StmtLaw s) → List Stmt
firsts ss = map (λ e. e.0) ss

rows : (ss : List ((s : Stmt) × StmtLaw s)) (r : Block) → AreFormed r → AreFormed (in_order (map (statement_tree no_callees) (firsts ss)) r)
rows [] r h = h
rows (s ∷ ss) r h = s.1 (in_order (map (statement_tree no_callees) (firsts ss)) r) (rows ss r h)

instruction_formed : (to : List Lval) (o : Option BinOp) (n : List ℕ) (args : List Expr) (c : Option Expr) (at : Span) (r : Block) → AreFormed r → AreFormed (instruction_tree to o n args c at r)
instruction_formed to None n args None at r h = h
instruction_formed to None n args (Some c) at r h = h
instruction_formed to (Some o) n args c at r h = h

layer_law : (y : Kinds) (at : Span) (r : Block) → AreFormed r
    → AreFormed (kind_tree no_callees (map-StmtKind _ _ (Span → Block → Block) (Block → Block) kind_piece (statement_tree no_callees) (bare y)) at r)
layer_law (StmtKind-F.Assign to o (rhs.Value e) c) at r h = h
layer_law (StmtKind-F.Assign to o (rhs.Call n args place) c) at r h = h
layer_law (StmtKind-F.Assign to o (rhs.Intrinsic n args place) c) at r h = instruction_formed to o n args c place r h
layer_law (StmtKind-F.If c a b) at r h = (rows a done tt, rows b done tt, h)
layer_law (StmtKind-F.While p c None) at r h = (rows p done tt, tt, tt, h)
layer_law (StmtKind-F.While p c (Some b)) at r h = (rows p done tt, tt, rows b done tt, h)
layer_law (StmtKind-F.For i from down to b) at r h = (rows b done tt, h)
layer_law (StmtKind-F.Mark vs) at r h = h

kind_case : (y : Kinds) → KindLaw (roll-StmtKind (bare y))
kind_case y at r h = subst AreFormed (sym (ap (λ f. f at r) (fold-roll-StmtKind _ _ (kind_tree no_callees) (λ s. s.kind s.span) (bare y)))) (layer_law y at r h)

stmt_case : (y : Stmt-F ((k : StmtKind) × KindLaw k) ((s : Stmt) × StmtLaw s)) → StmtLaw (roll-Stmt (map-Stmt _ _ StmtKind Stmt (λ e. e.0) (λ e. e.0) y))
stmt_case y r h =
    let x = map-Stmt _ _ StmtKind Stmt (λ e. e.0) (λ e. e.0) y in
    subst AreFormed (sym (ap (λ f. f r) (fold-roll-Stmt _ _ (kind_tree no_callees) (λ s. s.kind s.span) x))) (y.kind.1 y.span r h)

statement_formed : (s : Stmt) → StmtLaw s
statement_formed =
    ind-Stmt KindLaw StmtLaw
    (λ x y is. subst (λ z. KindLaw (roll-StmtKind z)) is (kind_case y))
    (λ x y is. subst (λ z. StmtLaw (roll-Stmt z)) is (stmt_case y))

block_formed : (ss : List Stmt) (r : Block) → AreFormed r → AreFormed (block no_callees ss r)
block_formed [] r h = h
block_formed (s ∷ ss) r h = statement_formed s (block no_callees ss r) (block_formed ss r h)

pub plain_formed : (f : Fun) → AreFormed (plain_body f)
plain_formed f = block_formed f.body done tt
