-- The trees of single statements.
use Rattle.std.proofs.Common.{◌≡◌, Bool, true, false, List, Option, Some, None, sym, ap, ◌∙◌}
use Rattle.jz_tree.specs.Span.{Span}
use Rattle.jz_tree.specs.declared.expr.BinOp.{BinOp}
use Rattle.jz_tree.specs.declared.expr.Expr.{Expr}
use Rattle.jz_tree.specs.declared.expr.Var.{Var}
use Rattle.jz_tree.specs.declared.stmt.Lval.{Lval}
use Rattle.jz_tree.specs.declared.stmt.Rhs.{Rhs}
use Rattle.jz_tree.specs.declared.stmt.Stmt.{Stmt}
use Rattle.jz_tree.specs.declared.stmt.StmtKind.TheVariants as kind
use Rattle.jz_tree.specs.declared.stmt.StmtKind.TheOpen.{StmtKind-F}
use Rattle.jz_tree.specs.declared.stmt.StmtKind.TheFolds.{fold-roll-Stmt, fold-roll-StmtKind}
use Rattle.jz_runs.specs.Trees.{done, quiet, choose, loop, each}
use Rattle.jz_meaning.specs.Statements.{unset}
use Rattle.jz_meaning.specs.Runs.{block, statement_tree, kind_tree, assign_tree}
use Rattle.jz_lowering.specs.Becoming.{no_callees}
use Rattle.jz_lowering.specs.InnerParts.{kind_piece}

pub statement_is : (s : Stmt) → statement_tree no_callees s ≡ kind_piece s.kind s.span
statement_is s = fold-roll-Stmt _ _ (kind_tree no_callees) (λ s. s.kind s.span) (record { notes = s.notes; span = s.span; kind = s.kind })

pub assign_is : (at : Span) (to : List Lval) (o : Option BinOp) (r : Rhs) (c : Option Expr) → kind_piece (kind.Assign to o r c) at ≡ assign_tree no_callees to o r c at
assign_is at to o r c = ap (λ x. kind_piece x at) (sym (kind.rolls-Assign to o r c)) ∙ ap (λ f. f at) (fold-roll-StmtKind _ _ (kind_tree no_callees) (λ s. s.kind s.span) (StmtKind-F.Assign to o r c))

pub if_is : (at : Span) (c : Expr) (a b : List Stmt) → kind_piece (kind.If c a b) at ≡ choose (record { cond = c; at = at }) (block no_callees a done) (block no_callees b done)
if_is at c a b = ap (λ x. kind_piece x at) (sym (kind.rolls-If c a b)) ∙ ap (λ f. f at) (fold-roll-StmtKind _ _ (kind_tree no_callees) (λ s. s.kind s.span) (StmtKind-F.If c a b))

pub until_is : (at : Span) (p : List Stmt) (c : Expr) → kind_piece (kind.While p c None) at ≡ loop true (block no_callees p done) (record { cond = c; at = at }) done
until_is at p c = ap (λ x. kind_piece x at) (sym (kind.rolls-While p c None)) ∙ ap (λ f. f at) (fold-roll-StmtKind _ _ (kind_tree no_callees) (λ s. s.kind s.span) (StmtKind-F.While p c None))

pub turns_is : (at : Span) (p : List Stmt) (c : Expr) (b : List Stmt) → kind_piece (kind.While p c (Some b)) at ≡ loop false (block no_callees p done) (record { cond = c; at = at }) (block no_callees b done)
turns_is at p c b = ap (λ x. kind_piece x at) (sym (kind.rolls-While p c (Some b))) ∙ ap (λ f. f at) (fold-roll-StmtKind _ _ (kind_tree no_callees) (λ s. s.kind s.span) (StmtKind-F.While p c (Some b)))

pub mark_is : (at : Span) (xs : List Var) → kind_piece (kind.Mark xs) at ≡ quiet (unset xs)
mark_is at xs = ap (λ x. kind_piece x at) (sym (kind.rolls-Mark xs)) ∙ ap (λ f. f at) (fold-roll-StmtKind _ _ (kind_tree no_callees) (λ s. s.kind s.span) (StmtKind-F.Mark xs))

pub for_is : (at : Span) (i : Var) (from : Expr) (down : Bool) (to : Expr) (b : List Stmt) → kind_piece (kind.For i from down to b) at ≡ each (record { counter = i; from = from; down = down; to = to; at = at }) (block no_callees b done)
for_is at i from down to b = ap (λ x. kind_piece x at) (sym (kind.rolls-For i from down to b)) ∙ ap (λ f. f at) (fold-roll-StmtKind _ _ (kind_tree no_callees) (λ s. s.kind s.span) (StmtKind-F.For i from down to b))
