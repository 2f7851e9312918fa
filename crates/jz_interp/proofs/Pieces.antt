-- The trees of single statements.
use Rattle.std.proofs.Common.{◌≡◌, Bool, List, Option, Some, None, sym, ap, ◌∙◌}
use Rattle.std.specs.Prelude.{not, is_some}
use Rattle.jz_tree.specs.Span.{Span}
use Rattle.jz_tree.specs.declared.expr.BinOp.{BinOp}
use Rattle.jz_tree.specs.declared.expr.Expr.{Expr}
use Rattle.jz_tree.specs.declared.expr.Var.{Var}
use Rattle.jz_tree.specs.declared.stmt.Lval.{Lval}
use Rattle.jz_tree.specs.declared.stmt.Rhs.{Rhs}
use Rattle.jz_tree.specs.declared.stmt.Stmt.{Stmt}
use Rattle.jz_tree.specs.declared.stmt.StmtKind.{StmtKind}
use Rattle.jz_tree.specs.declared.stmt.StmtKind.TheVariants as kind
use Rattle.jz_tree.specs.declared.stmt.StmtKind.TheOpen.{StmtKind-F}
use Rattle.jz_tree.specs.declared.stmt.StmtKind.TheFolds.{fold-StmtKind, fold-roll-Stmt, fold-roll-StmtKind}
use Rattle.jz_meaning.specs.Trees.{done, quiet, choose, loop, each}
use Rattle.jz_meaning.specs.Statements.{Block, unset}
use Rattle.jz_meaning.specs.Runs.{Callees, block, statement_tree, kind_tree, assign_tree}
use Rattle.jz_interp.specs.InnerParts.{body_piece}

module _ (callees : Callees) where
  kind_piece : StmtKind → Span → Block → Block
  kind_piece = fold-StmtKind _ _ (kind_tree callees) (λ s. s.kind s.span)

  statement_is : (s : Stmt) → statement_tree callees s ≡ kind_piece s.kind s.span
  unfolding kind_piece
  statement_is s = fold-roll-Stmt _ _ (kind_tree callees) (λ s. s.kind s.span) (record { notes = s.notes; span = s.span; kind = s.kind })

  pub if_is : (s : Stmt) (c : Expr) (a b : List Stmt) → s.kind ≡ kind.If c a b → statement_tree callees s ≡ choose (record { cond = c; at = s.span }) (block callees a done) (block callees b done)
  unfolding kind_piece
  if_is s c a b e = statement_is s ∙ ap (λ x. kind_piece x s.span) e ∙ ap (λ x. kind_piece x s.span) (sym (kind.rolls-If c a b)) ∙ ap (λ f. f s.span) (fold-roll-StmtKind _ _ (kind_tree callees) (λ s. s.kind s.span) (StmtKind-F.If c a b))

  pub assign_is : (s : Stmt) (to : List Lval) (o : Option BinOp) (r : Rhs) (c : Option Expr) → s.kind ≡ kind.Assign to o r c → statement_tree callees s ≡ assign_tree callees to o r c s.span
  unfolding kind_piece
  assign_is s to o r c e = statement_is s ∙ ap (λ x. kind_piece x s.span) e ∙ ap (λ x. kind_piece x s.span) (sym (kind.rolls-Assign to o r c)) ∙ ap (λ f. f s.span) (fold-roll-StmtKind _ _ (kind_tree callees) (λ s. s.kind s.span) (StmtKind-F.Assign to o r c))

  pub mark_is : (s : Stmt) (xs : List Var) → s.kind ≡ kind.Mark xs → statement_tree callees s ≡ quiet (unset xs)
  unfolding kind_piece
  mark_is s xs e = statement_is s ∙ ap (λ x. kind_piece x s.span) e ∙ ap (λ x. kind_piece x s.span) (sym (kind.rolls-Mark xs)) ∙ ap (λ f. f s.span) (fold-roll-StmtKind _ _ (kind_tree callees) (λ s. s.kind s.span) (StmtKind-F.Mark xs))

  pub for_is : (s : Stmt) (i : Var) (from : Expr) (down : Bool) (to : Expr) (b : List Stmt) → s.kind ≡ kind.For i from down to b → statement_tree callees s ≡ each (record { counter = i; from = from; down = down; to = to; at = s.span }) (block callees b done)
  unfolding kind_piece
  for_is s i from down to b e = statement_is s ∙ ap (λ x. kind_piece x s.span) e ∙ ap (λ x. kind_piece x s.span) (sym (kind.rolls-For i from down to b)) ∙ ap (λ f. f s.span) (fold-roll-StmtKind _ _ (kind_tree callees) (λ s. s.kind s.span) (StmtKind-F.For i from down to b))

  pub while_is : (s : Stmt) (p : List Stmt) (c : Expr) (b : Option (List Stmt)) → s.kind ≡ kind.While p c b → statement_tree callees s ≡ loop (not (is_some b)) (block callees p done) (record { cond = c; at = s.span }) (body_piece callees b done)
  unfolding kind_piece
  while_is s p c None e = statement_is s ∙ ap (λ x. kind_piece x s.span) e ∙ ap (λ x. kind_piece x s.span) (sym (kind.rolls-While p c None)) ∙ ap (λ f. f s.span) (fold-roll-StmtKind _ _ (kind_tree callees) (λ s. s.kind s.span) (StmtKind-F.While p c None))
  while_is s p c (Some b) e = statement_is s ∙ ap (λ x. kind_piece x s.span) e ∙ ap (λ x. kind_piece x s.span) (sym (kind.rolls-While p c (Some b))) ∙ ap (λ f. f s.span) (fold-roll-StmtKind _ _ (kind_tree callees) (λ s. s.kind s.span) (StmtKind-F.While p c (Some b)))
