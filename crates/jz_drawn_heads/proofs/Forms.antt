-- Statements of each form.
use Rattle.std.proofs.Common.{◌≡◌, Bool, List, [], ◌∷◌, ◌++◌, Option, Some, None, refl, sym, ap, ◌∙◌}
use Rattle.std.specs.Prelude.{not, is_some}
use Rattle.jz_tree.specs.Span.{Span}
use Rattle.jz_tree.specs.declared.expr.BinOp.{BinOp}
use Rattle.jz_tree.specs.declared.expr.Expr.{Expr}
use Rattle.jz_tree.specs.declared.expr.Var.{Var}
use Rattle.jz_tree.specs.declared.stmt.Lval.{Lval}
use Rattle.jz_tree.specs.declared.stmt.Rhs.{Rhs}
use Rattle.jz_tree.specs.declared.stmt.Stmt.{Stmt}
use Rattle.jz_tree.specs.declared.stmt.StmtKind.{StmtKind}
use Rattle.jz_tree.specs.declared.stmt.StmtKind.TheVariants as kind
use Rattle.jz_tree.specs.declared.stmt.StmtKind.TheOpen.{StmtKind-F}
use Rattle.jz_tree.specs.declared.stmt.StmtKind.TheFolds.{fold-roll-Stmt, fold-roll-StmtKind}
use Rattle.jz_runs.specs.Trees.{done, quiet, choose, loop, each}
use Rattle.jz_meaning.specs.Runs.{block, statement_tree, kind_tree, assign_tree}
use Rattle.jz_meaning.specs.Statements.{unset, Block}
use Rattle.jz_drawn_labels.specs.Drew.{no_callees}
use Rattle.jz_drawn_heads.specs.Pieces.{kind_piece, condition_at, turn_piece}

pub statement_is : (s : Stmt) → statement_tree no_callees s ≡ kind_piece s.kind s.span
statement_is s = fold-roll-Stmt _ _ (kind_tree no_callees) (λ s. s.kind s.span) (record { notes = s.notes; span = s.span; kind = s.kind })

module _ (k : StmtKind) (at : Span) where
  pub assign_is : (to : List Lval) (o : Option BinOp) (r : Rhs) (c : Option Expr) → k ≡ kind.Assign to o r c → kind_piece k at ≡ assign_tree no_callees to o r c at
  assign_is to o r c e =
      ap (λ x. kind_piece x at) (e ∙ sym (kind.rolls-Assign to o r c)) ∙ ap (λ f. f at) (fold-roll-StmtKind _ _ (kind_tree no_callees) (λ s. s.kind s.span) (StmtKind-F.Assign to o r c))

  pub if_is : (c : Expr) (a b : List Stmt) → k ≡ kind.If c a b → kind_piece k at ≡ choose (condition_at c at) (block no_callees a done) (block no_callees b done)
  if_is c a b e = ap (λ x. kind_piece x at) (e ∙ sym (kind.rolls-If c a b)) ∙ ap (λ f. f at) (fold-roll-StmtKind _ _ (kind_tree no_callees) (λ s. s.kind s.span) (StmtKind-F.If c a b))

  pub while_is : (p : List Stmt) (c : Expr) (b : Option (List Stmt)) → k ≡ kind.While p c b → kind_piece k at ≡ loop (not (is_some b)) (block no_callees p done) (condition_at c at) (turn_piece b done)
  while_is p c None e =
      ap (λ x. kind_piece x at) (e ∙ sym (kind.rolls-While p c None)) ∙ ap (λ f. f at) (fold-roll-StmtKind _ _ (kind_tree no_callees) (λ s. s.kind s.span) (StmtKind-F.While p c None))
  while_is p c (Some b) e =
      ap (λ x. kind_piece x at) (e ∙ sym (kind.rolls-While p c (Some b))) ∙ ap (λ f. f at) (fold-roll-StmtKind _ _ (kind_tree no_callees) (λ s. s.kind s.span) (StmtKind-F.While p c (Some b)))

  pub for_is : (i : Var) (from : Expr) (down : Bool) (to : Expr) (b : List Stmt) → k ≡ kind.For i from down to b → kind_piece k at ≡ each (record { counter = i; from = from; down = down; to = to; at = at }) (block no_callees b done)
  for_is i from down to b e =
      ap (λ x. kind_piece x at) (e ∙ sym (kind.rolls-For i from down to b)) ∙ ap (λ f. f at) (fold-roll-StmtKind _ _ (kind_tree no_callees) (λ s. s.kind s.span) (StmtKind-F.For i from down to b))

  pub mark_is : (xs : List Var) → k ≡ kind.Mark xs → kind_piece k at ≡ quiet (unset xs)
  mark_is xs e = ap (λ x. kind_piece x at) (e ∙ sym (kind.rolls-Mark xs)) ∙ ap (λ f. f at) (fold-roll-StmtKind _ _ (kind_tree no_callees) (λ s. s.kind s.span) (StmtKind-F.Mark xs))

-- statements before one more
pub block_then : (xs : List Stmt) (s : Stmt) (r : Block) → block no_callees (xs ++ s ∷ []) r ≡ block no_callees xs (statement_tree no_callees s r)
block_then [] s r = refl
block_then (x ∷ xs) s r = ap (statement_tree no_callees x) (block_then xs s r)
