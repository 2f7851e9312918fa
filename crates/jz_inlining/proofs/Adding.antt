-- What one statement adds, of what its bodies have become.
use Rattle.std.proofs.Common.{◌≡◌, ℕ, ◌+◌, ◌≤◌, List, [], ◌∷◌, ◌++◌, Some, None, ap, ◌∙◌, arith}
use Rattle.jz_tree.specs.Span.{Span}
use Rattle.jz_tree.specs.declared.expr.Expr.{Expr}
use Rattle.jz_tree.specs.declared.stmt.Stmt.{Stmt}
use Rattle.jz_tree.specs.declared.stmt.StmtKind.{StmtKind}
use Rattle.jz_tree.specs.declared.stmt.StmtKind.TheVariants as kind
use Rattle.jz_tree.specs.declared.program.Note.{Note}
use Rattle.jz_change.specs.declared.change.Numbers.TheVariants.{Same}
use Rattle.jz_change.specs.declared.change.Step.{Step}
use Rattle.jz_change.specs.declared.change.Step.TheVariants as step
use Rattle.jz_inline.specs.Names.{Names, expr_in}
use Rattle.jz_inline.specs.Statements.{Piece, statement, plain_piece, all_steps, if_piece, while_piece, until_piece, for_piece}
use Rattle.jz_inlining.specs.declared.copier.Copied.{Copied}
use Rattle.jz_inlining.specs.declared.copier.Body.{Body}
use Rattle.jz_inlining.specs.InnerCopies.{Adds, IsCopied, last_number}

-- ---- numbers of copies

pub left_fits : (n a b : ℕ) → n + (a + b) ≤ last_number → n + a ≤ last_number
left_fits n a b h = omega (arith, h)

pub right_fits : (n m a b : ℕ) → m ≡ n + a → n + (a + b) ≤ last_number → m + b ≤ last_number
right_fits n m a b e h = omega (arith, e, h)

-- ---- statements

module _ (names : Names) (before after : Copied) (made : List Step) (notes : List Note) (at : Span) where
  pub plain_adds : (steps : List Step) (k : Names → StmtKind) → after.stmts ≡ before.stmts ++ statement notes at (k names) ∷ [] → after.next ≡ before.next → made ≡ steps → Adds (plain_piece notes at steps k) names before after made
  plain_adds steps k s n m = record { stmts = s; next = omega (arith, n); steps = m }

  abbrev puts : StmtKind → Type 0
  puts k = after.stmts ≡ before.stmts ++ statement notes at k ∷ []

  pub if_adds : (c : Expr) (p q : Piece) (x y : Body) → IsCopied p names before.next x → IsCopied q names x.next y → puts (kind.If (expr_in names c) x.stmts y.stmts) → after.next ≡ y.next
      → made ≡ step.If [] Same (all_steps x.steps) (all_steps y.steps) ∷ [] → Adds (if_piece notes at c p q) names before after made
  if_adds c p q x y f g s n m =
      let end : y.next ≡ (before.next + p.copies) + q.copies = g.next ∙ ap (λ k. k + q.copies) f.next in
      record {
        stmts =
            s ∙ ap (λ l. before.stmts ++ statement notes at (kind.If (expr_in names c) l y.stmts) ∷ []) f.stmts
            ∙ ap (λ l. before.stmts ++ statement notes at (kind.If (expr_in names c) (p.made names before.next) l) ∷ []) (g.stmts ∙ ap (q.made names) f.next);
        next = omega (arith, n, end);
        steps = m ∙ ap (λ l. step.If [] Same (all_steps l) (all_steps y.steps) ∷ []) f.steps ∙ ap (λ l. step.If [] Same (all_steps p.steps) (all_steps l) ∷ []) g.steps;
      }

  pub turns_adds : (c : Expr) (p q : Piece) (x y : Body) → IsCopied p names before.next x → IsCopied q names x.next y → puts (kind.While x.stmts (expr_in names c) (Some y.stmts)) → after.next ≡ y.next
      → made ≡ step.While (all_steps x.steps) [] Same (all_steps y.steps) ∷ [] → Adds (while_piece notes at p c q) names before after made
  turns_adds c p q x y f g s n m =
      let end : y.next ≡ (before.next + p.copies) + q.copies = g.next ∙ ap (λ k. k + q.copies) f.next in
      record {
        stmts =
            s ∙ ap (λ l. before.stmts ++ statement notes at (kind.While l (expr_in names c) (Some y.stmts)) ∷ []) f.stmts
            ∙ ap (λ l. before.stmts ++ statement notes at (kind.While (p.made names before.next) (expr_in names c) (Some l)) ∷ []) (g.stmts ∙ ap (q.made names) f.next);
        next = omega (arith, n, end);
        steps = m ∙ ap (λ l. step.While (all_steps l) [] Same (all_steps y.steps) ∷ []) f.steps ∙ ap (λ l. step.While (all_steps p.steps) [] Same (all_steps l) ∷ []) g.steps;
      }

  pub until_adds : (c : Expr) (p : Piece) (x : Body) → IsCopied p names before.next x → puts (kind.While x.stmts (expr_in names c) None) → after.next ≡ x.next
      → made ≡ step.While (all_steps x.steps) [] Same (all_steps []) ∷ [] → Adds (until_piece notes at p c) names before after made
  until_adds c p x f s n m =
      record {
        stmts = s ∙ ap (λ l. before.stmts ++ statement notes at (kind.While l (expr_in names c) None) ∷ []) f.stmts;
        next = n ∙ f.next;
        steps = m ∙ ap (λ l. step.While (all_steps l) [] Same (all_steps []) ∷ []) f.steps;
      }

  pub for_adds : (k : Names → List Stmt → StmtKind) (p : Piece) (x : Body) → IsCopied p names before.next x → puts (k names x.stmts) → after.next ≡ x.next
      → made ≡ step.For (all_steps x.steps) ∷ [] → Adds (for_piece notes at k p) names before after made
  for_adds k p x f s n m =
      record {
        stmts = s ∙ ap (λ l. before.stmts ++ statement notes at (k names l) ∷ []) f.stmts;
        next = n ∙ f.next;
        steps = m ∙ ap (λ l. step.For (all_steps l) ∷ []) f.steps;
      }

-- a body by itself
pub alone : (p : Piece) (names : Names) (start : List Stmt) (next : ℕ) (after : Copied) (made : List Step) → start ≡ [] → Adds p names (record { stmts = start; next = next }) after made
    → IsCopied p names next (record { stmts = after.stmts; steps = made; next = after.next })
alone p names start next after made none a = record { stmts = a.stmts ∙ ap (λ l. l ++ p.made names next) none; next = a.next; steps = a.steps }
