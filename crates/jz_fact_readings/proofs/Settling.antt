-- Whether an operation gives a multiple, by its operands.
use Rattle.std.proofs.Common.{◌≡◌, ℕ, Bool, Option, Some, None, ap, sym, ◌∙◌}
use Rattle.std.specs.Prelude.{unwrap_or}
use Rattle.jz_tree.specs.Span.{Span}
use Rattle.jz_tree.specs.declared.expr.BinOp.{BinOp}
use Rattle.jz_tree.specs.declared.expr.Expr.{Expr}
use Rattle.jz_tree.specs.declared.expr.Expr.TheVariants as expr
use Rattle.jz_terms.specs.Terms.{Term, bin, term_of}
use Rattle.jz_terms.proofs.TermForms.{term_bin}
use Rattle.jz_facts.specs.Facts.{Facts, Given}
use Rattle.jz_facts.specs.Intervals.{multiple, of_multiples}

module _ (g : Given) (s : Facts) (rest : Expr) (op : BinOp) (a b : Expr) (at : Span) (l r : Expr) (m : ℕ) (o : Option Bool)
    (h : rest ≡ expr.Bin op a b at) (i : l ≡ a) (j : r ≡ b)
    (k : (x : Bool) → of_multiples op x (multiple g s (term_of r) m) (term_of l) (term_of r) m ≡ unwrap_or o x) where
  term_is : term_of rest ≡ bin op (term_of l) (term_of r) at
  term_is = term_bin rest op a b at h ∙ ap (λ x. bin op (term_of x) (term_of b) at) (sym i) ∙ ap (λ x. bin op (term_of l) (term_of x) at) (sym j)

  whole : multiple g s (term_of rest) m ≡ unwrap_or o (multiple g s (term_of l) m)
  whole = ap (λ x. multiple g s x m) term_is ∙ k (multiple g s (term_of l) m)

  pub settled_some : (answer : Bool) → o ≡ Some answer → answer ≡ multiple g s (term_of rest) m
  settled_some answer e = sym (whole ∙ ap (λ q. unwrap_or q (multiple g s (term_of l) m)) e)

  pub settled_none : (n : Expr) → n ≡ a → o ≡ None → multiple g s (term_of n) m ≡ multiple g s (term_of rest) m
  settled_none n q e = ap (λ x. multiple g s (term_of x) m) (q ∙ sym i) ∙ sym (whole ∙ ap (λ q. unwrap_or q (multiple g s (term_of l) m)) e)
