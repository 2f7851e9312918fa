-- The term of each form of expression.
use Rattle.std.proofs.Common.{◌≡◌, Bool, ap, sym, ◌∙◌}
use Rattle.std.specs.Prelude.{ℤ}
use Rattle.jz_tree.specs.Span.{Span}
use Rattle.x64_insn.specs.Size.{Size}
use Rattle.jz_tree.specs.declared.expr.BinOp.{BinOp}
use Rattle.jz_tree.specs.declared.expr.Expr.{Expr}
use Rattle.jz_tree.specs.declared.expr.Expr.TheVariants as expr
use Rattle.jz_tree.specs.declared.expr.Expr.TheOpen.{Expr-F}
use Rattle.jz_tree.specs.declared.expr.Access.{Access}
use Rattle.jz_tree.specs.declared.expr.Var.{Var}
use Rattle.jz_meaning.specs.Values.{ref_of}
use Rattle.jz_terms.specs.Terms.{Term, num, truth, var, cell, load, neg, inv, cast, bin, term_of, place_of}
use Rattle.jz_terms.proofs.Bridge.{term_is}

module _ (e : Expr) where
  pub term_num : (n : ℤ) (at : Span) → e ≡ expr.Num n at → term_of e ≡ num n at
  term_num n at h = ap term_of (h ∙ sym (expr.rolls-Num n at)) ∙ term_is (Expr-F.Num n at)

  pub term_bool : (b : Bool) (at : Span) → e ≡ expr.Bool b at → term_of e ≡ truth b at
  term_bool b at h = ap term_of (h ∙ sym (expr.rolls-Bool b at)) ∙ term_is (Expr-F.Expr::Bool b at)

  pub term_var : (v : Var) → e ≡ expr.Var v → term_of e ≡ var (ref_of v)
  term_var v h = ap term_of (h ∙ sym (expr.rolls-Var v)) ∙ term_is (Expr-F.Var v)

  pub term_cell : (v : Var) (i : Expr) → e ≡ expr.Cell v i → term_of e ≡ cell (ref_of v) (term_of i)
  term_cell v i h = ap term_of (h ∙ sym (expr.rolls-Cell v i)) ∙ term_is (Expr-F.Cell v i)

  pub term_load : (a : Access) → e ≡ expr.Load a → term_of e ≡ load (place_of a).spot (place_of a).at
  term_load a h = ap term_of (h ∙ sym (expr.rolls-Load a)) ∙ term_is (Expr-F.Load a)

  pub term_neg : (a : Expr) (at : Span) → e ≡ expr.Neg a at → term_of e ≡ neg (term_of a) at
  term_neg a at h = ap term_of (h ∙ sym (expr.rolls-Neg a at)) ∙ term_is (Expr-F.Neg a at)

  pub term_not : (a : Expr) (at : Span) → e ≡ expr.Not a at → term_of e ≡ inv (term_of a) at
  term_not a at h = ap term_of (h ∙ sym (expr.rolls-Not a at)) ∙ term_is (Expr-F.Not a at)

  pub term_cast : (z : Size) (s : Bool) (a : Expr) (at : Span) → e ≡ expr.Cast z s a at → term_of e ≡ cast z s (term_of a) at
  term_cast z s a at h = ap term_of (h ∙ sym (expr.rolls-Cast z s a at)) ∙ term_is (Expr-F.Cast z s a at)

  pub term_bin : (op : BinOp) (a b : Expr) (at : Span) → e ≡ expr.Bin op a b at → term_of e ≡ bin op (term_of a) (term_of b) at
  term_bin op a b at h = ap term_of (h ∙ sym (expr.rolls-Bin op a b at)) ∙ term_is (Expr-F.Bin op a b at)
