-- Expressions without their declarations: what facts, conditions and labels are read from.
use Rattle.std.specs.Prelude.{ℤ, Bool, Option, Some}
use Rattle.jz_tree.specs.Span.{Span}
use Rattle.x64_insn.specs.Size.{Size}
use Rattle.x64_insn.specs.Size.TheVariants.{S64}
use Rattle.jz_tree.specs.declared.expr.BinOp.{BinOp}
use Rattle.jz_tree.specs.declared.expr.Expr.{Expr}
use Rattle.jz_tree.specs.declared.expr.Ty.{Ty}
use Rattle.jz_tree.specs.declared.expr.Access.{Access}
use Rattle.jz_tree.specs.declared.expr.Decl.{Decl}
use Rattle.jz_tree.specs.declared.expr.Var.{Var}
use Rattle.jz_tree.specs.declared.expr.Expr.TheOpen.{Expr-F, Access-F}
use Rattle.jz_tree.specs.declared.expr.Expr.TheFolds.{para-Expr, para-Access}
use Rattle.jz_meaning.specs.Values.{Ref, ref_of, Meaning, expr_step}

-- an access to memory, without its address
pub record Spot : Type 0 where
  -- its size, where it is written
  pub size : Option Size
  pub unaligned : Bool
  pub span : Span

pub data Term : Type 0 where
  num : ℤ → Span → Term
  truth : Bool → Span → Term
  var : Ref → Term
  -- an array, an index
  cell : Ref → Term → Term
  load : Spot → Term → Term
  neg : Term → Span → Term
  inv : Term → Span → Term
  -- whether it is a cast of signed words
  cast : Size → Bool → Term → Span → Term
  bin : BinOp → Term → Term → Span → Term

-- an access and its address
pub record Place : Type 0 where
  pub spot : Spot
  pub at : Term

abbrev pub term_step :
    Expr-F (Expr × Term) (Ty × Unit {0}) (Access × Place) (Decl × Unit {0}) (Var × Unit {0}) → Term
term_step (Expr-F.Num n at) = num n at
term_step (Expr-F.Expr::Bool b at) = truth b at
term_step (Expr-F.Var v) = var (ref_of v.0)
term_step (Expr-F.Cell v i) = cell (ref_of v.0) i.1
term_step (Expr-F.Load a) = load a.1.spot a.1.at
term_step (Expr-F.Neg a at) = neg a.1 at
term_step (Expr-F.Not a at) = inv a.1 at
term_step (Expr-F.Cast z s a at) = cast z s a.1 at
term_step (Expr-F.Bin o a b at) = bin o a.1 b.1 at

abbrev pub place_step :
    Access-F (Expr × Term) (Ty × Unit {0}) (Access × Place) (Decl × Unit {0}) (Var × Unit {0})
    → Place
place_step a =
    record {
      spot = record { size = a.size; unaligned = a.unaligned; span = a.span };
      at = a.at.1;
    }

abbrev pub term_of : Expr → Term
term_of =
    para-Expr Term (Unit {0}) Place (Unit {0}) (Unit {0})
    term_step (λ t. tt) place_step (λ d. tt) (λ v. tt)

abbrev pub place_of : Access → Place
place_of =
    para-Access Term (Unit {0}) Place (Unit {0}) (Unit {0})
    term_step (λ t. tt) place_step (λ d. tt) (λ v. tt)

-- what a term is: what each expression is whose term it is
abbrev pub means : Term → Meaning
means (num n at) = expr_step (Expr-F.Num n at)
means (truth b at) = expr_step (Expr-F.Expr::Bool b at)
means (var x) = expr_step (Expr-F.Var x)
means (cell x i) = expr_step (Expr-F.Cell x (means i))
means (load p a) =
    expr_step (Expr-F.Load (record {
      size = p.size;
      at = (means a).run (Some S64);
      unaligned = p.unaligned;
      span = p.span;
    }))
means (neg a at) = expr_step (Expr-F.Neg (means a) at)
means (inv a at) = expr_step (Expr-F.Not (means a) at)
means (cast z s a at) = expr_step (Expr-F.Cast z s (means a) at)
means (bin o a b at) = expr_step (Expr-F.Bin o (means a) (means b) at)

-- the size that it has by itself
abbrev pub size_in : Term → Option Size
size_in t = (means t).size
