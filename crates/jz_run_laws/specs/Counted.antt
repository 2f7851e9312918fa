-- Trees in which the length of each array is a written number.
use Rattle.std.specs.Prelude.{◌≡◌, ℤ, pos, negsuc, Bool, true, false, Option, Some, None}
use Rattle.jz_tree.specs.Span.{Span}
use Rattle.jz_tree.specs.Size.{Size}
use Rattle.jz_tree.specs.declared.expr.BinOp.{BinOp}
use Rattle.jz_tree.specs.declared.expr.Expr.{Expr}
use Rattle.jz_tree.specs.declared.expr.Ty.{Ty}
use Rattle.jz_tree.specs.declared.expr.Access.{Access}
use Rattle.jz_tree.specs.declared.expr.Decl.{Decl}
use Rattle.jz_tree.specs.declared.expr.Var.{Var}
use Rattle.jz_tree.specs.declared.expr.Expr.TheOpen.{Expr-F, Ty-F}
use Rattle.jz_tree.specs.declared.expr.Expr.TheViews.{out-Expr, out-Ty, out-Access, out-Var}
use Rattle.jz_type_names.specs.Kinds.{number_layer}
use Rattle.jz_judgement.specs.HasType.{Layer}

abbrev pub is_count : Option ℤ → Bool
is_count None = false
is_count (Some (pos n)) = true
is_count (Some (negsuc n)) = false

abbrev pub TyLayer : Type 0
TyLayer = Ty-F Expr Ty Access Decl Var

abbrev pub counted_type : TyLayer → Bool
counted_type Ty-F.Int = true
counted_type Ty-F.Ty::Bool = true
counted_type (Ty-F.Word z) = true
counted_type (Ty-F.Array z n) = is_count (number_layer (out-Expr n))

abbrev pub counted_decl : Option Decl → Bool
counted_decl None = true
counted_decl (Some d) = counted_type (out-Ty d.ty)

-- what is declared of the variable is no array, or one with a number as its length
abbrev pub is_counted : Var → Bool
is_counted v = counted_decl (out-Var v).decl

abbrev pub IsCounted : Var → Type 0
IsCounted v = is_counted v ≡ true

-- what holds of each variable in an expression
mutual
  pub data Each (P : Var → Type 0) : Expr → Type 0 where
    expression : {e : Expr} → EachLayer P (out-Expr e) → Each P e

  pub data EachLayer (P : Var → Type 0) : Layer → Type 0 where
    number : {n : ℤ} {at : Span} → EachLayer P (Expr-F.Num n at)
    bool : {b : Bool} {at : Span} → EachLayer P (Expr-F.Expr::Bool b at)
    variable : {v : Var} → P v → EachLayer P (Expr-F.Var v)
    cell : {v : Var} {i : Expr} → P v → Each P i → EachLayer P (Expr-F.Cell v i)
    load : {a : Access} → Each P (out-Access a).at → EachLayer P (Expr-F.Load a)
    negated : {a : Expr} {at : Span} → Each P a → EachLayer P (Expr-F.Neg a at)
    inverted : {a : Expr} {at : Span} → Each P a → EachLayer P (Expr-F.Not a at)
    cast : {z : Size} {s : Bool} {a : Expr} {at : Span} → Each P a
        → EachLayer P (Expr-F.Cast z s a at)
    operation : {o : BinOp} {a b : Expr} {at : Span} → Each P a → Each P b
        → EachLayer P (Expr-F.Bin o a b at)

abbrev pub Counted : Expr → Type 0
Counted = Each IsCounted
