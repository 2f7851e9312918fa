-- How many numbers an expression leaks, by its text and by what its variables are declared to be.
use Rattle.std.specs.Prelude.{ℕ, ◌+◌, ◌-◌, ◌^◌, min}
use Rattle.jz_tree.specs.declared.expr.Expr.{Expr}
use Rattle.jz_tree.specs.declared.expr.Ty.{Ty}
use Rattle.jz_tree.specs.declared.expr.Access.{Access}
use Rattle.jz_tree.specs.declared.expr.Decl.{Decl}
use Rattle.jz_tree.specs.declared.expr.Var.{Var}
use Rattle.jz_tree.specs.declared.expr.Expr.TheOpen.{Expr-F}
use Rattle.jz_tree.specs.declared.expr.Expr.TheViews.{out-Access}
use Rattle.jz_tree.specs.declared.expr.Expr.TheFolds.{para-Expr, map-Expr}
use Rattle.jz_tree.specs.declared.stmt.Lval.{Lval}
use Rattle.jz_tree.specs.declared.stmt.Lval.TheVariants as lval
use Rattle.jz_meaning.specs.Values.{ref_of}
use Rattle.jz_meaning.specs.Shapes.{Sort, Shape, shape_step}
use Rattle.jz_bodies.specs.Kinds.{sort_of_kind}

-- the parts of an expression, each with what it is
abbrev pub Shapes : Type 0
Shapes = Expr-F (Expr × Shape) (Ty × Unit {0}) (Access × Shape) (Decl × Unit {0}) (Var × Unit {0})

-- a variable holds what it is declared to hold
abbrev pub sort_declared : Var → Sort
sort_declared v = sort_of_kind (ref_of v).kind

abbrev pub declared_step : Shapes → Shape
declared_step x =
    shape_step
    (map-Expr _ _ _ _ _ Shape (Unit {0}) Shape (Unit {0}) Sort (λ e. e.1) (λ t. tt) (λ a. a.1)
    (λ d. tt) (λ v. sort_declared v.0) x)

abbrev pub declared_shape : Expr → Shape
declared_shape =
    para-Expr Shape (Unit {0}) Shape (Unit {0}) (Unit {0}) declared_step (λ t. tt) (λ a. a.at.1)
    (λ d. tt) (λ v. tt)

abbrev pub width : Expr → ℕ
width e = (declared_shape e).count

-- a count as far as 64 bits have one
abbrev pub capped : ℕ → ℕ
capped n = min n (2 ^ 64 - 1)

-- of an index or an address on the left, with the access itself
abbrev pub left_width : Lval → ℕ
left_width (lval.Skip at) = 0
left_width (lval.Var v) = 0
left_width (lval.Cell v i) = width i + 1
left_width (lval.Store a) = width (out-Access a).at + 1
