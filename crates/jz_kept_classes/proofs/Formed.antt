-- Each expression is built of its forms.
use Rattle.std.proofs.Common.{sym, subst}
use Rattle.jz_tree.specs.declared.expr.Expr.{Expr}
use Rattle.jz_tree.specs.declared.expr.Ty.{Ty}
use Rattle.jz_tree.specs.declared.expr.Access.{Access}
use Rattle.jz_tree.specs.declared.expr.Decl.{Decl}
use Rattle.jz_tree.specs.declared.expr.Var.{Var}
use Rattle.jz_tree.specs.declared.expr.Expr.TheOpen.{Expr-F}
use Rattle.jz_tree.specs.declared.expr.Expr.TheViews.{out-Access, roll-Expr, roll-Access, out-roll-Expr}
use Rattle.jz_tree.specs.declared.expr.Expr.TheFolds.{map-Expr, ind-Expr}
use Rattle.jz_judgement.specs.HasType.{Layer}
use Rattle.jz_run_laws.specs.Counted as counted
use Rattle.jz_run_laws.specs.Counted.{Each, EachLayer}

abbrev Any : Var → Type 0
Any v = Unit {0}

abbrev pub Formed : Expr → Type 0
Formed = Each Any

abbrev pub FormedLayer : Layer → Type 0
FormedLayer = EachLayer Any

abbrev Proved : Type 0
Proved = Expr-F ((e : Expr) × Formed e) (Ty × Unit {0}) ((a : Access) × Formed (out-Access a).at) (Decl × Unit {0}) (Var × Unit {0})

abbrev bare : Proved → Layer
bare y = map-Expr _ _ _ _ _ Expr Ty Access Decl Var (λ e. e.0) (λ e. e.0) (λ e. e.0) (λ e. e.0) (λ e. e.0) y

layer_formed : (y : Proved) → FormedLayer (bare y)
layer_formed (Expr-F.Num n at) = counted.number
layer_formed (Expr-F.Expr::Bool b at) = counted.bool
layer_formed (Expr-F.Var v) = counted.variable tt
layer_formed (Expr-F.Cell v i) = counted.cell tt i.1
layer_formed (Expr-F.Load a) = counted.load a.1
layer_formed (Expr-F.Neg a at) = counted.negated a.1
layer_formed (Expr-F.Not a at) = counted.inverted a.1
layer_formed (Expr-F.Cast z s a at) = counted.cast a.1
layer_formed (Expr-F.Bin o a b at) = counted.operation a.1 b.1

expr_case : (y : Proved) → Formed (roll-Expr (bare y))
expr_case y = counted.expression (subst FormedLayer (sym (out-roll-Expr (bare y))) (layer_formed y))

pub formed : (e : Expr) → Formed e
formed =
    ind-Expr Formed (λ t. Unit {0}) (λ a. Formed (out-Access a).at) (λ d. Unit {0}) (λ v. Unit {0})
    (λ x y is. subst (λ z. Formed (roll-Expr z)) is (expr_case y))
    (λ x y is. tt)
    (λ x y is. subst (λ z. Formed (out-Access (roll-Access z)).at) is y.at.1)
    (λ x y is. tt)
    (λ x y is. tt)
