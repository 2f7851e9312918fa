-- A variable that carries what is declared of its name is of the kind that the declarations give.
use Rattle.std.proofs.Common.{◌≡◌, ℕ, List, Option, Some, None, option_map, refl, ap, sym, ◌∙◌, subst}
use Rattle.jz_tree.specs.declared.expr.Expr.{Expr}
use Rattle.jz_tree.specs.declared.expr.Ty.{Ty}
use Rattle.jz_tree.specs.declared.expr.Access.{Access}
use Rattle.jz_tree.specs.declared.expr.Decl.{Decl}
use Rattle.jz_tree.specs.declared.expr.Var.{Var}
use Rattle.jz_tree.specs.declared.expr.Expr.TheOpen.{Var-F}
use Rattle.jz_tree.specs.declared.expr.Expr.TheViews.{out-Var, roll-out-Var}
use Rattle.jz_tree.specs.declared.expr.Expr.TheFolds.{fold-Ty, fold-roll-Var, map-Var}
use Rattle.jz_meaning.specs.declared.access.Kind.{Kind}
use Rattle.jz_meaning.specs.Values.{Ref, MemoryAccess, Meaning, expr_step, ty_step, access_step, decl_step, var_step, kind_or, meaning_of, ref_of, access_of, declared_kind}
use Rattle.jz_run_laws.specs.Kinds.{part_of}
use Rattle.jz_run_laws.specs.DeclaredKinds.{IsDeclared, kinds_of}
use Rattle.jz_run_laws.specs.Kept.{DeclarationsGiveKinds}

abbrev Layer : Type 0
Layer = Var-F Expr Ty Access Decl Var

abbrev kind_of_ty : Ty → Kind
kind_of_ty = fold-Ty _ _ _ _ _ expr_step ty_step access_step decl_step var_step

abbrev ref_layer : Layer → Ref
ref_layer x = var_step (map-Var _ _ _ _ _ Meaning Kind MemoryAccess Kind Ref meaning_of kind_of_ty access_of declared_kind ref_of x)

ref_is : (v : Var) → ref_of v ≡ ref_layer (out-Var v)
ref_is v = ap ref_of (sym (roll-out-Var v)) ∙ fold-roll-Var _ _ _ _ _ expr_step ty_step access_step decl_step var_step (out-Var v)

kind_of_layer : (x : Layer) (d : Option Decl) → kind_or (option_map declared_kind d) ≡ (ref_layer (record x { decl = d })).kind
kind_of_layer x None = refl
kind_of_layer x (Some d) = refl

layer_declared : (declared : List ℕ → Option Decl) (x : Layer) → x.decl ≡ declared x.name → x.cell ≡ None → IsDeclared (kinds_of declared) (ref_layer x)
layer_declared declared x e none =
    ap (part_of (kinds_of declared x.name x.copy)) none
    ∙ ap (λ d. kind_or (option_map declared_kind d)) (sym e)
    ∙ kind_of_layer x x.decl

pub declarations_give : DeclarationsGiveKinds
declarations_give declared v e none = subst (IsDeclared (kinds_of declared)) (sym (ref_is v)) (layer_declared declared (out-Var v) e none)
