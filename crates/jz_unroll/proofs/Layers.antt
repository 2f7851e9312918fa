-- What an expression, an access and a variable mean, by their outermost layers.
use Rattle.std.proofs.Common.{◌≡◌}
use Rattle.jz_tree.specs.declared.expr.Expr.{Expr}
use Rattle.jz_tree.specs.declared.expr.Ty.{Ty}
use Rattle.jz_tree.specs.declared.expr.Access.{Access}
use Rattle.jz_tree.specs.declared.expr.Decl.{Decl}
use Rattle.jz_tree.specs.declared.expr.Var.{Var}
use Rattle.jz_tree.specs.declared.expr.Expr.TheOpen.{Expr-F, Access-F, Var-F}
use Rattle.jz_tree.specs.declared.expr.Expr.TheViews.{roll-Expr, roll-Access, roll-Var}
use Rattle.jz_tree.specs.declared.expr.Expr.TheFolds.{fold-Ty, fold-Decl, fold-roll-Expr, fold-roll-Access, fold-roll-Var, map-Expr, map-Access, map-Var}
use Rattle.jz_meaning.specs.declared.access.Kind.{Kind}
use Rattle.jz_meaning.specs.Values.{Ref, MemoryAccess, Meaning, expr_step as meaning_step, ty_step, access_step as meaning_access, decl_step, var_step, meaning_of, ref_of, access_of}

abbrev pub Layer : Type 0
Layer = Expr-F Expr Ty Access Decl Var

abbrev pub kind_of_ty : Ty → Kind
kind_of_ty = fold-Ty _ _ _ _ _ meaning_step ty_step meaning_access decl_step var_step

abbrev pub kind_of_decl : Decl → Kind
kind_of_decl = fold-Decl _ _ _ _ _ meaning_step ty_step meaning_access decl_step var_step

abbrev pub meaning_layer : Layer → Meaning
meaning_layer x = meaning_step (map-Expr _ _ _ _ _ Meaning Kind MemoryAccess Kind Ref meaning_of kind_of_ty access_of kind_of_decl ref_of x)

pub meaning_is : (x : Layer) → meaning_of (roll-Expr x) ≡ meaning_layer x
meaning_is x = fold-roll-Expr _ _ _ _ _ meaning_step ty_step meaning_access decl_step var_step x

abbrev pub access_layer : Access-F Expr Ty Access Decl Var → MemoryAccess
access_layer x = meaning_access (map-Access _ _ _ _ _ Meaning Kind MemoryAccess Kind Ref meaning_of kind_of_ty access_of kind_of_decl ref_of x)

pub access_is : (x : Access-F Expr Ty Access Decl Var) → access_of (roll-Access x) ≡ access_layer x
access_is x = fold-roll-Access _ _ _ _ _ meaning_step ty_step meaning_access decl_step var_step x

pub ref_rolled : (x : Var-F Expr Ty Access Decl Var) → ref_of (roll-Var x) ≡ var_step (map-Var _ _ _ _ _ Meaning Kind MemoryAccess Kind Ref meaning_of kind_of_ty access_of kind_of_decl ref_of x)
ref_rolled x = fold-roll-Var _ _ _ _ _ meaning_step ty_step meaning_access decl_step var_step x
