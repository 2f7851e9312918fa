-- What typing takes for a word, by the outermost form.
use Rattle.std.proofs.Common.{◌≡◌, Option, Some, None, Bool, true, false, refl, ap, sym, ◌∙◌}
use Rattle.std.specs.Prelude.{is_some, option_map}
use Rattle.jz_tree.specs.declared.expr.Storage.{Storage}
use Rattle.jz_tree.specs.declared.expr.Expr.{Expr}
use Rattle.jz_tree.specs.declared.expr.Ty.{Ty}
use Rattle.jz_tree.specs.declared.expr.Access.{Access}
use Rattle.jz_tree.specs.declared.expr.Decl.{Decl}
use Rattle.jz_tree.specs.declared.expr.Var.{Var}
use Rattle.jz_tree.specs.declared.expr.Expr.TheOpen.{Expr-F, Ty-F, Var-F}
use Rattle.jz_tree.specs.declared.expr.Expr.TheViews.{roll-Expr, roll-Var, out-Expr, out-Ty, out-Var, roll-out-Expr, roll-out-Ty, roll-out-Var}
use Rattle.jz_tree.specs.declared.expr.Expr.TheFolds.{fold-Ty, fold-Access, fold-Decl, fold-Var, fold-roll-Expr, fold-roll-Ty, fold-roll-Decl, fold-roll-Var, map-Expr, map-Ty, map-Var}
use Rattle.jz_type_names.specs.declared.kinds.Kind.{Kind}
use Rattle.jz_type_names.specs.declared.kinds.Declared.{Declared}
use Rattle.jz_type_names.specs.Kinds.{Known, kind_step, kind_of, declared_of, known_of, declared_step}
use Rattle.jz_type_sizes.specs.Wants.{known_size, cell_size}
use Rattle.jz_type_sizes.specs.Operators.{group_of}
use Rattle.jz_type_sizes.specs.Worded.{worded_group, worded_step, is_worded}
use Rattle.jz_judgement.specs.HasType.{Layer}

-- ---- declarations
abbrev ty_worded : Ty → Kind
ty_worded = fold-Ty Bool Kind Bool Declared Known worded_step kind_step (λ a. a.at) declared_step (λ v. v.decl)

abbrev access_worded : Access → Bool
access_worded = fold-Access Bool Kind Bool Declared Known worded_step kind_step (λ a. a.at) declared_step (λ v. v.decl)

abbrev decl_worded : Decl → Declared
decl_worded = fold-Decl Bool Kind Bool Declared Known worded_step kind_step (λ a. a.at) declared_step (λ v. v.decl)

abbrev var_worded : Var → Known
var_worded = fold-Var Bool Kind Bool Declared Known worded_step kind_step (λ a. a.at) declared_step (λ v. v.decl)

kind_same : (x : Ty-F Expr Ty Access Decl Var) → kind_step (map-Ty _ _ _ _ _ Bool Kind Bool Declared Known is_worded ty_worded access_worded decl_worded var_worded x) ≡ kind_step x
kind_same Ty-F.Int = refl
kind_same Ty-F.Ty::Bool = refl
kind_same (Ty-F.Word z) = refl
kind_same (Ty-F.Array z n) = refl

ty_same : (t : Ty) → ty_worded t ≡ kind_of t
ty_same t = ap ty_worded (sym (roll-out-Ty t)) ∙ fold-roll-Ty Bool Kind Bool Declared Known worded_step kind_step (λ a. a.at) declared_step (λ v. v.decl) (out-Ty t) ∙ kind_same (out-Ty t)

abbrev declaring : Storage → Kind → Declared
declaring s k = record { storage = s; kind = k }

decl_same : (d : Decl) → decl_worded d ≡ declared_of d
decl_same d =
    fold-roll-Decl Bool Kind Bool Declared Known worded_step kind_step (λ a. a.at) declared_step (λ v. v.decl) (record { storage = d.storage; ty = d.ty })
    ∙ ap (declaring d.storage) (ty_same d.ty)

some_same : (x : Var-F Expr Ty Access Decl Var) (o : Option Decl)
    → (map-Var _ _ _ _ _ Bool Kind Bool Declared Known is_worded ty_worded access_worded decl_worded var_worded (record x { decl = o })).decl ≡ option_map declared_of o
some_same x None = refl
some_same x (Some d) = ap (λ (k : Declared). Some k) (decl_same d)

var_same : (v : Var) → var_worded v ≡ known_of v
var_same v =
    ap var_worded (sym (roll-out-Var v)) ∙ fold-roll-Var Bool Kind Bool Declared Known worded_step kind_step (λ a. a.at) declared_step (λ v. v.decl) (out-Var v)
    ∙ some_same (out-Var v) (out-Var v).decl

-- ---- forms
abbrev pub worded_layer : Layer → Bool
worded_layer (Expr-F.Num n at) = false
worded_layer (Expr-F.Expr::Bool b at) = false
worded_layer (Expr-F.Var v) = is_some (known_size (known_of v))
worded_layer (Expr-F.Cell v i) = is_some (cell_size (known_of v))
worded_layer (Expr-F.Load a) = true
worded_layer (Expr-F.Neg a at) = is_worded a
worded_layer (Expr-F.Not a at) = is_worded a
worded_layer (Expr-F.Cast z s a at) = true
worded_layer (Expr-F.Bin o a b at) = worded_group (group_of o) (is_worded a) (is_worded b)

step_is : (x : Layer) → worded_step (map-Expr _ _ _ _ _ Bool Kind Bool Declared Known is_worded ty_worded access_worded decl_worded var_worded x) ≡ worded_layer x
step_is (Expr-F.Num n at) = refl
step_is (Expr-F.Expr::Bool b at) = refl
step_is (Expr-F.Var v) = ap (λ k. is_some (known_size k)) (var_same v)
step_is (Expr-F.Cell v i) = ap (λ k. is_some (cell_size k)) (var_same v)
step_is (Expr-F.Load a) = refl
step_is (Expr-F.Neg a at) = refl
step_is (Expr-F.Not a at) = refl
step_is (Expr-F.Cast z s a at) = refl
step_is (Expr-F.Bin o a b at) = refl

pub worded_out : (e : Expr) → is_worded e ≡ worded_layer (out-Expr e)
worded_out e =
    ap is_worded (sym (roll-out-Expr e)) ∙ fold-roll-Expr Bool Kind Bool Declared Known worded_step kind_step (λ a. a.at) declared_step (λ v. v.decl) (out-Expr e) ∙ step_is (out-Expr e)
