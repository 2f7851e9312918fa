-- The judgement of every expression and what typing finds there.
use Rattle.std.proofs.Common.{◌≡◌, Bool, true, false, ◌&&◌, Some, None, refl, sym, ap, ◌∙◌, subst}
use Rattle.std.specs.Prelude.{option_map}
use Rattle.jz_tree.specs.Span.{Span}
use Rattle.jz_tree.specs.Size.{Size}
use Rattle.jz_tree.specs.declared.expr.Storage.{Storage}
use Rattle.jz_tree.specs.declared.expr.Expr.{Expr}
use Rattle.jz_tree.specs.declared.expr.Ty.{Ty}
use Rattle.jz_tree.specs.declared.expr.Access.{Access}
use Rattle.jz_tree.specs.declared.expr.Decl.{Decl}
use Rattle.jz_tree.specs.declared.expr.Var.{Var}
use Rattle.jz_tree.specs.declared.expr.Expr.TheOpen.{Expr-F, Ty-F, Access-F, Decl-F, Var-F}
use Rattle.jz_tree.specs.declared.expr.Expr.TheViews.{out-Expr, out-roll-Expr, roll-Expr, out-roll-Ty, roll-Ty, out-Access, roll-Access, roll-Decl, out-Var, out-roll-Var, roll-Var}
use Rattle.jz_tree.specs.declared.expr.Expr.TheFolds.{fold-Ty, fold-Access, fold-Decl, fold-Var, fold-roll-Expr, fold-roll-Ty, fold-roll-Access, fold-roll-Decl, fold-roll-Var, ind-Expr, map-Expr, map-Ty, map-Access, map-Decl, map-Var}
use Rattle.jz_type_names.specs.declared.kinds.Kind.{Kind}
use Rattle.jz_type_names.specs.declared.kinds.Declared.{Declared}
use Rattle.jz_type_names.specs.Kinds.{Known, kind_step, declared_step, known_step, inline_step, is_inline, kind_of, declared_of, known_of}
use Rattle.jz_type_sizes.specs.Typings.{Typing, typing, typing_of_access, typing_step, access_typing}
use Rattle.jz_judgement.specs.Places.{Place}
use Rattle.jz_judgement.specs.HasType as judged
use Rattle.jz_judgement.specs.HasType.{Layer, AccessLayer, Term, value, Says, LayerSays, HasType, Types, Accesses}
use Rattle.jz_judgement.proofs.Layers.{Judged, judged_as, number_judged, bool_judged, var_judged, cell_judged, access_judged, load_judged, negated_judged, inverted_judged, cast_judged, bin_judged}

-- ---- the folds of the parts
-- by what typing finds, and by what is known when the text is compiled
abbrev ty_typed : Ty → Kind
ty_typed = fold-Ty Typing Kind Typing Declared (Known × Span) typing_step kind_step access_typing declared_step (λ v. (v.decl, v.span))

abbrev ty_inline : Ty → Kind
ty_inline = fold-Ty Bool Kind Bool Declared Known inline_step kind_step (λ a. a.at) declared_step known_step

abbrev decl_typed : Decl → Declared
decl_typed = fold-Decl Typing Kind Typing Declared (Known × Span) typing_step kind_step access_typing declared_step (λ v. (v.decl, v.span))

abbrev decl_inline : Decl → Declared
decl_inline = fold-Decl Bool Kind Bool Declared Known inline_step kind_step (λ a. a.at) declared_step known_step

abbrev var_typed : Var → Known × Span
var_typed = fold-Var Typing Kind Typing Declared (Known × Span) typing_step kind_step access_typing declared_step (λ v. (v.decl, v.span))

abbrev var_inline : Var → Known
var_inline = fold-Var Bool Kind Bool Declared Known inline_step kind_step (λ a. a.at) declared_step known_step

abbrev access_inline : Access → Bool
access_inline = fold-Access Bool Kind Bool Declared Known inline_step kind_step (λ a. a.at) declared_step known_step

-- ---- what holds of each part
abbrev ExprLaw : Expr → Type 0
ExprLaw e = Judged (typing e) (HasType (value e)) (Says (value e)) (is_inline e)

abbrev AccessLaw : Access → Type 0
AccessLaw a = Judged (typing_of_access a) (Accesses (out-Access a)) (λ z. (out-Access a).size ≡ Some z) false

abbrev TyLaw : Ty → Type 0
TyLaw t = (ty_typed t ≡ kind_of t) × (ty_inline t ≡ kind_of t)

abbrev DeclLaw : Decl → Type 0
DeclLaw d = (decl_typed d ≡ declared_of d) × (decl_inline d ≡ declared_of d)

abbrev VarLaw : Var → Type 0
VarLaw v = (var_typed v ≡ (known_of v, (out-Var v).span)) × (var_inline v ≡ known_of v)

abbrev Proved : Type 0
Proved = Expr-F ((e : Expr) × ExprLaw e) ((t : Ty) × TyLaw t) ((a : Access) × AccessLaw a) ((d : Decl) × DeclLaw d) ((v : Var) × VarLaw v)

abbrev bare : Proved → Layer
bare y = map-Expr _ _ _ _ _ _ _ _ _ _ (λ e. e.0) (λ e. e.0) (λ e. e.0) (λ e. e.0) (λ e. e.0) y

-- ---- expressions
abbrev typed_layer : Layer → Typing
typed_layer x = typing_step (map-Expr _ _ _ _ _ Typing Kind Typing Declared (Known × Span) typing ty_typed typing_of_access decl_typed var_typed x)

abbrev inline_layer : Layer → Bool
inline_layer x = inline_step (map-Expr _ _ _ _ _ Bool Kind Bool Declared Known is_inline ty_inline access_inline decl_inline var_inline x)

turned : (a b : Bool) → (b && a) ≡ (a && b)
turned true true = refl
turned true false = refl
turned false true = refl
turned false false = refl

layer_judged : (y : Proved) → Judged (typed_layer (bare y)) (Types (bare y)) (LayerSays (bare y)) (inline_layer (bare y))
layer_judged (Expr-F.Num n at) = number_judged n at
layer_judged (Expr-F.Expr::Bool b at) = bool_judged b at
layer_judged (Expr-F.Var v) = var_judged v.0 (var_typed v.0) (var_inline v.0) v.1.0 v.1.1
layer_judged (Expr-F.Cell v i) = cell_judged v.0 (var_typed v.0) (typing i.0) i.0 v.1.0 i.1.agrees
layer_judged (Expr-F.Load a) = load_judged a.0 (typing_of_access a.0) a.1
layer_judged (Expr-F.Neg a at) = negated_judged a.0 at (typing a.0) (is_inline a.0) a.1
layer_judged (Expr-F.Not a at) = inverted_judged a.0 at (typing a.0) (is_inline a.0) a.1
layer_judged (Expr-F.Cast z s a at) = cast_judged z s a.0 at (typing a.0) (is_inline a.0) a.1
layer_judged (Expr-F.Bin o a b at) =
    subst (λ k. Judged (typed_layer (bare (Expr-F.Bin o a b at))) (Types (bare (Expr-F.Bin o a b at))) (LayerSays (bare (Expr-F.Bin o a b at))) k) (turned (is_inline a.0) (is_inline b.0))
    (bin_judged o a.0 b.0 at (typing a.0) (typing b.0) a.1 b.1)

layer_of : (e : Expr) (p : Place) → HasType (value e) p → Types (out-Expr e) p
layer_of e p (judged.expression h) = h

says_of : (e : Expr) (z : Size) → Says (value e) z → LayerSays (out-Expr e) z
says_of e z (judged.expression h) = h

-- from an expression's outermost form
opened : (e : Expr) (x : Layer) (t : Typing) (k : Bool) → out-Expr e ≡ x → Judged t (Types x) (LayerSays x) k → Judged t (HasType (value e)) (Says (value e)) k
opened e x t k same h =
    judged_as (λ p g. judged.expression g) (layer_of e) (λ z s. judged.expression s) (says_of e)
    (subst (λ x. Judged t (Types x) (LayerSays x) k) (sym same) h)

expr_case : (y : Proved) → ExprLaw (roll-Expr (bare y))
expr_case y =
    subst (λ t. Judged t (HasType (value (roll-Expr (bare y)))) (Says (value (roll-Expr (bare y)))) (is_inline (roll-Expr (bare y))))
    (sym (fold-roll-Expr Typing Kind Typing Declared (Known × Span) typing_step kind_step access_typing declared_step (λ v. (v.decl, v.span)) (bare y)))
    (subst (λ k. Judged (typed_layer (bare y)) (HasType (value (roll-Expr (bare y)))) (Says (value (roll-Expr (bare y)))) k)
    (sym (fold-roll-Expr Bool Kind Bool Declared Known inline_step kind_step (λ a. a.at) declared_step known_step (bare y)))
    (opened (roll-Expr (bare y)) (bare y) (typed_layer (bare y)) (inline_layer (bare y)) (out-roll-Expr (bare y)) (layer_judged y)))

-- ---- accesses
abbrev ProvedAccess : Type 0
ProvedAccess = Access-F ((e : Expr) × ExprLaw e) ((t : Ty) × TyLaw t) ((a : Access) × AccessLaw a) ((d : Decl) × DeclLaw d) ((v : Var) × VarLaw v)

abbrev bare_access : ProvedAccess → AccessLayer
bare_access y = map-Access _ _ _ _ _ Expr Ty Access Decl Var (λ e. e.0) (λ e. e.0) (λ e. e.0) (λ e. e.0) (λ e. e.0) y

access_case : (y : ProvedAccess) → AccessLaw (roll-Access (bare_access y))
access_case y =
    subst (λ t. Judged t (Accesses (bare_access y)) (λ z. (bare_access y).size ≡ Some z) false)
    (sym (fold-roll-Access Typing Kind Typing Declared (Known × Span) typing_step kind_step access_typing declared_step (λ v. (v.decl, v.span)) (bare_access y)))
    (access_judged (bare_access y) (typing y.at.0) y.at.1.agrees)

-- ---- declarations
abbrev ProvedTy : Type 0
ProvedTy = Ty-F ((e : Expr) × ExprLaw e) ((t : Ty) × TyLaw t) ((a : Access) × AccessLaw a) ((d : Decl) × DeclLaw d) ((v : Var) × VarLaw v)

abbrev TyLayer : Type 0
TyLayer = Ty-F Expr Ty Access Decl Var

kind_typed : (x : TyLayer) → kind_step (map-Ty _ _ _ _ _ Typing Kind Typing Declared (Known × Span) typing ty_typed typing_of_access decl_typed var_typed x) ≡ kind_step x
kind_typed Ty-F.Int = refl
kind_typed Ty-F.Ty::Bool = refl
kind_typed (Ty-F.Word z) = refl
kind_typed (Ty-F.Array z n) = refl

kind_inline : (x : TyLayer) → kind_step (map-Ty _ _ _ _ _ Bool Kind Bool Declared Known is_inline ty_inline access_inline decl_inline var_inline x) ≡ kind_step x
kind_inline Ty-F.Int = refl
kind_inline Ty-F.Ty::Bool = refl
kind_inline (Ty-F.Word z) = refl
kind_inline (Ty-F.Array z n) = refl

ty_plain : (x : TyLayer) → TyLaw (roll-Ty x)
ty_plain x = (
  fold-roll-Ty Typing Kind Typing Declared (Known × Span) typing_step kind_step access_typing declared_step (λ v. (v.decl, v.span)) x ∙ kind_typed x ∙ ap kind_step (sym (out-roll-Ty x)),
  fold-roll-Ty Bool Kind Bool Declared Known inline_step kind_step (λ a. a.at) declared_step known_step x ∙ kind_inline x ∙ ap kind_step (sym (out-roll-Ty x)),
)

ty_case : (y : ProvedTy) → TyLaw (roll-Ty (map-Ty _ _ _ _ _ Expr Ty Access Decl Var (λ e. e.0) (λ e. e.0) (λ e. e.0) (λ e. e.0) (λ e. e.0) y))
ty_case y = ty_plain (map-Ty _ _ _ _ _ Expr Ty Access Decl Var (λ e. e.0) (λ e. e.0) (λ e. e.0) (λ e. e.0) (λ e. e.0) y)

abbrev ProvedDecl : Type 0
ProvedDecl = Decl-F ((e : Expr) × ExprLaw e) ((t : Ty) × TyLaw t) ((a : Access) × AccessLaw a) ((d : Decl) × DeclLaw d) ((v : Var) × VarLaw v)

abbrev declaring : Storage → Kind → Declared
declaring s k = record { storage = s; kind = k }

decl_case : (y : ProvedDecl) → DeclLaw (roll-Decl (map-Decl _ _ _ _ _ Expr Ty Access Decl Var (λ e. e.0) (λ e. e.0) (λ e. e.0) (λ e. e.0) (λ e. e.0) y))
decl_case y =
    let x = map-Decl _ _ _ _ _ Expr Ty Access Decl Var (λ e. e.0) (λ e. e.0) (λ e. e.0) (λ e. e.0) (λ e. e.0) y in (
      fold-roll-Decl Typing Kind Typing Declared (Known × Span) typing_step kind_step access_typing declared_step (λ v. (v.decl, v.span)) x ∙ ap (declaring y.storage) y.ty.1.0,
      fold-roll-Decl Bool Kind Bool Declared Known inline_step kind_step (λ a. a.at) declared_step known_step x ∙ ap (declaring y.storage) y.ty.1.1,
    )

abbrev ProvedVar : Type 0
ProvedVar = Var-F ((e : Expr) × ExprLaw e) ((t : Ty) × TyLaw t) ((a : Access) × AccessLaw a) ((d : Decl) × DeclLaw d) ((v : Var) × VarLaw v)

abbrev bare_var : ProvedVar → Var-F Expr Ty Access Decl Var
bare_var y = map-Var _ _ _ _ _ Expr Ty Access Decl Var (λ e. e.0) (λ e. e.0) (λ e. e.0) (λ e. e.0) (λ e. e.0) y

abbrev typed_named : Var-F Expr Ty Access Decl Var → Known × Span
typed_named x = let m = map-Var _ _ _ _ _ Typing Kind Typing Declared (Known × Span) typing ty_typed typing_of_access decl_typed var_typed x in (m.decl, m.span)

abbrev inline_named : Var-F Expr Ty Access Decl Var → Known
inline_named x = known_step (map-Var _ _ _ _ _ Bool Kind Bool Declared Known is_inline ty_inline access_inline decl_inline var_inline x)

abbrev declared : Var-F Expr Ty Access Decl Var → Known
declared x = option_map declared_of x.decl

named_typed : (y : ProvedVar) → typed_named (bare_var y) ≡ (declared (bare_var y), y.span)
named_typed y = elim y.decl as (λ d. typed_named (bare_var (record y { decl = d })) ≡ (declared (bare_var (record y { decl = d })), y.span)) [ None ↦ refl | Some d ↦ ap (λ z. (Some z, y.span)) d.1.0 ]

named_inline : (y : ProvedVar) → inline_named (bare_var y) ≡ declared (bare_var y)
named_inline y = elim y.decl as (λ d. inline_named (bare_var (record y { decl = d })) ≡ declared (bare_var (record y { decl = d }))) [ None ↦ refl | Some d ↦ ap (λ (z : Declared). Some z) d.1.1 ]

var_case : (y : ProvedVar) → VarLaw (roll-Var (bare_var y))
var_case y = (
  fold-roll-Var Typing Kind Typing Declared (Known × Span) typing_step kind_step access_typing declared_step (λ v. (v.decl, v.span)) (bare_var y)
      ∙ named_typed y ∙ ap (λ x. (declared x, x.span)) (sym (out-roll-Var (bare_var y))),
  fold-roll-Var Bool Kind Bool Declared Known inline_step kind_step (λ a. a.at) declared_step known_step (bare_var y)
      ∙ named_inline y ∙ ap declared (sym (out-roll-Var (bare_var y))),
)

-- ---- all
pub judged_of : (e : Expr) → Judged (typing e) (HasType (value e)) (Says (value e)) (is_inline e)
judged_of =
    ind-Expr ExprLaw TyLaw AccessLaw DeclLaw VarLaw
    (λ x y is. subst (λ z. ExprLaw (roll-Expr z)) is (expr_case y))
    (λ x y is. subst (λ z. TyLaw (roll-Ty z)) is (ty_case y))
    (λ x y is. subst (λ z. AccessLaw (roll-Access z)) is (access_case y))
    (λ x y is. subst (λ z. DeclLaw (roll-Decl z)) is (decl_case y))
    (λ x y is. subst (λ z. VarLaw (roll-Var z)) is (var_case y))
