-- What is no word has no size.
use Rattle.std.proofs.Common.{◌≡◌, Bool, true, false, ◌||◌, Option, Some, None, refl, sym, ap, ap₂, ◌∙◌, subst}
use Rattle.std.proofs.lemmas.Bool.{true≢false}
use Rattle.std.specs.Prelude.{is_some}
use Rattle.std.specs.Option.{option_or}
use Rattle.jz_tree.specs.Span.{Span}
use Rattle.jz_tree.specs.Size.{Size}
use Rattle.jz_tree.specs.declared.expr.Storage.{Storage}
use Rattle.jz_tree.specs.declared.expr.Expr.{Expr}
use Rattle.jz_tree.specs.declared.expr.Ty.{Ty}
use Rattle.jz_tree.specs.declared.expr.Access.{Access}
use Rattle.jz_tree.specs.declared.expr.Decl.{Decl}
use Rattle.jz_tree.specs.declared.expr.Var.{Var}
use Rattle.jz_tree.specs.declared.expr.Expr.TheOpen.{Expr-F, Ty-F, Decl-F, Var-F}
use Rattle.jz_tree.specs.declared.expr.Expr.TheViews.{roll-Expr, roll-Ty, roll-Decl, roll-Var}
use Rattle.jz_tree.specs.declared.expr.Expr.TheFolds.{fold-Ty, fold-Access, fold-Decl, fold-Var, fold-roll-Expr, fold-roll-Ty, fold-roll-Decl, fold-roll-Var, ind-Expr, map-Expr, map-Ty, map-Decl, map-Var}
use Rattle.jz_type_names.specs.declared.kinds.Kind.{Kind}
use Rattle.jz_type_names.specs.declared.kinds.Declared.{Declared}
use Rattle.jz_type_names.specs.Kinds.{Known, kind_step, declared_step}
use Rattle.jz_type_sizes.specs.declared.operators.Group.{Group}
use Rattle.jz_type_sizes.specs.declared.operators.Group.TheVariants as group
use Rattle.jz_type_sizes.specs.Wants.{known_size, cell_size}
use Rattle.jz_type_sizes.specs.Operators.{group_of, group_size}
use Rattle.jz_type_sizes.specs.Typings.{Typing, typing, typing_of_access, typing_step, access_typing}
use Rattle.jz_type_sizes.specs.Worded.{is_worded, worded_step, worded_group}
use Rattle.jz_judgement.specs.HasType.{Layer}

abbrev ty_typed : Ty → Kind
ty_typed = fold-Ty Typing Kind Typing Declared (Known × Span) typing_step kind_step access_typing declared_step (λ v. (v.decl, v.span))

abbrev decl_typed : Decl → Declared
decl_typed = fold-Decl Typing Kind Typing Declared (Known × Span) typing_step kind_step access_typing declared_step (λ v. (v.decl, v.span))

abbrev var_typed : Var → Known × Span
var_typed = fold-Var Typing Kind Typing Declared (Known × Span) typing_step kind_step access_typing declared_step (λ v. (v.decl, v.span))

abbrev ty_worded : Ty → Kind
ty_worded = fold-Ty Bool Kind Bool Declared Known worded_step kind_step (λ a. a.at) declared_step (λ v. v.decl)

abbrev access_worded : Access → Bool
access_worded = fold-Access Bool Kind Bool Declared Known worded_step kind_step (λ a. a.at) declared_step (λ v. v.decl)

abbrev decl_worded : Decl → Declared
decl_worded = fold-Decl Bool Kind Bool Declared Known worded_step kind_step (λ a. a.at) declared_step (λ v. v.decl)

abbrev var_worded : Var → Known
var_worded = fold-Var Bool Kind Bool Declared Known worded_step kind_step (λ a. a.at) declared_step (λ v. v.decl)

abbrev ExprLaw : Expr → Type 0
ExprLaw e = is_worded e ≡ false → (typing e).form.size ≡ None

abbrev TyLaw : Ty → Type 0
TyLaw t = ty_typed t ≡ ty_worded t

abbrev DeclLaw : Decl → Type 0
DeclLaw d = decl_typed d ≡ decl_worded d

abbrev VarLaw : Var → Type 0
VarLaw v = (var_typed v).0 ≡ var_worded v

abbrev AccessLaw : Access → Type 0
AccessLaw a = Unit {0}

abbrev Proved : Type 0
Proved = Expr-F ((e : Expr) × ExprLaw e) ((t : Ty) × TyLaw t) ((a : Access) × AccessLaw a) ((d : Decl) × DeclLaw d) ((v : Var) × VarLaw v)

abbrev bare : Proved → Layer
bare y = map-Expr _ _ _ _ _ _ _ _ _ _ (λ e. e.0) (λ e. e.0) (λ e. e.0) (λ e. e.0) (λ e. e.0) y

abbrev typed_layer : Layer → Typing
typed_layer x = typing_step (map-Expr _ _ _ _ _ Typing Kind Typing Declared (Known × Span) typing ty_typed typing_of_access decl_typed var_typed x)

abbrev worded_layer : Layer → Bool
worded_layer x = worded_step (map-Expr _ _ _ _ _ Bool Kind Bool Declared Known is_worded ty_worded access_worded decl_worded var_worded x)

no_size : (s : Option Size) → is_some s ≡ false → s ≡ None
no_size None h = refl
no_size (Some z) h = absurd (true≢false h)

neither : (a b : Bool) → (b || a) ≡ false → (a ≡ false) × (b ≡ false)
neither a true h = absurd (true≢false h)
neither a false h = (h, refl)

group_none : (g : Group) (a b : Bool) (x y : Option Size) → (a ≡ false → x ≡ None) → (b ≡ false → y ≡ None) → worded_group g a b ≡ false → group_size g x y ≡ None
group_none group.Logic a b x y f g h = refl
group_none group.Compare a b x y f g h = refl
group_none group.Shift a b x y f g h = f h
group_none group.Arith a b x y f g h = ap₂ option_or (f (neither a b h).0) (g (neither a b h).1)

layer_none : (y : Proved) → worded_layer (bare y) ≡ false → (typed_layer (bare y)).form.size ≡ None
layer_none (Expr-F.Num n at) h = refl
layer_none (Expr-F.Expr::Bool b at) h = refl
layer_none (Expr-F.Var v) h = ap known_size v.1 ∙ no_size (known_size (var_worded v.0)) h
layer_none (Expr-F.Cell v i) h = ap cell_size v.1 ∙ no_size (cell_size (var_worded v.0)) h
layer_none (Expr-F.Load a) h = absurd (true≢false h)
layer_none (Expr-F.Neg a at) h = a.1 h
layer_none (Expr-F.Not a at) h = a.1 h
layer_none (Expr-F.Cast z s a at) h = absurd (true≢false h)
layer_none (Expr-F.Bin o a b at) h =
    group_none (group_of o) (is_worded a.0) (is_worded b.0) (typing a.0).form.size (typing b.0).form.size a.1 b.1 h

expr_case : (y : Proved) → ExprLaw (roll-Expr (bare y))
expr_case y = λ h.
    ap (λ m. m.form.size) (fold-roll-Expr Typing Kind Typing Declared (Known × Span) typing_step kind_step access_typing declared_step (λ v. (v.decl, v.span)) (bare y))
    ∙ layer_none y (sym (fold-roll-Expr Bool Kind Bool Declared Known worded_step kind_step (λ a. a.at) declared_step (λ v. v.decl) (bare y)) ∙ h)

-- ---- declarations
abbrev TyLayer : Type 0
TyLayer = Ty-F Expr Ty Access Decl Var

kind_same : (x : TyLayer) → kind_step (map-Ty _ _ _ _ _ Typing Kind Typing Declared (Known × Span) typing ty_typed typing_of_access decl_typed var_typed x)
    ≡ kind_step (map-Ty _ _ _ _ _ Bool Kind Bool Declared Known is_worded ty_worded access_worded decl_worded var_worded x)
kind_same Ty-F.Int = refl
kind_same Ty-F.Ty::Bool = refl
kind_same (Ty-F.Word z) = refl
kind_same (Ty-F.Array z n) = refl

ty_case : (x : TyLayer) → TyLaw (roll-Ty x)
ty_case x =
    fold-roll-Ty Typing Kind Typing Declared (Known × Span) typing_step kind_step access_typing declared_step (λ v. (v.decl, v.span)) x
    ∙ kind_same x ∙ sym (fold-roll-Ty Bool Kind Bool Declared Known worded_step kind_step (λ a. a.at) declared_step (λ v. v.decl) x)

abbrev ProvedTy : Type 0
ProvedTy = Ty-F ((e : Expr) × ExprLaw e) ((t : Ty) × TyLaw t) ((a : Access) × AccessLaw a) ((d : Decl) × DeclLaw d) ((v : Var) × VarLaw v)

abbrev ProvedDecl : Type 0
ProvedDecl = Decl-F ((e : Expr) × ExprLaw e) ((t : Ty) × TyLaw t) ((a : Access) × AccessLaw a) ((d : Decl) × DeclLaw d) ((v : Var) × VarLaw v)

abbrev bare_decl : ProvedDecl → Decl-F Expr Ty Access Decl Var
bare_decl y = map-Decl _ _ _ _ _ Expr Ty Access Decl Var (λ e. e.0) (λ e. e.0) (λ e. e.0) (λ e. e.0) (λ e. e.0) y

abbrev declaring : Storage → Kind → Declared
declaring s k = record { storage = s; kind = k }

decl_case : (y : ProvedDecl) → DeclLaw (roll-Decl (bare_decl y))
decl_case y =
    fold-roll-Decl Typing Kind Typing Declared (Known × Span) typing_step kind_step access_typing declared_step (λ v. (v.decl, v.span)) (bare_decl y)
    ∙ ap (declaring y.storage) y.ty.1
    ∙ sym (fold-roll-Decl Bool Kind Bool Declared Known worded_step kind_step (λ a. a.at) declared_step (λ v. v.decl) (bare_decl y))

abbrev ProvedVar : Type 0
ProvedVar = Var-F ((e : Expr) × ExprLaw e) ((t : Ty) × TyLaw t) ((a : Access) × AccessLaw a) ((d : Decl) × DeclLaw d) ((v : Var) × VarLaw v)

abbrev bare_var : ProvedVar → Var-F Expr Ty Access Decl Var
bare_var y = map-Var _ _ _ _ _ Expr Ty Access Decl Var (λ e. e.0) (λ e. e.0) (λ e. e.0) (λ e. e.0) (λ e. e.0) y

abbrev typed_named : Var-F Expr Ty Access Decl Var → Known
typed_named x = (map-Var _ _ _ _ _ Typing Kind Typing Declared (Known × Span) typing ty_typed typing_of_access decl_typed var_typed x).decl

abbrev worded_named : Var-F Expr Ty Access Decl Var → Known
worded_named x = (map-Var _ _ _ _ _ Bool Kind Bool Declared Known is_worded ty_worded access_worded decl_worded var_worded x).decl

named_same : (y : ProvedVar) → typed_named (bare_var y) ≡ worded_named (bare_var y)
named_same y =
    elim y.decl as (λ d. typed_named (bare_var (record y { decl = d })) ≡ worded_named (bare_var (record y { decl = d })))
    [ None ↦ refl | Some d ↦ ap (λ (z : Declared). Some z) d.1 ]

var_case : (y : ProvedVar) → VarLaw (roll-Var (bare_var y))
var_case y =
    ap (λ m. m.0) (fold-roll-Var Typing Kind Typing Declared (Known × Span) typing_step kind_step access_typing declared_step (λ v. (v.decl, v.span)) (bare_var y))
    ∙ named_same y
    ∙ sym (fold-roll-Var Bool Kind Bool Declared Known worded_step kind_step (λ a. a.at) declared_step (λ v. v.decl) (bare_var y))

pub no_word_no_size : (e : Expr) → is_worded e ≡ false → (typing e).form.size ≡ None
no_word_no_size =
    ind-Expr ExprLaw TyLaw AccessLaw DeclLaw VarLaw
    (λ x y is. subst (λ z. ExprLaw (roll-Expr z)) is (expr_case y))
    (λ x y is. ty_case x)
    (λ x y is. tt)
    (λ x y is. subst (λ z. DeclLaw (roll-Decl z)) is (decl_case y))
    (λ x y is. subst (λ z. VarLaw (roll-Var z)) is (var_case y))
