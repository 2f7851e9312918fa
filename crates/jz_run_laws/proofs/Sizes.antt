-- The size that evaluation gives an expression by itself, and the one that typing finds.
use Rattle.std.proofs.Common.{◌≡◌, Bool, true, Option, Some, None, refl, sym, ap, ap₂, ◌∙◌, subst}
use Rattle.std.proofs.lemmas.Bool.{false≢true}
use Rattle.std.specs.Prelude.{◌↔◌, ℤ, pos, negsuc, option_map}
use Rattle.jz_tree.specs.Span.{Span}
use Rattle.jz_tree.specs.Size.{Size}
use Rattle.jz_tree.specs.declared.expr.BinOp.{BinOp}
use Rattle.jz_tree.specs.declared.expr.BinOp.TheVariants as op
use Rattle.jz_tree.specs.declared.expr.Storage.{Storage}
use Rattle.jz_tree.specs.declared.expr.Expr.{Expr}
use Rattle.jz_tree.specs.declared.expr.Ty.{Ty}
use Rattle.jz_tree.specs.declared.expr.Access.{Access}
use Rattle.jz_tree.specs.declared.expr.Decl.{Decl}
use Rattle.jz_tree.specs.declared.expr.Var.{Var}
use Rattle.jz_tree.specs.declared.expr.Expr.TheOpen.{Expr-F, Ty-F, Access-F, Decl-F, Var-F}
use Rattle.jz_tree.specs.declared.expr.Expr.TheViews.{out-Expr, out-roll-Expr, roll-Expr, out-Ty, out-roll-Ty, roll-Ty, out-Access, out-roll-Access, roll-Access, roll-Decl, out-roll-Var, roll-Var}
use Rattle.jz_tree.specs.declared.expr.Expr.TheFolds.{fold-Ty, fold-Decl, fold-Var, fold-roll-Expr, fold-roll-Ty, fold-roll-Access, fold-roll-Decl, fold-roll-Var, ind-Expr, ind-Access, ind-Var, map-Expr, map-Ty, map-Access, map-Decl, map-Var}
use Rattle.jz_type_names.specs.declared.kinds.Kind as known
use Rattle.jz_type_names.specs.declared.kinds.Kind.TheVariants as scope
use Rattle.jz_type_names.specs.declared.kinds.Declared.{Declared}
use Rattle.jz_type_names.specs.Kinds.{Known, kind_step, declared_step, kind_of, declared_of, known_of, number_layer}
use Rattle.jz_type_sizes.specs.Wants.{known_size, cell_size}
use Rattle.jz_type_sizes.specs.Operators.{group_of, group_size}
use Rattle.jz_type_sizes.specs.Typings.{Typing, typing, typing_of_access, typing_step, access_typing}
use Rattle.jz_judgement.specs.Places.{Place, truth, integer, word, count_place}
use Rattle.jz_judgement.specs.HasType as judged
use Rattle.jz_judgement.specs.HasType.{Layer, Term, value, HasType, Says, LayerSays, Types, Operates}
use Rattle.jz_judgement.proofs.Expressions.{judged_of}
use Rattle.jz_judgement.proofs.Variables.{word_sized, array_sized}
use Rattle.jz_meaning.specs.declared.access.Kind as meant
use Rattle.jz_meaning.specs.Values.{Meaning, MemoryAccess, Ref, meaning_of, ref_of, access_of, declared_kind, own_size, size_of_operation, expr_step, ty_step, access_step, decl_step, var_step, array_kind}
use Rattle.jz_run_laws.specs.Counted as counted
use Rattle.jz_run_laws.specs.Counted.{TyLayer, is_count, counted_type, counted_decl, is_counted, IsCounted, Counted, Each, EachLayer}
use Rattle.jz_run_laws.proofs.Placed.{operation_says}
use Rattle.jz_run_laws.proofs.SameKinds as same
use Rattle.jz_run_laws.proofs.SameKinds.{SameKind, SameKnown, known_one, known_cells}

-- ---- operators
pub operation_size : (o : BinOp) (a b : Option Size) → size_of_operation o a b ≡ group_size (group_of o) a b
operation_size op.OrElse a b = refl
operation_size op.AndThen a b = refl
operation_size op.Eq a b = refl
operation_size op.Ne a b = refl
operation_size op.Lt a b = refl
operation_size op.Le a b = refl
operation_size op.Gt a b = refl
operation_size op.Ge a b = refl
operation_size op.LtS a b = refl
operation_size op.LeS a b = refl
operation_size op.GtS a b = refl
operation_size op.GeS a b = refl
operation_size op.Shl a b = refl
operation_size op.Shr a b = refl
operation_size op.Sar a b = refl
operation_size op.Rol a b = refl
operation_size op.Ror a b = refl
operation_size op.Or a b = refl
operation_size op.Xor a b = refl
operation_size op.And a b = refl
operation_size op.Add a b = refl
operation_size op.Sub a b = refl
operation_size op.Mul a b = refl
operation_size op.Div a b = refl
operation_size op.Rem a b = refl
operation_size op.DivS a b = refl
operation_size op.RemS a b = refl

-- each operand has a type
pub left_type : (o : BinOp) (a b : Term) (p : Place) → Operates o a b p → (q : Place) × HasType a q
left_type o a b p (judged.arithmetic g t k x y) = (p, x)
left_type o a b p (judged.carry s t x y) = (p, x)
left_type o a b p (judged.shift g t k x y) = (p, x)
left_type o a b p (judged.integers g k x y) = (integer, x)
left_type o a b p (judged.words z g s x y) = (word z, x)
left_type o a b p (judged.logic g x y) = (truth, x)

pub right_type : (o : BinOp) (a b : Term) (p : Place) → Operates o a b p → (q : Place) × HasType b q
right_type o a b p (judged.arithmetic g t k x y) = (p, y)
right_type o a b p (judged.carry s t x y) = (truth, y)
right_type o a b p (judged.shift g t k x y) = (count_place p, y)
right_type o a b p (judged.integers g k x y) = (integer, y)
right_type o a b p (judged.words z g s x y) = (word z, y)
right_type o a b p (judged.logic g x y) = (truth, y)

-- ---- the folds of the parts
abbrev pub ty_typed : Ty → known.Kind
ty_typed = fold-Ty Typing known.Kind Typing Declared (Known × Span) typing_step kind_step access_typing declared_step (λ v. (v.decl, v.span))

abbrev pub decl_typed : Decl → Declared
decl_typed = fold-Decl Typing known.Kind Typing Declared (Known × Span) typing_step kind_step access_typing declared_step (λ v. (v.decl, v.span))

abbrev pub var_typed : Var → Known × Span
var_typed = fold-Var Typing known.Kind Typing Declared (Known × Span) typing_step kind_step access_typing declared_step (λ v. (v.decl, v.span))

abbrev ty_meant : Ty → meant.Kind
ty_meant = fold-Ty Meaning meant.Kind MemoryAccess meant.Kind Ref expr_step ty_step access_step decl_step var_step

-- ---- what holds of each part
abbrev SizeLaw : Expr → Type 0
SizeLaw e = (p : Place) → Counted e → HasType (value e) p → own_size e ≡ (typing e).form.size

-- what says a size has it
abbrev SaidLaw : Expr → Type 0
SaidLaw e = (p : Place) → HasType (value e) p → (z : Size) → Says (value e) z → (typing e).form.size ≡ Some z

abbrev ExprLaw : Expr → Type 0
ExprLaw e = ((meaning_of e).literal ≡ number_layer (out-Expr e)) × SizeLaw e × SaidLaw e

abbrev AccessLaw : Access → Type 0
AccessLaw a = ((access_of a).size ≡ (typing_of_access a).form.size) × ((typing_of_access a).form.size ≡ (out-Access a).size)

abbrev TyLaw : Ty → Type 0
TyLaw t = (ty_typed t ≡ kind_of t) × (counted_type (out-Ty t) ≡ true → SameKind (kind_of t) (ty_meant t))

abbrev DeclLaw : Decl → Type 0
DeclLaw d = (decl_typed d ≡ declared_of d) × (counted_type (out-Ty d.ty) ≡ true → SameKind (kind_of d.ty) (declared_kind d))

abbrev VarLaw : Var → Type 0
VarLaw v = ((var_typed v).0 ≡ known_of v) × (is_counted v ≡ true → SameKnown (known_of v) (ref_of v).kind)

abbrev Proved : Type 0
Proved = Expr-F ((e : Expr) × ExprLaw e) ((t : Ty) × TyLaw t) ((a : Access) × AccessLaw a) ((d : Decl) × DeclLaw d) ((v : Var) × VarLaw v)

abbrev bare : Proved → Layer
bare y = map-Expr _ _ _ _ _ _ _ _ _ _ (λ e. e.0) (λ e. e.0) (λ e. e.0) (λ e. e.0) (λ e. e.0) y

-- ---- expressions
abbrev pub typed_layer : Layer → Typing
typed_layer x = typing_step (map-Expr _ _ _ _ _ Typing known.Kind Typing Declared (Known × Span) typing ty_typed typing_of_access decl_typed var_typed x)

abbrev pub meant_layer : Layer → Meaning
meant_layer x = expr_step (map-Expr _ _ _ _ _ Meaning meant.Kind MemoryAccess meant.Kind Ref meaning_of ty_meant access_of declared_kind ref_of x)

literal_layer : (x : Layer) → (meant_layer x).literal ≡ number_layer x
literal_layer (Expr-F.Num n at) = refl
literal_layer (Expr-F.Expr::Bool b at) = refl
literal_layer (Expr-F.Var v) = refl
literal_layer (Expr-F.Cell v i) = refl
literal_layer (Expr-F.Load a) = refl
literal_layer (Expr-F.Neg a at) = refl
literal_layer (Expr-F.Not a at) = refl
literal_layer (Expr-F.Cast z s a at) = refl
literal_layer (Expr-F.Bin o a b at) = refl

abbrev pub CountedLayer : Layer → Type 0
CountedLayer = EachLayer IsCounted

layer_size : (y : Proved) (p : Place) → CountedLayer (bare y) → Types (bare y) p → (meant_layer (bare y)).size ≡ (typed_layer (bare y)).form.size
layer_size (Expr-F.Num n at) p c t = refl
layer_size (Expr-F.Expr::Bool b at) p c t = refl
layer_size (Expr-F.Var v) p (counted.variable h) (judged.variable g) =
    known_one (known_of v.0) (ref_of v.0).kind p (v.1.1 h) g ∙ ap known_size (sym v.1.0)
layer_size (Expr-F.Cell v i) p (counted.cell h j) (judged.cell z g w x) =
    known_cells (known_of v.0) (ref_of v.0).kind z (v.1.1 h) g ∙ ap cell_size (sym v.1.0)
layer_size (Expr-F.Load a) p c t = a.1.0
layer_size (Expr-F.Neg a at) p (counted.negated c) (judged.negated k t) = a.1.1 p c t
layer_size (Expr-F.Not a at) p (counted.inverted c) (judged.inverted t) = a.1.1 p c t
layer_size (Expr-F.Cast z s a at) p c t = refl
layer_size (Expr-F.Bin o a b at) p (counted.operation c d) (judged.operation t) =
    operation_size o (own_size a.0) (own_size b.0)
    ∙ ap₂ (group_size (group_of o))
    (a.1.1 (left_type o (value a.0) (value b.0) p t).0 c (left_type o (value a.0) (value b.0) p t).1)
    (b.1.1 (right_type o (value a.0) (value b.0) p t).0 d (right_type o (value a.0) (value b.0) p t).1)

no_number : {n : ℤ} {at : Span} {z : Size} → LayerSays (Expr-F.Num n at) z → ⊥
no_number s = elim s [ ]

no_bool : {b : Bool} {at : Span} {z : Size} → LayerSays (Expr-F.Expr::Bool b at) z → ⊥
no_bool s = elim s [ ]

layer_said : (y : Proved) (p : Place) (z : Size) → Types (bare y) p → LayerSays (bare y) z → (typed_layer (bare y)).form.size ≡ Some z
layer_said (Expr-F.Num n at) p z t s = absurd (no_number s)
layer_said (Expr-F.Expr::Bool b at) p z t s = absurd (no_bool s)
layer_said (Expr-F.Var v) p z t (judged.variable h) = ap known_size v.1.0 ∙ word_sized z (known_of v.0) h
layer_said (Expr-F.Cell v i) p z t (judged.cell h) = ap cell_size v.1.0 ∙ array_sized z (known_of v.0) h
layer_said (Expr-F.Load a) p z t (judged.load h) = a.1.1 ∙ h
layer_said (Expr-F.Neg a at) p z (judged.negated k t) (judged.negated s) = a.1.2 p t z s
layer_said (Expr-F.Not a at) p z (judged.inverted t) (judged.inverted s) = a.1.2 p t z s
layer_said (Expr-F.Cast x sign a at) p z t judged.cast = refl
layer_said (Expr-F.Bin o a b at) p z (judged.operation t) (judged.operation s) =
    operation_says o a.0 b.0 p z t
    (a.1.2 (left_type o (value a.0) (value b.0) p t).0 (left_type o (value a.0) (value b.0) p t).1 z)
    (b.1.2 (right_type o (value a.0) (value b.0) p t).0 (right_type o (value a.0) (value b.0) p t).1 z) s

says_of : (e : Expr) (z : Size) → Says (value e) z → LayerSays (out-Expr e) z
says_of e z (judged.expression h) = h

pub types_of : (e : Expr) (p : Place) → HasType (value e) p → Types (out-Expr e) p
types_of e p (judged.expression h) = h

pub each_of : {P : Var → Type 0} (e : Expr) → Each P e → EachLayer P (out-Expr e)
each_of e (counted.expression h) = h

pub counted_of : (e : Expr) → Counted e → CountedLayer (out-Expr e)
counted_of e h = each_of e h

expr_case : (y : Proved) → ExprLaw (roll-Expr (bare y))
expr_case y = (
  ap (λ m. m.literal) (fold-roll-Expr Meaning meant.Kind MemoryAccess meant.Kind Ref expr_step ty_step access_step decl_step var_step (bare y))
      ∙ literal_layer (bare y) ∙ ap number_layer (sym (out-roll-Expr (bare y))),
  λ p c t.
      ap (λ m. m.size) (fold-roll-Expr Meaning meant.Kind MemoryAccess meant.Kind Ref expr_step ty_step access_step decl_step var_step (bare y))
      ∙ layer_size y p (subst CountedLayer (out-roll-Expr (bare y)) (counted_of (roll-Expr (bare y)) c))
      (subst (λ x. Types x p) (out-roll-Expr (bare y)) (types_of (roll-Expr (bare y)) p t))
      ∙ sym (ap (λ m. m.form.size) (fold-roll-Expr Typing known.Kind Typing Declared (Known × Span) typing_step kind_step access_typing declared_step (λ v. (v.decl, v.span)) (bare y))),
  λ p t z s.
      ap (λ m. m.form.size) (fold-roll-Expr Typing known.Kind Typing Declared (Known × Span) typing_step kind_step access_typing declared_step (λ v. (v.decl, v.span)) (bare y))
      ∙ layer_said y p z (subst (λ x. Types x p) (out-roll-Expr (bare y)) (types_of (roll-Expr (bare y)) p t))
      (subst (λ x. LayerSays x z) (out-roll-Expr (bare y)) (says_of (roll-Expr (bare y)) z s)),
)

-- ---- accesses
abbrev ProvedAccess : Type 0
ProvedAccess = Access-F ((e : Expr) × ExprLaw e) ((t : Ty) × TyLaw t) ((a : Access) × AccessLaw a) ((d : Decl) × DeclLaw d) ((v : Var) × VarLaw v)

abbrev bare_access : ProvedAccess → Access-F Expr Ty Access Decl Var
bare_access y = map-Access _ _ _ _ _ Expr Ty Access Decl Var (λ e. e.0) (λ e. e.0) (λ e. e.0) (λ e. e.0) (λ e. e.0) y

access_case : (y : ProvedAccess) → AccessLaw (roll-Access (bare_access y))
access_case y =
    let typed = fold-roll-Access Typing known.Kind Typing Declared (Known × Span) typing_step kind_step access_typing declared_step (λ v. (v.decl, v.span)) (bare_access y) in (
      ap (λ m. m.size) (fold-roll-Access Meaning meant.Kind MemoryAccess meant.Kind Ref expr_step ty_step access_step decl_step var_step (bare_access y))
          ∙ sym (ap (λ m. m.form.size) typed),
      ap (λ m. m.form.size) typed ∙ ap (λ x. x.size) (sym (out-roll-Access (bare_access y))),
    )

-- ---- declarations
abbrev ProvedTy : Type 0
ProvedTy = Ty-F ((e : Expr) × ExprLaw e) ((t : Ty) × TyLaw t) ((a : Access) × AccessLaw a) ((d : Decl) × DeclLaw d) ((v : Var) × VarLaw v)

abbrev bare_ty : ProvedTy → TyLayer
bare_ty y = map-Ty _ _ _ _ _ Expr Ty Access Decl Var (λ e. e.0) (λ e. e.0) (λ e. e.0) (λ e. e.0) (λ e. e.0) y

kind_typed : (x : TyLayer) → kind_step (map-Ty _ _ _ _ _ Typing known.Kind Typing Declared (Known × Span) typing ty_typed typing_of_access decl_typed var_typed x) ≡ kind_step x
kind_typed Ty-F.Int = refl
kind_typed Ty-F.Ty::Bool = refl
kind_typed (Ty-F.Word z) = refl
kind_typed (Ty-F.Array z n) = refl

abbrev meant_type : TyLayer → meant.Kind
meant_type x = ty_step (map-Ty _ _ _ _ _ Meaning meant.Kind MemoryAccess meant.Kind Ref meaning_of ty_meant access_of declared_kind ref_of x)

array_same : (z : Size) (n : Option ℤ) → is_count n ≡ true → SameKind (scope.Array z) (array_kind z n)
array_same z None h = absurd (false≢true h)
array_same z (Some (pos n)) h = same.array z n
array_same z (Some (negsuc n)) h = absurd (false≢true h)

type_same : (y : ProvedTy) → counted_type (bare_ty y) ≡ true → SameKind (kind_step (bare_ty y)) (meant_type (bare_ty y))
type_same Ty-F.Int h = same.int
type_same Ty-F.Ty::Bool h = same.bool
type_same (Ty-F.Word z) h = same.word z
type_same (Ty-F.Array z n) h = array_same z (meaning_of n.0).literal (ap is_count n.1.0 ∙ h)

ty_case : (y : ProvedTy) → TyLaw (roll-Ty (bare_ty y))
ty_case y = (
  fold-roll-Ty Typing known.Kind Typing Declared (Known × Span) typing_step kind_step access_typing declared_step (λ v. (v.decl, v.span)) (bare_ty y)
      ∙ kind_typed (bare_ty y) ∙ ap kind_step (sym (out-roll-Ty (bare_ty y))),
  λ h.
      subst (λ m. SameKind (kind_of (roll-Ty (bare_ty y))) m)
      (sym (fold-roll-Ty Meaning meant.Kind MemoryAccess meant.Kind Ref expr_step ty_step access_step decl_step var_step (bare_ty y)))
      (subst (λ x. SameKind (kind_step x) (meant_type (bare_ty y))) (sym (out-roll-Ty (bare_ty y)))
      (type_same y (ap counted_type (sym (out-roll-Ty (bare_ty y))) ∙ h))),
)

abbrev ProvedDecl : Type 0
ProvedDecl = Decl-F ((e : Expr) × ExprLaw e) ((t : Ty) × TyLaw t) ((a : Access) × AccessLaw a) ((d : Decl) × DeclLaw d) ((v : Var) × VarLaw v)

abbrev bare_decl : ProvedDecl → Decl-F Expr Ty Access Decl Var
bare_decl y = map-Decl _ _ _ _ _ Expr Ty Access Decl Var (λ e. e.0) (λ e. e.0) (λ e. e.0) (λ e. e.0) (λ e. e.0) y

abbrev declaring : Storage → known.Kind → Declared
declaring s k = record { storage = s; kind = k }

decl_case : (y : ProvedDecl) → DeclLaw (roll-Decl (bare_decl y))
decl_case y = (
  fold-roll-Decl Typing known.Kind Typing Declared (Known × Span) typing_step kind_step access_typing declared_step (λ v. (v.decl, v.span)) (bare_decl y)
      ∙ ap (declaring y.storage) y.ty.1.0,
  λ h.
      subst (λ m. SameKind (kind_of y.ty.0) m)
      (sym (fold-roll-Decl Meaning meant.Kind MemoryAccess meant.Kind Ref expr_step ty_step access_step decl_step var_step (bare_decl y)))
      (y.ty.1.1 h),
)

abbrev ProvedVar : Type 0
ProvedVar = Var-F ((e : Expr) × ExprLaw e) ((t : Ty) × TyLaw t) ((a : Access) × AccessLaw a) ((d : Decl) × DeclLaw d) ((v : Var) × VarLaw v)

abbrev bare_var : ProvedVar → Var-F Expr Ty Access Decl Var
bare_var y = map-Var _ _ _ _ _ Expr Ty Access Decl Var (λ e. e.0) (λ e. e.0) (λ e. e.0) (λ e. e.0) (λ e. e.0) y

abbrev typed_named : Var-F Expr Ty Access Decl Var → Known
typed_named x = (map-Var _ _ _ _ _ Typing known.Kind Typing Declared (Known × Span) typing ty_typed typing_of_access decl_typed var_typed x).decl

abbrev meant_named : Var-F Expr Ty Access Decl Var → Ref
meant_named x = var_step (map-Var _ _ _ _ _ Meaning meant.Kind MemoryAccess meant.Kind Ref meaning_of ty_meant access_of declared_kind ref_of x)

abbrev declared : Var-F Expr Ty Access Decl Var → Known
declared x = option_map declared_of x.decl

named_typed : (y : ProvedVar) → typed_named (bare_var y) ≡ declared (bare_var y)
named_typed y = elim y.decl as (λ d. typed_named (bare_var (record y { decl = d })) ≡ declared (bare_var (record y { decl = d }))) [ None ↦ refl | Some d ↦ ap (λ (z : Declared). Some z) d.1.0 ]

named_same : (y : ProvedVar) → counted_decl (bare_var y).decl ≡ true → SameKnown (declared (bare_var y)) (meant_named (bare_var y)).kind
named_same y =
    elim y.decl as (λ d. counted_decl (bare_var (record y { decl = d })).decl ≡ true → SameKnown (declared (bare_var (record y { decl = d }))) (meant_named (bare_var (record y { decl = d }))).kind)
    [ None ↦ λ h. refl | Some d ↦ λ h. d.1.1 h ]

var_case : (y : ProvedVar) → VarLaw (roll-Var (bare_var y))
var_case y = (
  ap (λ m. m.0) (fold-roll-Var Typing known.Kind Typing Declared (Known × Span) typing_step kind_step access_typing declared_step (λ v. (v.decl, v.span)) (bare_var y))
      ∙ named_typed y ∙ ap declared (sym (out-roll-Var (bare_var y))),
  λ h.
      subst (λ m. SameKnown (known_of (roll-Var (bare_var y))) m.kind)
      (sym (fold-roll-Var Meaning meant.Kind MemoryAccess meant.Kind Ref expr_step ty_step access_step decl_step var_step (bare_var y)))
      (subst (λ x. SameKnown (declared x) (meant_named (bare_var y)).kind) (sym (out-roll-Var (bare_var y)))
      (named_same y (ap (λ x. counted_decl x.decl) (sym (out-roll-Var (bare_var y))) ∙ h))),
)

-- ---- all
pub expression_law : (e : Expr) → ExprLaw e
expression_law =
    ind-Expr ExprLaw TyLaw AccessLaw DeclLaw VarLaw
    (λ x y is. subst (λ z. ExprLaw (roll-Expr z)) is (expr_case y))
    (λ x y is. subst (λ z. TyLaw (roll-Ty z)) is (ty_case y))
    (λ x y is. subst (λ z. AccessLaw (roll-Access z)) is (access_case y))
    (λ x y is. subst (λ z. DeclLaw (roll-Decl z)) is (decl_case y))
    (λ x y is. subst (λ z. VarLaw (roll-Var z)) is (var_case y))

pub access_law : (a : Access) → AccessLaw a
access_law =
    ind-Access ExprLaw TyLaw AccessLaw DeclLaw VarLaw
    (λ x y is. subst (λ z. ExprLaw (roll-Expr z)) is (expr_case y))
    (λ x y is. subst (λ z. TyLaw (roll-Ty z)) is (ty_case y))
    (λ x y is. subst (λ z. AccessLaw (roll-Access z)) is (access_case y))
    (λ x y is. subst (λ z. DeclLaw (roll-Decl z)) is (decl_case y))
    (λ x y is. subst (λ z. VarLaw (roll-Var z)) is (var_case y))

pub variable_law : (v : Var) → VarLaw v
variable_law =
    ind-Var ExprLaw TyLaw AccessLaw DeclLaw VarLaw
    (λ x y is. subst (λ z. ExprLaw (roll-Expr z)) is (expr_case y))
    (λ x y is. subst (λ z. TyLaw (roll-Ty z)) is (ty_case y))
    (λ x y is. subst (λ z. AccessLaw (roll-Access z)) is (access_case y))
    (λ x y is. subst (λ z. DeclLaw (roll-Decl z)) is (decl_case y))
    (λ x y is. subst (λ z. VarLaw (roll-Var z)) is (var_case y))

pub size_law : (e : Expr) (p : Place) → Counted e → HasType (value e) p → own_size e ≡ (typing e).form.size
size_law e = (expression_law e).1

pub said_law : (e : Expr) (p : Place) → HasType (value e) p → (z : Size) → Says (value e) z → (typing e).form.size ≡ Some z
said_law e = (expression_law e).2

pub says_law : (e : Expr) (p : Place) → Counted e → HasType (value e) p → (z : Size) → (own_size e ≡ Some z) ↔ Says (value e) z
says_law e p c t z = (
  λ o. (judged_of e).agrees.says z (sym (size_law e p c t) ∙ o),
  λ s. size_law e p c t ∙ said_law e p t z s,
)
