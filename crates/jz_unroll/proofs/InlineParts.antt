-- An inline expression has inline parts and no size of its own, and it is no flag.
use Rattle.std.proofs.Common.{◌≡◌, Option, Some, None, Bool, true, false, refl, ap, sym, ◌∙◌, subst}
use Rattle.std.specs.Prelude.{◌&&◌, option_map, if◌then◌else◌}
use Rattle.std.specs.Option.{option_or}
use Rattle.std.proofs.lemmas.Bool.{and_parts}
use Rattle.jz_tree.specs.Span.{Span}
use Rattle.jz_tree.specs.Operators.{is_shift}
use Rattle.jz_tree.specs.Size.{Size}
use Rattle.jz_tree.specs.declared.expr.BinOp.{BinOp}
use Rattle.jz_tree.specs.declared.expr.Storage.{Storage}
use Rattle.jz_tree.specs.declared.expr.Storage.TheVariants as storage
use Rattle.jz_tree.specs.declared.expr.Expr.{Expr}
use Rattle.jz_tree.specs.declared.expr.Expr.TheVariants as expr
use Rattle.jz_tree.specs.declared.expr.Ty.{Ty}
use Rattle.jz_tree.specs.declared.expr.Access.{Access}
use Rattle.jz_tree.specs.declared.expr.Decl.{Decl}
use Rattle.jz_tree.specs.declared.expr.Var.{Var}
use Rattle.jz_tree.specs.declared.expr.Expr.TheOpen.{Expr-F, Ty-F, Var-F}
use Rattle.jz_tree.specs.declared.expr.Expr.TheViews.{roll-Expr, roll-Var, out-Expr, out-Ty, out-Var, roll-out-Expr, roll-out-Ty, roll-out-Var}
use Rattle.jz_tree.specs.declared.expr.Expr.TheFolds.{fold-Ty, fold-Access, fold-Decl, fold-Var, fold-roll-Expr, fold-roll-Ty, fold-roll-Decl, fold-roll-Var, ind-Expr, map-Expr, map-Ty, map-Var}
use Rattle.jz_type_names.specs.declared.kinds.Kind as known
use Rattle.jz_type_names.specs.declared.kinds.Kind.TheVariants as scope
use Rattle.jz_type_names.specs.declared.kinds.Declared.{Declared}
use Rattle.jz_type_names.specs.Kinds.{Known, kind_step, kind_of, declared_of, known_of, inline_int, is_inline_int, inline_step, declared_step, known_step, is_inline}
use Rattle.jz_meaning.specs.declared.access.Kind.{Kind}
use Rattle.jz_meaning.specs.declared.access.Kind.TheVariants as kind
use Rattle.jz_meaning.specs.Assignments.{is_bool, is_flag_layer, is_flag}
use Rattle.jz_meaning.specs.Values.{Ref, MemoryAccess, Meaning, size_of, gives_word, kind_or, expr_step as meaning_step, ty_step, access_step as meaning_access, decl_step, var_step, meaning_of, ref_of, access_of, own_size}
use Rattle.jz_unroll.proofs.Layers.{Layer, kind_of_ty, kind_of_decl, meaning_layer, meaning_is, ref_rolled}

-- ---- what typing sees of a layer

abbrev ty_inline : Ty → known.Kind
ty_inline = fold-Ty Bool known.Kind Bool Declared Known inline_step kind_step (λ a. a.at) declared_step known_step

abbrev access_inline : Access → Bool
access_inline = fold-Access Bool known.Kind Bool Declared Known inline_step kind_step (λ a. a.at) declared_step known_step

abbrev decl_inline : Decl → Declared
decl_inline = fold-Decl Bool known.Kind Bool Declared Known inline_step kind_step (λ a. a.at) declared_step known_step

abbrev var_inline : Var → Known
var_inline = fold-Var Bool known.Kind Bool Declared Known inline_step kind_step (λ a. a.at) declared_step known_step

kind_same : (x : Ty-F Expr Ty Access Decl Var) → kind_step (map-Ty _ _ _ _ _ Bool known.Kind Bool Declared Known is_inline ty_inline access_inline decl_inline var_inline x) ≡ kind_step x
kind_same Ty-F.Int = refl
kind_same Ty-F.Ty::Bool = refl
kind_same (Ty-F.Word z) = refl
kind_same (Ty-F.Array z n) = refl

ty_same : (t : Ty) → ty_inline t ≡ kind_of t
ty_same t = ap ty_inline (sym (roll-out-Ty t)) ∙ fold-roll-Ty Bool known.Kind Bool Declared Known inline_step kind_step (λ a. a.at) declared_step known_step (out-Ty t) ∙ kind_same (out-Ty t)

abbrev declaring : Storage → known.Kind → Declared
declaring s k = record { storage = s; kind = k }

decl_same : (d : Decl) → decl_inline d ≡ declared_of d
decl_same d =
    fold-roll-Decl Bool known.Kind Bool Declared Known inline_step kind_step (λ a. a.at) declared_step known_step (record { storage = d.storage; ty = d.ty })
    ∙ ap (declaring d.storage) (ty_same d.ty)

some_same : (x : Var-F Expr Ty Access Decl Var) (o : Option Decl)
    → (map-Var _ _ _ _ _ Bool known.Kind Bool Declared Known is_inline ty_inline access_inline decl_inline var_inline (record x { decl = o })).decl ≡ option_map declared_of o
some_same x None = refl
some_same x (Some d) = ap (λ (k : Declared). Some k) (decl_same d)

var_same : (v : Var) → var_inline v ≡ known_of v
var_same v =
    ap var_inline (sym (roll-out-Var v)) ∙ fold-roll-Var Bool known.Kind Bool Declared Known inline_step kind_step (λ a. a.at) declared_step known_step (out-Var v)
    ∙ some_same (out-Var v) (out-Var v).decl

abbrev pub inline_layer : Layer → Bool
inline_layer (Expr-F.Num n at) = true
inline_layer (Expr-F.Expr::Bool b at) = true
inline_layer (Expr-F.Var v) = is_inline_int (known_of v)
inline_layer (Expr-F.Cell v i) = false
inline_layer (Expr-F.Load a) = false
inline_layer (Expr-F.Neg a at) = is_inline a
inline_layer (Expr-F.Not a at) = is_inline a
inline_layer (Expr-F.Cast z s a at) = false
inline_layer (Expr-F.Bin o a b at) = is_inline a && is_inline b

inline_step_is : (x : Layer) → inline_step (map-Expr _ _ _ _ _ Bool known.Kind Bool Declared Known is_inline ty_inline access_inline decl_inline var_inline x) ≡ inline_layer x
inline_step_is (Expr-F.Num n at) = refl
inline_step_is (Expr-F.Expr::Bool b at) = refl
inline_step_is (Expr-F.Var v) = ap is_inline_int (var_same v)
inline_step_is (Expr-F.Cell v i) = refl
inline_step_is (Expr-F.Load a) = refl
inline_step_is (Expr-F.Neg a at) = refl
inline_step_is (Expr-F.Not a at) = refl
inline_step_is (Expr-F.Cast z s a at) = refl
inline_step_is (Expr-F.Bin o a b at) = refl

pub inline_is : (x : Layer) → is_inline (roll-Expr x) ≡ inline_layer x
inline_is x = fold-roll-Expr Bool known.Kind Bool Declared Known inline_step kind_step (λ a. a.at) declared_step known_step x ∙ inline_step_is x

pub inline_out : (x : Expr) → is_inline x ≡ inline_layer (out-Expr x)
inline_out x = ap is_inline (sym (roll-out-Expr x)) ∙ inline_is (out-Expr x)

pub inline_var : (v : Var) → is_inline (expr.Var v) ≡ is_inline_int (known_of v)
inline_var v = ap is_inline (sym (expr.rolls-Var v)) ∙ inline_is (Expr-F.Var v)

pub inline_bin : (op : BinOp) (a b : Expr) (at : Span) → is_inline (expr.Bin op a b at) ≡ (is_inline a && is_inline b)
inline_bin op a b at = ap is_inline (sym (expr.rolls-Bin op a b at)) ∙ inline_is (Expr-F.Bin op a b at)

-- ---- what runs see of an inline variable

int_kind : (s : Storage) (k : known.Kind) → inline_int s k ≡ true → k ≡ scope.Int
int_kind storage.Inline scope.Int e = refl
int_kind storage.Inline scope.Truth e = absurd cc
int_kind storage.Inline (scope.Word z) e = absurd cc
int_kind storage.Inline (scope.Array z) e = absurd cc
int_kind storage.Reg k e = absurd cc
int_kind storage.Stack k e = absurd cc

-- a kind has this, if integers have
ty_layer : {A : Type 0} (f : Kind → A) (a : A) → f kind.Int ≡ a → (x : Ty-F Expr Ty Access Decl Var) → kind_step x ≡ scope.Int → f (ty_step (map-Ty _ _ _ _ _ Meaning Kind MemoryAccess Kind Ref meaning_of kind_of_ty access_of kind_of_decl ref_of x)) ≡ a
ty_layer f a h Ty-F.Int e = h
ty_layer f a h Ty-F.Ty::Bool e = absurd cc
ty_layer f a h (Ty-F.Word z) e = absurd cc
ty_layer f a h (Ty-F.Array z n) e = absurd cc

ty_test : {A : Type 0} (f : Kind → A) (a : A) → f kind.Int ≡ a → (t : Ty) → kind_of t ≡ scope.Int → f (kind_of_ty t) ≡ a
ty_test f a h t e =
    ap (λ y. f (kind_of_ty y)) (sym (roll-out-Ty t)) ∙ ap f (fold-roll-Ty _ _ _ _ _ meaning_step ty_step meaning_access decl_step var_step (out-Ty t))
    ∙ ty_layer f a h (out-Ty t) e

decl_test : {A : Type 0} (f : Kind → A) (a : A) → f kind.Int ≡ a → (d : Decl) → kind_of d.ty ≡ scope.Int → f (kind_of_decl d) ≡ a
decl_test f a h d e =
    ap f (fold-roll-Decl _ _ _ _ _ meaning_step ty_step meaning_access decl_step var_step (record { storage = d.storage; ty = d.ty }))
    ∙ ty_test f a h d.ty e

or_test : {A : Type 0} (f : Kind → A) (a : A) → f kind.Undeclared ≡ a → f kind.Int ≡ a → (o : Option Decl) → is_inline_int (option_map declared_of o) ≡ true → f (kind_or (option_map kind_of_decl o)) ≡ a
or_test f a u h None e = u
or_test f a u h (Some d) e = decl_test f a h d (int_kind d.storage (kind_of d.ty) e)

-- the kind of an inline variable is that of integers, or it is not declared
pub var_test : {A : Type 0} (f : Kind → A) (a : A) → f kind.Undeclared ≡ a → f kind.Int ≡ a → (v : Var) → is_inline_int (known_of v) ≡ true → f (ref_of v).kind ≡ a
var_test f a u h v e =
    ap (λ y. f (ref_of y).kind) (sym (roll-out-Var v)) ∙ ap (λ (r : Ref). f r.kind) (ref_rolled (out-Var v))
    ∙ mapped (out-Var v).decl ∙ or_test f a u h (out-Var v).decl e
  where
    mapped : (o : Option Decl) → f (var_step (map-Var _ _ _ _ _ Meaning Kind MemoryAccess Kind Ref meaning_of kind_of_ty access_of kind_of_decl ref_of (record (out-Var v) { decl = o }))).kind ≡ f (kind_or (option_map kind_of_decl o))
    mapped None = refl
    mapped (Some d) = refl

-- ---- no size

no_size_of : (g h : Bool) (a b : Option Size) → a ≡ None → b ≡ None → (if g then (if h then a else option_or a b) else None) ≡ None
no_size_of true true a b p q = p
no_size_of true false a b p q = ap (λ x. option_or x b) p ∙ q
no_size_of false h a b p q = refl

abbrev NoSize : Expr → Type 0
NoSize x = is_inline x ≡ true → own_size x ≡ None

abbrev Any : {A : Type 0} → A → Type 0
Any y = Unit {0}

abbrev Sized : Type 0
Sized = Expr-F ((x : Expr) × NoSize x) ((t : Ty) × Any t) ((a : Access) × Any a) ((d : Decl) × Any d) ((v : Var) × Any v)

abbrev bare : Sized → Layer
bare y = map-Expr _ _ _ _ _ _ _ _ _ _ (λ e. e.0) (λ e. e.0) (λ e. e.0) (λ e. e.0) (λ e. e.0) y

size_law : (y : Sized) → inline_layer (bare y) ≡ true → (meaning_layer (bare y)).size ≡ None
size_law (Expr-F.Num n at) e = refl
size_law (Expr-F.Expr::Bool b at) e = refl
size_law (Expr-F.Var v) e = var_test size_of None refl refl v.0 e
size_law (Expr-F.Cell v i) e = absurd cc
size_law (Expr-F.Load a) e = absurd cc
size_law (Expr-F.Neg a at) e = a.1 e
size_law (Expr-F.Not a at) e = a.1 e
size_law (Expr-F.Cast z s a at) e = absurd cc
size_law (Expr-F.Bin o a b at) e =
    let p = and_parts (is_inline a.0) _ e in
    no_size_of (gives_word o) (is_shift o) (own_size a.0) (own_size b.0) (a.1 p.0) (b.1 p.1)

size_case : (y : Sized) → NoSize (roll-Expr (bare y))
size_case y e = ap (λ (m : Meaning). m.size) (meaning_is (bare y)) ∙ size_law y (sym (inline_is (bare y)) ∙ e)

pub no_size : (x : Expr) → NoSize x
no_size =
    ind-Expr NoSize Any Any Any Any
    (λ z y is. subst (λ k. NoSize (roll-Expr k)) is (size_case y))
    (λ z y is. tt)
    (λ z y is. tt)
    (λ z y is. tt)
    (λ z y is. tt)

-- ---- no flag

flag_law : (x : Layer) → inline_layer x ≡ true → is_flag_layer x ≡ false
flag_law (Expr-F.Num n at) e = refl
flag_law (Expr-F.Expr::Bool b at) e = refl
flag_law (Expr-F.Var v) e = var_test is_bool false refl refl v e
flag_law (Expr-F.Cell v i) e = refl
flag_law (Expr-F.Load a) e = refl
flag_law (Expr-F.Neg a at) e = refl
flag_law (Expr-F.Not a at) e = refl
flag_law (Expr-F.Cast z s a at) e = refl
flag_law (Expr-F.Bin o a b at) e = refl

pub no_flag : (x : Expr) → is_inline x ≡ true → is_flag x ≡ false
no_flag x e = flag_law (out-Expr x) (sym (inline_out x) ∙ e)
