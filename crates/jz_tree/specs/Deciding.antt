-- Whether two expressions are equal, decided layer by layer, and so for the types that stand in
-- them.
use Rattle.std.specs.Prelude.{◌≡◌, ℕ, ℤ, Bool, true, false, List, [], ◌∷◌, ◌==◌, Option, None, Some}
use Rattle.std.specs.Bool.{Decides}
use Rattle.std.specs.Cmp.{IsEquivalence, decided, unsigned_Decides, signed_Decides, booleans_Decides}
use mathlib.Core.Path.{refl, sym, ap, ◌∙◌, subst}
use mathlib.Core.Bool.{true≢false}
use denote.Enum.Bare.{sameb, same_true, true_same}
use lib.Ieee.Fits.{eq→eqb}
use Rattle.jz_io.specs.declared.span.Span.{Span}
use Rattle.jz_words.specs.declared.size.Size.{Size}
use Rattle.jz_words.specs.contracts.size.Size as size
use Rattle.jz_tree.specs.declared.expr.BinOp.{BinOp}
use Rattle.jz_tree.specs.contracts.expr.BinOp as operation
use Rattle.jz_tree.specs.declared.expr.Storage.{Storage}
use Rattle.jz_tree.specs.contracts.expr.Storage as storage
use Rattle.jz_tree.specs.declared.expr.Ty.{Ty}
use Rattle.jz_tree.specs.declared.expr.Access.{Access}
use Rattle.jz_tree.specs.declared.expr.Decl.{Decl}
use Rattle.jz_tree.specs.declared.expr.Var.{Var}
use Rattle.jz_tree.specs.declared.expr.Expr.{Expr}
use Rattle.jz_tree.specs.declared.expr.Expr.TheOpen.{Expr-F, Ty-F, Access-F, Decl-F, Var-F}
use Rattle.jz_tree.specs.declared.expr.Expr.TheViews.{out-Expr, roll-Expr, out-roll-Expr, roll-out-Expr, out-Ty, roll-Ty, out-roll-Ty, roll-out-Ty, roll-Access, roll-Decl, out-Var, roll-Var, out-roll-Var, roll-out-Var}
use Rattle.jz_tree.specs.declared.expr.Expr.TheFolds.{map-Expr, map-Ty, map-Access, map-Decl, map-Var, ind-Expr, ind-Ty, ind-Access, ind-Decl, ind-Var}

moved_decision : {P Q : Type 0} → (P → Q) → (Q → P) → Dec P → Dec Q
moved_decision f g (yes p) = yes (f p)
moved_decision f g (no n) = no (λ q. n (g q))

also : {P Q : Type 0} → Dec P → Dec Q → Dec (P × Q)
also (yes p) (yes q) = yes (p, q)
also (yes p) (no n) = no (λ h. n h.1)
also (no n) d = no (λ h. n h.0)

from_test : {P : Type 0} (t : Bool) → Decides t P → Dec P
from_test true d = yes (d.0 refl)
from_test false d = no (λ p. true≢false (sym (d.1 p)))

numbers : (a b : ℕ) → Dec (a ≡ b)
numbers a b = from_test (a == b) (unsigned_Decides a b)

spans : (a b : Span) → Dec (a ≡ b)
spans a b = moved_decision (λ h z. record { line = h.0 z; col = h.1 z }) (λ e. (ap (λ s. s.line) e, ap (λ s. s.col) e)) (also (numbers a.line b.line) (numbers a.col b.col))

sizes : (a b : Size) → Dec (a ≡ b)
sizes a b = from_test (sameb size.the_type a b) (same_true size.the_type tt a b, true_same size.the_type a b)

operations : (a b : BinOp) → Dec (a ≡ b)
operations a b = from_test (sameb operation.the_type a b) (same_true operation.the_type tt a b, true_same operation.the_type a b)

storages : (a b : Storage) → Dec (a ≡ b)
storages a b = from_test (sameb storage.the_type a b) (same_true storage.the_type tt a b, true_same storage.the_type a b)

is_there : {A : Type 0} → Option A → Bool
is_there None = false
is_there (Some a) = true

there_or : {A : Type 0} → A → Option A → A
there_or d None = d
there_or d (Some a) = a

options : {A : Type 0} → ((a b : A) → Dec (a ≡ b)) → (x y : Option A) → Dec (x ≡ y)
unfolding is_there there_or
options each None None = yes refl
options each None (Some b) = no (λ e. true≢false (sym (ap is_there e)))
options each (Some a) None = no (λ e. true≢false (ap is_there e))
options each (Some a) (Some b) = moved_decision (ap (λ (x : _). Some x)) (ap (there_or a)) (each a b)

has_first : List ℕ → Bool
has_first [] = false
has_first (x ∷ xs) = true

first_or : ℕ → List ℕ → ℕ
first_or d [] = d
first_or d (x ∷ xs) = x

rest : List ℕ → List ℕ
rest [] = []
rest (x ∷ xs) = xs

texts : (xs ys : List ℕ) → Dec (xs ≡ ys)
unfolding has_first first_or rest
texts [] [] = yes refl
texts [] (y ∷ ys) = no (λ e. true≢false (sym (ap has_first e)))
texts (x ∷ xs) [] = no (λ e. true≢false (ap has_first e))
texts (x ∷ xs) (y ∷ ys) = moved_decision (λ h z. h.0 z ∷ h.1 z) (λ e. (ap (first_or x) e, ap rest e)) (also (numbers x y) (texts xs ys))

-- ---- one layer, whose parts are decided
abbrev Claim : {A : Type 0} → A → Type 0
Claim {A} a = (b : A) → Dec (a ≡ b)

abbrev Part : Type 0 → Type 0
Part A = (a : A) × Claim a

abbrev Layer : Type 0
Layer = Expr-F Expr Ty Access Decl Var

abbrev KnownLayer : Type 0
KnownLayer = Expr-F (Part Expr) (Part Ty) (Part Access) (Part Decl) (Part Var)

abbrev layer_of : KnownLayer → Layer
layer_of v = map-Expr _ _ _ _ _ _ _ _ _ _ (λ p. p.0) (λ p. p.0) (λ p. p.0) (λ p. p.0) (λ p. p.0) v

abbrev kind : Layer → ℕ
kind (Expr-F.Num n span) = 0
kind (Expr-F.Expr::Bool b span) = 1
kind (Expr-F.Var v) = 2
kind (Expr-F.Cell v at) = 3
kind (Expr-F.Load a) = 4
kind (Expr-F.Neg a span) = 5
kind (Expr-F.Not a span) = 6
kind (Expr-F.Cast size signed a span) = 7
kind (Expr-F.Bin op a b span) = 8

abbrev num_parts : ℤ × Span → Layer → ℤ × Span
num_parts d (Expr-F.Num n span) = (n, span)
num_parts d _ = d

abbrev bool_parts : Bool × Span → Layer → Bool × Span
bool_parts d (Expr-F.Expr::Bool b span) = (b, span)
bool_parts d _ = d

abbrev var_part : Var → Layer → Var
var_part d (Expr-F.Var v) = v
var_part d _ = d

abbrev cell_parts : Var × Expr → Layer → Var × Expr
cell_parts d (Expr-F.Cell v at) = (v, at)
cell_parts d _ = d

abbrev load_part : Access → Layer → Access
load_part d (Expr-F.Load a) = a
load_part d _ = d

abbrev sign_parts : Expr × Span → Layer → Expr × Span
sign_parts d (Expr-F.Neg a span) = (a, span)
sign_parts d (Expr-F.Not a span) = (a, span)
sign_parts d _ = d

abbrev cast_parts : Size × Bool × Expr × Span → Layer → Size × Bool × Expr × Span
cast_parts d (Expr-F.Cast size signed a span) = (size, signed, a, span)
cast_parts d _ = d

abbrev bin_parts : BinOp × Expr × Expr × Span → Layer → BinOp × Expr × Expr × Span
bin_parts d (Expr-F.Bin op a b span) = (op, a, b, span)
bin_parts d _ = d

layers : (v : KnownLayer) (w : Layer) → Dec (layer_of v ≡ w)
layers (Expr-F.Num n s) (Expr-F.Num m t) =
    moved_decision (λ h z. Expr-F.Num (h.0 z) (h.1 z)) (λ e. (ap (λ x. (num_parts (n, s) x).0) e, ap (λ x. (num_parts (n, s) x).1) e)) (also (from_test _ (signed_Decides n m)) (spans s t))
layers (Expr-F.Expr::Bool b s) (Expr-F.Expr::Bool c t) =
    moved_decision (λ h z. Expr-F.Expr::Bool (h.0 z) (h.1 z)) (λ e. (ap (λ x. (bool_parts (b, s) x).0) e, ap (λ x. (bool_parts (b, s) x).1) e)) (also (from_test _ (booleans_Decides b c)) (spans s t))
layers (Expr-F.Var v) (Expr-F.Var w) = moved_decision (ap (λ x. Expr-F.Var x)) (ap (var_part v.0)) (v.1 w)
layers (Expr-F.Cell v a) (Expr-F.Cell w b) =
    moved_decision (λ h z. Expr-F.Cell (h.0 z) (h.1 z)) (λ e. (ap (λ x. (cell_parts (v.0, a.0) x).0) e, ap (λ x. (cell_parts (v.0, a.0) x).1) e)) (also (v.1 w) (a.1 b))
layers (Expr-F.Load a) (Expr-F.Load b) = moved_decision (ap (λ x. Expr-F.Load x)) (ap (load_part a.0)) (a.1 b)
layers (Expr-F.Neg a s) (Expr-F.Neg b t) =
    moved_decision (λ h z. Expr-F.Neg (h.0 z) (h.1 z)) (λ e. (ap (λ x. (sign_parts (a.0, s) x).0) e, ap (λ x. (sign_parts (a.0, s) x).1) e)) (also (a.1 b) (spans s t))
layers (Expr-F.Not a s) (Expr-F.Not b t) =
    moved_decision (λ h z. Expr-F.Not (h.0 z) (h.1 z)) (λ e. (ap (λ x. (sign_parts (a.0, s) x).0) e, ap (λ x. (sign_parts (a.0, s) x).1) e)) (also (a.1 b) (spans s t))
layers (Expr-F.Cast n g a s) (Expr-F.Cast m h b t) =
    moved_decision (λ h z. Expr-F.Cast (h.0 z) (h.1.0 z) (h.1.1.0 z) (h.1.1.1 z))
    (λ e. let of = cast_parts (n, g, a.0, s) in (ap (λ x. (of x).0) e, (ap (λ x. (of x).1) e, (ap (λ x. (of x).2) e, ap (λ x. (of x).3) e))))
    (also (sizes n m) (also (from_test _ (booleans_Decides g h)) (also (a.1 b) (spans s t))))
layers (Expr-F.Bin o a b s) (Expr-F.Bin p c d t) =
    moved_decision (λ h z. Expr-F.Bin (h.0 z) (h.1.0 z) (h.1.1.0 z) (h.1.1.1 z))
    (λ e. let of = bin_parts (o, a.0, b.0, s) in (ap (λ x. (of x).0) e, (ap (λ x. (of x).1) e, (ap (λ x. (of x).2) e, ap (λ x. (of x).3) e))))
    (also (operations o p) (also (a.1 c) (also (b.1 d) (spans s t))))
layers v w = no (λ e. eq→eqb (ap kind e))

abbrev TyLayer : Type 0
TyLayer = Ty-F Expr Ty Access Decl Var

abbrev KnownTy : Type 0
KnownTy = Ty-F (Part Expr) (Part Ty) (Part Access) (Part Decl) (Part Var)

abbrev ty_of : KnownTy → TyLayer
ty_of v = map-Ty _ _ _ _ _ _ _ _ _ _ (λ p. p.0) (λ p. p.0) (λ p. p.0) (λ p. p.0) (λ p. p.0) v

abbrev ty_kind : TyLayer → ℕ
ty_kind Ty-F.Int = 0
ty_kind Ty-F.Ty::Bool = 1
ty_kind (Ty-F.Word size) = 2
ty_kind (Ty-F.Array size length) = 3

abbrev word_part : Size → TyLayer → Size
word_part d (Ty-F.Word size) = size
word_part d _ = d

abbrev array_parts : Size × Expr → TyLayer → Size × Expr
array_parts d (Ty-F.Array size length) = (size, length)
array_parts d _ = d

ty_layers : (v : KnownTy) (w : TyLayer) → Dec (ty_of v ≡ w)
ty_layers Ty-F.Int Ty-F.Int = yes refl
ty_layers Ty-F.Ty::Bool Ty-F.Ty::Bool = yes refl
ty_layers (Ty-F.Word n) (Ty-F.Word m) = moved_decision (ap (λ x. Ty-F.Word x)) (ap (word_part n)) (sizes n m)
ty_layers (Ty-F.Array n a) (Ty-F.Array m b) =
    moved_decision (λ h z. Ty-F.Array (h.0 z) (h.1 z)) (λ e. (ap (λ x. (array_parts (n, a.0) x).0) e, ap (λ x. (array_parts (n, a.0) x).1) e)) (also (sizes n m) (a.1 b))
ty_layers v w = no (λ e. eq→eqb (ap ty_kind e))

-- ---- whole values
expr_case : (v : KnownLayer) → Claim (roll-Expr (layer_of v))
expr_case v b = moved_decision (λ e. ap roll-Expr e ∙ roll-out-Expr b) (λ e. sym (out-roll-Expr (layer_of v)) ∙ ap out-Expr e) (layers v (out-Expr b))

ty_case : (v : KnownTy) → Claim (roll-Ty (ty_of v))
ty_case v b = moved_decision (λ e. ap roll-Ty e ∙ roll-out-Ty b) (λ e. sym (out-roll-Ty (ty_of v)) ∙ ap out-Ty e) (ty_layers v (out-Ty b))

access_case : (v : Access-F (Part Expr) (Part Ty) (Part Access) (Part Decl) (Part Var))
    → Claim (roll-Access (map-Access _ _ _ _ _ _ _ _ _ _ (λ p. p.0) (λ p. p.0) (λ p. p.0) (λ p. p.0) (λ p. p.0) v))
access_case v b =
    moved_decision (λ h z. record { size = h.0 z; at = h.1.0 z; unaligned = h.1.1.0 z; span = h.1.1.1 z })
    (λ e. (ap (λ x. x.size) e, (ap (λ x. x.at) e, (ap (λ x. x.unaligned) e, ap (λ x. x.span) e))))
    (also (options sizes v.size b.size) (also (v.at.1 b.at) (also (from_test _ (booleans_Decides v.unaligned b.unaligned)) (spans v.span b.span))))

decl_case : (v : Decl-F (Part Expr) (Part Ty) (Part Access) (Part Decl) (Part Var))
    → Claim (roll-Decl (map-Decl _ _ _ _ _ _ _ _ _ _ (λ p. p.0) (λ p. p.0) (λ p. p.0) (λ p. p.0) (λ p. p.0) v))
decl_case v b =
    moved_decision (λ h z. record { storage = h.0 z; ty = h.1 z }) (λ e. (ap (λ x. x.storage) e, ap (λ x. x.ty) e)) (also (storages v.storage b.storage) (v.ty.1 b.ty))

no_decl : (e : Option Decl) → Dec (◌≡◌ {A = Option Decl} None e)
unfolding is_there
no_decl None = yes refl
no_decl (Some d) = no (λ e. true≢false (sym (ap is_there e)))

a_decl : (d : Part Decl) (e : Option Decl) → Dec (Some d.0 ≡ e)
unfolding is_there there_or
a_decl d None = no (λ e. true≢false (ap is_there e))
a_decl d (Some b) = moved_decision (ap (λ (x : Decl). Some x)) (ap (there_or d.0)) (d.1 b)

abbrev VarLayer : Type 0
VarLayer = Var-F Expr Ty Access Decl Var

abbrev KnownVar : Type 0
KnownVar = Var-F (Part Expr) (Part Ty) (Part Access) (Part Decl) (Part Var)

abbrev var_of : KnownVar → VarLayer
var_of v = map-Var _ _ _ _ _ _ _ _ _ _ (λ p. p.0) (λ p. p.0) (λ p. p.0) (λ p. p.0) (λ p. p.0) v

var_layers : (a b : VarLayer) → Dec (a.decl ≡ b.decl) → Dec (a ≡ b)
var_layers a b d =
    moved_decision (λ h z. record { name = h.0 z; copy = h.1.0 z; cell = h.1.1.0 z; decl = h.1.1.1.0 z; span = h.1.1.1.1 z })
    (λ e. (ap (λ x. x.name) e, (ap (λ x. x.copy) e, (ap (λ x. x.cell) e, (ap (λ x. x.decl) e, ap (λ x. x.span) e)))))
    (also (texts a.name b.name) (also (numbers a.copy b.copy) (also (options numbers a.cell b.cell) (also d (spans a.span b.span)))))

var_parts : (name : List ℕ) (copy : ℕ) (cell : Option ℕ) (decl : Option (Part Decl)) (span : Span) (b : VarLayer)
    → Dec (var_of (record { name = name; copy = copy; cell = cell; decl = decl; span = span }) ≡ b)
var_parts n c l None s b = var_layers (record { name = n; copy = c; cell = l; decl = None; span = s }) b (no_decl b.decl)
var_parts n c l (Some d) s b = var_layers (record { name = n; copy = c; cell = l; decl = Some d.0; span = s }) b (a_decl d b.decl)

var_case : (v : KnownVar) → Claim (roll-Var (var_of v))
var_case v b =
    moved_decision (λ e. ap roll-Var e ∙ roll-out-Var b) (λ e. sym (out-roll-Var (var_of v)) ∙ ap out-Var e)
    (var_parts v.name v.copy v.cell v.decl v.span (out-Var b))

-- ---- the tests
answer : {P : Type 0} → Dec P → Bool
answer (yes p) = true
answer (no n) = false

answers : {P : Type 0} (d : Dec P) → Decides (answer d) P
unfolding answer
answers (yes p) = (λ e. p, λ q. refl)
answers (no n) = (λ e. absurd (true≢false (sym e)), λ q. absurd (n q))

decide_expr : (a b : Expr) → Dec (a ≡ b)
decide_expr = ind-Expr Claim Claim Claim Claim Claim (λ x v is. subst (λ z. Claim (roll-Expr z)) is (expr_case v)) (λ x v is. subst (λ z. Claim (roll-Ty z)) is (ty_case v))
    (λ x v is. subst (λ z. Claim (roll-Access z)) is (access_case v)) (λ x v is. subst (λ z. Claim (roll-Decl z)) is (decl_case v))
    (λ x v is. subst (λ z. Claim (roll-Var z)) is (var_case v))

-- true where both are equal, and only there
pub same_expr : Expr → Expr → Bool
same_expr a b = answer (decide_expr a b)

pub same_expr_decides : (a b : Expr) → Decides (same_expr a b) (a ≡ b)
unfolding same_expr
same_expr_decides a b = answers (decide_expr a b)

pub same_expr_laws : IsEquivalence same_expr
same_expr_laws = decided same_expr same_expr_decides

decide_ty : (a b : Ty) → Dec (a ≡ b)
decide_ty = ind-Ty Claim Claim Claim Claim Claim (λ x v is. subst (λ z. Claim (roll-Expr z)) is (expr_case v)) (λ x v is. subst (λ z. Claim (roll-Ty z)) is (ty_case v))
    (λ x v is. subst (λ z. Claim (roll-Access z)) is (access_case v)) (λ x v is. subst (λ z. Claim (roll-Decl z)) is (decl_case v))
    (λ x v is. subst (λ z. Claim (roll-Var z)) is (var_case v))

-- true where both are equal, and only there
pub same_ty : Ty → Ty → Bool
same_ty a b = answer (decide_ty a b)

pub same_ty_decides : (a b : Ty) → Decides (same_ty a b) (a ≡ b)
unfolding same_ty
same_ty_decides a b = answers (decide_ty a b)

pub same_ty_laws : IsEquivalence same_ty
same_ty_laws = decided same_ty same_ty_decides

decide_access : (a b : Access) → Dec (a ≡ b)
decide_access = ind-Access Claim Claim Claim Claim Claim (λ x v is. subst (λ z. Claim (roll-Expr z)) is (expr_case v)) (λ x v is. subst (λ z. Claim (roll-Ty z)) is (ty_case v))
    (λ x v is. subst (λ z. Claim (roll-Access z)) is (access_case v)) (λ x v is. subst (λ z. Claim (roll-Decl z)) is (decl_case v))
    (λ x v is. subst (λ z. Claim (roll-Var z)) is (var_case v))

-- true where both are equal, and only there
pub same_access : Access → Access → Bool
same_access a b = answer (decide_access a b)

pub same_access_decides : (a b : Access) → Decides (same_access a b) (a ≡ b)
unfolding same_access
same_access_decides a b = answers (decide_access a b)

pub same_access_laws : IsEquivalence same_access
same_access_laws = decided same_access same_access_decides

decide_decl : (a b : Decl) → Dec (a ≡ b)
decide_decl = ind-Decl Claim Claim Claim Claim Claim (λ x v is. subst (λ z. Claim (roll-Expr z)) is (expr_case v)) (λ x v is. subst (λ z. Claim (roll-Ty z)) is (ty_case v))
    (λ x v is. subst (λ z. Claim (roll-Access z)) is (access_case v)) (λ x v is. subst (λ z. Claim (roll-Decl z)) is (decl_case v))
    (λ x v is. subst (λ z. Claim (roll-Var z)) is (var_case v))

-- true where both are equal, and only there
pub same_decl : Decl → Decl → Bool
same_decl a b = answer (decide_decl a b)

pub same_decl_decides : (a b : Decl) → Decides (same_decl a b) (a ≡ b)
unfolding same_decl
same_decl_decides a b = answers (decide_decl a b)

pub same_decl_laws : IsEquivalence same_decl
same_decl_laws = decided same_decl same_decl_decides

decide_var : (a b : Var) → Dec (a ≡ b)
decide_var = ind-Var Claim Claim Claim Claim Claim (λ x v is. subst (λ z. Claim (roll-Expr z)) is (expr_case v)) (λ x v is. subst (λ z. Claim (roll-Ty z)) is (ty_case v))
    (λ x v is. subst (λ z. Claim (roll-Access z)) is (access_case v)) (λ x v is. subst (λ z. Claim (roll-Decl z)) is (decl_case v))
    (λ x v is. subst (λ z. Claim (roll-Var z)) is (var_case v))

-- true where both are equal, and only there
pub same_var : Var → Var → Bool
same_var a b = answer (decide_var a b)

pub same_var_decides : (a b : Var) → Decides (same_var a b) (a ≡ b)
unfolding same_var
same_var_decides a b = answers (decide_var a b)

pub same_var_laws : IsEquivalence same_var
same_var_laws = decided same_var same_var_decides
