-- The value of an expression fits its size, where the values of variables do and memory holds bytes.
use Rattle.std.proofs.Common.{◌≡◌, ℕ, [], Option, Some, Bool, true, false, sym, subst, if◌then◌else◌}
use Rattle.jz_tree.specs.Span.{Span}
use Rattle.jz_tree.specs.Size.{Size}
use Rattle.jz_tree.specs.Size.TheVariants.{S64}
use Rattle.jz_tree.specs.declared.expr.BinOp.{BinOp}
use Rattle.jz_tree.specs.declared.expr.Expr.{Expr}
use Rattle.jz_tree.specs.declared.expr.Ty.{Ty}
use Rattle.jz_tree.specs.declared.expr.Access.{Access}
use Rattle.jz_tree.specs.declared.expr.Decl.{Decl}
use Rattle.jz_tree.specs.declared.expr.Var.{Var}
use Rattle.jz_tree.specs.declared.expr.Expr.TheOpen.{Expr-F, Access-F}
use Rattle.jz_tree.specs.declared.expr.Expr.TheViews.{roll-Expr, roll-Access}
use Rattle.jz_tree.specs.declared.expr.Expr.TheFolds.{fold-Ty, fold-Decl, fold-roll-Expr, fold-roll-Access, ind-Expr, map-Expr, map-Access}
use Rattle.jz_meaning.specs.declared.access.Kind.{Kind}
use Rattle.jz_meaning.specs.Rules.{went}
use Rattle.jz_meaning.specs.Attempts.{Evaluation, and_then, defined}
use Rattle.jz_meaning.specs.States.{Value, Key, Store, State}
use Rattle.jz_meaning.specs.Operators.{word_of, word_at, is_settled, binary, negated, inverted, cast}
use Rattle.jz_meaning.specs.Values.{Ref, key_of, cell_key, index_at, cell_value, MemoryAccess, load_at, Meaning, right_wanted, left_wanted, with_right, expr_step, ty_step, access_step, decl_step, var_step, meaning_of, ref_of, access_of, evaluated}
use Rattle.jz_meaning.specs.Assignments.{word_in}
use Rattle.jz_run_laws.specs.Kinds.{FitsSize, HoldsBytes}
use Rattle.jz_run_laws.specs.Kept.{IfWent}
use Rattle.jz_run_laws.proofs.Parts.{AnyOf, went_then, went_any, went_defined}
use Rattle.jz_run_laws.proofs.Bounds.{IsBelow, word_below}
use Rattle.jz_run_laws.proofs.Bytes.{load_fits}
use Rattle.jz_run_laws.proofs.Operators.{MayFit, binary_fits, negated_fits, inverted_fits, cast_fits}

-- all values of a store fit their sizes
abbrev pub StoreFits : Store → Type 0
StoreFits store = (k : Key) → MayFit (store k)

abbrev pub StateFits : State → Type 0
StateFits s = StoreFits s.store × HoldsBytes s.memory

abbrev Run : Type 0
Run = Option Size → State → Evaluation Value

right_by : (c : Bool) (op : BinOp) (right : Run) (at : Span) (w : Option Size) (s : State) (x : Value) → FitsSize x → IfWent FitsSize (right (right_wanted op w) s)
    → IfWent FitsSize (if c then went [] x else and_then (right (right_wanted op w) s) (λ y. binary op at w x y))
right_by true op right at w s x hx h = hx
right_by false op right at w s x hx h = went_then FitsSize FitsSize (right (right_wanted op w) s) (λ y. binary op at w x y) h (λ y hy. binary_fits op at w x y hx hy)

right_fits : (op : BinOp) (right : Run) (at : Span) (w : Option Size) (s : State) (x : Value) → FitsSize x → IfWent FitsSize (right (right_wanted op w) s) → IfWent FitsSize (with_right op right at w s x)
right_fits op right at w s x hx h = right_by (is_settled op x) op right at w s x hx h

cell_fits : (x : Ref) (v : Value) (store : Store) → StoreFits store → IfWent FitsSize (cell_value x v store)
cell_fits x v store h =
    went_then (AnyOf {A = ℕ}) FitsSize (index_at x v) (λ i. defined x.span (store (cell_key x i))) (went_any (index_at x v))
    (λ i t. went_defined FitsSize x.span (store (cell_key x i)) (h (cell_key x i)))

-- ---- layers

abbrev Fits : Meaning → Type 0
Fits m = (w : Option Size) (s : State) → StateFits s → IfWent FitsSize (m.run w s)

abbrev AccessFits : MemoryAccess → Type 0
AccessFits p = (s : State) → StateFits s → IfWent FitsSize (p.at s)

abbrev ExprLaw : Expr → Type 0
ExprLaw e = Fits (meaning_of e)

abbrev AccessLaw : Access → Type 0
AccessLaw a = AccessFits (access_of a)

abbrev Known : Type 0
Known = Expr-F ((e : Expr) × ExprLaw e) ((t : Ty) × AnyOf t) ((a : Access) × AccessLaw a) ((d : Decl) × AnyOf d) ((x : Var) × AnyOf x)

abbrev bare : Known → Expr-F Expr Ty Access Decl Var
bare y = map-Expr _ _ _ _ _ _ _ _ _ _ (λ e. e.0) (λ e. e.0) (λ e. e.0) (λ e. e.0) (λ e. e.0) y

abbrev kind_of_ty : Ty → Kind
kind_of_ty = fold-Ty _ _ _ _ _ expr_step ty_step access_step decl_step var_step

abbrev kind_of_decl : Decl → Kind
kind_of_decl = fold-Decl _ _ _ _ _ expr_step ty_step access_step decl_step var_step

abbrev meaning_layer : Expr-F Expr Ty Access Decl Var → Meaning
meaning_layer x = expr_step (map-Expr _ _ _ _ _ Meaning Kind MemoryAccess Kind Ref meaning_of kind_of_ty access_of kind_of_decl ref_of x)

layer_law : (y : Known) → Fits (meaning_layer (bare y))
layer_law (Expr-F.Num i at) w s h = tt
layer_law (Expr-F.Expr::Bool c at) w s h = tt
layer_law (Expr-F.Var x) w s h = went_defined FitsSize (ref_of x.0).span (s.store (key_of (ref_of x.0))) (h.0 (key_of (ref_of x.0)))
layer_law (Expr-F.Cell x e) w s h =
    went_then FitsSize FitsSize (evaluated e.0 (Some S64) s) (λ v. cell_value (ref_of x.0) v s.store) (e.1 (Some S64) s h)
    (λ v q. cell_fits (ref_of x.0) v s.store h.0)
layer_law (Expr-F.Load a) w s h =
    went_then FitsSize FitsSize ((access_of a.0).at s) (λ v. load_at (access_of a.0) w v s.memory) (a.1 s h)
    (λ v q. load_fits (access_of a.0) w v s.memory h.1)
layer_law (Expr-F.Neg e at) w s h =
    went_then FitsSize FitsSize (evaluated e.0 _ s) (λ v. defined at (negated v)) (e.1 _ s h)
    (λ v q. went_defined FitsSize at (negated v) (negated_fits v))
layer_law (Expr-F.Not e at) w s h =
    went_then FitsSize FitsSize (evaluated e.0 _ s) (λ v. went [] (inverted v)) (e.1 _ s h) (λ v q. inverted_fits v)
layer_law (Expr-F.Cast z sign e at) w s h =
    went_then FitsSize FitsSize (evaluated e.0 _ s) (λ v. defined at (cast z sign v)) (e.1 _ s h)
    (λ v q. went_defined FitsSize at (cast z sign v) (cast_fits z sign v))
layer_law (Expr-F.Bin op x y at) w s h =
    let z = left_wanted op w (meaning_of x.0).size (meaning_of y.0).size in
    went_then FitsSize FitsSize (evaluated x.0 z s) (with_right op (evaluated y.0) at z s) (x.1 z s h)
    (λ v q. right_fits op (evaluated y.0) at z s v q (y.1 (right_wanted op z) s h))

meaning_is : (x : Expr-F Expr Ty Access Decl Var) → meaning_of (roll-Expr x) ≡ meaning_layer x
meaning_is x = fold-roll-Expr _ _ _ _ _ expr_step ty_step access_step decl_step var_step x

expr_case : (y : Known) → ExprLaw (roll-Expr (bare y))
expr_case y = subst Fits (sym (meaning_is (bare y))) (layer_law y)

access_case : (y : Access-F ((e : Expr) × ExprLaw e) ((t : Ty) × AnyOf t) ((a : Access) × AccessLaw a) ((d : Decl) × AnyOf d) ((x : Var) × AnyOf x)) → AccessLaw (roll-Access (map-Access _ _ _ _ _ _ _ _ _ _ (λ e. e.0) (λ e. e.0) (λ e. e.0) (λ e. e.0) (λ e. e.0) y))
access_case y =
    let x = map-Access _ _ _ _ _ Expr Ty Access Decl Var (λ e. e.0) (λ e. e.0) (λ e. e.0) (λ e. e.0) (λ e. e.0) y in
    subst AccessFits (sym (fold-roll-Access _ _ _ _ _ expr_step ty_step access_step decl_step var_step x))
    (λ s h. y.at.1 (Some S64) s h)

expressions : (e : Expr) → ExprLaw e
expressions =
    ind-Expr ExprLaw (λ t. AnyOf t) AccessLaw (λ d. AnyOf d) (λ x. AnyOf x)
    (λ x y is. subst (λ z. ExprLaw (roll-Expr z)) is (expr_case y))
    (λ x y is. tt)
    (λ x y is. subst (λ z. AccessLaw (roll-Access z)) is (access_case y))
    (λ x y is. tt)
    (λ x y is. tt)

pub value_fits : (e : Expr) (w : Option Size) (s : State) → StateFits s → IfWent FitsSize (evaluated e w s)
value_fits = expressions

pub word_at_below : (at : Span) (z : Size) (v : Value) → FitsSize v → IfWent (IsBelow z) (word_at at z v)
word_at_below at z v h = went_defined (IsBelow z) at (word_of z v) (word_below z v h)

pub word_in_below : (at : Span) (z : Size) (e : Expr) (s : State) → StateFits s → IfWent (IsBelow z) (word_in at z e s)
word_in_below at z e s h = went_then FitsSize (IsBelow z) (evaluated e (Some z) s) (word_at at z) (value_fits e (Some z) s h) (λ v q. word_at_below at z v q)
