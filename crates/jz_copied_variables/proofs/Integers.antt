-- Indexes of register arrays: inline integers, whose values are numbers, and whose copies are inline integers.
use Rattle.std.proofs.Common.{◌≡◌, ℤ, Option, Some, None, Bool, true, false, ◌&&◌, refl, sym, ap, ◌∙◌, subst}
use Rattle.std.specs.Prelude.{option_map}
use Rattle.std.specs.Int.{w128, int_bit_and, int_bit_or, int_bit_xor}
use Rattle.std.proofs.lemmas.Bool.{and_parts, and_from, false≢true}
use Rattle.jz_tree.specs.declared.expr.Storage.{Storage}
use Rattle.jz_tree.specs.declared.expr.BinOp.{BinOp}
use Rattle.jz_tree.specs.declared.expr.BinOp.TheVariants as op
use Rattle.jz_tree.specs.declared.expr.Expr.{Expr}
use Rattle.jz_tree.specs.declared.expr.Ty.{Ty}
use Rattle.jz_tree.specs.declared.expr.Access.{Access}
use Rattle.jz_tree.specs.declared.expr.Decl.{Decl}
use Rattle.jz_tree.specs.declared.expr.Var.{Var}
use Rattle.jz_tree.specs.declared.expr.Expr.TheOpen.{Expr-F, Ty-F, Var-F}
use Rattle.jz_tree.specs.declared.expr.Expr.TheViews.{roll-Expr, out-Expr, out-Ty, out-Var, roll-out-Expr, out-roll-Expr, roll-out-Ty, roll-out-Var}
use Rattle.jz_tree.specs.declared.expr.Expr.TheFolds.{fold-Ty, fold-Access, fold-Decl, fold-Var, fold-roll-Expr, fold-roll-Ty, fold-roll-Decl, fold-roll-Var, ind-Expr, map-Expr, map-Ty, map-Var}
use Rattle.jz_type_names.specs.declared.kinds.Kind as known
use Rattle.jz_type_names.specs.declared.kinds.Declared.{Declared}
use Rattle.jz_type_names.specs.Kinds.{Known, kind_step, kind_of, declared_of, known_of, is_inline_int, declared_step, known_step, is_inline}
use Rattle.jz_type_rows.specs.Indexes.{integer_step, is_inline_integer}
use Rattle.jz_select.specs.Look.{gives_number}
use Rattle.jz_integers.specs.declared.constant.Constant.{Constant}
use Rattle.jz_integers.specs.declared.constant.Constant.TheVariants as constant
use Rattle.jz_integers.specs.Integers.{KnownNumbers, number, negated, inverted, on_integers, minus, opposite, joined, value_step, inline_value}
use Rattle.jz_judgement.specs.HasType.{Layer}
use Rattle.jz_unroll.proofs.InlineParts.{inline_layer, inline_out}
use Rattle.jz_inline.specs.Names.{Names, expr_in}
use Rattle.jz_inline.proofs.Reading.{layer_in}
use Rattle.jz_copied_types.proofs.Copying.{out_in, known_in}
use Rattle.jz_copied_variables.specs.Variables.{IsInteger, integer, IntegerLayer, i_number, i_variable, i_minus, i_denial, i_two}

-- ---- of the rule of indexes
abbrev ty_seen : Ty → known.Kind
ty_seen = fold-Ty Bool known.Kind Bool Declared Known integer_step kind_step (λ a. a.at) declared_step known_step

abbrev access_seen : Access → Bool
access_seen = fold-Access Bool known.Kind Bool Declared Known integer_step kind_step (λ a. a.at) declared_step known_step

abbrev decl_seen : Decl → Declared
decl_seen = fold-Decl Bool known.Kind Bool Declared Known integer_step kind_step (λ a. a.at) declared_step known_step

abbrev var_seen : Var → Known
var_seen = fold-Var Bool known.Kind Bool Declared Known integer_step kind_step (λ a. a.at) declared_step known_step

kind_same : (x : Ty-F Expr Ty Access Decl Var) → kind_step (map-Ty _ _ _ _ _ Bool known.Kind Bool Declared Known is_inline_integer ty_seen access_seen decl_seen var_seen x) ≡ kind_step x
kind_same Ty-F.Int = refl
kind_same Ty-F.Ty::Bool = refl
kind_same (Ty-F.Word z) = refl
kind_same (Ty-F.Array z n) = refl

ty_same : (t : Ty) → ty_seen t ≡ kind_of t
ty_same t = ap ty_seen (sym (roll-out-Ty t)) ∙ fold-roll-Ty Bool known.Kind Bool Declared Known integer_step kind_step (λ a. a.at) declared_step known_step (out-Ty t) ∙ kind_same (out-Ty t)

abbrev declaring : Storage → known.Kind → Declared
declaring s k = record { storage = s; kind = k }

decl_same : (d : Decl) → decl_seen d ≡ declared_of d
decl_same d =
    fold-roll-Decl Bool known.Kind Bool Declared Known integer_step kind_step (λ a. a.at) declared_step known_step (record { storage = d.storage; ty = d.ty })
    ∙ ap (declaring d.storage) (ty_same d.ty)

some_same : (x : Var-F Expr Ty Access Decl Var) (o : Option Decl)
    → (map-Var _ _ _ _ _ Bool known.Kind Bool Declared Known is_inline_integer ty_seen access_seen decl_seen var_seen (record x { decl = o })).decl ≡ option_map declared_of o
some_same x None = refl
some_same x (Some d) = ap (λ (k : Declared). Some k) (decl_same d)

var_same : (v : Var) → var_seen v ≡ known_of v
var_same v =
    ap var_seen (sym (roll-out-Var v)) ∙ fold-roll-Var Bool known.Kind Bool Declared Known integer_step kind_step (λ a. a.at) declared_step known_step (out-Var v)
    ∙ some_same (out-Var v) (out-Var v).decl

abbrev integer_layer : Layer → Bool
integer_layer (Expr-F.Num n at) = true
integer_layer (Expr-F.Expr::Bool b at) = false
integer_layer (Expr-F.Var v) = is_inline_int (known_of v)
integer_layer (Expr-F.Cell v i) = false
integer_layer (Expr-F.Load a) = false
integer_layer (Expr-F.Neg a at) = is_inline_integer a
integer_layer (Expr-F.Not a at) = is_inline_integer a
integer_layer (Expr-F.Cast z s a at) = false
integer_layer (Expr-F.Bin o a b at) = gives_number o && (is_inline_integer b && is_inline_integer a)

step_is : (x : Layer) → integer_step (map-Expr _ _ _ _ _ Bool known.Kind Bool Declared Known is_inline_integer ty_seen access_seen decl_seen var_seen x) ≡ integer_layer x
step_is (Expr-F.Num n at) = refl
step_is (Expr-F.Expr::Bool b at) = refl
step_is (Expr-F.Var v) = ap is_inline_int (var_same v)
step_is (Expr-F.Cell v i) = refl
step_is (Expr-F.Load a) = refl
step_is (Expr-F.Neg a at) = refl
step_is (Expr-F.Not a at) = refl
step_is (Expr-F.Cast z s a at) = refl
step_is (Expr-F.Bin o a b at) = refl

integer_is : (x : Layer) → is_inline_integer (roll-Expr x) ≡ integer_layer x
integer_is x = fold-roll-Expr Bool known.Kind Bool Declared Known integer_step kind_step (λ a. a.at) declared_step known_step x ∙ step_is x

abbrev Law : Expr → Type 0
Law e = is_inline_integer e ≡ true → IsInteger e

abbrev Proved : Type 0
Proved = Expr-F ((e : Expr) × Law e) (Ty × Unit {0}) (Access × Unit {0}) (Decl × Unit {0}) (Var × Unit {0})

abbrev bare : Proved → Layer
bare y = map-Expr _ _ _ _ _ Expr Ty Access Decl Var (λ e. e.0) (λ e. e.0) (λ e. e.0) (λ e. e.0) (λ e. e.0) y

layer_law : (y : Proved) → integer_layer (bare y) ≡ true → IntegerLayer (bare y)
layer_law (Expr-F.Num n at) h = i_number
layer_law (Expr-F.Expr::Bool b at) h = absurd (false≢true h)
layer_law (Expr-F.Var v) h = i_variable h
layer_law (Expr-F.Cell v i) h = absurd (false≢true h)
layer_law (Expr-F.Load a) h = absurd (false≢true h)
layer_law (Expr-F.Neg a at) h = i_minus (a.1 h)
layer_law (Expr-F.Not a at) h = i_denial (a.1 h)
layer_law (Expr-F.Cast z s a at) h = absurd (false≢true h)
layer_law (Expr-F.Bin o a b at) h =
    let p = and_parts (gives_number o) (is_inline_integer b.0 && is_inline_integer a.0) h in
    let r = and_parts (is_inline_integer b.0) (is_inline_integer a.0) p.1 in
    i_two p.0 (a.1 r.1) (b.1 r.0)

integer_case : (y : Proved) → Law (roll-Expr (bare y))
integer_case y h = integer (subst IntegerLayer (sym (out-roll-Expr (bare y))) (layer_law y (sym (integer_is (bare y)) ∙ h)))

pub integer_of : (e : Expr) → Law e
integer_of =
    ind-Expr Law (λ t. Unit {0}) (λ a. Unit {0}) (λ d. Unit {0}) (λ v. Unit {0})
    (λ x y is. subst (λ z. Law (roll-Expr z)) is (integer_case y))
    (λ x y is. tt)
    (λ x y is. tt)
    (λ x y is. tt)
    (λ x y is. tt)

-- ---- it is inline
mutual
  pub integer_inline : {e : Expr} → IsInteger e → is_inline e ≡ true
  integer_inline {e = e} (integer h) = inline_out e ∙ layer_inline h

  layer_inline : {x : Layer} → IntegerLayer x → inline_layer x ≡ true
  layer_inline i_number = refl
  layer_inline (i_variable i) = i
  layer_inline (i_minus h) = integer_inline h
  layer_inline (i_denial h) = integer_inline h
  layer_inline (i_two {a = a} {b = b} g h k) = and_from (is_inline a) (is_inline b) (integer_inline h) (integer_inline k)

-- ---- its value is no truth
abbrev pub IsNoTruth : Option Constant → Type 0
IsNoTruth c = (b : Bool) → c ≡ Some (constant.Bool b) → ⊥

number_no : (o : Option ℤ) → IsNoTruth (number o)
number_no None b e = cc
number_no (Some i) b e = cc

minus_no : (c : Option Constant) → IsNoTruth (minus c)
minus_no None b e = cc
minus_no (Some (constant.Int i)) b e = number_no (negated i) b e
minus_no (Some (constant.Bool a)) b e = cc

opposite_no : (c : Option Constant) → IsNoTruth c → IsNoTruth (opposite c)
opposite_no None h b e = cc
opposite_no (Some (constant.Int i)) h b e = number_no (Some (inverted i)) b e
opposite_no (Some (constant.Bool a)) h b e = absurd (h a refl)

integers_no : (o : BinOp) (i j : ℤ) → gives_number o ≡ true → IsNoTruth (on_integers o i j)
integers_no op.Or i j g b e = number_no (Some (int_bit_or w128 i j)) b e
integers_no op.Xor i j g b e = number_no (Some (int_bit_xor w128 i j)) b e
integers_no op.And i j g b e = number_no (Some (int_bit_and w128 i j)) b e
integers_no op.Add i j g b e = number_no _ b e
integers_no op.Sub i j g b e = number_no _ b e
integers_no op.Mul i j g b e = number_no _ b e
integers_no op.Div i j g b e = number_no _ b e
integers_no op.Rem i j g b e = number_no _ b e
integers_no op.Shl i j g b e = number_no _ b e
integers_no op.Shr i j g b e = number_no _ b e
integers_no op.OrElse i j g b e = absurd (false≢true g)
integers_no op.AndThen i j g b e = absurd (false≢true g)
integers_no op.Eq i j g b e = absurd (false≢true g)
integers_no op.Ne i j g b e = absurd (false≢true g)
integers_no op.Lt i j g b e = absurd (false≢true g)
integers_no op.Le i j g b e = absurd (false≢true g)
integers_no op.Gt i j g b e = absurd (false≢true g)
integers_no op.Ge i j g b e = absurd (false≢true g)
integers_no op.LtS i j g b e = absurd (false≢true g)
integers_no op.LeS i j g b e = absurd (false≢true g)
integers_no op.GtS i j g b e = absurd (false≢true g)
integers_no op.GeS i j g b e = absurd (false≢true g)
integers_no op.Sar i j g b e = cc
integers_no op.Rol i j g b e = cc
integers_no op.Ror i j g b e = cc
integers_no op.DivS i j g b e = cc
integers_no op.RemS i j g b e = cc

joined_no : (o : BinOp) (x y : Option Constant) → gives_number o ≡ true → IsNoTruth x → IsNoTruth (joined o x y)
joined_no o None y g h b e = cc
joined_no o (Some (constant.Int i)) None g h b e = cc
joined_no o (Some (constant.Int i)) (Some (constant.Int j)) g h b e = integers_no o i j g b e
joined_no o (Some (constant.Int i)) (Some (constant.Bool c)) g h b e = cc
joined_no o (Some (constant.Bool a)) y g h b e = absurd (h a refl)

module _ (k : KnownNumbers) where
  abbrev number_of : Var → Option ℤ
  number_of = fold-Var _ _ _ _ _ value_step (λ t. tt) (λ a. tt) (λ d. tt) (λ v. k v.name v.copy)

  abbrev value_layer : Layer → Option Constant
  value_layer x = value_step (map-Expr _ _ _ _ _ (Option Constant) (Unit {0}) (Unit {0}) (Unit {0}) (Option ℤ) (inline_value k) (λ t. tt) (λ a. tt) (λ d. tt) number_of x)

  value_is : (x : Layer) → inline_value k (roll-Expr x) ≡ value_layer x
  value_is x = fold-roll-Expr _ _ _ _ _ value_step (λ t. tt) (λ a. tt) (λ d. tt) (λ v. k v.name v.copy) x

  value_out : (e : Expr) → inline_value k e ≡ value_layer (out-Expr e)
  value_out e = ap (inline_value k) (sym (roll-out-Expr e)) ∙ value_is (out-Expr e)

  mutual
    pub integer_value : {e : Expr} → IsInteger e → IsNoTruth (inline_value k e)
    integer_value {e = e} (integer h) = λ b q. layer_value h b (sym (value_out e) ∙ q)

    layer_value : {x : Layer} → IntegerLayer x → IsNoTruth (value_layer x)
    layer_value (i_number {i = i}) = number_no (Some i)
    layer_value (i_variable {v = v} i) = number_no (number_of v)
    layer_value (i_minus {a = a} h) = minus_no (inline_value k a)
    layer_value (i_denial {a = a} h) = opposite_no (inline_value k a) (integer_value h)
    layer_value (i_two {o = o} {a = a} {b = b} g h l) = joined_no o (inline_value k a) (inline_value k b) g (integer_value h)

-- ---- a copy of one is one
module _ (names : Names) where
  mutual
    pub integer_in : {e : Expr} → IsInteger e → IsInteger (expr_in names e)
    integer_in {e = e} (integer h) = integer (subst IntegerLayer (sym (out_in names e)) (layer_copied h))

    layer_copied : {x : Layer} → IntegerLayer x → IntegerLayer (layer_in names x)
    layer_copied i_number = i_number
    layer_copied (i_variable {v = v} i) = i_variable (ap is_inline_int (known_in names v) ∙ i)
    layer_copied (i_minus h) = i_minus (integer_in h)
    layer_copied (i_denial h) = i_denial (integer_in h)
    layer_copied (i_two g h l) = i_two g (integer_in h) (integer_in l)
