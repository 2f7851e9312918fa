-- An inline expression whose value is a truth is a truth by its text.
use Rattle.std.proofs.Common.{◌≡◌, ℤ, Option, Some, None, Bool, true, false, refl, ap, sym, ◌∙◌, subst, if◌then◌else◌}
use Rattle.std.specs.Prelude.{option_map}
use Rattle.std.proofs.lemmas.Bool.{false≢true}
use Rattle.jz_tree.specs.Operators.{joins}
use Rattle.jz_tree.specs.declared.expr.BinOp.{BinOp}
use Rattle.jz_tree.specs.declared.expr.BinOp.TheVariants as op
use Rattle.jz_tree.specs.declared.expr.Expr.{Expr}
use Rattle.jz_tree.specs.declared.expr.Ty.{Ty}
use Rattle.jz_tree.specs.declared.expr.Access.{Access}
use Rattle.jz_tree.specs.declared.expr.Decl.{Decl}
use Rattle.jz_tree.specs.declared.expr.Var.{Var}
use Rattle.jz_tree.specs.declared.expr.Expr.TheOpen.{Expr-F}
use Rattle.jz_tree.specs.declared.expr.Expr.TheViews.{roll-Expr}
use Rattle.jz_tree.specs.declared.expr.Expr.TheFolds.{fold-Var, fold-roll-Expr, ind-Expr, map-Expr}
use Rattle.jz_integers.specs.Integers.{KnownNumbers, truth, negated, inverted, on_integers, settles, with_right, joined, minus, opposite, value_step, inline_value}
use Rattle.jz_integers.specs.declared.constant.Constant.{Constant}
use Rattle.jz_integers.specs.declared.constant.Constant.TheVariants as constant
use Rattle.jz_meaning.specs.Shapes.{Sort, flags, both, Sorts, Shape, shape_of}
use Rattle.jz_meaning.specs.Values.{gives_word}
use Rattle.jz_scalars.proofs.Reading.{Layer}
use Rattle.jz_arrays.proofs.Reading.{shape_layer, shape_is}

abbrev IsTruth : Option Constant → Bool → Type 0
IsTruth o b = o ≡ Some (constant.Bool b)

number_not : (o : Option ℤ) (b : Bool) → IsTruth (option_map constant.Int o) b → ⊥
number_not None b e = cc
number_not (Some i) b e = cc

minus_not : (o : Option Constant) (b : Bool) → IsTruth (minus o) b → ⊥
minus_not None b e = cc
minus_not (Some (constant.Int i)) b e = number_not (negated i) b e
minus_not (Some (constant.Bool c)) b e = cc

opposite_is : (o : Option Constant) (b : Bool) → IsTruth (opposite o) b → (c : Bool) × IsTruth o c
opposite_is None b e = absurd cc
opposite_is (Some (constant.Int i)) b e = absurd (number_not (Some (inverted i)) b e)
opposite_is (Some (constant.Bool c)) b e = (c, refl)

-- ---- operations that give a number

joins_word : (o : BinOp) → gives_word o ≡ true → joins o ≡ false
joins_word op.AndThen g = absurd (false≢true g)
joins_word op.OrElse g = absurd (false≢true g)
joins_word o g = refl

settles_word : (o : BinOp) (b : Bool) → gives_word o ≡ true → settles o b ≡ false
settles_word op.AndThen b g = absurd (false≢true g)
settles_word op.OrElse b g = absurd (false≢true g)
settles_word o b g = refl

integers_not : (o : BinOp) (i j : ℤ) (b : Bool) → gives_word o ≡ true → IsTruth (on_integers o i j) b → ⊥
integers_not op.OrElse i j b g e = false≢true g
integers_not op.AndThen i j b g e = false≢true g
integers_not op.Eq i j b g e = false≢true g
integers_not op.Ne i j b g e = false≢true g
integers_not op.Lt i j b g e = false≢true g
integers_not op.Le i j b g e = false≢true g
integers_not op.Gt i j b g e = false≢true g
integers_not op.Ge i j b g e = false≢true g
integers_not op.LtS i j b g e = false≢true g
integers_not op.LeS i j b g e = false≢true g
integers_not op.GtS i j b g e = false≢true g
integers_not op.GeS i j b g e = false≢true g
integers_not op.Or i j b g e = cc
integers_not op.Xor i j b g e = cc
integers_not op.And i j b g e = cc
integers_not op.Add i j b g e = number_not _ b e
integers_not op.Sub i j b g e = number_not _ b e
integers_not op.Mul i j b g e = number_not _ b e
integers_not op.Div i j b g e = number_not _ b e
integers_not op.Rem i j b g e = number_not _ b e
integers_not op.Shl i j b g e = number_not _ b e
integers_not op.Shr i j b g e = number_not _ b e
integers_not op.Sar i j b g e = cc
integers_not op.Rol i j b g e = cc
integers_not op.Ror i j b g e = cc
integers_not op.DivS i j b g e = cc
integers_not op.RemS i j b g e = cc

truths_not : (j : Bool) (c b : Bool) → j ≡ false → IsTruth (if j then truth c else None) b → ⊥
truths_not true c b f e = absurd cc
truths_not false c b f e = cc

right_not : (o : BinOp) (x : Constant) (y : Option Constant) (b : Bool) → gives_word o ≡ true → IsTruth (with_right o x y) b → ⊥
right_not o x None b g e = cc
right_not o (constant.Int i) (Some (constant.Int j)) b g e = integers_not o i j b g e
right_not o (constant.Int i) (Some (constant.Bool c)) b g e = cc
right_not o (constant.Bool a) (Some (constant.Int j)) b g e = cc
right_not o (constant.Bool a) (Some (constant.Bool c)) b g e = truths_not (joins o) c b (joins_word o g) e

settled_not : (o : BinOp) (x : Constant) (y : Option Constant) (b s : Bool) → s ≡ false → gives_word o ≡ true → IsTruth (if s then Some x else with_right o x y) b → ⊥
settled_not o x y b true f g e = absurd cc
settled_not o x y b false f g e = right_not o x y b g e

joined_not : (o : BinOp) (x y : Option Constant) (b : Bool) → gives_word o ≡ true → IsTruth (joined o x y) b → ⊥
joined_not o None y b g e = cc
joined_not o (Some (constant.Int i)) y b g e = right_not o (constant.Int i) y b g e
joined_not o (Some (constant.Bool c)) y b g e = settled_not o (constant.Bool c) y b (settles o c) (settles_word o c g) g e

operation_sort : (o : BinOp) (s t : Sort) (g : Bool) → gives_word o ≡ g → (g ≡ true → ⊥) → (if gives_word o then both s t else flags) ≡ flags
operation_sort o s t true q h = absurd (h refl)
operation_sort o s t false q h = ap (λ g. if g then both s t else flags) q

-- ---- expressions

module _ (sorts : Sorts) (e : KnownNumbers) where
  abbrev number_of_var : Var → Option ℤ
  number_of_var = fold-Var _ _ _ _ _ value_step (λ t. tt) (λ a. tt) (λ d. tt) (λ v. e v.name v.copy)

  abbrev value_layer : Layer → Option Constant
  value_layer x = value_step (map-Expr _ _ _ _ _ (Option Constant) (Unit {0}) (Unit {0}) (Unit {0}) (Option ℤ) (inline_value e) (λ t. tt) (λ a. tt) (λ d. tt) number_of_var x)

  value_is : (x : Layer) → inline_value e (roll-Expr x) ≡ value_layer x
  value_is x = fold-roll-Expr _ _ _ _ _ value_step (λ t. tt) (λ a. tt) (λ d. tt) (λ v. e v.name v.copy) x

  abbrev ExprLaw : Expr → Type 0
  ExprLaw x = (b : Bool) → IsTruth (inline_value e x) b → (shape_of sorts x).sort ≡ flags

  abbrev Any : {A : Type 0} → A → Type 0
  Any y = Unit {0}

  abbrev Known : Type 0
  Known = Expr-F ((x : Expr) × ExprLaw x) ((t : Ty) × Any t) ((a : Access) × Any a) ((d : Decl) × Any d) ((v : Var) × Any v)

  abbrev bare : Known → Layer
  bare y = map-Expr _ _ _ _ _ _ _ _ _ _ (λ x. x.0) (λ x. x.0) (λ x. x.0) (λ x. x.0) (λ x. x.0) y

  layer_law : (y : Known) (b : Bool) → IsTruth (value_layer (bare y)) b → (shape_layer sorts (bare y)).sort ≡ flags
  layer_law (Expr-F.Num i at) b q = absurd (number_not (Some i) b q)
  layer_law (Expr-F.Expr::Bool c at) b q = refl
  layer_law (Expr-F.Var v) b q = absurd (number_not (number_of_var v.0) b q)
  layer_law (Expr-F.Cell v x) b q = absurd cc
  layer_law (Expr-F.Load a) b q = absurd cc
  layer_law (Expr-F.Neg x at) b q = absurd (minus_not (inline_value e x.0) b q)
  layer_law (Expr-F.Not x at) b q = let c = opposite_is (inline_value e x.0) b q in x.1 c.0 c.1
  layer_law (Expr-F.Cast z s x at) b q = absurd cc
  layer_law (Expr-F.Bin o x z at) b q =
      operation_sort o (shape_of sorts x.0).sort (shape_of sorts z.0).sort (gives_word o) refl (λ g. joined_not o (inline_value e x.0) (inline_value e z.0) b g q)

  expr_case : (y : Known) → ExprLaw (roll-Expr (bare y))
  expr_case y b q = ap (λ (s : Shape). s.sort) (shape_is sorts (bare y)) ∙ layer_law y b (sym (value_is (bare y)) ∙ q)

  pub truth_sort : (x : Expr) → ExprLaw x
  truth_sort =
      ind-Expr ExprLaw Any Any Any Any
      (λ z y is. subst (λ x. ExprLaw (roll-Expr x)) is (expr_case y))
      (λ z y is. tt)
      (λ z y is. tt)
      (λ z y is. tt)
      (λ z y is. tt)
