-- An expression that is typed as an integer is known when the text is compiled, and its value is a number; that of an inline condition is a truth.
use Rattle.std.proofs.Common.{◌≡◌, ℤ, [], Option, Some, None, Bool, true, false, refl, ap, sym, ◌∙◌, subst}
use Rattle.std.specs.Prelude.{All, ◌&&◌, option_map, if◌then◌else◌}
use Rattle.std.proofs.lemmas.Bool.{and_from, false≢true}
use Rattle.std.proofs.lemmas.List.Elements.{All-head}
use Rattle.jz_tree.specs.Operators.{joins}
use Rattle.jz_tree.specs.Span.{Span}
use Rattle.jz_tree.specs.declared.expr.Storage.{Storage}
use Rattle.jz_tree.specs.declared.expr.Storage.TheVariants as storage
use Rattle.jz_tree.specs.declared.expr.BinOp.{BinOp}
use Rattle.jz_tree.specs.declared.expr.BinOp.TheVariants as op
use Rattle.jz_tree.specs.declared.expr.Expr.{Expr}
use Rattle.jz_tree.specs.declared.expr.Expr.TheVariants as expr
use Rattle.jz_tree.specs.declared.expr.Ty.{Ty}
use Rattle.jz_tree.specs.declared.expr.Access.{Access}
use Rattle.jz_tree.specs.declared.expr.Decl.{Decl}
use Rattle.jz_tree.specs.declared.expr.Var.{Var}
use Rattle.jz_tree.specs.declared.expr.Expr.TheOpen.{Expr-F}
use Rattle.jz_tree.specs.declared.expr.Expr.TheViews.{out-Access, roll-Expr, out-roll-Expr}
use Rattle.jz_tree.specs.declared.expr.Expr.TheFolds.{ind-Expr, map-Expr}
use Rattle.jz_tree.specs.declared.program.Fun.{Fun}
use Rattle.jz_type_names.specs.declared.kinds.Kind as known
use Rattle.jz_type_names.specs.declared.kinds.Kind.TheVariants as scope
use Rattle.jz_type_names.specs.Kinds.{Known, declared_of, known_of, kind_of, inline_int, is_inline_int, is_inline}
use Rattle.jz_type_sizes.specs.declared.operators.Group.{Group}
use Rattle.jz_type_sizes.specs.declared.operators.Group.TheVariants as group
use Rattle.jz_type_sizes.specs.Operators.{group_of}
use Rattle.jz_type_storage.specs.Declarations.{may_keep}
use Rattle.jz_integers.specs.Integers.{KnownNumbers, truth as truth_value, number, negated, inverted, on_integers, settles, with_right, joined, minus, opposite, inline_value}
use Rattle.jz_integers.specs.declared.constant.Constant.{Constant}
use Rattle.jz_integers.specs.declared.constant.Constant.TheVariants as constant
use Rattle.jz_judgement.specs.Places.{integer, truth, KindGoes, Goes}
use Rattle.jz_judgement.specs.HasType as judged
use Rattle.jz_judgement.specs.HasType.{AccessLayer, value, HasType, Types, Accesses, Operates}
use Rattle.jz_types.specs.Carried.{vars_in}
use Rattle.jz_run_laws.proofs.Sizes.{types_of}
use Rattle.jz_texts.proofs.Lists.{parted}
use Rattle.jz_texts.proofs.Variables.{layer_vars, vars_rolled}
use Rattle.jz_unroll.proofs.InlineParts.{inline_layer, inline_is}
use Rattle.jz_unroll.proofs.Layers.{Layer}
use Rattle.jz_unrolling_laws.proofs.CopiedValues.{value_layer, value_is}
use Rattle.jz_inline_laws.specs.InlineParts.{IsNumeric, IsLogical}
use Rattle.jz_inline_laws.proofs.ClearVars.{IsClear}

-- ---- values

abbrev IsInt : Option Constant → Type 0
IsInt o = (c : Constant) → o ≡ Some c → (i : ℤ) × (c ≡ constant.Int i)

abbrev IsBool : Option Constant → Type 0
IsBool o = (c : Constant) → o ≡ Some c → (b : Bool) × (c ≡ constant.Bool b)

none_is : {P : Type 0} (c : Constant) → None ≡ Some c → P
none_is {P} c e = absurd (clash e)
  where
    clash : None ≡ Some c → ⊥
    clash e = cc

the_same : (a c : Constant) → Some a ≡ Some c → c ≡ a
the_same a c e = cc

some_int : (i : ℤ) → IsInt (Some (constant.Int i))
some_int i c e = (i, the_same (constant.Int i) c e)

number_int : (o : Option ℤ) → IsInt (number o)
number_int None c e = none_is c e
number_int (Some i) c e = (i, the_same (constant.Int i) c e)

truth_bool : (b : Bool) → IsBool (truth_value b)
truth_bool b c e = (b, the_same (constant.Bool b) c e)

minus_int : (o : Option Constant) → IsInt (minus o)
minus_int None c e = none_is c e
minus_int (Some (constant.Int i)) c e = number_int (negated i) c e
minus_int (Some (constant.Bool b)) c e = none_is c e

wrong_bool : (i : ℤ) (b : Bool) → constant.Bool b ≡ constant.Int i → ⊥
wrong_bool i b e = cc

wrong_int : (i : ℤ) (b : Bool) → constant.Int i ≡ constant.Bool b → ⊥
wrong_int i b e = cc

opposite_int : (o : Option Constant) → IsInt o → IsInt (opposite o)
opposite_int None h c e = none_is c e
opposite_int (Some (constant.Int i)) h c e = number_int (Some (inverted i)) c e
opposite_int (Some (constant.Bool b)) h c e = let p = h (constant.Bool b) refl in absurd (wrong_bool p.0 b p.1)

opposite_bool : (o : Option Constant) → IsBool o → IsBool (opposite o)
opposite_bool None h c e = none_is c e
opposite_bool (Some (constant.Int i)) h c e = let p = h (constant.Int i) refl in absurd (wrong_int i p.0 p.1)
opposite_bool (Some (constant.Bool b)) h c e = truth_bool _ c e

-- ---- operations

abbrev gives_integer : Group → Bool
gives_integer group.Arith = true
gives_integer group.Shift = true
gives_integer _ = false

integers_int : (o : BinOp) (i j : ℤ) → gives_integer (group_of o) ≡ true → IsInt (on_integers o i j)
integers_int op.OrElse i j g c e = absurd (false≢true g)
integers_int op.AndThen i j g c e = absurd (false≢true g)
integers_int op.Eq i j g c e = absurd (false≢true g)
integers_int op.Ne i j g c e = absurd (false≢true g)
integers_int op.Lt i j g c e = absurd (false≢true g)
integers_int op.Le i j g c e = absurd (false≢true g)
integers_int op.Gt i j g c e = absurd (false≢true g)
integers_int op.Ge i j g c e = absurd (false≢true g)
integers_int op.LtS i j g c e = absurd (false≢true g)
integers_int op.LeS i j g c e = absurd (false≢true g)
integers_int op.GtS i j g c e = absurd (false≢true g)
integers_int op.GeS i j g c e = absurd (false≢true g)
integers_int op.Or i j g c e = some_int _ c e
integers_int op.Xor i j g c e = some_int _ c e
integers_int op.And i j g c e = some_int _ c e
integers_int op.Add i j g c e = number_int _ c e
integers_int op.Sub i j g c e = number_int _ c e
integers_int op.Mul i j g c e = number_int _ c e
integers_int op.Div i j g c e = number_int _ c e
integers_int op.Rem i j g c e = number_int _ c e
integers_int op.Shl i j g c e = number_int _ c e
integers_int op.Shr i j g c e = number_int _ c e
integers_int op.Sar i j g c e = none_is c e
integers_int op.Rol i j g c e = none_is c e
integers_int op.Ror i j g c e = none_is c e
integers_int op.DivS i j g c e = none_is c e
integers_int op.RemS i j g c e = none_is c e

integers_bool : (o : BinOp) (i j : ℤ) → gives_integer (group_of o) ≡ false → IsBool (on_integers o i j)
integers_bool op.OrElse i j g c e = none_is c e
integers_bool op.AndThen i j g c e = none_is c e
integers_bool op.Eq i j g c e = truth_bool _ c e
integers_bool op.Ne i j g c e = truth_bool _ c e
integers_bool op.Lt i j g c e = truth_bool _ c e
integers_bool op.Le i j g c e = truth_bool _ c e
integers_bool op.Gt i j g c e = truth_bool _ c e
integers_bool op.Ge i j g c e = truth_bool _ c e
integers_bool op.LtS i j g c e = none_is c e
integers_bool op.LeS i j g c e = none_is c e
integers_bool op.GtS i j g c e = none_is c e
integers_bool op.GeS i j g c e = none_is c e
integers_bool o i j g c e = absurd (false≢true (sym g))

no_join : (o : BinOp) → gives_integer (group_of o) ≡ true → joins o ≡ false
no_join op.OrElse g = absurd (false≢true g)
no_join op.AndThen g = absurd (false≢true g)
no_join o g = refl

no_settles : (o : BinOp) (b : Bool) → gives_integer (group_of o) ≡ true → settles o b ≡ false
no_settles op.OrElse b g = absurd (false≢true g)
no_settles op.AndThen b g = absurd (false≢true g)
no_settles o b g = refl

truths_int : (j d : Bool) → j ≡ false → IsInt (if j then truth_value d else None)
truths_int true d f c e = absurd (false≢true (sym f))
truths_int false d f c e = none_is c e

truths_bool : (j d : Bool) → IsBool (if j then truth_value d else None)
truths_bool true d c e = truth_bool d c e
truths_bool false d c e = none_is c e

right_int : (o : BinOp) (x : Constant) (y : Option Constant) → gives_integer (group_of o) ≡ true → IsInt (with_right o x y)
right_int o x None g c e = none_is c e
right_int o (constant.Int i) (Some (constant.Int j)) g c e = integers_int o i j g c e
right_int o (constant.Int i) (Some (constant.Bool d)) g c e = none_is c e
right_int o (constant.Bool b) (Some (constant.Int j)) g c e = none_is c e
right_int o (constant.Bool b) (Some (constant.Bool d)) g c e = truths_int (joins o) d (no_join o g) c e

right_bool : (o : BinOp) (x : Constant) (y : Option Constant) → gives_integer (group_of o) ≡ false → IsBool (with_right o x y)
right_bool o x None g c e = none_is c e
right_bool o (constant.Int i) (Some (constant.Int j)) g c e = integers_bool o i j g c e
right_bool o (constant.Int i) (Some (constant.Bool d)) g c e = none_is c e
right_bool o (constant.Bool b) (Some (constant.Int j)) g c e = none_is c e
right_bool o (constant.Bool b) (Some (constant.Bool d)) g c e = truths_bool (joins o) d c e

settled_int : (o : BinOp) (b : Bool) (y : Option Constant) (s : Bool) → s ≡ false → gives_integer (group_of o) ≡ true → IsInt (if s then Some (constant.Bool b) else with_right o (constant.Bool b) y)
settled_int o b y true f g c e = absurd (false≢true (sym f))
settled_int o b y false f g c e = right_int o (constant.Bool b) y g c e

settled_bool : (o : BinOp) (b : Bool) (y : Option Constant) (s : Bool) → gives_integer (group_of o) ≡ false → IsBool (if s then Some (constant.Bool b) else with_right o (constant.Bool b) y)
settled_bool o b y true g c e = (b, the_same (constant.Bool b) c e)
settled_bool o b y false g c e = right_bool o (constant.Bool b) y g c e

joined_int : (o : BinOp) (x y : Option Constant) → gives_integer (group_of o) ≡ true → IsInt (joined o x y)
joined_int o None y g c e = none_is c e
joined_int o (Some (constant.Int i)) y g c e = right_int o (constant.Int i) y g c e
joined_int o (Some (constant.Bool b)) y g c e = settled_int o b y (settles o b) (no_settles o b g) g c e

joined_bool : (o : BinOp) (x y : Option Constant) → gives_integer (group_of o) ≡ false → IsBool (joined o x y)
joined_bool o None y g c e = none_is c e
joined_bool o (Some (constant.Int i)) y g c e = right_bool o (constant.Int i) y g c e
joined_bool o (Some (constant.Bool b)) y g c e = settled_bool o b y (settles o b) g c e

no_load : (a : AccessLayer) → Accesses a integer → ⊥
no_load a (judged.sized z s t i) = t

value_bin : (e : KnownNumbers) (o : BinOp) (a b : Expr) (at : Span) → inline_value e (expr.Bin o a b at) ≡ joined o (inline_value e a) (inline_value e b)
value_bin e o a b at = ap (inline_value e) (sym (expr.rolls-Bin o a b at)) ∙ value_is e (Expr-F.Bin o a b at)

-- of an operation that gives integers
pub arith_numeric : (o : BinOp) (a b : Expr) (at : Span) → group_of o ≡ group.Arith → IsNumeric (expr.Bin o a b at)
arith_numeric o a b at g e c is = joined_int o (inline_value e a) (inline_value e b) (ap gives_integer g) c (sym (value_bin e o a b at) ∙ is)

pub shift_numeric : (o : BinOp) (a b : Expr) (at : Span) → group_of o ≡ group.Shift → IsNumeric (expr.Bin o a b at)
shift_numeric o a b at g e c is = joined_int o (inline_value e a) (inline_value e b) (ap gives_integer g) c (sym (value_bin e o a b at) ∙ is)

-- ---- variables

int_goes : (s : Storage) (k : known.Kind) → KindGoes k integer → may_keep s k ≡ true → inline_int s k ≡ true
int_goes storage.Inline scope.Int g e = refl
int_goes storage.Reg scope.Int g e = absurd (false≢true e)
int_goes storage.Stack scope.Int g e = absurd (false≢true e)
int_goes s scope.Truth g e = absurd g
int_goes s (scope.Word z) g e = absurd g
int_goes s (scope.Array z) g e = absurd g

no_truth : (s : Storage) (k : known.Kind) → KindGoes k truth → inline_int s k ≡ true → ⊥
no_truth s scope.Int g e = g
no_truth storage.Inline scope.Truth g e = false≢true e
no_truth storage.Reg scope.Truth g e = false≢true e
no_truth storage.Stack scope.Truth g e = false≢true e
no_truth s (scope.Word z) g e = g
no_truth s (scope.Array z) g e = g

known_no_truth : (k : Known) → Goes k truth → is_inline_int k ≡ true → ⊥
known_no_truth None g e = g
known_no_truth (Some d) g e = no_truth d.storage d.kind g e

module _ (f : Fun) where
  abbrev C : Var → Type 0
  C = IsClear f

  pub clear_known : (v : Var) (h : C v) → known_of v ≡ Some (declared_of h.decl)
  clear_known v h = ap (option_map declared_of) h.is

  var_int : (v : Var) → C v → Goes (known_of v) integer → is_inline_int (known_of v) ≡ true
  var_int v h g =
      ap is_inline_int (clear_known v h) ∙ int_goes h.decl.storage (kind_of h.decl.ty) (subst (λ k. Goes k integer) (clear_known v h) g) h.kept

  -- ---- integers

  abbrev Integer : Expr → Type 0
  Integer e = HasType (value e) integer → All C (vars_in e) → (is_inline e ≡ true) × IsNumeric e

  abbrev Any : {A : Type 0} → A → Type 0
  Any y = Unit {0}

  abbrev Proved : Type 0
  Proved = Expr-F ((e : Expr) × Integer e) ((t : Ty) × Any t) ((a : Access) × Any a) ((d : Decl) × Any d) ((v : Var) × Any v)

  abbrev bare : Proved → Layer
  bare y = map-Expr _ _ _ _ _ Expr Ty Access Decl Var (λ e. e.0) (λ e. e.0) (λ e. e.0) (λ e. e.0) (λ e. e.0) y

  abbrev LayerInt : Layer → Type 0
  LayerInt x = (inline_layer x ≡ true) × ((e : KnownNumbers) → IsInt (value_layer e x))

  both_int : (o : BinOp) (a b : (e : Expr) × Integer e) → Operates o (value a.0) (value b.0) integer → All C (vars_in a.0) → All C (vars_in b.0)
      → ((is_inline a.0 && is_inline b.0) ≡ true) × ((e : KnownNumbers) → IsInt (joined o (inline_value e a.0) (inline_value e b.0)))
  both_int o a b (judged.arithmetic g t k x y) h i =
      (and_from (is_inline a.0) (is_inline b.0) (a.1 x h).0 (b.1 y i).0, λ e. joined_int o (inline_value e a.0) (inline_value e b.0) (ap gives_integer g))
  both_int o a b (judged.carry s t x y) h i = absurd t
  both_int o a b (judged.shift g t k x y) h i =
      (and_from (is_inline a.0) (is_inline b.0) (a.1 x h).0 (b.1 y i).0, λ e. joined_int o (inline_value e a.0) (inline_value e b.0) (ap gives_integer g))

  layer_int : (y : Proved) → Types (bare y) integer → All C (layer_vars (bare y)) → LayerInt (bare y)
  unfolding layer_vars
  layer_int (Expr-F.Num n at) t h = (refl, λ e. number_int (Some n))
  layer_int (Expr-F.Expr::Bool b at) t h = elim t [ ]
  layer_int (Expr-F.Var v) (judged.variable g) h = (var_int v.0 (All-head C v.0 [] h) g, λ e. number_int _)
  layer_int (Expr-F.Cell v i) (judged.cell z a t x) h = absurd t
  layer_int (Expr-F.Load a) (judged.load x) h = absurd (no_load (out-Access a.0) x)
  layer_int (Expr-F.Neg a at) (judged.negated k x) h = ((a.1 x h).0, λ e. minus_int (inline_value e a.0))
  layer_int (Expr-F.Not a at) (judged.inverted x) h = let p = a.1 x h in (p.0, λ e. opposite_int (inline_value e a.0) (p.1 e))
  layer_int (Expr-F.Cast z s a at) (judged.cast y t says x) h = absurd t
  layer_int (Expr-F.Bin o a b at) (judged.operation x) h =
      let p = parted C (vars_in a.0) (vars_in b.0) h in both_int o a b x p.0 p.1

  int_case : (y : Proved) → Integer (roll-Expr (bare y))
  int_case y t h =
      let p = layer_int y (subst (λ x. Types x integer) (out-roll-Expr (bare y)) (types_of (roll-Expr (bare y)) integer t)) (subst (All C) (vars_rolled (bare y)) h) in
      (inline_is (bare y) ∙ p.0, λ e c is. p.1 e c (sym (value_is e (bare y)) ∙ is))

  pub integer_number : (e : Expr) → Integer e
  integer_number =
      ind-Expr Integer Any Any Any Any
      (λ x y is. subst (λ z. Integer (roll-Expr z)) is (int_case y))
      (λ x y is. tt)
      (λ x y is. tt)
      (λ x y is. tt)
      (λ x y is. tt)

-- ---- inline conditions

abbrev Logical : Expr → Type 0
Logical e = HasType (value e) truth → is_inline e ≡ true → IsLogical e

abbrev NoMore : {A : Type 0} → A → Type 0
NoMore y = Unit {0}

abbrev Tested : Type 0
Tested = Expr-F ((e : Expr) × Logical e) ((t : Ty) × NoMore t) ((a : Access) × NoMore a) ((d : Decl) × NoMore d) ((v : Var) × NoMore v)

abbrev plain : Tested → Layer
plain y = map-Expr _ _ _ _ _ Expr Ty Access Decl Var (λ e. e.0) (λ e. e.0) (λ e. e.0) (λ e. e.0) (λ e. e.0) y

both_bool : (o : BinOp) (a b : Expr) → Operates o (value a) (value b) truth → (e : KnownNumbers) → IsBool (joined o (inline_value e a) (inline_value e b))
both_bool o a b (judged.arithmetic g t k x y) e = absurd t
both_bool o a b (judged.carry s t x y) e = absurd t
both_bool o a b (judged.shift g t k x y) e = absurd t
both_bool o a b (judged.integers g k x y) e = joined_bool o (inline_value e a) (inline_value e b) (ap gives_integer g)
both_bool o a b (judged.words z g s x y) e = joined_bool o (inline_value e a) (inline_value e b) (ap gives_integer g)
both_bool o a b (judged.logic g x y) e = joined_bool o (inline_value e a) (inline_value e b) (ap gives_integer g)

layer_bool : (y : Tested) → Types (plain y) truth → inline_layer (plain y) ≡ true → (e : KnownNumbers) → IsBool (value_layer e (plain y))
layer_bool (Expr-F.Num n at) (judged.number k) i e = absurd k
layer_bool (Expr-F.Expr::Bool b at) t i e = truth_bool b
layer_bool (Expr-F.Var v) (judged.variable g) i e = absurd (known_no_truth (known_of v.0) g i)
layer_bool (Expr-F.Cell v x) t i e = absurd (false≢true i)
layer_bool (Expr-F.Load a) t i e = absurd (false≢true i)
layer_bool (Expr-F.Neg a at) (judged.negated k x) i e = absurd k
layer_bool (Expr-F.Not a at) (judged.inverted x) i e = opposite_bool (inline_value e a.0) (a.1 x i e)
layer_bool (Expr-F.Cast z s a at) t i e = absurd (false≢true i)
layer_bool (Expr-F.Bin o a b at) (judged.operation x) i e = both_bool o a.0 b.0 x e

bool_case : (y : Tested) → Logical (roll-Expr (plain y))
bool_case y t i e c is =
    layer_bool y (subst (λ x. Types x truth) (out-roll-Expr (plain y)) (types_of (roll-Expr (plain y)) truth t)) (sym (inline_is (plain y)) ∙ i) e c (sym (value_is e (plain y)) ∙ is)

pub truth_logical : (e : Expr) → Logical e
truth_logical =
    ind-Expr Logical NoMore NoMore NoMore NoMore
    (λ x y is. subst (λ z. Logical (roll-Expr z)) is (bool_case y))
    (λ x y is. tt)
    (λ x y is. tt)
    (λ x y is. tt)
    (λ x y is. tt)
