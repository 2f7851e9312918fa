-- An inline expression with a value is not stuck, leaks nothing, and has that value.
use Rattle.std.proofs.Common.{◌≡◌, [], Option, Some, None, Bool, true, false, refl, ap, sym, ◌∙◌, subst}
use Rattle.std.specs.Prelude.{ℤ, ◌&&◌, not, option_map, is_none, if◌then◌else◌}
use Rattle.std.specs.Option.{option_or}
use Rattle.std.proofs.lemmas.Bool.{and_parts}
use Rattle.jz_tree.specs.Span.{Span}
use Rattle.jz_tree.specs.Operators.{is_shift}
use Rattle.jz_tree.specs.Size.{Size}
use Rattle.jz_tree.specs.declared.expr.BinOp.{BinOp}
use Rattle.jz_tree.specs.declared.expr.BinOp.TheVariants as o
use Rattle.jz_tree.specs.declared.expr.Expr.{Expr}
use Rattle.jz_tree.specs.declared.expr.Ty.{Ty}
use Rattle.jz_tree.specs.declared.expr.Access.{Access}
use Rattle.jz_tree.specs.declared.expr.Decl.{Decl}
use Rattle.jz_tree.specs.declared.expr.Var.{Var}
use Rattle.jz_tree.specs.declared.expr.Expr.TheOpen.{Expr-F}
use Rattle.jz_tree.specs.declared.expr.Expr.TheViews.{roll-Expr, out-Var, roll-out-Var}
use Rattle.jz_tree.specs.declared.expr.Expr.TheFolds.{fold-Var, fold-roll-Expr, fold-roll-Var, para-Access, para-roll-Expr, ind-Expr, map-Expr}
use Rattle.jz_integers.specs.Integers as numbers
use Rattle.jz_integers.specs.Integers.{KnownNumbers, inline_value, value_step}
use Rattle.jz_integers.specs.declared.constant.Constant.{Constant}
use Rattle.jz_integers.specs.declared.constant.Constant.TheVariants as constant
use Rattle.jz_runs.specs.Rules.{went}
use Rattle.jz_meaning.specs.Attempts.{Evaluation, and_then, defined}
use Rattle.jz_meaning.specs.States.{Value, boolean, integer, State}
use Rattle.jz_meaning.specs.Operators.{of_constant, is_settled, combined, shifted, binary, negated, inverted}
use Rattle.jz_meaning.specs.Values.{Ref, key_of, Meaning, right_wanted, left_wanted, ref_of, own_size, evaluated}
use Rattle.jz_unroll.specs.Values.{cells_step, has_no_cell}
use Rattle.jz_unroll.specs.ValueLaws.{HoldsKnown}
use Rattle.jz_unroll.proofs.Layers.{Layer, meaning_layer, meaning_is, ref_rolled}
use Rattle.jz_unroll.proofs.PartNumbers.{none_first}

some_so : (at : Span) (p : Option Constant) (c : Constant) → p ≡ Some c → defined at (option_map of_constant p) ≡ went [] (of_constant c)
some_so at p c e = ap (λ k. defined at (option_map of_constant k)) e

truths_so : (op : BinOp) (at : Span) (w : Option Size) (a b : Bool) (c : Constant) → numbers.on_both op (constant.Bool a) (constant.Bool b) ≡ Some c → binary op at w (boolean a) (boolean b) ≡ went [] (of_constant c)
unfolding binary combined shifted
truths_so o.OrElse at w a b c e = let k : constant.Bool b ≡ c = cc in ap (λ y. went [] (of_constant y)) k
truths_so o.AndThen at w a b c e = let k : constant.Bool b ≡ c = cc in ap (λ y. went [] (of_constant y)) k
truths_so o.Or at w a b c e = absurd cc
truths_so o.Xor at w a b c e = absurd cc
truths_so o.And at w a b c e = absurd cc
truths_so o.Eq at w a b c e = absurd cc
truths_so o.Ne at w a b c e = absurd cc
truths_so o.Lt at w a b c e = absurd cc
truths_so o.Le at w a b c e = absurd cc
truths_so o.Gt at w a b c e = absurd cc
truths_so o.Ge at w a b c e = absurd cc
truths_so o.LtS at w a b c e = absurd cc
truths_so o.LeS at w a b c e = absurd cc
truths_so o.GtS at w a b c e = absurd cc
truths_so o.GeS at w a b c e = absurd cc
truths_so o.Shl at w a b c e = absurd cc
truths_so o.Shr at w a b c e = absurd cc
truths_so o.Sar at w a b c e = absurd cc
truths_so o.Rol at w a b c e = absurd cc
truths_so o.Ror at w a b c e = absurd cc
truths_so o.Add at w a b c e = absurd cc
truths_so o.Sub at w a b c e = absurd cc
truths_so o.Mul at w a b c e = absurd cc
truths_so o.Div at w a b c e = absurd cc
truths_so o.Rem at w a b c e = absurd cc
truths_so o.DivS at w a b c e = absurd cc
truths_so o.RemS at w a b c e = absurd cc

numbers_so : (op : BinOp) (at : Span) (w : Option Size) (i j : ℤ) (c : Constant) → numbers.on_integers op i j ≡ Some c → binary op at w (integer i) (integer j) ≡ went [] (of_constant c)
unfolding binary combined shifted
numbers_so op at w i j c e = by_shift (is_shift op) w ∙ some_so at (numbers.on_integers op i j) c e
  where
    by_shift : (k : Bool) (w : Option Size) → (if k then defined at (shifted op w (integer i) (integer j)) else combined op at (integer i) (integer j)) ≡ defined at (option_map of_constant (numbers.on_integers op i j))
    by_shift true w = refl
    by_shift false w = refl

binary_so : (op : BinOp) (at : Span) (w : Option Size) (x y c : Constant) → numbers.on_both op x y ≡ Some c → binary op at w (of_constant x) (of_constant y) ≡ went [] (of_constant c)
binary_so op at w (constant.Int i) (constant.Int j) c e = numbers_so op at w i j c e
binary_so op at w (constant.Bool a) (constant.Bool b) c e = truths_so op at w a b c e
binary_so op at w (constant.Int i) (constant.Bool b) c e = absurd cc
binary_so op at w (constant.Bool a) (constant.Int j) c e = absurd cc

settled_so : (op : BinOp) (x : Constant) → is_settled op (of_constant x) ≡ numbers.is_settled op x
settled_so o.OrElse (constant.Int i) = refl
settled_so o.OrElse (constant.Bool b) = refl
settled_so o.AndThen (constant.Int i) = refl
settled_so o.AndThen (constant.Bool b) = refl
settled_so o.Or (constant.Int i) = refl
settled_so o.Or (constant.Bool b) = refl
settled_so o.Xor (constant.Int i) = refl
settled_so o.Xor (constant.Bool b) = refl
settled_so o.And (constant.Int i) = refl
settled_so o.And (constant.Bool b) = refl
settled_so o.Eq (constant.Int i) = refl
settled_so o.Eq (constant.Bool b) = refl
settled_so o.Ne (constant.Int i) = refl
settled_so o.Ne (constant.Bool b) = refl
settled_so o.Lt (constant.Int i) = refl
settled_so o.Lt (constant.Bool b) = refl
settled_so o.Le (constant.Int i) = refl
settled_so o.Le (constant.Bool b) = refl
settled_so o.Gt (constant.Int i) = refl
settled_so o.Gt (constant.Bool b) = refl
settled_so o.Ge (constant.Int i) = refl
settled_so o.Ge (constant.Bool b) = refl
settled_so o.LtS (constant.Int i) = refl
settled_so o.LtS (constant.Bool b) = refl
settled_so o.LeS (constant.Int i) = refl
settled_so o.LeS (constant.Bool b) = refl
settled_so o.GtS (constant.Int i) = refl
settled_so o.GtS (constant.Bool b) = refl
settled_so o.GeS (constant.Int i) = refl
settled_so o.GeS (constant.Bool b) = refl
settled_so o.Shl (constant.Int i) = refl
settled_so o.Shl (constant.Bool b) = refl
settled_so o.Shr (constant.Int i) = refl
settled_so o.Shr (constant.Bool b) = refl
settled_so o.Sar (constant.Int i) = refl
settled_so o.Sar (constant.Bool b) = refl
settled_so o.Rol (constant.Int i) = refl
settled_so o.Rol (constant.Bool b) = refl
settled_so o.Ror (constant.Int i) = refl
settled_so o.Ror (constant.Bool b) = refl
settled_so o.Add (constant.Int i) = refl
settled_so o.Add (constant.Bool b) = refl
settled_so o.Sub (constant.Int i) = refl
settled_so o.Sub (constant.Bool b) = refl
settled_so o.Mul (constant.Int i) = refl
settled_so o.Mul (constant.Bool b) = refl
settled_so o.Div (constant.Int i) = refl
settled_so o.Div (constant.Bool b) = refl
settled_so o.Rem (constant.Int i) = refl
settled_so o.Rem (constant.Bool b) = refl
settled_so o.DivS (constant.Int i) = refl
settled_so o.DivS (constant.Bool b) = refl
settled_so o.RemS (constant.Int i) = refl
settled_so o.RemS (constant.Bool b) = refl

-- ---- variables that are no cells

abbrev pub access_no_cell : Access → Bool
access_no_cell = para-Access Bool (Unit {0}) Bool (Unit {0}) (Unit {0}) cells_step (λ t. tt) (λ a. a.at.1) (λ d. tt) (λ v. tt)

abbrev pub cells_layer : Layer → Bool
cells_layer (Expr-F.Num n at) = true
cells_layer (Expr-F.Expr::Bool b at) = true
cells_layer (Expr-F.Var v) = is_none (ref_of v).cell
cells_layer (Expr-F.Cell v i) = has_no_cell i
cells_layer (Expr-F.Load a) = access_no_cell a
cells_layer (Expr-F.Neg a at) = has_no_cell a
cells_layer (Expr-F.Not a at) = has_no_cell a
cells_layer (Expr-F.Cast z s a at) = has_no_cell a
cells_layer (Expr-F.Bin o a b at) = has_no_cell a && has_no_cell b

cells_step_is : (x : Layer) → cells_step (map-Expr _ _ _ _ _ _ _ _ _ _ (λ y. (y, has_no_cell y)) (λ y. (y, tt)) (λ y. (y, access_no_cell y)) (λ y. (y, tt)) (λ y. (y, tt)) x) ≡ cells_layer x
cells_step_is (Expr-F.Num n at) = refl
cells_step_is (Expr-F.Expr::Bool c at) = refl
cells_step_is (Expr-F.Var v) = refl
cells_step_is (Expr-F.Cell v e) = refl
cells_step_is (Expr-F.Load a) = refl
cells_step_is (Expr-F.Neg a at) = refl
cells_step_is (Expr-F.Not a at) = refl
cells_step_is (Expr-F.Cast z s a at) = refl
cells_step_is (Expr-F.Bin o a c at) = refl

pub cells_is : (x : Layer) → has_no_cell (roll-Expr x) ≡ cells_layer x
cells_is x = para-roll-Expr Bool (Unit {0}) Bool (Unit {0}) (Unit {0}) cells_step (λ t. tt) (λ a. a.at.1) (λ d. tt) (λ v. tt) x ∙ cells_step_is x

module _ (known : KnownNumbers) (s : State) (exactly : HoldsKnown known s) where
  abbrev Law : Expr → Type 0
  Law e = has_no_cell e ≡ true → (c : Constant) → inline_value known e ≡ Some c → (w : Option Size) → evaluated e w s ≡ went [] (of_constant c)

  abbrev number_of_var : Var → Option ℤ
  number_of_var = fold-Var _ _ _ _ _ value_step (λ t. tt) (λ a. tt) (λ d. tt) (λ v. known v.name v.copy)

  var_number : (v : Var) → number_of_var v ≡ known (ref_of v).name (ref_of v).copy
  var_number v =
      ap number_of_var (sym (roll-out-Var v)) ∙ fold-roll-Var _ _ _ _ _ value_step (λ t. tt) (λ a. tt) (λ d. tt) (λ v. known v.name v.copy) (out-Var v)
      ∙ ap (λ (r : Ref). known r.name r.copy) (sym (ref_rolled (out-Var v)) ∙ ap ref_of (roll-out-Var v))

  abbrev Any : {A : Type 0} → A → Type 0
  Any y = Unit {0}

  abbrev Known : Type 0
  Known = Expr-F ((e : Expr) × Law e) ((t : Ty) × Any t) ((a : Access) × Any a) ((d : Decl) × Any d) ((v : Var) × Any v)

  abbrev bare : Known → Layer
  bare y = map-Expr _ _ _ _ _ _ _ _ _ _ (λ e. e.0) (λ e. e.0) (λ e. e.0) (λ e. e.0) (λ e. e.0) y

  abbrev value_layer : Layer → Option Constant
  value_layer x = value_step (map-Expr _ _ _ _ _ (Option Constant) (Unit {0}) (Unit {0}) (Unit {0}) (Option ℤ) (inline_value known) (λ t. tt) (λ a. tt) (λ d. tt) number_of_var x)

  value_is : (x : Layer) → inline_value known (roll-Expr x) ≡ value_layer x
  value_is x = fold-roll-Expr _ _ _ _ _ value_step (λ t. tt) (λ a. tt) (λ d. tt) (λ v. known v.name v.copy) x

  var_so : (v : Var) (n : Option ℤ) (c : Constant) → known (ref_of v).name (ref_of v).copy ≡ n → is_none (ref_of v).cell ≡ true → numbers.number n ≡ Some c → defined (ref_of v).span (s.store (key_of (ref_of v))) ≡ went [] (of_constant c)
  var_so v None c q k e = absurd cc
  var_so v (Some i) c q k e = let y : constant.Int i ≡ c = cc in ap (defined (ref_of v).span) (exactly (ref_of v) i k q) ∙ ap (λ z. went [] (of_constant z)) y

  minus_so : (at : Span) (p : Option Constant) (c : Constant) (g : Evaluation Value) → ((x : Constant) → p ≡ Some x → g ≡ went [] (of_constant x)) → numbers.minus p ≡ Some c → and_then g (λ v. defined at (negated v)) ≡ went [] (of_constant c)
  unfolding negated
  minus_so at None c g h e = absurd cc
  minus_so at (Some (constant.Bool b)) c g h e = absurd cc
  minus_so at (Some (constant.Int i)) c g h e = ap (λ y. and_then y (λ v. defined at (negated v))) (h (constant.Int i) refl) ∙ none_first _ ∙ by_number (numbers.negated i) e
    where
      by_number : (n : Option ℤ) → numbers.number n ≡ Some c → defined at (option_map integer n) ≡ went [] (of_constant c)
      by_number None q = absurd cc
      by_number (Some j) q = let y : constant.Int j ≡ c = cc in ap (λ z. went [] (of_constant z)) y

  opposite_so : (p : Option Constant) (c : Constant) (g : Evaluation Value) → ((x : Constant) → p ≡ Some x → g ≡ went [] (of_constant x)) → numbers.opposite p ≡ Some c → and_then g (λ v. went [] (inverted v)) ≡ went [] (of_constant c)
  unfolding inverted
  opposite_so None c g h e = absurd cc
  opposite_so (Some (constant.Int i)) c g h e = let y : constant.Int (numbers.inverted i) ≡ c = cc in ap (λ z. and_then z (λ v. went [] (inverted v))) (h (constant.Int i) refl) ∙ ap (λ z. went [] (of_constant z)) y
  opposite_so (Some (constant.Bool b)) c g h e = let y : constant.Bool (not b) ≡ c = cc in ap (λ z. and_then z (λ v. went [] (inverted v))) (h (constant.Bool b) refl) ∙ ap (λ z. went [] (of_constant z)) y

  right_so : (k : Bool) (op : BinOp) (g : Evaluation Value) (at : Span) (w : Option Size) (x c : Constant) (q : Option Constant) → ((y : Constant) → q ≡ Some y → g ≡ went [] (of_constant y)) → (if k then Some x else numbers.with_right op x q) ≡ Some c →
      (if k then went [] (of_constant x) else and_then g (λ y. binary op at w (of_constant x) y)) ≡ went [] (of_constant c)
  right_so true op g at w x c q h e = let y : x ≡ c = cc in ap (λ z. went [] (of_constant z)) y
  right_so false op g at w x c None h e = absurd cc
  right_so false op g at w x c (Some y) h e = ap (λ z. and_then z (λ y. binary op at w (of_constant x) y)) (h y refl) ∙ none_first _ ∙ binary_so op at w x y c e

  operation_so : (op : BinOp) (ga gb : Evaluation Value) (at : Span) (w : Option Size) (c : Constant) (p q : Option Constant) → ((x : Constant) → p ≡ Some x → ga ≡ went [] (of_constant x)) → ((y : Constant) → q ≡ Some y → gb ≡ went [] (of_constant y)) → numbers.joined op p q ≡ Some c →
      and_then ga (λ x. if is_settled op x then went [] x else and_then gb (λ y. binary op at w x y)) ≡ went [] (of_constant c)
  operation_so op ga gb at w c None q ha hb e = absurd cc
  operation_so op ga gb at w c (Some x) q ha hb e =
      ap (λ z. and_then z (λ x. if is_settled op x then went [] x else and_then gb (λ y. binary op at w x y))) (ha x refl) ∙ none_first _
      ∙ ap (λ k. if k then went [] (of_constant x) else and_then gb (λ y. binary op at w (of_constant x) y)) (settled_so op x) ∙ right_so (numbers.is_settled op x) op gb at w x c q hb e

  layer_law : (y : Known) → cells_layer (bare y) ≡ true → (c : Constant) → value_layer (bare y) ≡ Some c → (w : Option Size) → (meaning_layer (bare y)).run w s ≡ went [] (of_constant c)
  layer_law (Expr-F.Num i at) ok c e w = let y : constant.Int i ≡ c = cc in ap (λ z. went [] (of_constant z)) y
  layer_law (Expr-F.Expr::Bool b at) ok c e w = let y : constant.Bool b ≡ c = cc in ap (λ z. went [] (of_constant z)) y
  layer_law (Expr-F.Var v) ok c e w = var_so v.0 (number_of_var v.0) c (sym (var_number v.0)) ok e
  layer_law (Expr-F.Cell v i) ok c e w = absurd cc
  layer_law (Expr-F.Load a) ok c e w = absurd cc
  layer_law (Expr-F.Neg a at) ok c e w = minus_so at (inline_value known a.0) c (evaluated a.0 (option_or w (own_size a.0)) s) (λ x q. a.1 ok x q (option_or w (own_size a.0))) e
  layer_law (Expr-F.Not a at) ok c e w = opposite_so (inline_value known a.0) c (evaluated a.0 (option_or w (own_size a.0)) s) (λ x q. a.1 ok x q (option_or w (own_size a.0))) e
  layer_law (Expr-F.Cast z b a at) ok c e w = absurd cc
  layer_law (Expr-F.Bin op a b at) ok c e w =
      let both = and_parts (has_no_cell a.0) _ ok in
      let z = left_wanted op w (own_size a.0) (own_size b.0) in
      operation_so op (evaluated a.0 z s) (evaluated b.0 (right_wanted op z) s) at z c (inline_value known a.0) (inline_value known b.0) (λ x q. a.1 both.0 x q z) (λ x q. b.1 both.1 x q (right_wanted op z)) e

  expr_case : (y : Known) → Law (roll-Expr (bare y))
  expr_case y ok c e w = ap (λ (m : Meaning). m.run w s) (meaning_is (bare y)) ∙ layer_law y (sym (cells_is (bare y)) ∙ ok) c (sym (value_is (bare y)) ∙ e) w

  pub inline_exact : (e : Expr) → Law e
  inline_exact =
      ind-Expr Law Any Any Any Any
      (λ z y is. subst (λ k. Law (roll-Expr k)) is (expr_case y))
      (λ z y is. tt)
      (λ z y is. tt)
      (λ z y is. tt)
      (λ z y is. tt)
