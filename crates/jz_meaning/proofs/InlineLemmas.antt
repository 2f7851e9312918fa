-- Inline expressions, whose values are known when the text is compiled, leak nothing.
use Rattle.std.proofs.Common.{◌≡◌, ℕ, List, [], ◌∷◌, length, Option, Some, None, Bool, true, false, refl, ap, sym, ◌∙◌, subst}
use Rattle.std.specs.Prelude.{ℤ, pos, not, option_map, if◌then◌else◌}
use Rattle.jz_tree.specs.Span.{Span}
use Rattle.x64_insn.specs.Size.{Size}
use Rattle.jz_tree.specs.declared.expr.BinOp.{BinOp}
use Rattle.jz_tree.specs.declared.expr.BinOp.TheVariants as o
use Rattle.jz_tree.specs.declared.expr.Expr.{Expr}
use Rattle.jz_tree.specs.declared.expr.Ty.{Ty}
use Rattle.jz_tree.specs.declared.expr.Access.{Access}
use Rattle.jz_tree.specs.declared.expr.Decl.{Decl}
use Rattle.jz_tree.specs.declared.expr.Var.{Var}
use Rattle.jz_tree.specs.declared.expr.Expr.TheOpen.{Expr-F, Var-F}
use Rattle.jz_tree.specs.declared.expr.Expr.TheViews.{roll-Expr, roll-Var}
use Rattle.jz_tree.specs.declared.expr.Expr.TheFolds.{fold-Ty, fold-Decl, fold-Var, fold-roll-Expr, fold-roll-Var, ind-Expr, map-Expr}
use Rattle.jz_tree.specs.Operators.{is_shift}
use Rattle.jz_integers.specs.declared.constant.Constant.{Constant}
use Rattle.jz_integers.specs.declared.constant.Constant.TheVariants as constant
use Rattle.jz_integers.specs.Integers as numbers
use Rattle.jz_integers.specs.Integers.{on_integers, value_step, inline_value}
use Rattle.jz_meaning.specs.declared.access.Kind.{Kind}
use Rattle.jz_runs.specs.Rules.{went}
use Rattle.jz_meaning.specs.Attempts.{Evaluation, and_then, defined}
use Rattle.jz_meaning.specs.States.{Value, boolean, integer, Key, State}
use Rattle.jz_meaning.specs.Operators.{of_constant, joined, is_settled, combined, shifted, binary, negated, inverted}
use Rattle.jz_meaning.specs.Values.{Ref, key_of, MemoryAccess, Meaning, right_wanted, left_wanted, with_right, expr_step, ty_step, access_step, decl_step, var_step, meaning_of, ref_of, access_of, evaluated}
use Rattle.jz_meaning.specs.Shapes.{HoldsIntegers}
use Rattle.jz_meaning.proofs.ShapeLemmas.{Gives, gives_then, gives_defined, Any}

abbrev Is : Constant → Value → Type 0
Is c v = v ≡ of_constant c

abbrev constant_or : Option Constant → Value
constant_or None = integer (pos 0)
constant_or (Some c) = of_constant c

-- what is there is what is known
known : (x c : Constant) → Some x ≡ Some c → of_constant x ≡ of_constant c
known x c e = ap constant_or e

-- ---- operators

-- a value that may be missing, beside a constant that may be missing
abbrev Same : Option Value → Option Constant → Type 0
Same p q = (c : Constant) → q ≡ Some c → p ≡ Some (of_constant c)

same_gives : (at : Span) (p : Option Value) (q : Option Constant) (c : Constant) → Same p q → q ≡ Some c → Gives (Is c) 0 (defined at p)
same_gives at p q c h e = subst (λ z. Gives (Is c) 0 (defined at z)) (sym (h c e)) (refl, refl)

mapped : (q : Option Constant) → Same (option_map of_constant q) q
mapped q c e = ap (option_map of_constant) e

-- both are whole numbers
number_binary : (h : Bool) (op : BinOp) (at : Span) (w : Option Size) (i j : ℤ) (c : Constant) → on_integers op i j ≡ Some c →
    Gives (Is c) 0 (if h then defined at (shifted op w (integer i) (integer j)) else combined op at (integer i) (integer j))
unfolding shifted combined
number_binary true op at w i j c e = same_gives at _ (on_integers op i j) c (mapped (on_integers op i j)) e
number_binary false op at w i j c e = same_gives at _ (on_integers op i j) c (mapped (on_integers op i j)) e

joined_truths : (op : BinOp) (a b : Bool) → Same (joined op b) (numbers.on_both op (constant.Bool a) (constant.Bool b))
joined_truths o.OrElse a b c e = ap Some (known (constant.Bool b) c e)
joined_truths o.AndThen a b c e = ap Some (known (constant.Bool b) c e)
joined_truths o.Or a b c e = absurd cc
joined_truths o.Xor a b c e = absurd cc
joined_truths o.And a b c e = absurd cc
joined_truths o.Eq a b c e = absurd cc
joined_truths o.Ne a b c e = absurd cc
joined_truths o.Lt a b c e = absurd cc
joined_truths o.Le a b c e = absurd cc
joined_truths o.Gt a b c e = absurd cc
joined_truths o.Ge a b c e = absurd cc
joined_truths o.LtS a b c e = absurd cc
joined_truths o.LeS a b c e = absurd cc
joined_truths o.GtS a b c e = absurd cc
joined_truths o.GeS a b c e = absurd cc
joined_truths o.Shl a b c e = absurd cc
joined_truths o.Shr a b c e = absurd cc
joined_truths o.Sar a b c e = absurd cc
joined_truths o.Rol a b c e = absurd cc
joined_truths o.Ror a b c e = absurd cc
joined_truths o.Add a b c e = absurd cc
joined_truths o.Sub a b c e = absurd cc
joined_truths o.Mul a b c e = absurd cc
joined_truths o.Div a b c e = absurd cc
joined_truths o.Rem a b c e = absurd cc
joined_truths o.DivS a b c e = absurd cc
joined_truths o.RemS a b c e = absurd cc

truth_binary : (op : BinOp) (at : Span) (w : Option Size) (a b : Bool) (c : Constant) → numbers.on_both op (constant.Bool a) (constant.Bool b) ≡ Some c → Gives (Is c) 0 (binary op at w (boolean a) (boolean b))
unfolding binary combined shifted
truth_binary o.OrElse at w a b c e = same_gives at (joined o.OrElse b) (numbers.on_both o.OrElse (constant.Bool a) (constant.Bool b)) c (joined_truths o.OrElse a b) e
truth_binary o.AndThen at w a b c e = same_gives at (joined o.AndThen b) (numbers.on_both o.AndThen (constant.Bool a) (constant.Bool b)) c (joined_truths o.AndThen a b) e
truth_binary o.Or at w a b c e = same_gives at (joined o.Or b) (numbers.on_both o.Or (constant.Bool a) (constant.Bool b)) c (joined_truths o.Or a b) e
truth_binary o.Xor at w a b c e = same_gives at (joined o.Xor b) (numbers.on_both o.Xor (constant.Bool a) (constant.Bool b)) c (joined_truths o.Xor a b) e
truth_binary o.And at w a b c e = same_gives at (joined o.And b) (numbers.on_both o.And (constant.Bool a) (constant.Bool b)) c (joined_truths o.And a b) e
truth_binary o.Eq at w a b c e = same_gives at (joined o.Eq b) (numbers.on_both o.Eq (constant.Bool a) (constant.Bool b)) c (joined_truths o.Eq a b) e
truth_binary o.Ne at w a b c e = same_gives at (joined o.Ne b) (numbers.on_both o.Ne (constant.Bool a) (constant.Bool b)) c (joined_truths o.Ne a b) e
truth_binary o.Lt at w a b c e = same_gives at (joined o.Lt b) (numbers.on_both o.Lt (constant.Bool a) (constant.Bool b)) c (joined_truths o.Lt a b) e
truth_binary o.Le at w a b c e = same_gives at (joined o.Le b) (numbers.on_both o.Le (constant.Bool a) (constant.Bool b)) c (joined_truths o.Le a b) e
truth_binary o.Gt at w a b c e = same_gives at (joined o.Gt b) (numbers.on_both o.Gt (constant.Bool a) (constant.Bool b)) c (joined_truths o.Gt a b) e
truth_binary o.Ge at w a b c e = same_gives at (joined o.Ge b) (numbers.on_both o.Ge (constant.Bool a) (constant.Bool b)) c (joined_truths o.Ge a b) e
truth_binary o.LtS at w a b c e = same_gives at (joined o.LtS b) (numbers.on_both o.LtS (constant.Bool a) (constant.Bool b)) c (joined_truths o.LtS a b) e
truth_binary o.LeS at w a b c e = same_gives at (joined o.LeS b) (numbers.on_both o.LeS (constant.Bool a) (constant.Bool b)) c (joined_truths o.LeS a b) e
truth_binary o.GtS at w a b c e = same_gives at (joined o.GtS b) (numbers.on_both o.GtS (constant.Bool a) (constant.Bool b)) c (joined_truths o.GtS a b) e
truth_binary o.GeS at w a b c e = same_gives at (joined o.GeS b) (numbers.on_both o.GeS (constant.Bool a) (constant.Bool b)) c (joined_truths o.GeS a b) e
truth_binary o.Shl at w a b c e = tt
truth_binary o.Shr at w a b c e = tt
truth_binary o.Sar at w a b c e = tt
truth_binary o.Rol at w a b c e = tt
truth_binary o.Ror at w a b c e = tt
truth_binary o.Add at w a b c e = same_gives at (joined o.Add b) (numbers.on_both o.Add (constant.Bool a) (constant.Bool b)) c (joined_truths o.Add a b) e
truth_binary o.Sub at w a b c e = same_gives at (joined o.Sub b) (numbers.on_both o.Sub (constant.Bool a) (constant.Bool b)) c (joined_truths o.Sub a b) e
truth_binary o.Mul at w a b c e = same_gives at (joined o.Mul b) (numbers.on_both o.Mul (constant.Bool a) (constant.Bool b)) c (joined_truths o.Mul a b) e
truth_binary o.Div at w a b c e = same_gives at (joined o.Div b) (numbers.on_both o.Div (constant.Bool a) (constant.Bool b)) c (joined_truths o.Div a b) e
truth_binary o.Rem at w a b c e = same_gives at (joined o.Rem b) (numbers.on_both o.Rem (constant.Bool a) (constant.Bool b)) c (joined_truths o.Rem a b) e
truth_binary o.DivS at w a b c e = same_gives at (joined o.DivS b) (numbers.on_both o.DivS (constant.Bool a) (constant.Bool b)) c (joined_truths o.DivS a b) e
truth_binary o.RemS at w a b c e = same_gives at (joined o.RemS b) (numbers.on_both o.RemS (constant.Bool a) (constant.Bool b)) c (joined_truths o.RemS a b) e

binary_is : (op : BinOp) (at : Span) (w : Option Size) (x y c : Constant) → numbers.on_both op x y ≡ Some c → Gives (Is c) 0 (binary op at w (of_constant x) (of_constant y))
unfolding binary
binary_is op at w (constant.Int i) (constant.Int j) c e = number_binary (is_shift op) op at w i j c e
binary_is op at w (constant.Bool a) (constant.Bool b) c e = truth_binary op at w a b c e
binary_is op at w (constant.Int i) (constant.Bool b) c e = absurd cc
binary_is op at w (constant.Bool a) (constant.Int j) c e = absurd cc

settled_is : (op : BinOp) (x : Constant) → is_settled op (of_constant x) ≡ numbers.is_settled op x
settled_is o.OrElse (constant.Int i) = refl
settled_is o.OrElse (constant.Bool b) = refl
settled_is o.AndThen (constant.Int i) = refl
settled_is o.AndThen (constant.Bool b) = refl
settled_is o.Or (constant.Int i) = refl
settled_is o.Or (constant.Bool b) = refl
settled_is o.Xor (constant.Int i) = refl
settled_is o.Xor (constant.Bool b) = refl
settled_is o.And (constant.Int i) = refl
settled_is o.And (constant.Bool b) = refl
settled_is o.Eq (constant.Int i) = refl
settled_is o.Eq (constant.Bool b) = refl
settled_is o.Ne (constant.Int i) = refl
settled_is o.Ne (constant.Bool b) = refl
settled_is o.Lt (constant.Int i) = refl
settled_is o.Lt (constant.Bool b) = refl
settled_is o.Le (constant.Int i) = refl
settled_is o.Le (constant.Bool b) = refl
settled_is o.Gt (constant.Int i) = refl
settled_is o.Gt (constant.Bool b) = refl
settled_is o.Ge (constant.Int i) = refl
settled_is o.Ge (constant.Bool b) = refl
settled_is o.LtS (constant.Int i) = refl
settled_is o.LtS (constant.Bool b) = refl
settled_is o.LeS (constant.Int i) = refl
settled_is o.LeS (constant.Bool b) = refl
settled_is o.GtS (constant.Int i) = refl
settled_is o.GtS (constant.Bool b) = refl
settled_is o.GeS (constant.Int i) = refl
settled_is o.GeS (constant.Bool b) = refl
settled_is o.Shl (constant.Int i) = refl
settled_is o.Shl (constant.Bool b) = refl
settled_is o.Shr (constant.Int i) = refl
settled_is o.Shr (constant.Bool b) = refl
settled_is o.Sar (constant.Int i) = refl
settled_is o.Sar (constant.Bool b) = refl
settled_is o.Rol (constant.Int i) = refl
settled_is o.Rol (constant.Bool b) = refl
settled_is o.Ror (constant.Int i) = refl
settled_is o.Ror (constant.Bool b) = refl
settled_is o.Add (constant.Int i) = refl
settled_is o.Add (constant.Bool b) = refl
settled_is o.Sub (constant.Int i) = refl
settled_is o.Sub (constant.Bool b) = refl
settled_is o.Mul (constant.Int i) = refl
settled_is o.Mul (constant.Bool b) = refl
settled_is o.Div (constant.Int i) = refl
settled_is o.Div (constant.Bool b) = refl
settled_is o.Rem (constant.Int i) = refl
settled_is o.Rem (constant.Bool b) = refl
settled_is o.DivS (constant.Int i) = refl
settled_is o.DivS (constant.Bool b) = refl
settled_is o.RemS (constant.Int i) = refl
settled_is o.RemS (constant.Bool b) = refl

abbrev Run : Type 0
Run = Option Size → State → Evaluation Value

-- what is known of the right part, where it is asked
right_known : (op : BinOp) (right : Run) (at : Span) (w : Option Size) (s : State) (x c : Constant) (q : Option Constant) → ((y : Constant) → q ≡ Some y → Gives (Is y) 0 (right (right_wanted op w) s)) → numbers.with_right op x q ≡ Some c →
    Gives (Is c) 0 (and_then (right (right_wanted op w) s) (λ y. binary op at w (of_constant x) y))
right_known op right at w s x c None h e = absurd cc
right_known op right at w s x c (Some y) h e =
    gives_then (Is y) (Is c) 0 0 (right (right_wanted op w) s) (λ v. binary op at w (of_constant x) v) (h y refl)
    (λ v q. subst (λ z. Gives (Is c) 0 (binary op at w (of_constant x) z)) (sym q) (binary_is op at w x y c e))

right_is : (k : Bool) (op : BinOp) (right : Run) (at : Span) (w : Option Size) (s : State) (x c : Constant) (q : Option Constant) → ((y : Constant) → q ≡ Some y → Gives (Is y) 0 (right (right_wanted op w) s)) →
    (if k then Some x else numbers.with_right op x q) ≡ Some c →
    Gives (Is c) 0 (if k then went [] (of_constant x) else and_then (right (right_wanted op w) s) (λ y. binary op at w (of_constant x) y))
right_is true op right at w s x c q h e = (refl, known x c e)
right_is false op right at w s x c q h e = right_known op right at w s x c q h e

operation_is : (op : BinOp) (left right : Run) (at : Span) (w z : Option Size) (s : State) (c : Constant) (p q : Option Constant) → ((x : Constant) → p ≡ Some x → Gives (Is x) 0 (left z s)) →
    ((y : Constant) → q ≡ Some y → Gives (Is y) 0 (right (right_wanted op z) s)) → numbers.joined op p q ≡ Some c → Gives (Is c) 0 (and_then (left z s) (with_right op right at z s))
operation_is op left right at w z s c None q hl hr e = absurd cc
operation_is op left right at w z s c (Some x) q hl hr e =
    gives_then (Is x) (Is c) 0 0 (left z s) (with_right op right at z s) (hl x refl)
    (λ v i. subst (λ u. Gives (Is c) 0 (with_right op right at z s u)) (sym i)
    (subst (λ k. Gives (Is c) 0 (if k then went [] (of_constant x) else and_then (right (right_wanted op z) s) (λ y. binary op at z (of_constant x) y))) (sym (settled_is op x))
    (right_is (numbers.is_settled op x) op right at z s x c q hr e)))

-- ---- one operand

number_known : (p : Option ℤ) (c : Constant) (at : Span) → numbers.number p ≡ Some c → Gives (Is c) 0 (defined at (option_map integer p))
number_known None c at e = absurd cc
number_known (Some i) c at e = (refl, known (constant.Int i) c e)

minus_is : (at : Span) (p : Option Constant) (c : Constant) (g : Evaluation Value) → ((x : Constant) → p ≡ Some x → Gives (Is x) 0 g) → numbers.minus p ≡ Some c → Gives (Is c) 0 (and_then g (λ v. defined at (negated v)))
unfolding negated
minus_is at None c g h e = absurd cc
minus_is at (Some (constant.Bool b)) c g h e = absurd cc
minus_is at (Some (constant.Int i)) c g h e =
    gives_then (Is (constant.Int i)) (Is c) 0 0 g (λ v. defined at (negated v)) (h (constant.Int i) refl)
    (λ v q. subst (λ z. Gives (Is c) 0 (defined at (negated z))) (sym q) (number_known (numbers.negated i) c at e))

opposite_is : (p : Option Constant) (c : Constant) (g : Evaluation Value) → ((x : Constant) → p ≡ Some x → Gives (Is x) 0 g) → numbers.opposite p ≡ Some c → Gives (Is c) 0 (and_then g (λ v. went [] (inverted v)))
unfolding inverted
opposite_is None c g h e = absurd cc
opposite_is (Some (constant.Int i)) c g h e =
    gives_then (Is (constant.Int i)) (Is c) 0 0 g (λ v. went [] (inverted v)) (h (constant.Int i) refl)
    (λ v q. subst (λ z. Gives (Is c) 0 (went [] (inverted z))) (sym q) (refl, known (constant.Int (numbers.inverted i)) c e))
opposite_is (Some (constant.Bool b)) c g h e =
    gives_then (Is (constant.Bool b)) (Is c) 0 0 g (λ v. went [] (inverted v)) (h (constant.Bool b) refl)
    (λ v q. subst (λ z. Gives (Is c) 0 (went [] (inverted z))) (sym q) (refl, known (constant.Bool (not b)) c e))

-- ---- layers

module _ (known_numbers : List ℕ → ℕ → Option ℤ) where
  abbrev Fits : Meaning → Option Constant → Type 0
  Fits m p = (w : Option Size) (s : State) (c : Constant) → HoldsIntegers known_numbers s.store → p ≡ Some c → Gives (Is c) 0 (m.run w s)

  abbrev number_of_var : Var → Option ℤ
  number_of_var = fold-Var _ _ _ _ _ value_step (λ t. tt) (λ a. tt) (λ d. tt) (λ x. known_numbers x.name x.copy)

  abbrev ExprLaw : Expr → Type 0
  ExprLaw e = Fits (meaning_of e) (inline_value known_numbers e)

  abbrev VarLaw : Var → Type 0
  VarLaw x = known_numbers (ref_of x).name (ref_of x).copy ≡ number_of_var x

  abbrev Known : Type 0
  Known = Expr-F ((e : Expr) × ExprLaw e) ((t : Ty) × Any t) ((a : Access) × Any a) ((d : Decl) × Any d) ((x : Var) × VarLaw x)

  abbrev bare : Known → Expr-F Expr Ty Access Decl Var
  bare y = map-Expr _ _ _ _ _ _ _ _ _ _ (λ e. e.0) (λ e. e.0) (λ e. e.0) (λ e. e.0) (λ e. e.0) y

  abbrev kind_of_ty : Ty → Kind
  kind_of_ty = fold-Ty _ _ _ _ _ expr_step ty_step access_step decl_step var_step

  abbrev kind_of_decl : Decl → Kind
  kind_of_decl = fold-Decl _ _ _ _ _ expr_step ty_step access_step decl_step var_step

  abbrev meaning_layer : Expr-F Expr Ty Access Decl Var → Meaning
  meaning_layer x = expr_step (map-Expr _ _ _ _ _ Meaning Kind MemoryAccess Kind Ref meaning_of kind_of_ty access_of kind_of_decl ref_of x)

  abbrev value_layer : Expr-F Expr Ty Access Decl Var → Option Constant
  value_layer x = value_step (map-Expr _ _ _ _ _ (Option Constant) (Unit {0}) (Unit {0}) (Unit {0}) (Option ℤ) (inline_value known_numbers) (λ t. tt) (λ a. tt) (λ d. tt) number_of_var x)

  -- the store's value is the number that is known
  variable_is : (at : Span) (k : Key) (s : State) (p : Option ℤ) (c : Constant) → HoldsIntegers known_numbers s.store → known_numbers k.name k.copy ≡ p → numbers.number p ≡ Some c → Gives (Is c) 0 (defined at (s.store k))
  variable_is at k s None c holds i e = absurd cc
  variable_is at k s (Some n) c holds i e = gives_defined (Is c) at (s.store k) (λ v h. holds k n v i h ∙ known (constant.Int n) c e)

  layer_law : (y : Known) → Fits (meaning_layer (bare y)) (value_layer (bare y))
  layer_law (Expr-F.Num i at) w s c holds e = (refl, known (constant.Int i) c e)
  layer_law (Expr-F.Expr::Bool b at) w s c holds e = (refl, known (constant.Bool b) c e)
  layer_law (Expr-F.Var x) w s c holds e = variable_is (ref_of x.0).span (key_of (ref_of x.0)) s (number_of_var x.0) c holds x.1 e
  layer_law (Expr-F.Cell x i) w s c holds e = absurd cc
  layer_law (Expr-F.Load a) w s c holds e = absurd cc
  layer_law (Expr-F.Neg a at) w s c holds e = minus_is at (inline_value known_numbers a.0) c (evaluated a.0 _ s) (λ x h. a.1 _ s x holds h) e
  layer_law (Expr-F.Not a at) w s c holds e = opposite_is (inline_value known_numbers a.0) c (evaluated a.0 _ s) (λ x h. a.1 _ s x holds h) e
  layer_law (Expr-F.Cast z sign a at) w s c holds e = absurd cc
  layer_law (Expr-F.Bin op a b at) w s c holds e =
      let z = left_wanted op w (meaning_of a.0).size (meaning_of b.0).size in
      operation_is op (evaluated a.0) (evaluated b.0) at w z s c (inline_value known_numbers a.0) (inline_value known_numbers b.0) (λ x h. a.1 z s x holds h) (λ y h. b.1 (right_wanted op z) s y holds h) e

  meaning_is : (x : Expr-F Expr Ty Access Decl Var) → meaning_of (roll-Expr x) ≡ meaning_layer x
  meaning_is x = fold-roll-Expr _ _ _ _ _ expr_step ty_step access_step decl_step var_step x

  value_is : (x : Expr-F Expr Ty Access Decl Var) → inline_value known_numbers (roll-Expr x) ≡ value_layer x
  value_is x = fold-roll-Expr _ _ _ _ _ value_step (λ t. tt) (λ a. tt) (λ d. tt) (λ v. known_numbers v.name v.copy) x

  expr_case : (y : Known) → ExprLaw (roll-Expr (bare y))
  expr_case y = subst (λ m. Fits m (inline_value known_numbers (roll-Expr (bare y)))) (sym (meaning_is (bare y))) (subst (Fits (meaning_layer (bare y))) (sym (value_is (bare y))) (layer_law y))

  var_case : (x : Var-F Expr Ty Access Decl Var) → VarLaw (roll-Var x)
  var_case x =
      ap (λ (r : Ref). known_numbers r.name r.copy) (fold-roll-Var _ _ _ _ _ expr_step ty_step access_step decl_step var_step x)
      ∙ sym (fold-roll-Var _ _ _ _ _ value_step (λ t. tt) (λ a. tt) (λ d. tt) (λ v. known_numbers v.name v.copy) x)

  pub inline_is : (e : Expr) → ExprLaw e
  inline_is =
      ind-Expr ExprLaw Any Any Any VarLaw
      (λ x y is. subst (λ z. ExprLaw (roll-Expr z)) is (expr_case y))
      (λ x y is. tt)
      (λ x y is. tt)
      (λ x y is. tt)
      (λ x y is. var_case x)

-- ---- the law

no_items : (ns : List ℕ) → length ns ≡ 0 → ns ≡ []
no_items [] e = refl
no_items (n ∷ ns) e = absurd cc

pub leaks_nothing : (known_numbers : List ℕ → ℕ → Option ℤ) (e : Expr) (c : Constant) (w : Option Size) (s : State) (ns : List ℕ) (v : Value) → HoldsIntegers known_numbers s.store → inline_value known_numbers e ≡ Some c → evaluated e w s ≡ went ns v → (ns ≡ []) × (v ≡ of_constant c)
leaks_nothing known_numbers e c w s ns v holds is it =
    let h : Gives (Is c) 0 (went ns v) = subst (Gives (Is c) 0) it (inline_is known_numbers e w s c holds is) in
    (no_items ns h.0, h.1)
