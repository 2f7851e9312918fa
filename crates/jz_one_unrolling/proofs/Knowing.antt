-- Where more is known an inline expression with a value has the same one.
use Rattle.std.proofs.Common.{◌≡◌, ℕ, List, [], ◌∷◌, Option, Some, None, Bool, true, false, refl, ap, sym, ◌∙◌, subst}
use Rattle.std.specs.Prelude.{ℤ, ◌==◌, ◌&&◌, if◌then◌else◌}
use Rattle.std.specs.Option.{option_or}
use Rattle.std.specs.Str.{bytes_eq}
use Rattle.jz_tree.specs.declared.expr.BinOp.{BinOp}
use Rattle.jz_tree.specs.declared.expr.Expr.{Expr}
use Rattle.jz_tree.specs.declared.expr.Ty.{Ty}
use Rattle.jz_tree.specs.declared.expr.Access.{Access}
use Rattle.jz_tree.specs.declared.expr.Decl.{Decl}
use Rattle.jz_tree.specs.declared.expr.Var.{Var}
use Rattle.jz_tree.specs.declared.expr.Expr.TheOpen.{Expr-F}
use Rattle.jz_tree.specs.declared.expr.Expr.TheViews.{roll-Expr, out-Var, roll-out-Var}
use Rattle.jz_tree.specs.declared.expr.Expr.TheFolds.{fold-Var, fold-roll-Expr, fold-roll-Var, ind-Expr, map-Expr}
use Rattle.jz_integers.specs.Integers as numbers
use Rattle.jz_integers.specs.Integers.{KnownNumbers, inline_value, value_step}
use Rattle.jz_integers.specs.declared.constant.Constant.{Constant}
use Rattle.jz_meaning.specs.Values.{ref_of}
use Rattle.jz_unroll.specs.Unrolling.{with_number, all_unknown, KnowsLess}
use Rattle.jz_unroll.proofs.Layers.{Layer}

-- ---- what both know is one

abbrev pub Agree : KnownNumbers → KnownNumbers → Type 0
Agree e f = (n : List ℕ) (c : ℕ) (i j : ℤ) → e n c ≡ Some i → f n c ≡ Some j → i ≡ j

pub agree_turned : (e f : KnownNumbers) → Agree e f → Agree f e
agree_turned e f a n c i j p q = sym (a n c j i q p)

pub agree_under : (e0 e f : KnownNumbers) → KnowsLess e0 e → Agree e f → Agree e0 f
agree_under e0 e f l a n c i j p q = a n c i j (l n c i p) q

pub agree_with : (e f : KnownNumbers) (v : Var) (x y : Option ℤ) → Agree e f → ((i j : ℤ) → x ≡ Some i → y ≡ Some j → i ≡ j) → Agree (with_number e v x) (with_number f v y)
agree_with e f v x y a same n c = by_place (bytes_eq (ref_of v).name n && (ref_of v).copy == c)
  where
    by_place : (b : Bool) (i j : ℤ) → (if b then x else e n c) ≡ Some i → (if b then y else f n c) ≡ Some j → i ≡ j
    by_place true i j p q = same i j p q
    by_place false i j p q = a n c i j p q

pub agree_unknown : (vs : List Var) (e f : KnownNumbers) → Agree e f → Agree (all_unknown e vs) (all_unknown f vs)
agree_unknown [] e f a = a
agree_unknown (v ∷ vs) e f a = agree_unknown vs (with_number e v None) (with_number f v None) (agree_with e f v None None a (λ i j p q. absurd cc))

-- ---- what one of them knows

abbrev pub either_known : KnownNumbers → KnownNumbers → KnownNumbers
either_known e f n c = option_or (e n c) (f n c)

pub less_one : (e f : KnownNumbers) → KnowsLess e (either_known e f)
less_one e f n c i p = ap (λ z. option_or z (f n c)) p

pub less_other : (e f : KnownNumbers) → Agree e f → KnowsLess f (either_known e f)
less_other e f a n c i p = by_first (e n c) refl
  where
    by_first : (z : Option ℤ) → e n c ≡ z → option_or (e n c) (f n c) ≡ Some i
    by_first None q = ap (λ y. option_or y (f n c)) q ∙ p
    by_first (Some j) q = ap (λ y. option_or y (f n c)) q ∙ ap (λ (y : ℤ). Some y) (a n c j i q p)

-- ---- values of inline expressions

kept : (g : Option Constant → Option Constant) (p q : Option Constant) (c : Constant) → g None ≡ None → ((x : Constant) → p ≡ Some x → q ≡ Some x) → g p ≡ Some c → g q ≡ Some c
kept g None q c none h e = absurd (let y : None ≡ Some c = sym none ∙ e in cc)
kept g (Some x) q c none h e = ap g (h x refl) ∙ e

right_kept : (k : Bool) (op : BinOp) (x c : Constant) (p q : Option Constant) → ((y : Constant) → p ≡ Some y → q ≡ Some y) → (if k then Some x else numbers.with_right op x p) ≡ Some c → (if k then Some x else numbers.with_right op x q) ≡ Some c
right_kept true op x c p q h e = e
right_kept false op x c p q h e = kept (numbers.with_right op x) p q c refl h e

joined_kept : (op : BinOp) (p q r s : Option Constant) (c : Constant) → ((x : Constant) → p ≡ Some x → q ≡ Some x) → ((y : Constant) → r ≡ Some y → s ≡ Some y) → numbers.joined op p r ≡ Some c → numbers.joined op q s ≡ Some c
joined_kept op None q r s c h g e = absurd cc
joined_kept op (Some x) q r s c h g e = ap (λ z. numbers.joined op z s) (h x refl) ∙ right_kept (numbers.is_settled op x) op x c r s g e

module _ (e m : KnownNumbers) (less : KnowsLess e m) where
  abbrev Grows : Expr → Type 0
  Grows x = (c : Constant) → inline_value e x ≡ Some c → inline_value m x ≡ Some c

  abbrev Any : {A : Type 0} → A → Type 0
  Any y = Unit {0}

  abbrev number_in : KnownNumbers → Var → Option ℤ
  number_in known = fold-Var _ _ _ _ _ value_step (λ t. tt) (λ a. tt) (λ d. tt) (λ v. known v.name v.copy)

  var_number : (known : KnownNumbers) (v : Var) → number_in known v ≡ known (out-Var v).name (out-Var v).copy
  var_number known v =
      ap (number_in known) (sym (roll-out-Var v)) ∙ fold-roll-Var _ _ _ _ _ value_step (λ t. tt) (λ a. tt) (λ d. tt) (λ v. known v.name v.copy) (out-Var v)

  abbrev Known : Type 0
  Known = Expr-F ((x : Expr) × Grows x) ((t : Ty) × Any t) ((a : Access) × Any a) ((d : Decl) × Any d) ((v : Var) × Any v)

  abbrev bare : Known → Layer
  bare y = map-Expr _ _ _ _ _ _ _ _ _ _ (λ e. e.0) (λ e. e.0) (λ e. e.0) (λ e. e.0) (λ e. e.0) y

  abbrev value_layer : KnownNumbers → Layer → Option Constant
  value_layer known x = value_step (map-Expr _ _ _ _ _ (Option Constant) (Unit {0}) (Unit {0}) (Unit {0}) (Option ℤ) (inline_value known) (λ t. tt) (λ a. tt) (λ d. tt) (number_in known) x)

  value_is : (known : KnownNumbers) (x : Layer) → inline_value known (roll-Expr x) ≡ value_layer known x
  value_is known x = fold-roll-Expr _ _ _ _ _ value_step (λ t. tt) (λ a. tt) (λ d. tt) (λ v. known v.name v.copy) x

  variable_grows : (v : Var) (n : Option ℤ) (c : Constant) → number_in e v ≡ n → numbers.number n ≡ Some c → numbers.number (number_in m v) ≡ Some c
  variable_grows v None c q h = absurd cc
  variable_grows v (Some i) c q h =
      ap numbers.number (var_number m v ∙ less (out-Var v).name (out-Var v).copy i (sym (var_number e v) ∙ q)) ∙ h

  layer_grows : (y : Known) (c : Constant) → value_layer e (bare y) ≡ Some c → value_layer m (bare y) ≡ Some c
  layer_grows (Expr-F.Num i at) c q = q
  layer_grows (Expr-F.Expr::Bool b at) c q = q
  layer_grows (Expr-F.Var v) c q = variable_grows v.0 (number_in e v.0) c refl q
  layer_grows (Expr-F.Cell v i) c q = absurd cc
  layer_grows (Expr-F.Load a) c q = absurd cc
  layer_grows (Expr-F.Neg a at) c q = kept numbers.minus (inline_value e a.0) (inline_value m a.0) c refl a.1 q
  layer_grows (Expr-F.Not a at) c q = kept numbers.opposite (inline_value e a.0) (inline_value m a.0) c refl a.1 q
  layer_grows (Expr-F.Cast z b a at) c q = absurd cc
  layer_grows (Expr-F.Bin op a b at) c q =
      joined_kept op (inline_value e a.0) (inline_value m a.0) (inline_value e b.0) (inline_value m b.0) c a.1 b.1 q

  expr_case : (y : Known) → Grows (roll-Expr (bare y))
  expr_case y c q = value_is m (bare y) ∙ layer_grows y c (sym (value_is e (bare y)) ∙ q)

  pub value_grows : (x : Expr) → Grows x
  value_grows =
      ind-Expr Grows Any Any Any Any
      (λ z y is. subst (λ k. Grows (roll-Expr k)) is (expr_case y))
      (λ z y is. tt)
      (λ z y is. tt)
      (λ z y is. tt)
      (λ z y is. tt)

-- where what is known agrees it has one value
pub value_agrees : (e f : KnownNumbers) (x : Expr) (c d : Constant) → Agree e f → inline_value e x ≡ Some c → inline_value f x ≡ Some d → c ≡ d
value_agrees e f x c d a p q =
    let m = either_known e f in
    let one = value_grows e m (less_one e f) x c p in
    let other = value_grows f m (less_other e f a) x d q in
    cc
