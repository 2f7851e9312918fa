-- Expressions and their parts, layer by layer.
use Rattle.std.proofs.Common.{◌≡◌, ℕ, ◌<◌, ◌≤◌, List, [], ◌∷◌, ◌++◌, Option, Some, None, Bool, true, false, refl, ap, sym, ◌∙◌, subst, arith}
use Rattle.std.specs.Prelude.{ℤ, ◌&&◌, not, is_none, is_some}
use Rattle.std.proofs.lemmas.Bool.{and_from}
use Rattle.jz_tree.specs.Size.{Size}
use Rattle.jz_tree.specs.Span.{Span}
use Rattle.jz_tree.specs.declared.expr.BinOp.{BinOp}
use Rattle.jz_tree.specs.declared.expr.Expr.{Expr, size-Expr}
use Rattle.jz_tree.specs.declared.expr.Expr.TheVariants as expr
use Rattle.jz_tree.specs.declared.expr.Access.{Access}
use Rattle.jz_tree.specs.declared.expr.Var.{Var}
use Rattle.jz_tree.specs.declared.expr.Expr.TheOpen.{Expr-F}
use Rattle.jz_tree.specs.declared.expr.Expr.TheViews.{roll-Expr, roll-Access, out-Var, out-Access, out-roll-Expr, roll-out-Var, roll-out-Access, sized-Bin}
use Rattle.jz_tree.specs.declared.expr.Expr.TheFolds.{fold-Var, fold-roll-Expr, fold-roll-Var, map-Expr}
use Rattle.jz_type_names.specs.Kinds.{known_of, is_inline_int, is_inline}
use Rattle.jz_type_names.specs.Parts.{span_layer, span_of}
use Rattle.jz_integers.specs.Integers.{KnownNumbers, value_step, number, minus, opposite, joined, inline_value}
use Rattle.jz_integers.specs.declared.constant.Constant.{Constant}
use Rattle.jz_integers.specs.declared.constant.Constant.TheVariants as constant
use Rattle.jz_meaning.specs.Values.{Ref, ref_of}
use Rattle.jz_unroll.specs.Values.{constant_expr, has_no_cell, with_values, access_with_values, InlineNames, is_inline_var, has_values, access_has_values}
use Rattle.jz_unroll.proofs.Layers.{Layer, ref_rolled}
use Rattle.jz_unroll.proofs.Inline.{cells_layer, cells_is}
use Rattle.jz_unroll.proofs.InlineParts.{inline_layer, inline_is}
use Rattle.jz_unroll.proofs.Parts.{inline_whole, plain_layer, inline_known, layer_known}
use Rattle.jz_unroll.proofs.Valued.{parts_in, parts_layer, access_values_is, access_known_is}
use Rattle.jz_unrolling_values.specs.declared.expressions.Waiting.{Waiting}
use Rattle.jz_unrolling_values.specs.declared.parts.Part.{Part}
use Rattle.jz_unrolling_values.specs.Parts.{on_left, written_at, IsValued, IsInlinePart, IsPlainPart, IsPart}

-- ---- left sides

pub last_waiting : (ws : List Waiting) (w : Waiting) (x : Expr) → on_left (ws ++ w ∷ []) x ≡ on_left ws (expr.Bin w.op x w.right.now w.span)
last_waiting [] w x = refl
last_waiting (v ∷ ws) w x = ap (λ y. expr.Bin v.op y v.right.now v.span) (last_waiting ws w x)

pub left_smaller : (op : BinOp) (l r : Expr) (s : Span) → size-Expr l < size-Expr (expr.Bin op l r s)
left_smaller op l r s = rw (sized-Bin op l r s) (search arith)

right_smaller : (op : BinOp) (l r : Expr) (s : Span) → size-Expr r < size-Expr (expr.Bin op l r s)
right_smaller op l r s = rw (sized-Bin op l r s) (search arith)

-- each right operand is smaller than this
abbrev pub AllSmaller : ℕ → List Waiting → Type 0
AllSmaller n [] = Unit {0}
AllSmaller n (w ∷ ws) = (size-Expr w.right.now < n) × AllSmaller n ws

wider : (m n : ℕ) (ws : List Waiting) → m ≤ n → AllSmaller m ws → AllSmaller n ws
wider m n [] le h = tt
wider m n (w ∷ ws) le h = (omega (arith, le, h.0), wider m n ws le h.1)

without_last : (n : ℕ) (ws : List Waiting) (w : Waiting) → AllSmaller n (ws ++ w ∷ []) → AllSmaller n ws × (size-Expr w.right.now < n)
without_last n [] w h = (tt, h.0)
without_last n (v ∷ ws) w h = let x = without_last n ws w h.1 in ((h.0, x.0), x.1)

parts_within : (ws : List Waiting) (x : Expr) → (size-Expr x ≤ size-Expr (on_left ws x)) × AllSmaller (size-Expr (on_left ws x)) ws
parts_within [] x = (search arith, tt)
parts_within (w ∷ ws) x =
    let y = parts_within ws x in
    let l = left_smaller w.op (on_left ws x) w.right.now w.span in
    (omega (arith, y.0, l), (right_smaller w.op (on_left ws x) w.right.now w.span, wider _ _ ws (omega (arith, l)) y.1))

pub first_within : (x first : Expr) (ws : List Waiting) → on_left ws first ≡ x → size-Expr first ≤ size-Expr x
first_within x first ws whole = subst (λ y. size-Expr first ≤ size-Expr y) whole (parts_within ws first).0

module _ (names : InlineNames) (e : KnownNumbers) where
  -- on the way up: what the operations that still wait make of the part's expression is the whole
  pub record IsOnTheWay (whole : Expr) (ws : List Waiting) (part : Part) : Type 0 where
    pub reached : Expr
    pub so : IsPart names e reached part
    pub under : on_left ws reached ≡ whole
    pub smaller : AllSmaller (size-Expr whole) ws

  pub begins : (x first : Expr) (ws : List Waiting) (part : Part) → on_left ws first ≡ x → IsPart names e first part → IsOnTheWay x ws part
  begins x first ws part whole is = record { reached = first; so = is; under = whole; smaller = subst (λ y. AllSmaller (size-Expr y) ws) whole (parts_within ws first).1 }

  pub goes_on : (x : Expr) (ws us : List Waiting) (w : Waiting) (part next : Part) → ws ≡ us ++ w ∷ [] → (way : IsOnTheWay x ws part) → IsPart names e (expr.Bin w.op way.reached w.right.now w.span) next → IsOnTheWay x us next
  goes_on x ws us w part next last way is = record {
    reached = expr.Bin w.op way.reached w.right.now w.span;
    so = is;
    under = sym (last_waiting us w way.reached) ∙ ap (λ l. on_left l way.reached) (sym last) ∙ way.under;
    smaller = (without_last (size-Expr x) us w (subst (AllSmaller (size-Expr x)) last way.smaller)).0;
  }

  pub last_within : (x : Expr) (ws us : List Waiting) (w : Waiting) (part : Part) → ws ≡ us ++ w ∷ [] → IsOnTheWay x ws part → size-Expr w.right.now < size-Expr x
  last_within x ws us w part last way = (without_last (size-Expr x) us w (subst (AllSmaller (size-Expr x)) last way.smaller)).1

  pub all_done : (x : Expr) (ws : List Waiting) (part : Part) → ws ≡ [] → IsOnTheWay x ws part → IsPart names e x part
  all_done x ws part none way = subst (λ y. IsPart names e y part) (ap (λ l. on_left l way.reached) (sym none) ∙ way.under) way.so

-- ---- layers

pub ref_name : (v : Var) → (ref_of v).name ≡ (out-Var v).name
ref_name v = ap (λ y. (ref_of y).name) (sym (roll-out-Var v)) ∙ ap (λ (r : Ref). r.name) (ref_rolled (out-Var v))

pub ref_copy : (v : Var) → (ref_of v).copy ≡ (out-Var v).copy
ref_copy v = ap (λ y. (ref_of y).copy) (sym (roll-out-Var v)) ∙ ap (λ (r : Ref). r.copy) (ref_rolled (out-Var v))

pub ref_cell : (v : Var) → (ref_of v).cell ≡ (out-Var v).cell
ref_cell v = ap (λ y. (ref_of y).cell) (sym (roll-out-Var v)) ∙ ap (λ (r : Ref). r.cell) (ref_rolled (out-Var v))

module _ (e : KnownNumbers) where
  number_in_var : Var → Option ℤ
  number_in_var = fold-Var _ _ _ _ _ value_step (λ t. tt) (λ a. tt) (λ d. tt) (λ v. e v.name v.copy)

  var_number : (v : Var) → number_in_var v ≡ e (out-Var v).name (out-Var v).copy
  unfolding number_in_var
  var_number v = ap number_in_var (sym (roll-out-Var v)) ∙ fold-roll-Var _ _ _ _ _ value_step (λ t. tt) (λ a. tt) (λ d. tt) (λ v. e v.name v.copy) (out-Var v)

  abbrev pub found_layer : Layer → Option Constant
  found_layer (Expr-F.Num n at) = Some (constant.Int n)
  found_layer (Expr-F.Expr::Bool b at) = Some (constant.Bool b)
  found_layer (Expr-F.Var v) = number (e (out-Var v).name (out-Var v).copy)
  found_layer (Expr-F.Cell v i) = None
  found_layer (Expr-F.Load a) = None
  found_layer (Expr-F.Neg a at) = minus (inline_value e a)
  found_layer (Expr-F.Not a at) = opposite (inline_value e a)
  found_layer (Expr-F.Cast z s a at) = None
  found_layer (Expr-F.Bin o a b at) = joined o (inline_value e a) (inline_value e b)

  step_is : (x : Layer) → value_step (map-Expr _ _ _ _ _ (Option Constant) (Unit {0}) (Unit {0}) (Unit {0}) (Option ℤ) (inline_value e) (λ t. tt) (λ a. tt) (λ d. tt) number_in_var x) ≡ found_layer x
  step_is (Expr-F.Num n at) = refl
  step_is (Expr-F.Expr::Bool b at) = refl
  step_is (Expr-F.Var v) = ap number (var_number v)
  step_is (Expr-F.Cell v i) = refl
  step_is (Expr-F.Load a) = refl
  step_is (Expr-F.Neg a at) = refl
  step_is (Expr-F.Not a at) = refl
  step_is (Expr-F.Cast z s a at) = refl
  step_is (Expr-F.Bin o a b at) = refl

  pub found_is : (x : Layer) → inline_value e (roll-Expr x) ≡ found_layer x
  unfolding number_in_var
  found_is x = fold-roll-Expr _ _ _ _ _ value_step (λ t. tt) (λ a. tt) (λ d. tt) (λ v. e v.name v.copy) x ∙ step_is x

pub access_values : (e : KnownNumbers) (a : Access) → access_with_values e a ≡ roll-Access (record { size = (out-Access a).size; at = with_values e (out-Access a).at; unaligned = (out-Access a).unaligned; span = (out-Access a).span })
access_values e a = ap (access_with_values e) (sym (roll-out-Access a)) ∙ access_values_is e (out-Access a)

pub access_known : (names : InlineNames) (e : KnownNumbers) (a : Access) → access_has_values names e a ≡ has_values names e (out-Access a).at
access_known names e a = ap (access_has_values names e) (sym (roll-out-Access a)) ∙ access_known_is names e (out-Access a)

module _ (names : InlineNames) (e : KnownNumbers) where
  pub inline_part : (y : Layer) (found : Option Constant) (at : Span) → inline_layer y ≡ true → cells_layer y ≡ true → found ≡ found_layer e y → at ≡ span_layer y → IsInlinePart names e (roll-Expr y) found at
  inline_part y found at i c f s = record {
    inline = inline_is y ∙ i;
    whole = cells_is y ∙ c;
    value = f ∙ sym (found_is e y);
    place = s ∙ sym (ap span_layer (out-roll-Expr y));
  }

  pub plain_part : (y : Layer) (z : Expr) → inline_layer y ≡ false → z ≡ roll-Expr (parts_in e y) → parts_layer names e y ≡ true → IsPlainPart names e (roll-Expr y) z
  plain_part y z i q k =
      let p = inline_is y ∙ i in
      record { plain = p; valued = record { copy = q ∙ sym (plain_layer e y p); known = layer_known names e y p k } }

  -- ---- parts by themselves

  some_there : (c : Option Constant) (k : Constant) → Some k ≡ c → is_some c ≡ true
  some_there c k q = ap is_some (sym q)

  pub number_valued : (x : Expr) (n : ℤ) (at : Span) → IsInlinePart names e x (Some (constant.Int n)) at → IsValued names e x (expr.Num n at)
  number_valued x n at p = record {
    copy = ap (expr.Num n) p.place ∙ sym (inline_whole e x p.inline ∙ ap (constant_expr (span_of x) x) (sym p.value));
    known = inline_known names e x p.inline p.whole (some_there (inline_value e x) (constant.Int n) p.value);
  }

  pub truth_valued : (x : Expr) (b : Bool) (at : Span) → IsInlinePart names e x (Some (constant.Bool b)) at → IsValued names e x (expr.Bool b at)
  truth_valued x b at p = record {
    copy = ap (expr.Bool b) p.place ∙ sym (inline_whole e x p.inline ∙ ap (constant_expr (span_of x) x) (sym p.value));
    known = inline_known names e x p.inline p.whole (some_there (inline_value e x) (constant.Bool b) p.value);
  }

  pub constant_valued : (x : Expr) (k : Constant) (at : Span) → IsInlinePart names e x (Some k) at → IsValued names e x (written_at at k)
  constant_valued x (constant.Int n) at p = number_valued x n at p
  constant_valued x (constant.Bool b) at p = truth_valued x b at p

  -- ---- numbers and truths

  pub num_part : (n : ℤ) (at : Span) → IsInlinePart names e (expr.Num n at) (Some (constant.Int n)) at
  num_part n at = subst (λ k. IsInlinePart names e k (Some (constant.Int n)) at) (expr.rolls-Num n at) (inline_part (Expr-F.Num n at) (Some (constant.Int n)) at refl refl refl refl)

  pub bool_part : (b : Bool) (at : Span) → IsInlinePart names e (expr.Bool b at) (Some (constant.Bool b)) at
  bool_part b at = subst (λ k. IsInlinePart names e k (Some (constant.Bool b)) at) (expr.rolls-Bool b at) (inline_part (Expr-F.Expr::Bool b at) (Some (constant.Bool b)) at refl refl refl refl)

  -- ---- variables

  not_false : (b : Bool) → b ≡ false → not b ≡ true
  not_false true q = absurd cc
  not_false false q = refl

  cell_known : (v : Var) (i : Expr) → is_inline_var names v ≡ false → has_values names e i ≡ true → (not (is_inline_var names v) && has_values names e i) ≡ true
  cell_known v i p k = and_from (not (is_inline_var names v)) (has_values names e i) (not_false (is_inline_var names v) p) k

  pub inline_var_part : (v : Var) (found : Option Constant) → is_inline_int (known_of v) ≡ true → (out-Var v).cell ≡ None → found ≡ number (e (out-Var v).name (out-Var v).copy) → IsInlinePart names e (expr.Var v) found (out-Var v).span
  inline_var_part v found i c f =
      subst (λ k. IsInlinePart names e k found (out-Var v).span) (expr.rolls-Var v) (inline_part (Expr-F.Var v) found (out-Var v).span i (ap is_none (ref_cell v ∙ c)) f refl)

  pub plain_var_part : (v w : Var) → is_inline_int (known_of v) ≡ false → w ≡ v → is_inline_var names v ≡ false → IsPlainPart names e (expr.Var v) (expr.Var w)
  plain_var_part v w i q p =
      subst (λ k. IsPlainPart names e k (expr.Var w)) (expr.rolls-Var v) (plain_part (Expr-F.Var v) (expr.Var w) i (ap expr.Var q ∙ sym (expr.rolls-Var v)) (not_false (is_inline_var names v) p))

  -- ---- operations

  pub both_inline : (op : BinOp) (x y : Expr) (a b : Option Constant) (at at1 at2 : Span) → IsInlinePart names e x a at1 → IsInlinePart names e y b at2 → IsInlinePart names e (expr.Bin op x y at) (joined op a b) at
  both_inline op x y a b at at1 at2 p q =
      subst (λ k. IsInlinePart names e k (joined op a b) at) (expr.rolls-Bin op x y at)
      (inline_part (Expr-F.Bin op x y at) (joined op a b) at (and_from (is_inline x) (is_inline y) p.inline q.inline) (and_from (has_no_cell x) (has_no_cell y) p.whole q.whole)
      (ap (λ k. joined op k b) p.value ∙ ap (joined op (inline_value e x)) q.value) refl)

  plain_bin : (op : BinOp) (x y x2 y2 : Expr) (at : Span) → (is_inline x && is_inline y) ≡ false → IsValued names e x x2 → IsValued names e y y2 → IsPlainPart names e (expr.Bin op x y at) (expr.Bin op x2 y2 at)
  plain_bin op x y x2 y2 at i p q =
      subst (λ k. IsPlainPart names e k (expr.Bin op x2 y2 at)) (expr.rolls-Bin op x y at)
      (plain_part (Expr-F.Bin op x y at) (expr.Bin op x2 y2 at) i (ap (λ k. expr.Bin op k y2 at) p.copy ∙ ap (λ k. expr.Bin op (with_values e x) k at) q.copy ∙ sym (expr.rolls-Bin op (with_values e x) (with_values e y) at)) (and_from (has_values names e x) (has_values names e y) p.known q.known))

  right_false : (a b : Bool) → b ≡ false → (a && b) ≡ false
  right_false true b q = q
  right_false false b q = refl

  left_false : (a b : Bool) → a ≡ false → (a && b) ≡ false
  left_false true b q = absurd cc
  left_false false b q = refl

  pub plain_right : (op : BinOp) (x y x2 y2 : Expr) (at : Span) → IsValued names e x x2 → IsPlainPart names e y y2 → IsPlainPart names e (expr.Bin op x y at) (expr.Bin op x2 y2 at)
  plain_right op x y x2 y2 at p q = plain_bin op x y x2 y2 at (right_false (is_inline x) (is_inline y) q.plain) p q.valued

  pub plain_left : (op : BinOp) (x y x2 y2 : Expr) (at : Span) → IsPlainPart names e x x2 → IsValued names e y y2 → IsPlainPart names e (expr.Bin op x y at) (expr.Bin op x2 y2 at)
  plain_left op x y x2 y2 at p q = plain_bin op x y x2 y2 at (left_false (is_inline x) (is_inline y) p.plain) p.valued q

  pub minus_part : (x : Expr) (a : Option Constant) (at at1 : Span) → IsInlinePart names e x a at1 → IsInlinePart names e (expr.Neg x at) (minus a) at
  minus_part x a at at1 p = subst (λ k. IsInlinePart names e k (minus a) at) (expr.rolls-Neg x at) (inline_part (Expr-F.Neg x at) (minus a) at p.inline p.whole (ap minus p.value) refl)

  pub plain_minus : (x x2 : Expr) (at : Span) → IsPlainPart names e x x2 → IsPlainPart names e (expr.Neg x at) (expr.Neg x2 at)
  plain_minus x x2 at p =
      subst (λ k. IsPlainPart names e k (expr.Neg x2 at)) (expr.rolls-Neg x at)
      (plain_part (Expr-F.Neg x at) (expr.Neg x2 at) p.plain (ap (λ k. expr.Neg k at) p.valued.copy ∙ sym (expr.rolls-Neg (with_values e x) at)) p.valued.known)

  pub opposite_part : (x : Expr) (a : Option Constant) (at at1 : Span) → IsInlinePart names e x a at1 → IsInlinePart names e (expr.Not x at) (opposite a) at
  opposite_part x a at at1 p = subst (λ k. IsInlinePart names e k (opposite a) at) (expr.rolls-Not x at) (inline_part (Expr-F.Not x at) (opposite a) at p.inline p.whole (ap opposite p.value) refl)

  pub plain_opposite : (x x2 : Expr) (at : Span) → IsPlainPart names e x x2 → IsPlainPart names e (expr.Not x at) (expr.Not x2 at)
  plain_opposite x x2 at p =
      subst (λ k. IsPlainPart names e k (expr.Not x2 at)) (expr.rolls-Not x at)
      (plain_part (Expr-F.Not x at) (expr.Not x2 at) p.plain (ap (λ k. expr.Not k at) p.valued.copy ∙ sym (expr.rolls-Not (with_values e x) at)) p.valued.known)

  -- ---- what is never inline

  pub cell_part : (v w : Var) (i j : Expr) → w ≡ v → is_inline_var names v ≡ false → IsValued names e i j → IsPlainPart names e (expr.Cell v i) (expr.Cell w j)
  cell_part v w i j q p k =
      subst (λ z. IsPlainPart names e z (expr.Cell w j)) (expr.rolls-Cell v i)
      (plain_part (Expr-F.Cell v i) (expr.Cell w j) refl (ap (λ z. expr.Cell z j) q ∙ ap (expr.Cell v) k.copy ∙ sym (expr.rolls-Cell v (with_values e i))) (cell_known v i p k.known))

  pub load_part : (a b : Access) → b ≡ access_with_values e a → access_has_values names e a ≡ true → IsPlainPart names e (expr.Load a) (expr.Load b)
  load_part a b q k =
      subst (λ z. IsPlainPart names e z (expr.Load b)) (expr.rolls-Load a)
      (plain_part (Expr-F.Load a) (expr.Load b) refl (ap expr.Load q ∙ sym (expr.rolls-Load (access_with_values e a))) k)

  pub cast_part : (z : Size) (s : Bool) (x y : Expr) (at : Span) → IsValued names e x y → IsPlainPart names e (expr.Cast z s x at) (expr.Cast z s y at)
  cast_part z s x y at k =
      subst (λ w. IsPlainPart names e w (expr.Cast z s y at)) (expr.rolls-Cast z s x at)
      (plain_part (Expr-F.Cast z s x at) (expr.Cast z s y at) refl (ap (λ w. expr.Cast z s w at) k.copy ∙ sym (expr.rolls-Cast z s (with_values e x) at)) k.known)
