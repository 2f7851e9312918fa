-- Values in place of inline parts, form by form: what is left then.
use Rattle.std.proofs.Common.{◌≡◌, ℕ, Bool, true, false, ◌&&◌, Some, refl, sym, ap, ◌∙◌, subst, ℤ, pos}
use Rattle.jz_words.specs.declared.size.Size.{Size}
use Rattle.jz_tree.specs.Span.{Span}
use Rattle.jz_tree.specs.declared.expr.BinOp.{BinOp}
use Rattle.jz_tree.specs.declared.expr.Access.{Access}
use Rattle.jz_tree.specs.declared.expr.Decl.{Decl}
use Rattle.jz_tree.specs.declared.expr.Ty.{Ty}
use Rattle.jz_tree.specs.declared.expr.Expr.{Expr}
use Rattle.jz_tree.specs.declared.expr.Expr.TheVariants as expr
use Rattle.jz_tree.specs.declared.expr.Expr.TheOpen.{Expr-F, Access-F}
use Rattle.jz_tree.specs.declared.expr.Expr.TheViews.{out-Access, roll-Access, roll-out-Access, out-roll-Access}
use Rattle.jz_tree.specs.declared.expr.Var.{Var}
use Rattle.jz_type_names.specs.Kinds.{is_inline}
use Rattle.jz_type_names.specs.Parts.{span_of}
use Rattle.jz_integers.specs.Integers.{KnownNumbers, inline_value}
use Rattle.jz_integers.specs.declared.constant.Constant.{Constant}
use Rattle.jz_integers.specs.declared.constant.Constant.TheVariants as constant
use Rattle.jz_unroll.specs.Values.{constant_expr, with_values, access_with_values}
use Rattle.jz_unroll.proofs.Valued.{access_values_is}
use Rattle.jz_unroll.proofs.Parts.{inline_whole, plain_layer, values_bin, values_var, values_cell, values_load}
use Rattle.jz_limits.proofs.Layers.{inline_var}
use Rattle.jz_homes.specs.Homes.{Homes}
use Rattle.jz_total_rows.specs.Expanded.{HasHome}
use Rattle.jz_total_rows.proofs.Forms.{home_not_inline, number_inline, bool_inline, minus_inline, denial_inline, cast_inline, two_inline, cell_inline, load_inline}
use Rattle.jz_expanded.specs.Valued.{IsStackArray, IsScalarCell, IsValued, an_inline, a_variable, a_cell, a_scalar, a_load, a_minus, a_denial, a_cast, of_two}

-- what is left then: cells of register arrays stand at numbers
pub data IsScalable (home : Homes) : Expr → Type 0 where
  s_number : (i : ℤ) (at : Span) → IsScalable home (expr.Num i at)
  s_truth : (b : Bool) (at : Span) → IsScalable home (expr.Bool b at)
  s_variable : (v : Var) → HasHome home v → IsScalable home (expr.Var v)
  s_cell : (v : Var) (i : Expr) → IsStackArray home v → IsScalable home i → IsScalable home (expr.Cell v i)
  s_scalar : (v : Var) (n : ℕ) (at : Span) → IsScalarCell home v n → IsScalable home (expr.Cell v (expr.Num (pos n) at))
  s_load : (a : Access) → IsScalable home a.at → IsScalable home (expr.Load a)
  s_minus : (a : Expr) (at : Span) → is_inline a ≡ false → IsScalable home a → IsScalable home (expr.Neg a at)
  s_denial : (a : Expr) (at : Span) → is_inline a ≡ false → IsScalable home a → IsScalable home (expr.Not a at)
  s_cast : (z : Size) (signed : Bool) (a : Expr) (at : Span) → IsScalable home a → IsScalable home (expr.Cast z signed a at)
  s_two : (o : BinOp) (a b : Expr) (at : Span) → (is_inline a && is_inline b) ≡ false → IsScalable home a → IsScalable home b → IsScalable home (expr.Bin o a b at)

-- ---- what an access reads
at_layer : (k : KnownNumbers) (x : Access-F Expr Ty Access Decl Var) → (out-Access (access_with_values k (roll-Access x))).at ≡ with_values k x.at
at_layer k x =
    ap (λ m. (out-Access m).at) (access_values_is k x)
    ∙ ap (λ (y : Access-F Expr Ty Access Decl Var). y.at) (out-roll-Access (record { size = x.size; at = with_values k x.at; unaligned = x.unaligned; span = x.span }))

pub access_at : (k : KnownNumbers) (a : Access) → (out-Access (access_with_values k a)).at ≡ with_values k (out-Access a).at
access_at k a = ap (λ m. (out-Access (access_with_values k m)).at) (sym (roll-out-Access a)) ∙ at_layer k (out-Access a)

-- ---- an expression is inline as it was
pub and_same : (a b c d : Bool) → c ≡ a → d ≡ b → (a && b) ≡ false → (c && d) ≡ false
and_same a b c d p q h = (λ i. p i && q i) ∙ h

-- ---- forms
module _ (k : KnownNumbers) where
  values_minus : (a : Expr) (at : Span) → is_inline a ≡ false → with_values k (expr.Neg a at) ≡ expr.Neg (with_values k a) at
  values_minus a at h =
      ap (with_values k) (sym (expr.rolls-Neg a at)) ∙ plain_layer k (Expr-F.Neg a at) (ap is_inline (expr.rolls-Neg a at) ∙ (minus_inline a at ∙ h))
      ∙ expr.rolls-Neg (with_values k a) at

  values_denial : (a : Expr) (at : Span) → is_inline a ≡ false → with_values k (expr.Not a at) ≡ expr.Not (with_values k a) at
  values_denial a at h =
      ap (with_values k) (sym (expr.rolls-Not a at)) ∙ plain_layer k (Expr-F.Not a at) (ap is_inline (expr.rolls-Not a at) ∙ (denial_inline a at ∙ h))
      ∙ expr.rolls-Not (with_values k a) at

  values_cast : (z : Size) (s : Bool) (a : Expr) (at : Span) → with_values k (expr.Cast z s a at) ≡ expr.Cast z s (with_values k a) at
  values_cast z s a at =
      ap (with_values k) (sym (expr.rolls-Cast z s a at)) ∙ plain_layer k (Expr-F.Cast z s a at) (ap is_inline (expr.rolls-Cast z s a at) ∙ cast_inline z s a at)
      ∙ expr.rolls-Cast z s (with_values k a) at

  module _ (home : Homes) where
    -- what an expression becomes: it is expanded, and inline as it was
    record Left (e : Expr) : Type 0 where
      pub is : IsScalable home (with_values k e)
      pub same : is_inline (with_values k e) ≡ is_inline e

    left_as : (e w : Expr) → with_values k e ≡ w → IsScalable home w → is_inline w ≡ is_inline e → Left e
    left_as e w p x q = record { is = subst (IsScalable home) (sym p) x; same = ap is_inline p ∙ q }

    constant_left : (e : Expr) (c : Constant) → is_inline e ≡ true → inline_value k e ≡ Some c → Left e
    constant_left e (constant.Int i) h v =
        left_as e (expr.Num i (span_of e)) (inline_whole k e h ∙ ap (constant_expr (span_of e) e) v) (s_number i (span_of e)) (number_inline i (span_of e) ∙ sym h)
    constant_left e (constant.Bool b) h v =
        left_as e (expr.Bool b (span_of e)) (inline_whole k e h ∙ ap (constant_expr (span_of e) e) v) (s_truth b (span_of e)) (bool_inline b (span_of e) ∙ sym h)

    not_inline : (v : Var) → HasHome home v → is_inline (expr.Var v) ≡ false
    not_inline v h = inline_var v ∙ home_not_inline home v h

    left_of : (e : Expr) → IsValued home k e → Left e
    left_of e (an_inline e2 c h v) = constant_left e c h v
    left_of e (a_variable v h) = left_as (expr.Var v) (expr.Var v) (values_var k v (not_inline v h)) (s_variable v h) refl
    left_of e (a_cell v i h x) =
        let y = left_of i x in
        left_as (expr.Cell v i) (expr.Cell v (with_values k i)) (values_cell k v i) (s_cell v (with_values k i) h y.is) (cell_inline v (with_values k i) ∙ sym (cell_inline v i))
    left_of e (a_scalar v i n c h q) =
        let at = span_of i in
        left_as (expr.Cell v i) (expr.Cell v (expr.Num (pos n) at)) (values_cell k v i ∙ ap (expr.Cell v) (inline_whole k i h ∙ ap (constant_expr at i) q)) (s_scalar v n at c)
        (cell_inline v (expr.Num (pos n) at) ∙ sym (cell_inline v i))
    left_of e (a_load a x) =
        let y = left_of (out-Access a).at x in
        left_as (expr.Load a) (expr.Load (access_with_values k a)) (values_load k a) (s_load (access_with_values k a) (subst (IsScalable home) (sym (access_at k a)) y.is))
        (load_inline (access_with_values k a) ∙ sym (load_inline a))
    left_of e (a_minus a at n x) =
        let y = left_of a x in
        left_as (expr.Neg a at) (expr.Neg (with_values k a) at) (values_minus a at n) (s_minus (with_values k a) at (y.same ∙ n) y.is)
        (minus_inline (with_values k a) at ∙ (y.same ∙ sym (minus_inline a at)))
    left_of e (a_denial a at n x) =
        let y = left_of a x in
        left_as (expr.Not a at) (expr.Not (with_values k a) at) (values_denial a at n) (s_denial (with_values k a) at (y.same ∙ n) y.is)
        (denial_inline (with_values k a) at ∙ (y.same ∙ sym (denial_inline a at)))
    left_of e (a_cast z s a at x) =
        let y = left_of a x in
        left_as (expr.Cast z s a at) (expr.Cast z s (with_values k a) at) (values_cast z s a at) (s_cast z s (with_values k a) at y.is)
        (cast_inline z s (with_values k a) at ∙ sym (cast_inline z s a at))
    left_of e (of_two o a b at n x y) =
        let u = left_of a x in
        let w = left_of b y in
        let m = and_same (is_inline a) (is_inline b) (is_inline (with_values k a)) (is_inline (with_values k b)) u.same w.same n in
        left_as (expr.Bin o a b at) (expr.Bin o (with_values k a) (with_values k b) at) (values_bin k o a b at (two_inline o a b at ∙ n))
        (s_two o (with_values k a) (with_values k b) at m u.is w.is) (two_inline o (with_values k a) (with_values k b) at ∙ (m ∙ sym (two_inline o a b at ∙ n)))

pub scalable : (home : Homes) (k : KnownNumbers) (e : Expr) → IsValued home k e → IsScalable home (with_values k e)
scalable home k e x = (left_of k home e x).is

pub index_is : (home : Homes) (k : KnownNumbers) (i : Expr) (n : ℕ) → is_inline i ≡ true → inline_value k i ≡ Some (constant.Int (pos n)) → with_values k i ≡ expr.Num (pos n) (span_of i)
index_is home k i n h q = inline_whole k i h ∙ ap (constant_expr (span_of i) i) q
