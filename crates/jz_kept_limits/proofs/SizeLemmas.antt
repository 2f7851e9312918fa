-- Expressions keep their own sizes.
use Rattle.std.proofs.Common.{◌≡◌, ℤ, Bool, true, false, ◌&&◌, Some, None, refl, sym, ap, ◌∙◌, subst}
use Rattle.jz_tree.specs.Size.{Size}
use Rattle.jz_tree.specs.Span.{Span}
use Rattle.jz_tree.specs.declared.expr.Access.{Access}
use Rattle.jz_tree.specs.declared.expr.BinOp.{BinOp}
use Rattle.jz_tree.specs.declared.expr.Decl.{Decl}
use Rattle.jz_tree.specs.declared.expr.Ty.{Ty}
use Rattle.jz_tree.specs.declared.expr.Expr.{Expr}
use Rattle.jz_tree.specs.declared.expr.Expr.TheVariants as expr
use Rattle.jz_tree.specs.declared.expr.Expr.TheOpen.{Expr-F, Access-F}
use Rattle.jz_tree.specs.declared.expr.Expr.TheViews.{out-Access, roll-out-Access, out-roll-Access}
use Rattle.jz_tree.specs.declared.expr.Var.{Var}
use Rattle.jz_integers.specs.Integers.{KnownNumbers, inline_value}
use Rattle.jz_integers.specs.declared.constant.Constant.{Constant}
use Rattle.jz_integers.specs.declared.constant.Constant.TheVariants as constant
use Rattle.jz_type_names.specs.Kinds.{is_inline}
use Rattle.jz_type_names.specs.Parts.{span_of}
use Rattle.jz_meaning.specs.States.{State, empty_store}
use Rattle.jz_meaning.specs.Shapes.{Sorts, HoldsSorts, words}
use Rattle.jz_meaning.specs.Values.{Meaning, MemoryAccess, size_of, size_of_operation, access_of, ref_of, own_size}
use Rattle.std.specs.FinMap.{empty}
use Rattle.jz_unroll.specs.Values.{constant_expr, with_values, access_with_values}
use Rattle.jz_unroll.proofs.Layers.{meaning_is, access_is}
use Rattle.jz_unroll.proofs.InlineParts.{inline_is, inline_bin, no_size}
use Rattle.jz_unroll.proofs.Valued.{access_values_is}
use Rattle.jz_unroll.proofs.Parts.{inline_whole, plain_layer, values_bin, values_var, values_cell, values_load}
use Rattle.jz_arrays.specs.Cells.{with_scalars, access_with_scalars}
use Rattle.jz_arrays.proofs.Reading.{size_kept, access_in_is}
use Rattle.jz_kept_limits.proofs.ValuedParts.{IsValued, an_inline, a_variable, a_cell, a_load, a_minus, a_denial, a_cast, of_two}

-- ---- sizes by forms
own_num : (i : ℤ) (at : Span) → own_size (expr.Num i at) ≡ None
own_num i at = ap own_size (sym (expr.rolls-Num i at)) ∙ ap (λ (m : Meaning). m.size) (meaning_is (Expr-F.Num i at))

pub own_cell : (v : Var) (i : Expr) → own_size (expr.Cell v i) ≡ size_of (ref_of v).kind
own_cell v i = ap own_size (sym (expr.rolls-Cell v i)) ∙ ap (λ (m : Meaning). m.size) (meaning_is (Expr-F.Cell v i))

pub own_load : (a : Access) → own_size (expr.Load a) ≡ (access_of a).size
own_load a = ap own_size (sym (expr.rolls-Load a)) ∙ ap (λ (m : Meaning). m.size) (meaning_is (Expr-F.Load a))

pub own_neg : (a : Expr) (at : Span) → own_size (expr.Neg a at) ≡ own_size a
own_neg a at = ap own_size (sym (expr.rolls-Neg a at)) ∙ ap (λ (m : Meaning). m.size) (meaning_is (Expr-F.Neg a at))

pub own_not : (a : Expr) (at : Span) → own_size (expr.Not a at) ≡ own_size a
own_not a at = ap own_size (sym (expr.rolls-Not a at)) ∙ ap (λ (m : Meaning). m.size) (meaning_is (Expr-F.Not a at))

pub own_cast : (z : Size) (s : Bool) (a : Expr) (at : Span) → own_size (expr.Cast z s a at) ≡ Some z
own_cast z s a at = ap own_size (sym (expr.rolls-Cast z s a at)) ∙ ap (λ (m : Meaning). m.size) (meaning_is (Expr-F.Cast z s a at))

pub own_bin : (o : BinOp) (a b : Expr) (at : Span) → own_size (expr.Bin o a b at) ≡ size_of_operation o (own_size a) (own_size b)
own_bin o a b at = ap own_size (sym (expr.rolls-Bin o a b at)) ∙ ap (λ (m : Meaning). m.size) (meaning_is (Expr-F.Bin o a b at))

-- ---- values by forms
pub bool_inline : (b : Bool) (at : Span) → is_inline (expr.Bool b at) ≡ true
bool_inline b at = ap is_inline (sym (expr.rolls-Bool b at)) ∙ inline_is (Expr-F.Expr::Bool b at)

pub minus_inline : (a : Expr) (at : Span) → is_inline (expr.Neg a at) ≡ is_inline a
minus_inline a at = ap is_inline (sym (expr.rolls-Neg a at)) ∙ inline_is (Expr-F.Neg a at)

pub denial_inline : (a : Expr) (at : Span) → is_inline (expr.Not a at) ≡ is_inline a
denial_inline a at = ap is_inline (sym (expr.rolls-Not a at)) ∙ inline_is (Expr-F.Not a at)

module _ (k : KnownNumbers) where
  pub values_minus : (a : Expr) (at : Span) → is_inline a ≡ false → with_values k (expr.Neg a at) ≡ expr.Neg (with_values k a) at
  values_minus a at h =
      ap (with_values k) (sym (expr.rolls-Neg a at)) ∙ plain_layer k (Expr-F.Neg a at) (inline_is (Expr-F.Neg a at) ∙ h) ∙ expr.rolls-Neg (with_values k a) at

  pub values_denial : (a : Expr) (at : Span) → is_inline a ≡ false → with_values k (expr.Not a at) ≡ expr.Not (with_values k a) at
  values_denial a at h =
      ap (with_values k) (sym (expr.rolls-Not a at)) ∙ plain_layer k (Expr-F.Not a at) (inline_is (Expr-F.Not a at) ∙ h) ∙ expr.rolls-Not (with_values k a) at

  pub values_cast : (z : Size) (s : Bool) (a : Expr) (at : Span) → with_values k (expr.Cast z s a at) ≡ expr.Cast z s (with_values k a) at
  values_cast z s a at =
      ap (with_values k) (sym (expr.rolls-Cast z s a at)) ∙ plain_layer k (Expr-F.Cast z s a at) (inline_is (Expr-F.Cast z s a at)) ∙ expr.rolls-Cast z s (with_values k a) at

  pub values_two : (o : BinOp) (a b : Expr) (at : Span) → (is_inline a && is_inline b) ≡ false → with_values k (expr.Bin o a b at) ≡ expr.Bin o (with_values k a) (with_values k b) at
  values_two o a b at n = values_bin k o a b at (inline_bin o a b at ∙ n)

-- ---- accesses
pub values_access_out : (k : KnownNumbers) (a : Access)
    → out-Access (access_with_values k a) ≡ record { size = (out-Access a).size; at = with_values k (out-Access a).at; unaligned = (out-Access a).unaligned; span = (out-Access a).span }
values_access_out k a =
    ap (λ m. out-Access (access_with_values k m)) (sym (roll-out-Access a)) ∙ ap out-Access (access_values_is k (out-Access a))
    ∙ out-roll-Access (record { size = (out-Access a).size; at = with_values k (out-Access a).at; unaligned = (out-Access a).unaligned; span = (out-Access a).span })

pub scalars_access_out : (a : Access)
    → out-Access (access_with_scalars a) ≡ record { size = (out-Access a).size; at = with_scalars (out-Access a).at; unaligned = (out-Access a).unaligned; span = (out-Access a).span }
scalars_access_out a =
    ap (λ m. out-Access (access_with_scalars m)) (sym (roll-out-Access a)) ∙ ap out-Access (access_in_is (out-Access a))
    ∙ out-roll-Access (record { size = (out-Access a).size; at = with_scalars (out-Access a).at; unaligned = (out-Access a).unaligned; span = (out-Access a).span })

pub size_out : (a : Access) → (access_of a).size ≡ (out-Access a).size
size_out a = ap (λ m. (access_of m).size) (sym (roll-out-Access a)) ∙ ap (λ (m : MemoryAccess). m.size) (access_is (out-Access a))

pub values_access_size : (k : KnownNumbers) (a : Access) → (access_of (access_with_values k a)).size ≡ (access_of a).size
values_access_size k a =
    size_out (access_with_values k a) ∙ ap (λ (m : Access-F Expr Ty Access Decl Var). m.size) (values_access_out k a) ∙ sym (size_out a)

pub scalars_access_size : (a : Access) → (access_of (access_with_scalars a)).size ≡ (access_of a).size
scalars_access_size a =
    size_out (access_with_scalars a) ∙ ap (λ (m : Access-F Expr Ty Access Decl Var). m.size) (scalars_access_out a) ∙ sym (size_out a)

-- ---- values in place of inline parts
module _ (k : KnownNumbers) where
  own_as : (e w : Expr) → with_values k e ≡ w → own_size w ≡ own_size e → own_size (with_values k e) ≡ own_size e
  own_as e w t h = ap own_size t ∙ h

  constant_own : (e : Expr) (c : Constant) → is_inline e ≡ true → inline_value k e ≡ Some c → own_size (with_values k e) ≡ own_size e
  constant_own e (constant.Int i) h v =
      own_as e (expr.Num i (span_of e)) (inline_whole k e h ∙ ap (constant_expr (span_of e) e) v) (own_num i (span_of e) ∙ sym (no_size e h))
  constant_own e (constant.Bool b) h v =
      own_as e (expr.Bool b (span_of e)) (inline_whole k e h ∙ ap (constant_expr (span_of e) e) v) (no_size (expr.Bool b (span_of e)) (bool_inline b (span_of e)) ∙ sym (no_size e h))

  pub values_own : (e : Expr) → IsValued k e → own_size (with_values k e) ≡ own_size e
  values_own e (an_inline e2 c h v) = constant_own e c h v
  values_own e (a_variable v n u) = own_as (expr.Var v) (expr.Var v) (values_var k v n) refl
  values_own e (a_cell v i x) = own_as (expr.Cell v i) (expr.Cell v (with_values k i)) (values_cell k v i) (own_cell v (with_values k i) ∙ sym (own_cell v i))
  values_own e (a_load a x) = own_as (expr.Load a) (expr.Load (access_with_values k a)) (values_load k a) (own_load (access_with_values k a) ∙ values_access_size k a ∙ sym (own_load a))
  values_own e (a_minus a at n x) = own_as (expr.Neg a at) (expr.Neg (with_values k a) at) (values_minus k a at n) (own_neg (with_values k a) at ∙ values_own a x ∙ sym (own_neg a at))
  values_own e (a_denial a at n x) = own_as (expr.Not a at) (expr.Not (with_values k a) at) (values_denial k a at n) (own_not (with_values k a) at ∙ values_own a x ∙ sym (own_not a at))
  values_own e (a_cast z s a at x) = own_as (expr.Cast z s a at) (expr.Cast z s (with_values k a) at) (values_cast k z s a at) (own_cast z s (with_values k a) at ∙ sym (own_cast z s a at))
  values_own e (of_two o a b at n x y) =
      own_as (expr.Bin o a b at) (expr.Bin o (with_values k a) (with_values k b) at) (values_two k o a b at n)
      (own_bin o (with_values k a) (with_values k b) at ∙ (λ j. size_of_operation o (values_own a x j) (values_own b y j)) ∙ sym (own_bin o a b at))

-- ---- words in place of cells, in a state that holds nothing
holds_nothing : (sorts : Sorts) → HoldsSorts sorts empty_store
holds_nothing sorts k v e = absurd cc

size_in : (sorts : Sorts) (s : State) → s.store ≡ empty_store → (e : Expr) → own_size (with_scalars e) ≡ own_size e
size_in sorts s is e = size_kept sorts s (subst (HoldsSorts sorts) (sym is) (holds_nothing sorts)) e

abbrev a_state : State
a_state = record { store = empty_store; memory = empty }

pub scalars_own : (e : Expr) → own_size (with_scalars e) ≡ own_size e
scalars_own e = size_in (λ n c. words) a_state refl e
