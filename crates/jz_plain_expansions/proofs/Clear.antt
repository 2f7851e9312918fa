-- Where inline parts are their values.
use Rattle.std.proofs.Common.{◌≡◌, ℤ, [], ◌∷◌, Option, Some, None, Bool, true, false, not, ◌&&◌, refl, sym, ap, ◌∙◌, subst, inl, inr}
use Rattle.std.specs.Prelude.{◌⊎◌, is_some}
use Rattle.std.proofs.lemmas.Bool.{and_parts, false≢true}
use Rattle.jz_tree.specs.Size.{Size}
use Rattle.jz_tree.specs.Span.{Span}
use Rattle.jz_tree.specs.declared.expr.BinOp.{BinOp}
use Rattle.jz_tree.specs.declared.expr.Expr.{Expr}
use Rattle.jz_tree.specs.declared.expr.Expr.TheVariants as expr
use Rattle.jz_tree.specs.declared.expr.Ty.{Ty}
use Rattle.jz_tree.specs.declared.expr.Access.{Access}
use Rattle.jz_tree.specs.declared.expr.Decl.{Decl}
use Rattle.jz_tree.specs.declared.expr.Var.{Var}
use Rattle.jz_tree.specs.declared.expr.Expr.TheOpen.{Expr-F, Access-F}
use Rattle.jz_tree.specs.declared.expr.Expr.TheViews.{out-Expr, out-Access, roll-Expr, out-roll-Expr, out-roll-Access, roll-out-Access}
use Rattle.jz_tree.specs.declared.stmt.Lval.{Lval}
use Rattle.jz_tree.specs.declared.stmt.Lval.TheVariants as lval
use Rattle.jz_type_names.specs.Kinds.{known_of, is_array, is_register_array, is_inline_int, is_inline}
use Rattle.jz_type_names.specs.Parts.{span_of}
use Rattle.jz_integers.specs.declared.constant.Constant.{Constant}
use Rattle.jz_integers.specs.declared.constant.Constant.TheVariants as constant
use Rattle.jz_integers.specs.Integers.{KnownNumbers, inline_value}
use Rattle.jz_judgement.specs.HasType.{Layer}
use Rattle.jz_unroll.specs.Values.{constant_expr, with_values, access_with_values, left_with_values, InlineNames, is_inline_var, has_values, access_has_values, left_has_values}
use Rattle.jz_unroll.proofs.InlineParts.{inline_layer, inline_out, inline_is, inline_var}
use Rattle.jz_unroll.proofs.Valued.{parts_in, access_values_is, parts_layer, access_known_is}
use Rattle.jz_unroll.proofs.Parts.{not_true, inline_whole, out_plain, inline_some, plain_known}
use Rattle.jz_copied_variables.specs.Variables.{IsInteger, IsOver, over, IsOverLayer, o_number, o_truth, o_variable, o_cell, o_load, o_minus, o_denial, o_cast, o_two, LeftOver}
use Rattle.jz_copied_variables.proofs.Integers.{integer_inline, integer_value}

abbrev pub AccessLayer : Type 0
AccessLayer = Access-F Expr Ty Access Decl Var

-- a number, as it stands in the text
abbrev pub IsWritten : Expr → Type 0
IsWritten i = (n : ℤ) × (at : Span) × (i ≡ expr.Num n at)

mutual
  -- no inline part but numbers and truths; arrays in registers stand before a number
  pub data IsClear (P : Var → Type 0) : Expr → Type 0 where
    clear : {e : Expr} → IsClearLayer P (out-Expr e) → IsClear P e

  pub data IsClearLayer (P : Var → Type 0) : Layer → Type 0 where
    c_number : {i : ℤ} {at : Span} → IsClearLayer P (Expr-F.Num i at)
    c_truth : {b : Bool} {at : Span} → IsClearLayer P (Expr-F.Expr::Bool b at)
    c_variable : {v : Var} → P v → is_array (known_of v) ≡ false → is_inline_int (known_of v) ≡ false → IsClearLayer P (Expr-F.Var v)
    c_cell : {v : Var} {i : Expr} → P v → is_array (known_of v) ≡ true → (is_register_array (known_of v) ≡ true → IsWritten i) → IsClear P i → IsClearLayer P (Expr-F.Cell v i)
    c_load : {a : Access} → IsClear P (out-Access a).at → IsClearLayer P (Expr-F.Load a)
    c_minus : {a : Expr} {at : Span} → is_inline a ≡ false → IsClear P a → IsClearLayer P (Expr-F.Neg a at)
    c_denial : {a : Expr} {at : Span} → is_inline a ≡ false → IsClear P a → IsClearLayer P (Expr-F.Not a at)
    c_cast : {z : Size} {s : Bool} {a : Expr} {at : Span} → IsClear P a → IsClearLayer P (Expr-F.Cast z s a at)
    c_two : {o : BinOp} {a b : Expr} {at : Span} → (is_inline a && is_inline b) ≡ false → IsClear P a → IsClear P b → IsClearLayer P (Expr-F.Bin o a b at)

abbrev pub IfClear : (Var → Type 0) → Option Expr → Type 0
IfClear P None = Unit {0}
IfClear P (Some e) = IsClear P e

abbrev pub LeftClear : (Var → Type 0) → Lval → Type 0
LeftClear P (lval.Skip at) = Unit {0}
LeftClear P (lval.Var v) = P v × (is_array (known_of v) ≡ false) × (is_inline_int (known_of v) ≡ false)
LeftClear P (lval.Cell v i) = P v × (is_array (known_of v) ≡ true) × (is_register_array (known_of v) ≡ true → IsWritten i) × IsClear P i
LeftClear P (lval.Store a) = IsClear P (out-Access a).at

clear_rolled : (P : Var → Type 0) (x : Layer) → IsClearLayer P x → IsClear P (roll-Expr x)
clear_rolled P x h = clear (subst (IsClearLayer P) (sym (out-roll-Expr x)) h)

pub truth_clear : (P : Var → Type 0) (b : Bool) (at : Span) → IsClear P (expr.Bool b at)
truth_clear P b at = subst (IsClear P) (expr.rolls-Bool b at) (clear_rolled P (Expr-F.Expr::Bool b at) c_truth)

number_clear : (P : Var → Type 0) (i : ℤ) (at : Span) → IsClear P (expr.Num i at)
number_clear P i at = subst (IsClear P) (expr.rolls-Num i at) (clear_rolled P (Expr-F.Num i at) c_number)

number_inline : (i : ℤ) (at : Span) → is_inline (expr.Num i at) ≡ true
number_inline i at = ap is_inline (sym (expr.rolls-Num i at)) ∙ inline_is (Expr-F.Num i at)

truth_inline : (b : Bool) (at : Span) → is_inline (expr.Bool b at) ≡ true
truth_inline b at = ap is_inline (sym (expr.rolls-Bool b at)) ∙ inline_is (Expr-F.Expr::Bool b at)

pub both_same : (a b c d : Bool) → c ≡ a → d ≡ b → (a && b) ≡ false → (c && d) ≡ false
both_same a b c d p q h = ap (λ x. x && d) p ∙ ap (λ x. a && x) q ∙ h

pub test : (b : Bool) → (b ≡ true) ⊎ (b ≡ false)
test true = inl refl
test false = inr refl

module _ (names : InlineNames) (k : KnownNumbers) where
  abbrev T : Expr → Expr
  T = with_values k

  access_at : (a : Access) → (out-Access (access_with_values k a)).at ≡ with_values k (out-Access a).at
  access_at a =
      ap (λ x. (out-Access (access_with_values k x)).at) (sym (roll-out-Access a)) ∙ ap (λ x. (out-Access x).at) (access_values_is k (out-Access a))
      ∙ ap (λ (y : AccessLayer). y.at) (out-roll-Access (record { size = (out-Access a).size; at = with_values k (out-Access a).at; unaligned = (out-Access a).unaligned; span = (out-Access a).span }))

  access_has : (a : Access) → access_has_values names k a ≡ true → has_values names k (out-Access a).at ≡ true
  access_has a h = sym (ap (access_has_values names k) (sym (roll-out-Access a)) ∙ access_known_is names k (out-Access a)) ∙ h

  -- an integer becomes a number
  written_as : (i : Expr) (c : Option Constant) → inline_value k i ≡ c → is_some c ≡ true → ((b : Bool) → c ≡ Some (constant.Bool b) → ⊥) → is_inline i ≡ true → IsWritten (with_values k i)
  written_as i None v s n q = absurd (false≢true s)
  written_as i (Some (constant.Int j)) v s n q = (j, span_of i, inline_whole k i q ∙ ap (constant_expr (span_of i) i) v)
  written_as i (Some (constant.Bool b)) v s n q = absurd (n b refl)

  written : (i : Expr) → IsInteger i → has_values names k i ≡ true → IsWritten (with_values k i)
  written i h v =
      let q = integer_inline h in
      written_as i (inline_value k i) refl (inline_some names k i q v).1 (integer_value k h) q

  module _ (P : Var → Type 0) where
    pub record Cleared (e : Expr) : Type 0 where
      pub is : IsClear P (with_values k e)
      pub same : is_inline (with_values k e) ≡ is_inline e

    constant_as : (e : Expr) (c : Option Constant) → inline_value k e ≡ c → is_some c ≡ true → is_inline e ≡ true → Cleared e
    constant_as e None v s q = absurd (false≢true s)
    constant_as e (Some (constant.Int i)) v s q =
        let w = inline_whole k e q ∙ ap (constant_expr (span_of e) e) v in
        record { is = subst (IsClear P) (sym w) (number_clear P i (span_of e)); same = ap is_inline w ∙ (number_inline i (span_of e) ∙ sym q) }
    constant_as e (Some (constant.Bool b)) v s q =
        let w = inline_whole k e q ∙ ap (constant_expr (span_of e) e) v in
        record { is = subst (IsClear P) (sym w) (truth_clear P b (span_of e)); same = ap is_inline w ∙ (truth_inline b (span_of e) ∙ sym q) }

    abbrev ClearedLayer : Layer → Type 0
    ClearedLayer x = IsClearLayer P (parts_in k x) × (inline_layer (parts_in k x) ≡ false)

    plain_as : (e : Expr) → is_inline e ≡ false → ClearedLayer (out-Expr e) → Cleared e
    plain_as e q h =
        record {
          is = clear (subst (IsClearLayer P) (sym (out_plain k e q)) h.0);
          same = inline_out (with_values k e) ∙ (ap inline_layer (out_plain k e q) ∙ (h.1 ∙ sym q));
        }

    mutual
      pub cleared : {e : Expr} → IsOver P e → has_values names k e ≡ true → Cleared e
      cleared {e = e} (over h) v =
          elim (test (is_inline e)) [
            | inl q ↦ constant_as e (inline_value k e) refl (inline_some names k e q v).1 q
            | inr q ↦ plain_as e q (layer_cleared h (sym (inline_out e) ∙ q) (plain_known names k e q v))
          ]

      layer_cleared : {x : Layer} → IsOverLayer P x → inline_layer x ≡ false → parts_layer names k x ≡ true → ClearedLayer x
      layer_cleared o_number q v = absurd (false≢true (sym q))
      layer_cleared o_truth q v = absurd (false≢true (sym q))
      layer_cleared (o_variable p n) q v = (c_variable p n q, q)
      layer_cleared (o_cell {v = w} {i = i} p y r h) q v =
          let s = (and_parts (not (is_inline_var names w)) (has_values names k i) v).1 in
          (c_cell p y (λ t. written i (r t) s) (cleared h s).is, refl)
      layer_cleared (o_load {a = a} h) q v = (c_load (subst (IsClear P) (sym (access_at a)) (cleared h (access_has a v)).is), refl)
      layer_cleared (o_minus h) q v = let c = cleared h v in (c_minus (c.same ∙ q) c.is, c.same ∙ q)
      layer_cleared (o_denial h) q v = let c = cleared h v in (c_denial (c.same ∙ q) c.is, c.same ∙ q)
      layer_cleared (o_cast h) q v = (c_cast (cleared h v).is, refl)
      layer_cleared (o_two {a = a} {b = b} h l) q v =
          let s = and_parts (has_values names k a) (has_values names k b) v in
          let c = cleared h s.0 in
          let d = cleared l s.1 in
          let m = both_same (is_inline a) (is_inline b) (is_inline (with_values k a)) (is_inline (with_values k b)) c.same d.same q in
          (c_two m c.is d.is, m)

    -- ---- left sides
    pub left_cleared : (d : Lval) → LeftOver P d → left_has_values names k d ≡ true → LeftClear P (left_with_values k d)
    left_cleared (lval.Skip at) h v = tt
    left_cleared (lval.Var w) h v = (h.0, h.1, sym (inline_var w) ∙ not_true (is_inline (expr.Var w)) (and_parts (not (is_inline_var names w)) (not (is_inline (expr.Var w))) v).1)
    left_cleared (lval.Cell w i) h v =
        let s = (and_parts (not (is_inline_var names w)) (has_values names k i) v).1 in
        (h.0, h.1, (λ t. written i (h.2 t) s), (cleared h.3 s).is)
    left_cleared (lval.Store a) h v = subst (IsClear P) (sym (access_at a)) (cleared h (access_has a v)).is
