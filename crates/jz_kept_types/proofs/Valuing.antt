-- With values in place of its inline parts an expression has its types.
use Rattle.std.proofs.Common.{◌≡◌, ℤ, Option, Some, None, Bool, true, false, refl, sym, ap, ◌∙◌, subst, inl, inr}
use Rattle.std.specs.Prelude.{◌⊎◌}
use Rattle.jz_tree.specs.Span.{Span}
use Rattle.jz_tree.specs.declared.expr.Expr.{Expr}
use Rattle.jz_tree.specs.declared.expr.Expr.TheVariants as expr
use Rattle.jz_tree.specs.declared.expr.Ty.{Ty}
use Rattle.jz_tree.specs.declared.expr.Access.{Access}
use Rattle.jz_tree.specs.declared.expr.Decl.{Decl}
use Rattle.jz_tree.specs.declared.expr.Var.{Var}
use Rattle.jz_tree.specs.declared.expr.Expr.TheOpen.{Expr-F, Access-F}
use Rattle.jz_tree.specs.declared.expr.Expr.TheViews.{out-Expr, out-Access, roll-Expr, out-roll-Expr, out-roll-Access, roll-out-Access}
use Rattle.jz_tree.specs.declared.stmt.Lval.{Lval}
use Rattle.jz_tree.specs.declared.stmt.Lval.TheVariants as lval
use Rattle.jz_type_names.specs.Kinds.{is_inline}
use Rattle.jz_type_names.specs.Parts.{span_of}
use Rattle.jz_integers.specs.Integers.{KnownNumbers, inline_value}
use Rattle.jz_integers.specs.declared.constant.Constant.{Constant}
use Rattle.jz_integers.specs.declared.constant.Constant.TheVariants as constant
use Rattle.jz_judgement.specs.Places.{Place, integer, truth, word, stated, unsized, TakesNumber, IsTruth}
use Rattle.jz_judgement.specs.HasType as judged
use Rattle.jz_judgement.specs.HasType.{Layer, value, HasType, Types}
use Rattle.jz_unroll.specs.Values.{constant_expr, with_values, access_with_values, left_with_values}
use Rattle.jz_unroll.proofs.InlineParts.{inline_is}
use Rattle.jz_unroll.proofs.Valued.{parts_in, access_values_is}
use Rattle.jz_unroll.proofs.Parts.{inline_whole, out_plain}
use Rattle.jz_kept_types.proofs.Valued.{Takes, takes_value}
use Rattle.jz_kept_types.proofs.Turning.{AccessTurns, Turns, t_number, t_truth, t_variable, t_cell, t_load, t_minus, t_denial, t_cast, t_two, LeftTurns, l_nothing, l_variable, l_cell, l_store, BecomesValue, IsTurning}

-- ---- values as expressions
rolled_type : (x : Layer) (p : Place) → Types x p → HasType (value (roll-Expr x)) p
rolled_type x p t = judged.expression (subst (λ l. Types l p) (sym (out-roll-Expr x)) t)

number_type : (i : ℤ) (at : Span) (p : Place) → TakesNumber p → HasType (value (expr.Num i at)) p
number_type i at p t = subst (λ e. HasType (value e) p) (expr.rolls-Num i at) (rolled_type (Expr-F.Num i at) p (judged.number t))

pub truth_type : (b : Bool) (at : Span) (p : Place) → IsTruth p → HasType (value (expr.Bool b at)) p
truth_type b at integer t = absurd t
truth_type b at (word z) t = absurd t
truth_type b at (stated z) t = absurd t
truth_type b at unsized t = absurd t
truth_type b at truth t = subst (λ e. HasType (value e) truth) (expr.rolls-Bool b at) (rolled_type (Expr-F.Expr::Bool b at) truth judged.bool)

constant_type : (e : Expr) (at : Span) (c : Constant) (p : Place) → Takes p c → HasType (value (constant_expr at e (Some c))) p
constant_type e at (constant.Int i) p t = number_type i at p t
constant_type e at (constant.Bool b) p t = truth_type b at p t

number_inline : (i : ℤ) (at : Span) → is_inline (expr.Num i at) ≡ true
number_inline i at = ap is_inline (sym (expr.rolls-Num i at)) ∙ inline_is (Expr-F.Num i at)

truth_inline : (b : Bool) (at : Span) → is_inline (expr.Bool b at) ≡ true
truth_inline b at = ap is_inline (sym (expr.rolls-Bool b at)) ∙ inline_is (Expr-F.Expr::Bool b at)

pub constant_inline : (e : Expr) (at : Span) (c : Option Constant) → is_inline e ≡ true → is_inline (constant_expr at e c) ≡ true
constant_inline e at None q = q
constant_inline e at (Some (constant.Int i)) q = number_inline i at
constant_inline e at (Some (constant.Bool b)) q = truth_inline b at

module _ (k : KnownNumbers) where
  abbrev T : Expr → Expr
  T = with_values k

  value_types : (e : Expr) (q : is_inline e ≡ true) (c : Option Constant) → inline_value k e ≡ c → (p : Place) → HasType (value e) p → HasType (value (constant_expr (span_of e) e c)) p
  value_types e q None v p h = h
  value_types e q (Some c) v p h = constant_type e (span_of e) c p (takes_value k h q c v)

  becomes : (e : Expr) → is_inline e ≡ true → BecomesValue T e
  becomes e q =
      let is = inline_whole k e q in
      record {
        inline = q;
        stays = ap is_inline is ∙ constant_inline e (span_of e) (inline_value k e) q;
        types = λ p h. subst (λ w. HasType (value w) p) (sym is) (value_types e q (inline_value k e) refl p h);
      }

  access_out : (a : Access) → out-Access (access_with_values k a) ≡ record { size = (out-Access a).size; at = with_values k (out-Access a).at; unaligned = (out-Access a).unaligned; span = (out-Access a).span }
  access_out a =
      ap (λ x. out-Access (access_with_values k x)) (sym (roll-out-Access a)) ∙ ap out-Access (access_values_is k (out-Access a))
      ∙ out-roll-Access _

  pub access_turns : (a : Access) → AccessTurns T a (access_with_values k a)
  access_turns a = record {
    size = ap (λ (x : Access-F Expr Ty Access Decl Var). x.size) (access_out a);
    at = ap (λ (x : Access-F Expr Ty Access Decl Var). x.at) (access_out a);
  }

  layer_turns : (x : Layer) → Turns T x (parts_in k x)
  layer_turns (Expr-F.Num n at) = t_number
  layer_turns (Expr-F.Expr::Bool b at) = t_truth
  layer_turns (Expr-F.Var v) = t_variable refl
  layer_turns (Expr-F.Cell v i) = t_cell refl
  layer_turns (Expr-F.Load a) = t_load (access_turns a)
  layer_turns (Expr-F.Neg a at) = t_minus
  layer_turns (Expr-F.Not a at) = t_denial
  layer_turns (Expr-F.Cast z s a at) = t_cast
  layer_turns (Expr-F.Bin o a b at) = t_two

  by_inline : (e : Expr) (b : Bool) → is_inline e ≡ b → BecomesValue T e ⊎ Turns T (out-Expr e) (out-Expr (with_values k e))
  by_inline e true q = inl (becomes e q)
  by_inline e false q = inr (subst (Turns T (out-Expr e)) (sym (out_plain k e q)) (layer_turns (out-Expr e)))

  left_turns : (d : Lval) → LeftTurns T d (left_with_values k d)
  left_turns (lval.Skip at) = l_nothing
  left_turns (lval.Var v) = l_variable refl
  left_turns (lval.Cell v i) = l_cell refl
  left_turns (lval.Store a) = l_store (access_turns a)

  pub values_turn : IsTurning (with_values k) (left_with_values k)
  values_turn = record { expressions = λ e. by_inline e (is_inline e) refl; lefts = left_turns }
