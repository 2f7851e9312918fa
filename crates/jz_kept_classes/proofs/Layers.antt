-- Looks, values and conditions by the outermost form.
use Rattle.std.proofs.Common.{◌≡◌, ℤ, Option, Bool, false, refl, sym, ap, ◌∙◌}
use Rattle.jz_tree.specs.declared.expr.Expr.{Expr}
use Rattle.jz_tree.specs.declared.expr.Var.{Var}
use Rattle.jz_tree.specs.declared.expr.Expr.TheOpen.{Expr-F}
use Rattle.jz_tree.specs.declared.expr.Expr.TheViews.{out-Expr, out-Var, roll-Expr, roll-out-Expr, roll-out-Var}
use Rattle.jz_tree.specs.declared.expr.Expr.TheFolds.{fold-Var, fold-roll-Expr, fold-roll-Var, para-roll-Expr, map-Expr}
use Rattle.jz_integers.specs.Integers.{KnownNumbers, value_step, inline_value}
use Rattle.jz_integers.specs.declared.constant.Constant.{Constant}
use Rattle.jz_type_names.specs.Kinds.{known_of}
use Rattle.jz_select.specs.Look.{look_of}
use Rattle.jz_select.specs.Operands.{class_of, var_class}
use Rattle.jz_select.specs.Rows.{is_flag}
use Rattle.jz_select.specs.Shapes.{TestLayer, compares, flags_step, has_flags}
use Rattle.jz_judgement.specs.HasType.{Layer}
use Rattle.jz_row_laws.proofs.Fixed.{look_layer, look_is}

-- ---- looks
pub look_out : (e : Expr) → look_of e ≡ look_layer (out-Expr e)
look_out e = ap look_of (sym (roll-out-Expr e)) ∙ look_is (out-Expr e)

-- ---- conditions that have an instruction
abbrev paired : Layer → TestLayer
paired x = map-Expr _ _ _ _ _ _ _ _ _ _ (λ y. (y, has_flags y)) (λ y. (y, tt)) (λ y. (y, tt)) (λ y. (y, tt)) (λ y. (y, tt)) x

flags_rolled : (x : Layer) → has_flags (roll-Expr x) ≡ flags_step (paired x)
unfolding has_flags
flags_rolled x = para-roll-Expr Bool (Unit {0}) (Unit {0}) (Unit {0}) (Unit {0}) flags_step (λ x. tt) (λ x. tt) (λ x. tt) (λ x. tt) x

abbrev pub flags_layer : Layer → Bool
flags_layer (Expr-F.Num n at) = false
flags_layer (Expr-F.Expr::Bool b at) = false
flags_layer (Expr-F.Var v) = is_flag (var_class (known_of v))
flags_layer (Expr-F.Cell v i) = false
flags_layer (Expr-F.Load a) = false
flags_layer (Expr-F.Neg a at) = false
flags_layer (Expr-F.Not a at) = has_flags a
flags_layer (Expr-F.Cast z s a at) = false
flags_layer (Expr-F.Bin o a b at) = compares o (class_of a) (class_of b)

flags_step_is : (x : Layer) → flags_step (paired x) ≡ flags_layer x
flags_step_is (Expr-F.Num n at) = refl
flags_step_is (Expr-F.Expr::Bool b at) = refl
flags_step_is (Expr-F.Var v) = refl
flags_step_is (Expr-F.Cell v i) = refl
flags_step_is (Expr-F.Load a) = refl
flags_step_is (Expr-F.Neg a at) = refl
flags_step_is (Expr-F.Not a at) = refl
flags_step_is (Expr-F.Cast z s a at) = refl
flags_step_is (Expr-F.Bin o a b at) = refl

pub flags_out : (e : Expr) → has_flags e ≡ flags_layer (out-Expr e)
flags_out e = ap has_flags (sym (roll-out-Expr e)) ∙ (flags_rolled (out-Expr e) ∙ flags_step_is (out-Expr e))

-- ---- values
module _ (k : KnownNumbers) where
  abbrev pub number_of_var : Var → Option ℤ
  number_of_var = fold-Var _ _ _ _ _ value_step (λ t. tt) (λ a. tt) (λ d. tt) (λ v. k v.name v.copy)

  pub number_at : (v : Var) → number_of_var v ≡ k (out-Var v).name (out-Var v).copy
  number_at v =
      ap number_of_var (sym (roll-out-Var v)) ∙ fold-roll-Var _ _ _ _ _ value_step (λ t. tt) (λ a. tt) (λ d. tt) (λ v. k v.name v.copy) (out-Var v)

  abbrev pub value_layer : Layer → Option Constant
  value_layer x = value_step (map-Expr _ _ _ _ _ (Option Constant) (Unit {0}) (Unit {0}) (Unit {0}) (Option ℤ) (inline_value k) (λ t. tt) (λ a. tt) (λ d. tt) number_of_var x)

  value_is : (x : Layer) → inline_value k (roll-Expr x) ≡ value_layer x
  value_is x = fold-roll-Expr _ _ _ _ _ value_step (λ t. tt) (λ a. tt) (λ d. tt) (λ v. k v.name v.copy) x

  pub value_out : (e : Expr) → inline_value k e ≡ value_layer (out-Expr e)
  value_out e = ap (inline_value k) (sym (roll-out-Expr e)) ∙ value_is (out-Expr e)
