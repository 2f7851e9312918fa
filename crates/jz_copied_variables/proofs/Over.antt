-- What is known of the variables of an expression is known of those of a copy.
use Rattle.std.proofs.Common.{◌≡◌, List, [], ◌∷◌, Option, Some, None, map, false, sym, ap, ◌∙◌, subst}
use Rattle.std.specs.Prelude.{All, option_map}
use Rattle.std.proofs.lemmas.List.Elements.{All-nil, All-cons, All-head, All-tail}
use Rattle.jz_tree.specs.declared.expr.Expr.{Expr}
use Rattle.jz_tree.specs.declared.expr.Expr.TheVariants as expr
use Rattle.jz_tree.specs.declared.expr.Ty.{Ty}
use Rattle.jz_tree.specs.declared.expr.Access.{Access}
use Rattle.jz_tree.specs.declared.expr.Decl.{Decl}
use Rattle.jz_tree.specs.declared.expr.Var.{Var}
use Rattle.jz_tree.specs.declared.expr.Expr.TheOpen.{Expr-F, Access-F}
use Rattle.jz_tree.specs.declared.expr.Expr.TheViews.{out-Access, out-roll-Expr, out-roll-Access, roll-out-Access}
use Rattle.jz_tree.specs.declared.stmt.Lval.{Lval}
use Rattle.jz_tree.specs.declared.stmt.Lval.TheVariants as lval
use Rattle.jz_type_names.specs.Kinds.{known_of, is_array, is_register_array}
use Rattle.jz_judgement.specs.HasType.{Layer}
use Rattle.jz_inline.specs.Names.{Names, var_in, expr_in, access_in, lval_in}
use Rattle.jz_inline.proofs.Reading.{layer_in, access_layer_in, access_in_is}
use Rattle.jz_copied_types.proofs.Copying.{out_in, known_in}
use Rattle.jz_copied_variables.specs.Variables.{IsOver, over, IsOverLayer, o_number, o_truth, o_variable, o_cell, o_load, o_minus, o_denial, o_cast, o_two, IfOver, LeftOver}
use Rattle.jz_copied_variables.proofs.Integers.{integer_in}

abbrev AccessLayer : Type 0
AccessLayer = Access-F Expr Ty Access Decl Var

-- a variable by itself
pub variable_over : (P : Var → Type 0) (v : Var) → P v → is_array (known_of v) ≡ false → IsOver P (expr.Var v)
variable_over P v p n = subst (IsOver P) (expr.rolls-Var v) (over (subst (IsOverLayer P) (sym (out-roll-Expr (Expr-F.Var v))) (o_variable p n)))

-- ---- a copy
module _ (names : Names) where
  access_at_in : (a : Access) → (out-Access (access_in names a)).at ≡ expr_in names (out-Access a).at
  access_at_in a =
      ap (λ x. (out-Access (access_in names x)).at) (sym (roll-out-Access a)) ∙ ap (λ x. (out-Access x).at) (access_in_is names (out-Access a))
      ∙ ap (λ (y : AccessLayer). y.at) (out-roll-Access (access_layer_in names (out-Access a)))

  module _ (P Q : Var → Type 0) (f : (v : Var) → P v → Q (var_in names v)) where
    mutual
      pub over_in : {e : Expr} → IsOver P e → IsOver Q (expr_in names e)
      over_in {e = e} (over h) = over (subst (IsOverLayer Q) (sym (out_in names e)) (layer_over h))

      layer_over : {x : Layer} → IsOverLayer P x → IsOverLayer Q (layer_in names x)
      layer_over o_number = o_number
      layer_over o_truth = o_truth
      layer_over (o_variable {v = v} p n) = o_variable (f v p) (ap is_array (known_in names v) ∙ n)
      layer_over (o_cell {v = v} {i = i} p y r h) =
          o_cell (f v p) (ap is_array (known_in names v) ∙ y) (λ t. integer_in names (r (sym (ap is_register_array (known_in names v)) ∙ t))) (over_in h)
      layer_over (o_load {a = a} h) = o_load (subst (IsOver Q) (sym (access_at_in a)) (over_in h))
      layer_over (o_minus h) = o_minus (over_in h)
      layer_over (o_denial h) = o_denial (over_in h)
      layer_over (o_cast h) = o_cast (over_in h)
      layer_over (o_two h l) = o_two (over_in h) (over_in l)

    pub if_over_in : (c : Option Expr) → IfOver P c → IfOver Q (option_map (expr_in names) c)
    if_over_in None h = tt
    if_over_in (Some e) h = over_in h

    pub left_over_in : (d : Lval) → LeftOver P d → LeftOver Q (lval_in names d)
    left_over_in (lval.Skip at) h = tt
    left_over_in (lval.Var v) h = (f v h.0, ap is_array (known_in names v) ∙ h.1)
    left_over_in (lval.Cell v i) h =
        (f v h.0, ap is_array (known_in names v) ∙ h.1, (λ t. integer_in names (h.2 (sym (ap is_register_array (known_in names v)) ∙ t))), over_in h.3)
    left_over_in (lval.Store a) h = subst (IsOver Q) (sym (access_at_in a)) (over_in h)

    pub lefts_over_in : (ds : List Lval) → All (LeftOver P) ds → All (LeftOver Q) (map (lval_in names) ds)
    lefts_over_in [] h = All-nil (LeftOver Q)
    lefts_over_in (d ∷ ds) h = All-cons (LeftOver Q) (lval_in names d) (map (lval_in names) ds) (left_over_in d (All-head (LeftOver P) d ds h)) (lefts_over_in ds (All-tail (LeftOver P) d ds h))

    pub all_over_in : (es : List Expr) → All (IsOver P) es → All (IsOver Q) (map (expr_in names) es)
    all_over_in [] h = All-nil (IsOver Q)
    all_over_in (e ∷ es) h = All-cons (IsOver Q) (expr_in names e) (map (expr_in names) es) (over_in (All-head (IsOver P) e es h)) (all_over_in es (All-tail (IsOver P) e es h))
