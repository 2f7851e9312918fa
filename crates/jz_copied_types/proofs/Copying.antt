-- A copy of an expression has its types.
use Rattle.std.proofs.Common.{◌≡◌, sym, ap, ◌∙◌, subst, inr}
use Rattle.std.specs.Prelude.{option_map}
use Rattle.jz_tree.specs.declared.expr.Expr.{Expr}
use Rattle.jz_tree.specs.declared.expr.Ty.{Ty}
use Rattle.jz_tree.specs.declared.expr.Access.{Access}
use Rattle.jz_tree.specs.declared.expr.Decl.{Decl}
use Rattle.jz_tree.specs.declared.expr.Var.{Var}
use Rattle.jz_tree.specs.declared.expr.Expr.TheOpen.{Expr-F, Access-F, Var-F}
use Rattle.jz_tree.specs.declared.expr.Expr.TheViews.{out-Expr, out-Access, out-roll-Expr, out-roll-Access, out-roll-Var, roll-out-Expr, roll-out-Access}
use Rattle.jz_tree.specs.declared.stmt.Lval.{Lval}
use Rattle.jz_tree.specs.declared.stmt.Lval.TheVariants as lval
use Rattle.jz_type_names.specs.Kinds.{declared_of, known_of}
use Rattle.jz_judgement.specs.HasType.{Layer}
use Rattle.jz_inline.specs.Names.{Names, var_in, expr_in, access_in, lval_in}
use Rattle.jz_inline.proofs.Reading.{layer_in, in_is, access_layer_in, access_in_is}
use Rattle.jz_kept_types.proofs.Turning.{AccessTurns, Turns, t_number, t_truth, t_variable, t_cell, t_load, t_minus, t_denial, t_cast, t_two, LeftTurns, l_nothing, l_variable, l_cell, l_store, IsTurning}

module _ (names : Names) where
  abbrev T : Expr → Expr
  T = expr_in names

  pub out_in : (e : Expr) → out-Expr (expr_in names e) ≡ layer_in names (out-Expr e)
  out_in e =
      ap (λ x. out-Expr (expr_in names x)) (sym (roll-out-Expr e)) ∙ ap out-Expr (in_is names (out-Expr e))
      ∙ out-roll-Expr (layer_in names (out-Expr e))

  access_out : (a : Access) → out-Access (access_in names a) ≡ access_layer_in names (out-Access a)
  access_out a =
      ap (λ x. out-Access (access_in names x)) (sym (roll-out-Access a)) ∙ ap out-Access (access_in_is names (out-Access a))
      ∙ out-roll-Access (access_layer_in names (out-Access a))

  pub known_in : (v : Var) → known_of (var_in names v) ≡ known_of v
  known_in v = ap (λ (x : Var-F Expr Ty Access Decl Var). option_map declared_of x.decl) (out-roll-Var _)

  pub access_turns : (a : Access) → AccessTurns T a (access_in names a)
  access_turns a = record {
    size = ap (λ (x : Access-F Expr Ty Access Decl Var). x.size) (access_out a);
    at = ap (λ (x : Access-F Expr Ty Access Decl Var). x.at) (access_out a);
  }

  layer_turns : (x : Layer) → Turns T x (layer_in names x)
  layer_turns (Expr-F.Num n at) = t_number
  layer_turns (Expr-F.Expr::Bool b at) = t_truth
  layer_turns (Expr-F.Var v) = t_variable (known_in v)
  layer_turns (Expr-F.Cell v i) = t_cell (known_in v)
  layer_turns (Expr-F.Load a) = t_load (access_turns a)
  layer_turns (Expr-F.Neg a at) = t_minus
  layer_turns (Expr-F.Not a at) = t_denial
  layer_turns (Expr-F.Cast z s a at) = t_cast
  layer_turns (Expr-F.Bin o a b at) = t_two

  left_turns : (d : Lval) → LeftTurns T d (lval_in names d)
  left_turns (lval.Skip at) = l_nothing
  left_turns (lval.Var v) = l_variable (known_in v)
  left_turns (lval.Cell v i) = l_cell (known_in v)
  left_turns (lval.Store a) = l_store (access_turns a)

  pub copies_turn : IsTurning (expr_in names) (lval_in names)
  copies_turn = record {
    expressions = λ e. inr (subst (Turns T (out-Expr e)) (sym (out_in e)) (layer_turns (out-Expr e)));
    lefts = left_turns;
  }
