-- Copies of expressions and of operations.
use Rattle.std.proofs.Common.{◌≡◌, Option, Some, None, refl, ap, ◌∙◌}
use Rattle.jz_tree.specs.declared.expr.BinOp.{BinOp}
use Rattle.jz_tree.specs.declared.expr.Expr.{Expr}
use Rattle.jz_tree.specs.declared.expr.Expr.TheOpen.{Expr-F}
use Rattle.jz_tree.specs.declared.expr.Expr.TheViews.{out-Expr}
use Rattle.jz_type_sizes.specs.Values.{product_layer, is_product}
use Rattle.jz_type_sizes.specs.Signatures.{signature}
use Rattle.jz_judgement.specs.HasType.{Layer}
use Rattle.jz_meaning.specs.Statements.{assign, instruction, unset, meaningless}
use Rattle.jz_inline.specs.Names.{Names, expr_in, lval_in}
use Rattle.jz_inline.proofs.Reading.{layer_in}
use Rattle.jz_kept_types.proofs.Turning.{type_kept}
use Rattle.jz_kept_types.proofs.Assigned.{values_kept, condition_kept}
use Rattle.jz_kept_types.proofs.Instructed.{instructs_kept}
use Rattle.jz_kept_types.proofs.Whole.{two, same_product}
use Rattle.jz_copied_types.specs.CopiedLaws.{CopiesKeepTypes, CopiesStayTyped}
use Rattle.jz_copied_types.proofs.Copying.{out_in, copies_turn}

pub copies_keep : CopiesKeepTypes
copies_keep names e p h = type_kept (expr_in names) (lval_in names) (copies_turn names) h

copied_layer : (names : Names) (x : Layer) → product_layer (layer_in names x) ≡ product_layer x
copied_layer names (Expr-F.Num n at) = refl
copied_layer names (Expr-F.Expr::Bool b at) = refl
copied_layer names (Expr-F.Var v) = refl
copied_layer names (Expr-F.Cell v i) = refl
copied_layer names (Expr-F.Load a) = refl
copied_layer names (Expr-F.Neg a at) = refl
copied_layer names (Expr-F.Not a at) = refl
copied_layer names (Expr-F.Cast z s a at) = refl
copied_layer names (Expr-F.Bin o a b at) = same_product o (expr_in names a) (expr_in names b) a b at

copied_product : (names : Names) (o : Option BinOp) (e : Expr) → is_product o (expr_in names e) ≡ is_product o e
copied_product names (Some o) e = refl
copied_product names None e = ap product_layer (out_in names e) ∙ copied_layer names (out-Expr e)

pub copies_stay : CopiesStayTyped
copies_stay names (assign to o e c at) h = (
  values_kept (expr_in names) (lval_in names) (copies_turn names) to o e (two to (copied_product names o e)) h.0,
  condition_kept (expr_in names) (lval_in names) (copies_turn names) c h.1,
)
copies_stay names (instruction to n args at) h = instructs_kept (expr_in names) (lval_in names) (copies_turn names) (signature n) to args h
copies_stay names (unset vs) h = tt
copies_stay names (meaningless at) h = tt
