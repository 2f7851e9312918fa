-- The whole right side of an assignment of a copied body is that of the body, in the copy.
use Rattle.std.proofs.Common.{◌≡◌, List, [], ◌∷◌, map, Option, Some, None, Bool, true, false, refl, ap, sym, ◌∙◌, subst}
use Rattle.std.specs.Prelude.{option_map, if◌then◌else◌, ◌&&◌, ◌||◌, not}
use Rattle.std.proofs.lemmas.Bool.{and_parts, and_from}
use Rattle.jz_tree.specs.Span.{Span}
use Rattle.jz_tree.specs.declared.expr.BinOp.{BinOp}
use Rattle.jz_tree.specs.declared.expr.Expr.{Expr}
use Rattle.jz_tree.specs.declared.expr.Access.{Access}
use Rattle.jz_tree.specs.declared.expr.Var.{Var}
use Rattle.jz_tree.specs.declared.expr.Expr.TheVariants as expr
use Rattle.jz_tree.specs.declared.expr.Expr.TheOpen.{Expr-F}
use Rattle.jz_tree.specs.declared.expr.Expr.TheViews.{out-Expr, out-Access, out-roll-Expr, roll-out-Expr, roll-out-Access}
use Rattle.jz_tree.specs.declared.stmt.Lval.{Lval}
use Rattle.jz_tree.specs.declared.stmt.Lval.TheVariants as lval
use Rattle.jz_type_names.specs.Kinds.{is_inline}
use Rattle.jz_meaning.specs.Values.{Ref, MemoryAccess, ref_of, access_of}
use Rattle.jz_meaning.specs.Assignments.{as_expr, left_span, is_bool, is_flag_layer, is_flag, carries, updated_layer, updated, last_left, whole_of}
use Rattle.jz_unrolling_laws.specs.Names.{Names, access_in, expr_in, lval_in}
use Rattle.jz_unrolling_laws.proofs.Reading.{Layer, ref_so, layer_in, in_is, access_is, access_layer_in, access_in_is, over_layer, over_is}
use Rattle.jz_unrolling_laws.proofs.Renaming.{in_var, in_cell, in_load, in_bin}
use Rattle.jz_unroll.specs.Values.{splits, is_split}
use Rattle.jz_unrolling_laws.specs.AskedLaws.{of_text, any_array, is_text}
use Rattle.jz_unrolling_laws.proofs.CopiedValues.{copied_inline}

module _ (m : Names) where
  out_in : (e : Expr) → out-Expr (expr_in m e) ≡ layer_in m (out-Expr e)
  out_in e = ap (λ k. out-Expr (expr_in m k)) (sym (roll-out-Expr e)) ∙ ap out-Expr (in_is m (out-Expr e)) ∙ out-roll-Expr (layer_in m (out-Expr e))

  flag_layer_in : (x : Layer) → is_flag_layer (layer_in m x) ≡ is_flag_layer x
  flag_layer_in (Expr-F.Num n at) = refl
  flag_layer_in (Expr-F.Expr::Bool c at) = refl
  flag_layer_in (Expr-F.Var v) = ap (λ (r : Ref). is_bool r.kind) (ref_so m v)
  flag_layer_in (Expr-F.Cell v e) = refl
  flag_layer_in (Expr-F.Load a) = refl
  flag_layer_in (Expr-F.Neg a at) = refl
  flag_layer_in (Expr-F.Not a at) = refl
  flag_layer_in (Expr-F.Cast z s a at) = refl
  flag_layer_in (Expr-F.Bin o a c at) = refl

  flag_in : (e : Expr) → is_flag (expr_in m e) ≡ is_flag e
  flag_in e = ap is_flag_layer (out_in e) ∙ flag_layer_in (out-Expr e)

  -- ---- left sides

  as_expr_in : (d : Lval) → as_expr (lval_in m d) ≡ option_map (expr_in m) (as_expr d)
  as_expr_in (lval.Skip at) = refl
  as_expr_in (lval.Var v) = ap Some (sym (in_var m v))
  as_expr_in (lval.Cell v i) = ap Some (sym (in_cell m v i))
  as_expr_in (lval.Store a) = ap Some (sym (in_load m a))

  access_span_in : (a : Access) → (access_of (access_in m a)).span ≡ (access_of a).span
  access_span_in a =
      ap (λ b. (access_of (access_in m b)).span) (sym (roll-out-Access a))
      ∙ ap (λ b. (access_of b).span) (access_in_is m (out-Access a))
      ∙ ap (λ (p : MemoryAccess). p.span) (access_is (access_layer_in m (out-Access a)))
      ∙ sym (ap (λ (p : MemoryAccess). p.span) (access_is (out-Access a)))
      ∙ ap (λ b. (access_of b).span) (roll-out-Access a)

  span_in : (d : Lval) → left_span (lval_in m d) ≡ left_span d
  span_in (lval.Skip at) = refl
  span_in (lval.Var v) = ap (λ (r : Ref). r.span) (ref_so m v)
  span_in (lval.Cell v i) = ap (λ (r : Ref). r.span) (ref_so m v)
  span_in (lval.Store a) = access_span_in a

  last_in : (ds : List Lval) → last_left (map (lval_in m) ds) ≡ option_map (lval_in m) (last_left ds)
  last_in [] = refl
  last_in (d ∷ []) = refl
  last_in (d ∷ f ∷ ds) = last_in (f ∷ ds)

  -- ---- right sides

  plain_in : (op : BinOp) (d e : Expr) (at : Span) → expr.Bin op (expr_in m d) (expr_in m e) at ≡ expr_in m (expr.Bin op d e at)
  plain_in op d e at = sym (in_bin m op d e at)

  picked_in : (b : Bool) (p q : Expr) (p2 q2 : Expr) → p2 ≡ expr_in m p → q2 ≡ expr_in m q → (if b then p2 else q2) ≡ expr_in m (if b then p else q)
  picked_in true p q p2 q2 e f = e
  picked_in false p q p2 q2 e f = f

  updated_in : (op : BinOp) (d e : Expr) (at : Span) (x : Layer) → updated_layer op (expr_in m d) (expr_in m e) at (layer_in m x) ≡ expr_in m (updated_layer op d e at x)
  updated_in op d e at (Expr-F.Num n p) = plain_in op d e at
  updated_in op d e at (Expr-F.Expr::Bool c p) = plain_in op d e at
  updated_in op d e at (Expr-F.Var v) = plain_in op d e at
  updated_in op d e at (Expr-F.Cell v i) = plain_in op d e at
  updated_in op d e at (Expr-F.Load a) = plain_in op d e at
  updated_in op d e at (Expr-F.Neg a p) = plain_in op d e at
  updated_in op d e at (Expr-F.Not a p) = plain_in op d e at
  updated_in op d e at (Expr-F.Cast z s a p) = plain_in op d e at
  updated_in op d e at (Expr-F.Bin p a c inner) =
      ap (λ b. if carries op p && b then expr.Bin p (expr.Bin op (expr_in m d) (expr_in m a) at) (expr_in m c) at else expr.Bin op (expr_in m d) (expr_in m e) at) (flag_in c)
      ∙ picked_in (carries op p && is_flag c) (expr.Bin p (expr.Bin op d a at) c at) (expr.Bin op d e at) _ _
      (ap (λ k. expr.Bin p k (expr_in m c) at) (plain_in op d a at) ∙ plain_in p (expr.Bin op d a at) c at) (plain_in op d e at)

  updated_whole : (op : BinOp) (e : Expr) (at : Span) (a : Option Expr) → updated (option_map (expr_in m) a) op (expr_in m e) at ≡ option_map (expr_in m) (updated a op e at)
  updated_whole op e at None = refl
  updated_whole op e at (Some a) = ap Some (ap (updated_layer op (expr_in m a) (expr_in m e) at) (out_in e) ∙ updated_in op a e at (out-Expr e))

  pub whole_in : (d : Option Lval) (o : Option BinOp) (e : Expr) → whole_of (option_map (lval_in m) d) o (expr_in m e) ≡ option_map (expr_in m) (whole_of d o e)
  whole_in None None e = refl
  whole_in (Some d) None e = refl
  whole_in None (Some op) e = refl
  whole_in (Some d) (Some op) e =
      ap (λ k. updated k op (expr_in m e) (left_span (lval_in m d))) (as_expr_in d)
      ∙ ap (updated (option_map (expr_in m) (as_expr d)) op (expr_in m e)) (span_in d)
      ∙ updated_whole op e (left_span d) (as_expr d)

  -- ---- of several left sides

  splits_in : (x : Layer) → splits (layer_in m x) ≡ splits x
  splits_in (Expr-F.Num n at) = refl
  splits_in (Expr-F.Expr::Bool c at) = refl
  splits_in (Expr-F.Var v) = refl
  splits_in (Expr-F.Cell v e) = refl
  splits_in (Expr-F.Load a) = refl
  splits_in (Expr-F.Neg a at) = refl
  splits_in (Expr-F.Not a at) = refl
  splits_in (Expr-F.Cast z s a at) = refl
  splits_in (Expr-F.Bin o a b at) =
      ap (λ k. not k || not (is_inline (expr_in m a))) (flag_in b) ∙ ap (λ k. not (is_flag b) || not k) (copied_inline m a)

  right_split : (e : Expr) → (not (is_inline (expr_in m e)) && splits (out-Expr (expr_in m e))) ≡ (not (is_inline e) && splits (out-Expr e))
  right_split e =
      ap (λ k. not k && splits (out-Expr (expr_in m e))) (copied_inline m e)
      ∙ ap (λ k. not (is_inline e) && k) (ap splits (out_in e) ∙ splits_in (out-Expr e))

  split_in : (to : List Lval) (x : Option Expr) → is_split (map (lval_in m) to) (option_map (expr_in m) x) ≡ is_split to x
  split_in [] None = refl
  split_in [] (Some e) = right_split e
  split_in (d ∷ []) x = refl
  split_in (d ∷ f ∷ to) None = refl
  split_in (d ∷ f ∷ to) (Some e) = right_split e

  pub whole_split : (to : List Lval) (o : Option BinOp) (e : Expr) → is_split (map (lval_in m) to) (whole_of (last_left (map (lval_in m) to)) o (expr_in m e)) ≡ is_split to (whole_of (last_left to) o e)
  whole_split to o e =
      ap (λ d. is_split (map (lval_in m) to) (whole_of d o (expr_in m e))) (last_in to)
      ∙ ap (is_split (map (lval_in m) to)) (whole_in (last_left to) o e)
      ∙ split_in to (whole_of (last_left to) o e)

-- ---- a whole right side is of the text

text_bin : (op : BinOp) (a b : Expr) (at : Span) → is_text a ≡ true → is_text b ≡ true → is_text (expr.Bin op a b at) ≡ true
text_bin op a b at s t = ap is_text (sym (expr.rolls-Bin op a b at)) ∙ over_is of_text any_array (Expr-F.Bin op a b at) ∙ and_from (is_text a) (is_text b) s t

text_var : (v : Var) → of_text (ref_of v) ≡ true → is_text (expr.Var v) ≡ true
text_var v t = ap is_text (sym (expr.rolls-Var v)) ∙ over_is of_text any_array (Expr-F.Var v) ∙ t

text_updated : (op : BinOp) (d e : Expr) (at : Span) (x : Layer) → is_text d ≡ true → is_text e ≡ true → over_layer of_text any_array x ≡ true → is_text (updated_layer op d e at x) ≡ true
text_updated op d e at (Expr-F.Num n p) s t u = text_bin op d e at s t
text_updated op d e at (Expr-F.Expr::Bool c p) s t u = text_bin op d e at s t
text_updated op d e at (Expr-F.Var v) s t u = text_bin op d e at s t
text_updated op d e at (Expr-F.Cell v i) s t u = text_bin op d e at s t
text_updated op d e at (Expr-F.Load a) s t u = text_bin op d e at s t
text_updated op d e at (Expr-F.Neg a p) s t u = text_bin op d e at s t
text_updated op d e at (Expr-F.Not a p) s t u = text_bin op d e at s t
text_updated op d e at (Expr-F.Cast z w a p) s t u = text_bin op d e at s t
text_updated op d e at (Expr-F.Bin p a c inner) s t u = by_flag (carries op p && is_flag c)
  where
    parts : (is_text a ≡ true) × (is_text c ≡ true)
    parts = and_parts (is_text a) _ u

    by_flag : (b : Bool) → is_text (if b then expr.Bin p (expr.Bin op d a at) c at else expr.Bin op d e at) ≡ true
    by_flag true = text_bin p (expr.Bin op d a at) c at (text_bin op d a at s parts.0) parts.1
    by_flag false = text_bin op d e at s t

pub whole_text : (v : Var) (o : Option BinOp) (x y : Expr) → of_text (ref_of v) ≡ true → is_text x ≡ true → whole_of (Some (lval.Var v)) o x ≡ Some y → is_text y ≡ true
whole_text v None x y t text q = let same : x ≡ y = cc in subst (λ z. is_text z ≡ true) same text
whole_text v (Some op) x y t text q =
    let at = left_span (lval.Var v) in
    let same : updated_layer op (expr.Var v) x at (out-Expr x) ≡ y = cc in
    subst (λ z. is_text z ≡ true) same
    (text_updated op (expr.Var v) x at (out-Expr x) (text_var v t) text (sym (over_is of_text any_array (out-Expr x)) ∙ ap is_text (roll-out-Expr x) ∙ text))
