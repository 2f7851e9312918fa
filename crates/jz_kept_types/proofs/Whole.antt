-- Values and words of cells, of expressions and of operations.
use Rattle.std.proofs.Common.{◌≡◌, ℕ, List, [], ◌∷◌, Option, Some, None, Bool, true, false, not, refl, ap, ◌∙◌}
use Rattle.std.specs.List.{list_all}
use Rattle.std.proofs.lemmas.Bool.{and_parts}
use Rattle.jz_tree.specs.Size.{Size}
use Rattle.jz_tree.specs.Span.{Span}
use Rattle.jz_tree.specs.declared.expr.BinOp.{BinOp}
use Rattle.jz_tree.specs.declared.expr.BinOp.TheVariants as op
use Rattle.jz_tree.specs.declared.expr.Expr.{Expr}
use Rattle.jz_tree.specs.declared.expr.Var.{Var}
use Rattle.jz_tree.specs.declared.expr.Expr.TheOpen.{Expr-F}
use Rattle.jz_tree.specs.declared.expr.Expr.TheViews.{out-Expr, out-roll-Expr}
use Rattle.jz_tree.specs.declared.stmt.Lval.{Lval}
use Rattle.jz_type_names.specs.Kinds.{is_inline}
use Rattle.jz_type_sizes.specs.Values.{product_layer, is_product}
use Rattle.jz_type_sizes.specs.Signatures.{signature}
use Rattle.jz_integers.specs.Integers.{KnownNumbers}
use Rattle.jz_judgement.specs.HasType.{Layer}
use Rattle.jz_meaning.specs.Assignments.{last_left, whole_of}
use Rattle.jz_meaning.specs.Statements.{assign, instruction, unset, meaningless}
use Rattle.jz_unroll.specs.Values.{with_values, left_with_values, splits, is_split, left_has_values, has_values, if_has_values}
use Rattle.jz_unroll.proofs.Valued.{parts_in}
use Rattle.jz_unroll.proofs.Parts.{out_plain, not_true}
use Rattle.jz_arrays.specs.Cells.{size_at, cell_in, scalar, cell_or, with_scalars, left_with_scalars}
use Rattle.jz_arrays.proofs.Reading.{rolled}
use Rattle.jz_kept_types.specs.KeptLaws.{ValuesKeepTypes, ScalarsKeepTypes, ValuesStayTyped, ScalarsStayTyped}
use Rattle.jz_kept_types.proofs.Turning.{type_kept}
use Rattle.jz_kept_types.proofs.Valuing.{values_turn}
use Rattle.jz_kept_types.proofs.Scaling.{out_is, scalars_turn}
use Rattle.jz_kept_types.proofs.Assigned.{IfTwo, values_kept, condition_kept}
use Rattle.jz_kept_types.proofs.Instructed.{instructs_kept}

-- ---- expressions
pub values_keep : ValuesKeepTypes
values_keep k e p h = type_kept (with_values k) (left_with_values k) (values_turn k) h

pub scalars_keep : ScalarsKeepTypes
scalars_keep e p h = type_kept with_scalars left_with_scalars scalars_turn h

-- ---- products stay products
pub two : {P : Type 0} (to : List Lval) → P → IfTwo to P
two [] p = tt
two (h ∷ []) p = tt
two (h ∷ l ∷ []) p = p
two (h ∷ l ∷ d ∷ ds) p = tt

abbrev in_layer : Layer → Bool
in_layer x = product_layer x

pub same_product : (o : BinOp) (c d a b : Expr) (at : Span) → in_layer (Expr-F.Bin o c d at) ≡ in_layer (Expr-F.Bin o a b at)
same_product op.Mul c d a b at = refl
same_product op.OrElse c d a b at = refl
same_product op.AndThen c d a b at = refl
same_product op.Or c d a b at = refl
same_product op.Xor c d a b at = refl
same_product op.And c d a b at = refl
same_product op.Add c d a b at = refl
same_product op.Sub c d a b at = refl
same_product op.Div c d a b at = refl
same_product op.Rem c d a b at = refl
same_product op.DivS c d a b at = refl
same_product op.RemS c d a b at = refl
same_product op.Shl c d a b at = refl
same_product op.Shr c d a b at = refl
same_product op.Sar c d a b at = refl
same_product op.Rol c d a b at = refl
same_product op.Ror c d a b at = refl
same_product op.Eq c d a b at = refl
same_product op.Ne c d a b at = refl
same_product op.Lt c d a b at = refl
same_product op.Le c d a b at = refl
same_product op.Gt c d a b at = refl
same_product op.Ge c d a b at = refl
same_product op.LtS c d a b at = refl
same_product op.LeS c d a b at = refl
same_product op.GtS c d a b at = refl
same_product op.GeS c d a b at = refl

valued_layer : (k : KnownNumbers) (x : Layer) → product_layer (parts_in k x) ≡ product_layer x
valued_layer k (Expr-F.Num n at) = refl
valued_layer k (Expr-F.Expr::Bool b at) = refl
valued_layer k (Expr-F.Var v) = refl
valued_layer k (Expr-F.Cell v i) = refl
valued_layer k (Expr-F.Load a) = refl
valued_layer k (Expr-F.Neg a at) = refl
valued_layer k (Expr-F.Not a at) = refl
valued_layer k (Expr-F.Cast z s a at) = refl
valued_layer k (Expr-F.Bin o a b at) = same_product o (with_values k a) (with_values k b) a b at

-- of several results the operands stand in the text
valued_product : (k : KnownNumbers) (l : Lval) (o : Option BinOp) (e : Expr) → is_split (l ∷ l ∷ []) (whole_of (Some l) o e) ≡ true → is_product o (with_values k e) ≡ is_product o e
valued_product k l (Some o) e s = refl
valued_product k l None e s =
    let q = not_true (is_inline e) (and_parts (not (is_inline e)) (splits (out-Expr e)) s).0 in
    ap product_layer (out_plain k e q) ∙ valued_layer k (out-Expr e)

if_split : (k : KnownNumbers) (to : List Lval) (o : Option BinOp) (e : Expr) → is_split to (whole_of (last_left to) o e) ≡ true → IfTwo to (is_product o (with_values k e) ≡ is_product o e)
if_split k [] o e s = tt
if_split k (h ∷ []) o e s = tt
if_split k (h ∷ l ∷ []) o e s = valued_product k l o e s
if_split k (h ∷ l ∷ d ∷ ds) o e s = tt

cell_layer : (v : Var) (i : Expr) (z : Option Size) (n : Option ℕ) → product_layer (out-Expr (cell_or v i z n)) ≡ false
cell_layer v i (Some z) (Some n) = ap product_layer (out-roll-Expr (Expr-F.Var (scalar v z n)))
cell_layer v i (Some z) None = ap product_layer (out-roll-Expr (Expr-F.Cell v i))
cell_layer v i None (Some n) = ap product_layer (out-roll-Expr (Expr-F.Cell v i))
cell_layer v i None None = ap product_layer (out-roll-Expr (Expr-F.Cell v i))

scaled_layer : (x : Layer) → product_layer (out-Expr (rolled x)) ≡ product_layer x
scaled_layer (Expr-F.Num n at) = ap product_layer (out-roll-Expr (Expr-F.Num n at))
scaled_layer (Expr-F.Expr::Bool b at) = ap product_layer (out-roll-Expr (Expr-F.Expr::Bool b at))
scaled_layer (Expr-F.Var v) = ap product_layer (out-roll-Expr (Expr-F.Var v))
scaled_layer (Expr-F.Cell v i) = cell_layer v (with_scalars i) (size_at v) (cell_in v i)
scaled_layer (Expr-F.Load a) = ap product_layer (out-roll-Expr _)
scaled_layer (Expr-F.Neg a at) = ap product_layer (out-roll-Expr (Expr-F.Neg (with_scalars a) at))
scaled_layer (Expr-F.Not a at) = ap product_layer (out-roll-Expr (Expr-F.Not (with_scalars a) at))
scaled_layer (Expr-F.Cast z s a at) = ap product_layer (out-roll-Expr (Expr-F.Cast z s (with_scalars a) at))
scaled_layer (Expr-F.Bin o a b at) = ap product_layer (out-roll-Expr (Expr-F.Bin o (with_scalars a) (with_scalars b) at)) ∙ same_product o (with_scalars a) (with_scalars b) a b at

scaled_product : (o : Option BinOp) (e : Expr) → is_product o (with_scalars e) ≡ is_product o e
scaled_product (Some o) e = refl
scaled_product None e = ap product_layer (out_is e) ∙ scaled_layer (out-Expr e)

-- ---- operations
pub values_stay : ValuesStayTyped
values_stay names k (assign to o e c at) h v =
    let a = and_parts (list_all (left_has_values names k) to) _ v in
    let b = and_parts (has_values names k e) _ a.1 in
    let d = and_parts (if_has_values names k c) (is_split to (whole_of (last_left to) o e)) b.1 in (
      values_kept (with_values k) (left_with_values k) (values_turn k) to o e (if_split k to o e d.1) h.0,
      condition_kept (with_values k) (left_with_values k) (values_turn k) c h.1,
    )
values_stay names k (instruction to n args at) h v = instructs_kept (with_values k) (left_with_values k) (values_turn k) (signature n) to args h
values_stay names k (unset vs) h v = tt
values_stay names k (meaningless at) h v = tt

pub scalars_stay : ScalarsStayTyped
scalars_stay (assign to o e c at) h = (
  values_kept with_scalars left_with_scalars scalars_turn to o e (two to (scaled_product o e)) h.0,
  condition_kept with_scalars left_with_scalars scalars_turn c h.1,
)
scalars_stay (instruction to n args at) h = instructs_kept with_scalars left_with_scalars scalars_turn (signature n) to args h
scalars_stay (unset vs) h = tt
scalars_stay (meaningless at) h = tt
