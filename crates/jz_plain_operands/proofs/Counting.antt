-- What the expansion leaves has arrays with a number as their length alone, so that the sizes of
-- typing are those of runs; and what a flag is.
use Rattle.std.proofs.Common.{◌≡◌, ℕ, ℤ, pos, negsuc, Bool, true, false, ◌&&◌, Option, Some, None, refl, sym, ap, ◌∙◌, subst, if◌then◌else◌}
use Rattle.std.proofs.lemmas.Bool.{false≢true}
use Rattle.jz_tree.specs.Size.{Size}
use Rattle.jz_tree.specs.Span.{Span}
use Rattle.jz_tree.specs.declared.expr.BinOp.{BinOp}
use Rattle.jz_tree.specs.declared.expr.Decl.{Decl}
use Rattle.jz_tree.specs.declared.expr.Expr.{Expr}
use Rattle.jz_tree.specs.declared.expr.Expr.TheOpen.{Expr-F, Ty-F}
use Rattle.jz_tree.specs.declared.expr.Expr.TheViews.{out-Expr, out-Var, out-Ty, out-Access}
use Rattle.jz_tree.specs.declared.expr.Var.{Var}
use Rattle.jz_tree.specs.declared.stmt.Lval.{Lval}
use Rattle.jz_tree.specs.declared.stmt.Lval.TheVariants as lval
use Rattle.jz_type_names.specs.Kinds.{known_of, is_inline, is_array, number_layer, whole_array}
use Rattle.jz_select.specs.declared.class.Class.{Class}
use Rattle.jz_select.specs.declared.class.Class.TheVariants as class
use Rattle.jz_select.specs.Sums.{is_address, is_index}
use Rattle.jz_select.specs.Look.{look_of, terms_of}
use Rattle.jz_select.specs.Operands.{var_class, class_layer, class_of, dest_of}
use Rattle.jz_select.specs.Rows.{is_flag}
use Rattle.jz_judgement.specs.HasType.{Layer}
use Rattle.jz_meaning.specs.declared.access.Kind.TheVariants as kind
use Rattle.jz_meaning.specs.States.{Key}
use Rattle.jz_meaning.specs.Values.{ref_of, array_kind}
use Rattle.jz_meaning.specs.Assignments as runs
use Rattle.jz_meaning.specs.Assignments.{is_bool, is_flag_layer}
use Rattle.jz_run_laws.specs.Kinds.{Kinds}
use Rattle.jz_run_laws.specs.Counted as counted
use Rattle.jz_run_laws.specs.Counted.{TyLayer, is_count, counted_type, counted_decl, IsCounted, Counted, EachLayer}
use Rattle.jz_run_laws.specs.Lefts.{CountedParts, IsCountedLeft}
use Rattle.jz_row_laws.proofs.Fixed.{no_if, no_cell}
use Rattle.jz_stuck_runs.proofs.KindsOf.{kind_some, kind_by, decl_is}
use Rattle.jz_plain_operands.specs.Plain.{IsPlain, a_word, a_slot, a_flag, an_array, IsPlainExpr, expression, IsPlainLayer, a_number, a_truth, a_variable, a_cell, a_load, a_minus, a_denial, a_cast, of_two, IsPlainLeft, to_nothing, to_variable, to_cell, to_memory}
use Rattle.jz_plain_operands.proofs.Layers.{two_not, sign_not}

-- ---- variables
number_counts : (z : Size) (n : Option ℤ) → (array_kind z n ≡ kind.Undeclared → ⊥) → is_count n ≡ true
number_counts z None f = absurd (f refl)
number_counts z (Some (pos n)) f = refl
number_counts z (Some (negsuc n)) f = absurd (f refl)

type_counts : (x : TyLayer) → (kind_by x ≡ kind.Undeclared → ⊥) → counted_type x ≡ true
type_counts Ty-F.Int f = refl
type_counts Ty-F.Ty::Bool f = refl
type_counts (Ty-F.Word z) f = refl
type_counts (Ty-F.Array z n) f = number_counts z (number_layer (out-Expr n)) f

decl_counts : (v : Var) → ((ref_of v).kind ≡ kind.Undeclared → ⊥) → (d : Option Decl) → (out-Var v).decl ≡ d → counted_decl d ≡ true
decl_counts v f None e = refl
decl_counts v f (Some d) e = type_counts (out-Ty d.ty) (λ k. f (kind_some v d e ∙ (decl_is d ∙ k)))

word_declared : (z : Size) → kind.Word z ≡ kind.Undeclared → ⊥
word_declared z e = absurd cc

bool_declared : kind.Bool ≡ kind.Undeclared → ⊥
bool_declared e = absurd cc

array_declared : (z : Size) (n : ℕ) → kind.Array z n ≡ kind.Undeclared → ⊥
array_declared z n e = absurd cc

not_true : (b : Bool) → (b ≡ true → ⊥) → false ≡ b
not_true true h = absurd (h refl)
not_true false h = refl

module _ (kinds : Kinds) (in_frame : Key → Bool) where
  plain_declared : (v : Var) → IsPlain kinds in_frame v → (ref_of v).kind ≡ kind.Undeclared → ⊥
  plain_declared v (a_word z d k s) e = word_declared z (sym k ∙ e)
  plain_declared v (a_slot z d k s) e = word_declared z (sym k ∙ e)
  plain_declared v (a_flag d k s) e = bool_declared (sym k ∙ e)
  plain_declared v (an_array z n d a) e = array_declared z n (sym a.is ∙ e)

  plain_counted : (v : Var) → IsPlain kinds in_frame v → IsCounted v
  plain_counted v x = decl_counts v (plain_declared v x) (out-Var v).decl refl

  -- ---- expressions
  mutual
    pub all_counted : (e : Expr) → IsPlainExpr kinds in_frame e → Counted e
    all_counted e (expression x) = counted.expression (counted_layer (out-Expr e) x)

    counted_layer : (l : Layer) → IsPlainLayer kinds in_frame l → EachLayer IsCounted l
    counted_layer (Expr-F.Num i at) a_number = counted.number
    counted_layer (Expr-F.Expr::Bool b at) a_truth = counted.bool
    counted_layer (Expr-F.Var v) (a_variable x) = counted.variable (plain_counted v x)
    counted_layer (Expr-F.Cell v i) (a_cell x y) = counted.cell (plain_counted v x) (all_counted i y)
    counted_layer (Expr-F.Load a) (a_load x) = counted.load (all_counted (out-Access a).at x)
    counted_layer (Expr-F.Neg a at) (a_minus n x) = counted.negated (all_counted a x)
    counted_layer (Expr-F.Not a at) (a_denial n x) = counted.inverted (all_counted a x)
    counted_layer (Expr-F.Cast z s a at) (a_cast x) = counted.cast (all_counted a x)
    counted_layer (Expr-F.Bin o a b at) (of_two n x y) = counted.operation (all_counted a x) (all_counted b y)

  -- ---- left sides that are no array as a whole
  no_whole : (test : Class → Bool) → test class.Other ≡ false → (v : Var) → IsPlain kinds in_frame v → test (var_class (known_of v)) ≡ true → whole_array (lval.Var v) ≡ None
  no_whole test o v (a_word z d k s) h = ap (λ q. if is_array q then Some v else None) d
  no_whole test o v (a_slot z d k s) h = ap (λ q. if is_array q then Some v else None) d
  no_whole test o v (a_flag d k s) h = ap (λ q. if is_array q then Some v else None) d
  no_whole test o v (an_array z n d a) h = absurd (false≢true (sym o ∙ (sym (ap (λ q. test (var_class q)) d) ∙ h)))

  pub counted_left : (test : Class → Bool) → test class.Other ≡ false → (d : Lval) → IsPlainLeft kinds in_frame d → test (dest_of d) ≡ true → IsCountedLeft d
  counted_left test o (lval.Skip at) to_nothing h = (tt, refl)
  counted_left test o (lval.Var v) (to_variable x) h = (plain_counted v x, no_whole test o v x h)
  counted_left test o (lval.Cell v i) (to_cell x y) h = ((plain_counted v x, all_counted i y), refl)
  counted_left test o (lval.Store a) (to_memory x) h = (all_counted (out-Access a).at x, refl)

  -- ---- a flag by its class is one of runs
  flag_same : (v : Var) → IsPlain kinds in_frame v → is_bool (ref_of v).kind ≡ is_flag (var_class (known_of v))
  flag_same v (a_word z d k s) = ap is_bool k ∙ sym (ap (λ q. is_flag (var_class q)) d)
  flag_same v (a_slot z d k s) = ap is_bool k ∙ sym (ap (λ q. is_flag (var_class q)) d)
  flag_same v (a_flag d k s) = ap is_bool k ∙ sym (ap (λ q. is_flag (var_class q)) d)
  flag_same v (an_array z n d a) = ap is_bool a.is ∙ sym (ap (λ q. is_flag (var_class q)) d)

  same_layer : (l : Layer) → IsPlainLayer kinds in_frame l → is_flag_layer l ≡ is_flag (class_layer l)
  same_layer (Expr-F.Num i at) a_number = refl
  same_layer (Expr-F.Expr::Bool b at) a_truth = refl
  same_layer (Expr-F.Var v) (a_variable x) = flag_same v x
  same_layer (Expr-F.Cell v i) (a_cell x y) = not_true _ (no_cell is_flag (λ z. refl) (λ z. refl) refl (known_of v) (look_of i).inline (is_index (terms_of i)))
  same_layer (Expr-F.Load a) (a_load x) = not_true _ (no_if is_flag refl (is_address (terms_of (out-Access a).at)) (class.Mem (out-Access a).size) refl)
  same_layer (Expr-F.Neg a at) (a_minus n x) = not_true _ (sign_not kinds in_frame is_flag a refl n x)
  same_layer (Expr-F.Not a at) (a_denial n x) = not_true _ (sign_not kinds in_frame is_flag a refl n x)
  same_layer (Expr-F.Cast z s a at) (a_cast x) = refl
  same_layer (Expr-F.Bin o a b at) (of_two n x y) = not_true _ (two_not kinds in_frame is_flag refl refl refl o a b at n x y)

  pub flags_same : (e : Expr) → IsPlainExpr kinds in_frame e → runs.is_flag e ≡ is_flag (class_of e)
  flags_same e (expression x) = same_layer (out-Expr e) x

  -- ---- the operands of an operation
  pub record AreParts (a b : Expr) : Type 0 where
    pub none : (is_inline a && is_inline b) ≡ false
    pub first : IsPlainExpr kinds in_frame a
    pub second : IsPlainExpr kinds in_frame b

  pub parts_plain : (e : Expr) (o : BinOp) (a b : Expr) (at : Span) → out-Expr e ≡ Expr-F.Bin o a b at → IsPlainExpr kinds in_frame e → AreParts a b
  parts_plain e o a b at is (expression x) = by_layer (subst (λ l. IsPlainLayer kinds in_frame l) is x)
    where
      by_layer : IsPlainLayer kinds in_frame (Expr-F.Bin o a b at) → AreParts a b
      by_layer (of_two n x y) = record { none = n; first = x; second = y }
