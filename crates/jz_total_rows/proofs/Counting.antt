-- What the expansion leaves has arrays with a number as their length alone, so that a size that it
-- says is its own.
use Rattle.std.proofs.Common.{◌≡◌, ℕ, ℤ, pos, negsuc, true, Option, Some, None, refl, sym, ◌∙◌, subst}
use Rattle.jz_tree.specs.Size.{Size}
use Rattle.jz_tree.specs.declared.expr.Expr.{Expr}
use Rattle.jz_tree.specs.declared.expr.Expr.TheVariants as expr
use Rattle.jz_tree.specs.declared.expr.Expr.TheOpen.{Expr-F, Ty-F}
use Rattle.jz_tree.specs.declared.expr.Expr.TheViews.{out-Expr, out-Var, out-Ty}
use Rattle.jz_tree.specs.declared.expr.Decl.{Decl}
use Rattle.jz_tree.specs.declared.expr.Var.{Var}
use Rattle.jz_type_names.specs.Kinds.{number_layer}
use Rattle.jz_judgement.specs.Places.{Place}
use Rattle.jz_judgement.specs.HasType.{Layer, value, HasType, Says}
use Rattle.jz_run_laws.specs.Counted as counted
use Rattle.jz_run_laws.specs.Counted.{TyLayer, is_count, counted_type, counted_decl, IsCounted, Counted, EachLayer}
use Rattle.jz_run_laws.proofs.Sizes.{says_law}
use Rattle.jz_typed_runs.proofs.KindsOf.{kind_some, kind_by, decl_is}
use Rattle.jz_one_row.proofs.Outs.{out_num, out_bool, out_var, out_cell, out_load, out_neg, out_not, out_cast, out_bin}
use Rattle.jz_meaning.specs.declared.access.Kind.TheVariants as kind
use Rattle.jz_meaning.specs.Values.{ref_of, own_size, array_kind}
use Rattle.jz_homes.specs.Homes.{Homes}
use Rattle.jz_total_rows.specs.Expanded.{HasHome, a_word, a_flag, a_scalar, an_array, IsExpanded, a_number, a_truth, a_variable, a_cell, a_load, a_minus, a_denial, a_cast, of_two}

-- ---- variables
number_counts : (z : Size) (n : Option ℤ) → (array_kind z n ≡ kind.Undeclared → ⊥) → is_count n ≡ true
number_counts z None f = absurd (f refl)
number_counts z (Some (pos n)) f = refl
number_counts z (Some (negsuc n)) f = absurd (f refl)

type_counts : (x : TyLayer) → (kind_by x ≡ kind.Undeclared → ⊥) → counted_type x ≡ true
type_counts Ty-F.Int f = refl
type_counts Ty-F.Ty::Bool f = refl
type_counts (Ty-F.Word z) f = refl
type_counts (Ty-F.Array z n) f = number_counts z (number_layer (out-Expr n)) f

decl_counts : (v : Var) → ((ref_of v).kind ≡ kind.Undeclared → ⊥) → (d : Option Decl) → (out-Var v).decl ≡ d → counted_decl d ≡ true
decl_counts v f None e = refl
decl_counts v f (Some d) e = type_counts (out-Ty d.ty) (λ k. f (kind_some v d e ∙ (decl_is d ∙ k)))

word_declared : (z : Size) → kind.Word z ≡ kind.Undeclared → ⊥
word_declared z e = absurd cc

bool_declared : kind.Bool ≡ kind.Undeclared → ⊥
bool_declared e = absurd cc

array_declared : (z : Size) (n : ℕ) → kind.Array z n ≡ kind.Undeclared → ⊥
array_declared z n e = absurd cc

home_declared : (home : Homes) (v : Var) → HasHome home v → (ref_of v).kind ≡ kind.Undeclared → ⊥
home_declared home v (a_word z n d k h) e = word_declared z (sym k ∙ e)
home_declared home v (a_flag n d k h) e = bool_declared (sym k ∙ e)
home_declared home v (a_scalar z w d k h) e = word_declared z (sym k ∙ e)
home_declared home v (an_array z n w d c) e = array_declared z n (sym c.0 ∙ e)

pub home_counted : (home : Homes) (v : Var) → HasHome home v → IsCounted v
home_counted home v x = decl_counts v (home_declared home v x) (out-Var v).decl refl

-- ---- expressions
layered : (e : Expr) (l : Layer) → out-Expr e ≡ l → EachLayer IsCounted l → Counted e
layered e l s h = counted.expression (subst (EachLayer IsCounted) (sym s) h)

pub all_counted : (home : Homes) (e : Expr) → IsExpanded home e → Counted e
all_counted home e (a_number i at) = layered (expr.Num i at) (Expr-F.Num i at) (out_num i at) counted.number
all_counted home e (a_truth b at) = layered (expr.Bool b at) (Expr-F.Expr::Bool b at) (out_bool b at) counted.bool
all_counted home e (a_variable v x) = layered (expr.Var v) (Expr-F.Var v) (out_var v) (counted.variable (home_counted home v x))
all_counted home e (a_cell v i x y) = layered (expr.Cell v i) (Expr-F.Cell v i) (out_cell v i) (counted.cell (home_counted home v x) (all_counted home i y))
all_counted home e (a_load a x) = layered (expr.Load a) (Expr-F.Load a) (out_load a) (counted.load (all_counted home a.at x))
all_counted home e (a_minus a at n x) = layered (expr.Neg a at) (Expr-F.Neg a at) (out_neg a at) (counted.negated (all_counted home a x))
all_counted home e (a_denial a at n x) = layered (expr.Not a at) (Expr-F.Not a at) (out_not a at) (counted.inverted (all_counted home a x))
all_counted home e (a_cast z s a at x) = layered (expr.Cast z s a at) (Expr-F.Cast z s a at) (out_cast z s a at) (counted.cast (all_counted home a x))
all_counted home e (of_two o a b at n x y) = layered (expr.Bin o a b at) (Expr-F.Bin o a b at) (out_bin o a b at) (counted.operation (all_counted home a x) (all_counted home b y))

-- a size that a typed expression says is its own
pub says_own : (home : Homes) (e : Expr) (p : Place) (z : Size) → IsExpanded home e → HasType (value e) p → Says (value e) z → own_size e ≡ Some z
says_own home e p z x t s = (says_law e p (all_counted home e x) t z).1 s
