-- What the right side of an assignment reads, and a condition.
use Rattle.std.proofs.Common.{◌≡◌, Option, Some, None, refl, sym, ap, ◌∙◌}
use Rattle.std.specs.Prelude.{option_map}
use Rattle.jz_tree.specs.Span.{Span}
use Rattle.jz_tree.specs.Operators.{divides}
use Rattle.jz_tree.specs.declared.expr.BinOp.{BinOp}
use Rattle.jz_tree.specs.declared.expr.Access.{Access}
use Rattle.jz_tree.specs.declared.expr.Expr.{Expr}
use Rattle.jz_tree.specs.declared.expr.Expr.TheVariants as expr
use Rattle.jz_tree.specs.declared.expr.Expr.TheViews.{out-Access, out-Var}
use Rattle.jz_tree.specs.declared.expr.Var.{Var}
use Rattle.jz_tree.specs.declared.stmt.Lval.{Lval}
use Rattle.jz_tree.specs.declared.stmt.Lval.TheVariants as lval
use Rattle.jz_meaning.specs.Assignments.{as_expr, left_span, updated, whole_of}
use Rattle.jz_meaning.specs.Values.{key_of, ref_of}
use Rattle.jz_terms.specs.Terms.{term_of}
use Rattle.jz_terms.proofs.TermForms.{term_var, term_cell, term_load}
use Rattle.jz_labels.specs.Operations.{read_if, old_of, with_condition}
use Rattle.jz_required.specs.Readings.{Reading, of_scalar, no_reading, one_reading, cell_reading, load_reading, operation_reading, both_readings, reading, all_readings}
use Rattle.jz_required.proofs.Assigning.{one_term, updated_is}
use Rattle.jz_required.proofs.Parts.{cell_reads, load_reads}

abbrev pub read_of : Expr → Reading
read_of e = reading (term_of e)

-- ---- a left side where it is read

pub old_skip : (d : Lval) (at : Span) → d ≡ lval.Skip at → None ≡ option_map read_of (as_expr d)
old_skip d at e = sym (ap (λ x. option_map read_of (as_expr x)) e)

pub old_var : (d : Lval) (v : Var) (r : Reading) → d ≡ lval.Var v → r ≡ one_reading (of_scalar (key_of (ref_of v))) → Some r ≡ option_map read_of (as_expr d)
old_var d v r e h = ap Some (h ∙ sym (ap reading (term_var (expr.Var v) v refl))) ∙ sym (ap (λ x. option_map read_of (as_expr x)) e)

pub old_cell : (d : Lval) (v : Var) (i : Expr) (r inner : Reading) → d ≡ lval.Cell v i → inner ≡ read_of i → r ≡ cell_reading (key_of (ref_of v)) (out-Var v).span inner → Some r ≡ option_map read_of (as_expr d)
old_cell d v i r inner e g h =
    ap Some (h ∙ cell_reads v i inner g ∙ sym (ap reading (term_cell (expr.Cell v i) v i refl))) ∙ sym (ap (λ x. option_map read_of (as_expr x)) e)

pub old_store : (d : Lval) (a : Access) (r inner : Reading) → d ≡ lval.Store a → inner ≡ read_of (out-Access a).at → r ≡ load_reading (out-Access a).span inner → Some r ≡ option_map read_of (as_expr d)
old_store d a r inner e g h =
    ap Some (h ∙ load_reads a inner g ∙ sym (ap reading (term_load (expr.Load a) a refl))) ∙ sym (ap (λ x. option_map read_of (as_expr x)) e)

no_expr : (o : Option Expr) → None ≡ option_map read_of o → o ≡ None
no_expr None e = refl
no_expr (Some d) e = absurd (cc e)

-- ---- an operation on it

pub updated_none : (o : Option Expr) (op : BinOp) (e : Expr) (at : Span) (r : Reading) → None ≡ option_map read_of o → r ≡ no_reading → r ≡ all_readings (read_if (updated o op e at))
updated_none o op e at r h g = g ∙ sym (ap (λ x. all_readings (read_if (updated x op e at))) (no_expr o h))

abbrev reading_or : Reading → Option Reading → Reading
reading_or d None = d
reading_or d (Some x) = x

some_same : (a b : Reading) → Some a ≡ Some b → a ≡ b
some_same a b e = ap (reading_or a) e

pub updated_some : (o : Option Expr) (op : BinOp) (e : Expr) (at : Span) (first second r : Reading) → Some first ≡ option_map read_of o → second ≡ read_of e → r ≡ operation_reading (divides op) at first second → r ≡ all_readings (read_if (updated o op e at))
updated_some None op e at first second r h g k = absurd (cc h)
updated_some (Some d) op e at first second r h g k =
    k ∙ ap (λ z. operation_reading (divides op) at z second) (some_same first (read_of d) h) ∙ ap (operation_reading (divides op) at (read_of d)) g ∙ sym (updated_is op d e at)

-- ---- the whole right side

pub whole_plain : (d : Option Lval) (o : Option BinOp) (e : Expr) (r : Reading) → o ≡ None → r ≡ read_of e → r ≡ all_readings (read_if (whole_of d o e))
whole_plain d o e r h g = g ∙ sym (one_term (term_of e)) ∙ sym (ap (λ x. all_readings (read_if (whole_of d x e))) h)

pub whole_nothing : (d : Option Lval) (o : Option BinOp) (op : BinOp) (e : Expr) (r : Reading) → o ≡ Some op → d ≡ None → r ≡ no_reading → r ≡ all_readings (read_if (whole_of d o e))
whole_nothing d o op e r h k g = g ∙ sym (ap (λ x. all_readings (read_if (whole_of x o e))) k ∙ ap (λ x. all_readings (read_if (whole_of None x e))) h)

pub whole_updated : (d : Option Lval) (o : Option BinOp) (op : BinOp) (e : Expr) (x : Lval) (r : Reading) → o ≡ Some op → d ≡ Some x → r ≡ all_readings (read_if (updated (as_expr x) op e (left_span x))) → r ≡ all_readings (read_if (whole_of d o e))
whole_updated d o op e x r h k g = g ∙ sym (ap (λ y. all_readings (read_if (whole_of y o e))) k ∙ ap (λ y. all_readings (read_if (whole_of (Some x) y e))) h)

-- ---- the old value, and a condition

pub kept_nothing : (d : Option Lval) (r : Reading) → d ≡ None → r ≡ no_reading → r ≡ all_readings (old_of d)
kept_nothing d r k g = g ∙ sym (ap (λ x. all_readings (old_of x)) k)

pub kept_none : (d : Option Lval) (x : Lval) (r : Reading) → d ≡ Some x → None ≡ option_map read_of (as_expr x) → r ≡ no_reading → r ≡ all_readings (old_of d)
kept_none d x r k h g = g ∙ sym (ap (λ y. all_readings (old_of y)) k ∙ ap (λ y. all_readings (read_if y)) (no_expr (as_expr x) h))

pub kept_some : (d : Option Lval) (x : Lval) (r : Reading) → d ≡ Some x → Some r ≡ option_map read_of (as_expr x) → r ≡ all_readings (old_of d)
kept_some d x r k h = by (as_expr x) h ∙ sym (ap (λ y. all_readings (old_of y)) k)
  where
    by : (o : Option Expr) → Some r ≡ option_map read_of o → r ≡ all_readings (read_if o)
    by None e = absurd (cc e)
    by (Some y) e = some_same r (read_of y) e ∙ sym (one_term (term_of y))

pub guard_none : (c : Option Expr) (d : Option Lval) (r : Reading) → c ≡ None → r ≡ no_reading → r ≡ all_readings (with_condition c d)
guard_none c d r k g = g ∙ sym (ap (λ x. all_readings (with_condition x d)) k)

pub guard_some : (c : Option Expr) (d : Option Lval) (e : Expr) (first second r : Reading) → c ≡ Some e → first ≡ read_of e → second ≡ all_readings (old_of d) → r ≡ both_readings first second → r ≡ all_readings (with_condition c d)
guard_some c d e first second r k f g h = h ∙ ap (λ z. both_readings z second) f ∙ ap (both_readings (read_of e)) g ∙ sym (ap (λ x. all_readings (with_condition x d)) k)
