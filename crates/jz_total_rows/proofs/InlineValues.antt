-- What the expansion leaves of inline integers are numbers, and of inline conditions bools.
use Rattle.std.proofs.Common.{◌≡◌, ℤ, Bool, true, false, ◌&&◌, refl, sym, ap, ◌∙◌, if◌then◌else◌}
use Rattle.std.proofs.lemmas.Bool.{false≢true, and_parts}
use Rattle.jz_tree.specs.Span.{Span}
use Rattle.jz_tree.specs.Operators.{joins}
use Rattle.jz_tree.specs.declared.expr.BinOp.{BinOp}
use Rattle.jz_tree.specs.declared.expr.Expr.{Expr}
use Rattle.jz_tree.specs.declared.expr.Expr.TheVariants as expr
use Rattle.jz_tree.specs.declared.expr.Expr.TheOpen.{Expr-F}
use Rattle.jz_type_names.specs.Kinds.{is_inline}
use Rattle.jz_select.specs.Look.{Look, look_of, gives_number, compares_values}
use Rattle.jz_one_row.proofs.Outs.{out_num, out_bool, out_var, out_cell, out_load, out_neg, out_not, out_cast, out_bin}
use Rattle.jz_homes.specs.Homes.{Homes}
use Rattle.jz_total_rows.specs.Expanded.{IsExpanded, a_number, a_truth, a_variable, a_cell, a_load, a_minus, a_denial, a_cast, of_two}
use Rattle.jz_total_rows.proofs.Forms.{look_test, number_inline, bool_inline, looked_not_inline}

abbrev pub IsNumber : Expr → Type 0
IsNumber e = (i : ℤ) × (at : Span) × (e ≡ expr.Num i at)

abbrev pub IsTruth : Expr → Type 0
IsTruth e = (b : Bool) × (at : Span) × (e ≡ expr.Bool b at)

pub number_is_inline : (e : Expr) → IsNumber e → is_inline e ≡ true
number_is_inline e n = ap is_inline n.2 ∙ number_inline n.0 n.1

pub truth_is_inline : (e : Expr) → IsTruth e → is_inline e ≡ true
truth_is_inline e n = ap is_inline n.2 ∙ bool_inline n.0 n.1

both_inline : (a b : Bool) → a ≡ true → b ≡ true → (a && b) ≡ false → ⊥
both_inline a b e f n = false≢true (sym n ∙ (ap (λ x. x && b) e ∙ f))

-- not both are values
pub not_both : (a b : Expr) → (is_inline a && is_inline b) ≡ false → is_inline a ≡ true → is_inline b ≡ true → ⊥
not_both a b n e f = both_inline (is_inline a) (is_inline b) e f n

-- an inline integer is a number
pub inline_number : (home : Homes) (e : Expr) → IsExpanded home e → (look_of e).inline ≡ true → IsNumber e
inline_number home e (a_number i at) h = (i, at, refl)
inline_number home e (a_truth b at) h = absurd (false≢true (look_test (λ l. l.inline) (expr.Bool b at) (Expr-F.Expr::Bool b at) (out_bool b at) h))
inline_number home e (a_variable v x) h = absurd (false≢true (sym (looked_not_inline home v x) ∙ look_test (λ l. l.inline) (expr.Var v) (Expr-F.Var v) (out_var v) h))
inline_number home e (a_cell v i x y) h = absurd (false≢true (look_test (λ l. l.inline) (expr.Cell v i) (Expr-F.Cell v i) (out_cell v i) h))
inline_number home e (a_load a x) h = absurd (false≢true (look_test (λ l. l.inline) (expr.Load a) (Expr-F.Load a) (out_load a) h))
inline_number home e (a_minus a at n x) h =
    absurd (false≢true (sym n ∙ number_is_inline a (inline_number home a x (look_test (λ l. l.inline) (expr.Neg a at) (Expr-F.Neg a at) (out_neg a at) h))))
inline_number home e (a_denial a at n x) h =
    absurd (false≢true (sym n ∙ number_is_inline a (inline_number home a x (look_test (λ l. l.inline) (expr.Not a at) (Expr-F.Not a at) (out_not a at) h))))
inline_number home e (a_cast z s a at x) h = absurd (false≢true (look_test (λ l. l.inline) (expr.Cast z s a at) (Expr-F.Cast z s a at) (out_cast z s a at) h))
inline_number home e (of_two o a b at n x y) h =
    let k = and_parts (gives_number o) ((look_of b).inline && (look_of a).inline) (look_test (λ l. l.inline) (expr.Bin o a b at) (Expr-F.Bin o a b at) (out_bin o a b at) h) in
    let p = and_parts (look_of b).inline (look_of a).inline k.1 in
    absurd (not_both a b n (number_is_inline a (inline_number home a x p.1)) (number_is_inline b (inline_number home b y p.0)))

-- an inline condition is a bool
by_joins : (j : Bool) (o : BinOp) (a b : Look) → (if j then b.condition && a.condition else compares_values o && (b.inline && a.inline)) ≡ true
    → (P : Type 0) → (a.condition ≡ true → b.condition ≡ true → P) → (a.inline ≡ true → b.inline ≡ true → P) → P
by_joins true o a b h P f g = let p = and_parts b.condition a.condition h in f p.1 p.0
by_joins false o a b h P f g = let p = and_parts b.inline a.inline (and_parts (compares_values o) (b.inline && a.inline) h).1 in g p.1 p.0

pub condition_truth : (home : Homes) (e : Expr) → IsExpanded home e → (look_of e).condition ≡ true → IsTruth e
condition_truth home e (a_number i at) h = absurd (false≢true (look_test (λ l. l.condition) (expr.Num i at) (Expr-F.Num i at) (out_num i at) h))
condition_truth home e (a_truth b at) h = (b, at, refl)
condition_truth home e (a_variable v x) h = absurd (false≢true (look_test (λ l. l.condition) (expr.Var v) (Expr-F.Var v) (out_var v) h))
condition_truth home e (a_cell v i x y) h = absurd (false≢true (look_test (λ l. l.condition) (expr.Cell v i) (Expr-F.Cell v i) (out_cell v i) h))
condition_truth home e (a_load a x) h = absurd (false≢true (look_test (λ l. l.condition) (expr.Load a) (Expr-F.Load a) (out_load a) h))
condition_truth home e (a_minus a at n x) h = absurd (false≢true (look_test (λ l. l.condition) (expr.Neg a at) (Expr-F.Neg a at) (out_neg a at) h))
condition_truth home e (a_denial a at n x) h =
    absurd (false≢true (sym n ∙ truth_is_inline a (condition_truth home a x (look_test (λ l. l.condition) (expr.Not a at) (Expr-F.Not a at) (out_not a at) h))))
condition_truth home e (a_cast z s a at x) h = absurd (false≢true (look_test (λ l. l.condition) (expr.Cast z s a at) (Expr-F.Cast z s a at) (out_cast z s a at) h))
condition_truth home e (of_two o a b at n x y) h =
    absurd
    (by_joins (joins o) o (look_of a) (look_of b) (look_test (λ l. l.condition) (expr.Bin o a b at) (Expr-F.Bin o a b at) (out_bin o a b at) h) ⊥
    (λ p q. not_both a b n (truth_is_inline a (condition_truth home a x p)) (truth_is_inline b (condition_truth home b y q)))
    (λ p q. not_both a b n (number_is_inline a (inline_number home a x p)) (number_is_inline b (inline_number home b y q))))
