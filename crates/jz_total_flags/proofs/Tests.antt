-- A test is a comparison or a bool variable, and has operations.
use Rattle.std.proofs.Common.{◌≡◌, ℕ, Bool, true, false, refl, sym, ap, ◌∙◌, inl, inr}
use Rattle.std.specs.Prelude.{◌⊎◌, ◌||◌, not}
use Rattle.std.proofs.lemmas.Bool.{false≢true, and_parts}
use Rattle.jz_tree.specs.declared.expr.Expr.{Expr}
use Rattle.jz_tree.specs.declared.expr.Expr.TheVariants as expr
use Rattle.jz_tree.specs.declared.expr.Expr.TheOpen.{Expr-F}
use Rattle.jz_tree.specs.declared.expr.Expr.TheViews.{out-Expr}
use Rattle.jz_tree.specs.declared.expr.Var.{Var}
use Rattle.jz_type_names.specs.Kinds.{known_of}
use Rattle.jz_select.specs.Look.{look_of, compares_values}
use Rattle.jz_select.specs.Operands.{var_class}
use Rattle.jz_select.specs.Places.{Layer}
use Rattle.jz_select.specs.InnerLayers.{flags_layer}
use Rattle.jz_select.specs.Rows.{is_flag}
use Rattle.jz_select.specs.Shapes.{has_flags}
use Rattle.jz_select.proofs.Conditions.{flags_out}
use Rattle.jz_meaning.specs.Statements.{Condition}
use Rattle.jz_placing.specs.Variables.{Asked}
use Rattle.jz_change.specs.declared.change.Numbers.{Numbers}
use Rattle.jz_homes.specs.Homes.{Homes}
use Rattle.jz_row_operations.specs.Lowering.{tests_each, never_false}
use Rattle.jz_one_row.proofs.Outs.{out_num, out_bool, out_var, out_cell, out_load, out_neg, out_not, out_cast, out_bin}
use Rattle.jz_flag_rows.specs.Conditions as flags
use Rattle.jz_flag_rows.specs.Conditions.{IsFlagCondition, asks_flag}
use Rattle.jz_every_row.specs.Statements.{MakesTest, by_comparison, by_flag, MakesLoopTest, by_loop_test, by_loop_flag}
use Rattle.jz_total_rows.specs.Expanded.{HasHome, a_word, a_flag, a_scalar, an_array, IsExpanded, a_number, a_truth, a_variable, a_cell, a_load, a_minus, a_denial, a_cast, of_two}
use Rattle.jz_total_rows.specs.Covered as covered
use Rattle.jz_total_rows.specs.Covered.{IsComparison}
use Rattle.jz_total_rows.specs.Laws.{IsReadyTest}
use Rattle.jz_total_rows.proofs.Whole as rows
use Rattle.jz_total_flags.specs.Ready.{HasTest, IsReadyCondition, AllTestsHaveOperations, AllLoopTestsHaveOperations}

-- ---- a condition by its outermost layer
flags_at : (e : Expr) (l : Layer) → out-Expr e ≡ l → has_flags e ≡ true → flags_layer l ≡ true
flags_at e l s h = sym (flags_out e ∙ ap flags_layer s) ∙ h

abbrev pub IsFlagOf : Homes → Expr → Type 0
IsFlagOf home c = (n : ℕ) × (d : Bool) × IsFlagCondition home c n d

variable_flag : (home : Homes) (v : Var) → HasHome home v → is_flag (var_class (known_of v)) ≡ true → IsFlagOf home (expr.Var v)
variable_flag home v (a_word z n d k h) e = absurd (false≢true (sym (ap (λ q. is_flag (var_class q)) d) ∙ e))
variable_flag home v (a_flag n d k h) e = (n, false, flags.a_flag v n k h)
variable_flag home v (a_scalar z w d k h) e = absurd (false≢true (sym (ap (λ q. is_flag (var_class q)) d) ∙ e))
variable_flag home v (an_array z n w d c) e = absurd (false≢true (sym (ap (λ q. is_flag (var_class q)) d) ∙ e))

pub flag_or_comparison : (home : Homes) (c : Expr) → IsExpanded home c → has_flags c ≡ true → IsComparison c ⊎ IsFlagOf home c
flag_or_comparison home c (a_number i at) h = absurd (false≢true (flags_at (expr.Num i at) (Expr-F.Num i at) (out_num i at) h))
flag_or_comparison home c (a_truth b at) h = absurd (false≢true (flags_at (expr.Bool b at) (Expr-F.Expr::Bool b at) (out_bool b at) h))
flag_or_comparison home c (a_variable v x) h = inr (variable_flag home v x (flags_at (expr.Var v) (Expr-F.Var v) (out_var v) h))
flag_or_comparison home c (a_cell v i x y) h = absurd (false≢true (flags_at (expr.Cell v i) (Expr-F.Cell v i) (out_cell v i) h))
flag_or_comparison home c (a_load a x) h = absurd (false≢true (flags_at (expr.Load a) (Expr-F.Load a) (out_load a) h))
flag_or_comparison home c (a_minus a at n x) h = absurd (false≢true (flags_at (expr.Neg a at) (Expr-F.Neg a at) (out_neg a at) h))
flag_or_comparison home c (a_denial a at n x) h = denied_is (flag_or_comparison home a x (flags_at (expr.Not a at) (Expr-F.Not a at) (out_not a at) h))
  where
    denied_is : IsComparison a ⊎ IsFlagOf home a → IsComparison (expr.Not a at) ⊎ IsFlagOf home (expr.Not a at)
    denied_is (inl k) = inl (covered.denies a at k)
    denied_is (inr f) = inr (f.0, not f.1, flags.denied at f.2)
flag_or_comparison home c (a_cast z s a at x) h = absurd (false≢true (flags_at (expr.Cast z s a at) (Expr-F.Cast z s a at) (out_cast z s a at) h))
flag_or_comparison home c (of_two o a b at n x y) h = inl (covered.compares o a b at (and_parts (compares_values o) _ (flags_at (expr.Bin o a b at) (Expr-F.Bin o a b at) (out_bin o a b at) h)).0)

-- ---- tests
or_first : (a b : Bool) → a ≡ true → (a || b) ≡ true
or_first true b h = refl
or_first false b h = absurd (false≢true h)

as_test : (home : Homes) (c : Expr) → IsReadyCondition home c → IsReadyTest home c
as_test home c r = record { expanded = r.expanded; typed = r.typed; matches = or_first (has_flags c) (look_of c).condition r.matches; within = r.within }

pub tests_there : AllTestsHaveOperations
tests_there home t r = by (flag_or_comparison home t.cond r.expanded r.matches)
  where
    by : IsComparison t.cond ⊎ IsFlagOf home t.cond → HasTest home t
    by (inl k) = let m = rows.tests_there home t (as_test home t.cond r) k in (m.0, m.1, by_comparison m.2)
    by (inr f) = (_, _, by_flag (asks_flag f.2))

as_loop : (home : Homes) (t : Condition) (k : Asked) (i : Numbers) → MakesTest home t k i → MakesLoopTest home t k i
as_loop home t k i (by_comparison h) = by_loop_test (tests_each h)
as_loop home t k i (by_flag h) = by_loop_flag h

pub loop_tests_there : AllLoopTestsHaveOperations
loop_tests_there home t (inl r) = let m = tests_there home t r in (m.0, m.1, as_loop home t m.0 m.1 m.2)
loop_tests_there home t (inr e) = (_, _, by_loop_test (never_false e.0 e.1))
