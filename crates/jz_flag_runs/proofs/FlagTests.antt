-- A flag variable as a condition.
use Rattle.std.proofs.Common.{◌≡◌, ℕ, Bool, true, false, List, [], Option, Some, None, sym, ap, ◌∙◌}
use Rattle.std.specs.Prelude.{not, option_map}
use Rattle.jz_io.specs.declared.span.Span.{Span}
use Rattle.jz_tree.specs.declared.expr.Expr.{Expr}
use Rattle.jz_tree.specs.declared.expr.Expr.TheVariants as expr
use Rattle.jz_tree.specs.declared.expr.Expr.TheOpen.{Expr-F}
use Rattle.jz_tree.specs.declared.expr.Expr.TheFolds.{fold-roll-Expr}
use Rattle.jz_tree.specs.declared.expr.Var.{Var}
use Rattle.jz_runs.specs.Rules.{went}
use Rattle.jz_meaning.specs.States.{State}
use Rattle.jz_meaning.specs.Values.{size_of, ref_of, own_size, expr_step, ty_step, access_step, decl_step, var_step}
use Rattle.jz_meaning.specs.Assignments.{bool_in}
use Rattle.jz_operations.specs.declared.operation.Condition.TheVariants as condition
use Rattle.jz_operations.specs.Values as over
use Rattle.jz_operations.specs.Rows as rows
use Rattle.jz_operations.specs.Rows.{Frame, holds_in}
use Rattle.jz_homes.specs.Homes.{Homes, IsHoming, IsRelated}
use Rattle.jz_row_operations.proofs.Compares.{not_not, size_not, denied_bool}
use Rattle.jz_flag_rows.specs.Conditions.{IsFlagCondition, a_flag, denied}
use Rattle.jz_flag_runs.proofs.Words.{flag_asked}

-- what a denied condition says
not_said : (o : Option Bool) (d k : Bool) → option_map (rows.denied d) o ≡ Some (not k) → option_map (rows.denied (not d)) o ≡ Some k
not_said None d k e = absurd cc
not_said (Some b) true k e = ap (λ y. Some y) (sym (not_not b)) ∙ ap (option_map not) e ∙ ap (λ y. Some y) (not_not k)
not_said (Some b) false k e = ap (option_map not) e ∙ ap (λ y. Some y) (not_not k)

size_var : (x : Var) → own_size (expr.Var x) ≡ size_of (ref_of x).kind
size_var x = ap own_size (sym (expr.rolls-Var x)) ∙ ap (λ m. m.size) (fold-roll-Expr _ _ _ _ _ expr_step ty_step access_step decl_step var_step (Expr-F.Var x))

-- a flag has no size
pub flag_none : {home : Homes} {e : Expr} {n : ℕ} {d : Bool} → IsFlagCondition home e n d → own_size e ≡ None
flag_none (a_flag x n kd h) = size_var x ∙ ap size_of kd
flag_none (denied {e} here h) = size_not e here ∙ flag_none h

module _ (frame : Frame) (home : Homes) (homing : IsHoming frame home) (s : State) (σ : over.State) (related : IsRelated home s σ) where
  -- the condition holds where the source's does, and nothing is leaked
  pub flag_says : {e : Expr} {n : ℕ} {d : Bool} (here : Span) (ns : List ℕ) (k : Bool) → IsFlagCondition home e n d → bool_in here e s ≡ went ns k → (ns ≡ []) × (holds_in (condition.Flag n d) σ ≡ Some k)
  flag_says here ns k (a_flag x n kd h) run = let f = flag_asked frame home homing s σ related x n here ns k h run in (f.0, ap (option_map (rows.denied false)) f.1)
  flag_says {n = n} here ns k (denied {e} {d = d} there h) run =
      let f = flag_says here ns (not k) h (denied_bool here there e s ns k (flag_none h) run) in
      (f.0, not_said (rows.truth (σ.vars n)) d k f.1)
