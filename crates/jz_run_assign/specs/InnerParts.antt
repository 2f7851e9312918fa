-- The parts of an assignment, as private functions have them.
use Rattle.std.specs.Prelude.{[], ◌∷◌, Option, Some, None}
use Rattle.jz_words.specs.declared.size.Size.{Size}
use Rattle.jz_tree.specs.declared.expr.Expr.{Expr}
use Rattle.jz_tree.specs.declared.expr.Var.{Var}
use Rattle.jz_tree.specs.declared.stmt.Lval.TheVariants as lval
use Rattle.jz_meaning.specs.Rules.{went}
use Rattle.jz_meaning.specs.Attempts.{Evaluation, and_then}
use Rattle.jz_meaning.specs.States.{Value, State}
use Rattle.jz_meaning.specs.Values.{size_of, ref_of, index_at, evaluated}
use Rattle.jz_meaning.specs.Assignments.{Results, in_cell, written, conditioned, all_written, assigned_whole}
use Rattle.jz_run_assign.specs.declared.assigning.Assignment.{Assignment}

-- ---- left sides

abbrev pub variable_written : Var → Option Value → State → Evaluation State
variable_written x = written None (lval.Var x)

-- a cell whose index is this value
abbrev pub cell_written : Var → Value → Option Value → State → Evaluation State
cell_written x at v s =
    and_then (index_at (ref_of x) at) (λ n. in_cell (ref_of x) n (size_of (ref_of x).kind) v s)

-- ---- the right side, and then the left sides

-- the value of a right side, which one left side gets
abbrev pub one_value : Expr → Option Size → State → Evaluation Results
one_value e size s = and_then (evaluated e size s) (λ v. went [] (Some v ∷ []))

-- the results, or under a condition what is chosen
abbrev pub results_chosen : Assignment → Results → State → Evaluation Results
results_chosen a = conditioned a.to.now a.cond.now a.span

-- these are written
abbrev pub results_written : Assignment → Option Size → Results → State → Evaluation State
results_written a size vs s =
    and_then (results_chosen a vs s) (λ ws. all_written a.span size a.to.now ws s)

-- this is the whole right side
abbrev pub right_assigned : Assignment → Expr → State → Evaluation State
right_assigned a e = assigned_whole a.to.now (Some e) a.cond.now a.span
