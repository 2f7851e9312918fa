-- The parts of a call, as private functions have them.
use Rattle.std.specs.Prelude.{ℕ, [], Some}
use Rattle.jz_tree.specs.Span.{Span}
use Rattle.jz_tree.specs.declared.expr.Expr.{Expr}
use Rattle.jz_tree.specs.declared.expr.Var.{Var}
use Rattle.jz_tree.specs.declared.stmt.Lval.{Lval}
use Rattle.jz_meaning.specs.Rules.{went}
use Rattle.jz_meaning.specs.declared.access.Kind.{Kind}
use Rattle.jz_meaning.specs.Assignments.{held, written}
use Rattle.jz_meaning.specs.Attempts.{Evaluation, and_then}
use Rattle.jz_meaning.specs.States.{Store, State, put}
use Rattle.jz_meaning.specs.Statements as statements
use Rattle.jz_meaning.specs.Statements.{array_of, passed, given}
use Rattle.jz_meaning.specs.Values.{size_of, ref_of, key_of, variable_value, evaluated}

-- ---- arguments, of the caller's state and the callee's variables

abbrev pub array_passed : Span → ℕ → Var → Expr → Store → Store → Evaluation Store
array_passed at n x e = statements.array_passed at n (ref_of x) (array_of e)

abbrev pub value_passed : Kind → Var → Expr → State → Store → Evaluation Store
value_passed k x e s inner =
    and_then (evaluated e (size_of k) s)
    (λ v. and_then (held (ref_of x).span k v) (λ h. went [] (put inner (key_of (ref_of x)) (Some h))))

abbrev pub argument_passed : Span → Var → Expr → State → Store → Evaluation Store
argument_passed at x e = passed at (ref_of x).kind (ref_of x) e

-- ---- results, of the callee's variables and the caller's state

abbrev pub array_back : Var → Expr → Store → Store → Store
array_back x e = statements.array_back (ref_of x).kind (ref_of x) (array_of e)

abbrev pub value_given : Kind → Lval → Var → Store → State → Evaluation State
value_given k d x inner s =
    and_then (variable_value (ref_of x) inner) (λ v. written (size_of k) d (Some v) s)

abbrev pub result_given : Lval → Var → Store → State → Evaluation State
result_given d x = given (ref_of x).kind (ref_of x) d
