-- A call passes a value to a parameter as an assignment to the parameter writes it: with the same
-- numbers, and stuck at the parameter where that cannot hold the value.
use Rattle.std.specs.Prelude.{◌≡◌, [], Option, Some}
use Rattle.jz_tree.specs.Size.{Size}
use Rattle.jz_tree.specs.Span.{Span}
use Rattle.jz_tree.specs.declared.expr.Expr.{Expr}
use Rattle.jz_tree.specs.declared.expr.Var.{Var}
use Rattle.jz_tree.specs.declared.stmt.Lval.TheVariants as lval
use Rattle.jz_runs.specs.Rules.{went}
use Rattle.jz_meaning.specs.declared.access.Kind.{Kind}
use Rattle.jz_meaning.specs.declared.access.Kind.TheVariants as kind
use Rattle.jz_meaning.specs.Attempts.{Evaluation, and_then}
use Rattle.jz_meaning.specs.States.{Store, State}
use Rattle.jz_meaning.specs.Values.{size_of, ref_of, evaluated}
use Rattle.jz_meaning.specs.Assignments.{written}
use Rattle.jz_meaning.specs.Statements.{passed}

-- no array
abbrev pub IsScalar : Kind → Type 0
IsScalar (kind.Array z n) = ⊥
IsScalar _ = Unit {0}

-- the variables alone
abbrev pub variables_after : Evaluation State → Evaluation Store
variables_after e = and_then e (λ s. went [] s.store)

-- the argument is evaluated in the caller's state s and written in the callee's, t
abbrev pub ArgumentsAreAssigned : Type 0
ArgumentsAreAssigned =
    (at : Span) (x : Var) (e : Expr) (z : Option Size) (s t : State)
    → IsScalar (ref_of x).kind
    → passed at (ref_of x).kind (ref_of x) e s t.store
    ≡ and_then (evaluated e (size_of (ref_of x).kind) s)
    (λ v. variables_after (written z (lval.Var x) (Some v) t))
