-- How an argument becomes a parameter's value, and that an assignment does the same.
use Rattle.std.proofs.Common.{◌≡◌, ℕ, List, [], ◌++◌, Option, Some, refl, sym, ap, ◌∙◌, append-nil}
use Rattle.jz_tree.specs.Size.{Size}
use Rattle.jz_tree.specs.Span.{Span}
use Rattle.jz_tree.specs.declared.expr.Expr.{Expr}
use Rattle.jz_tree.specs.declared.expr.Var.{Var}
use Rattle.jz_tree.specs.declared.stmt.Lval.TheVariants as lval
use Rattle.jz_runs.specs.Rules.{stuck, went}
use Rattle.jz_meaning.specs.declared.access.Kind.{Kind}
use Rattle.jz_meaning.specs.declared.access.Kind.TheVariants as kind
use Rattle.jz_meaning.specs.Attempts.{Evaluation, numbers_first, and_then}
use Rattle.jz_meaning.specs.States.{Value, Key, Store, State, put}
use Rattle.jz_meaning.specs.Values.{size_of, Ref, key_of, ref_of, evaluated}
use Rattle.jz_meaning.specs.Assignments.{held, with_value, written}
use Rattle.jz_meaning.specs.Statements.{passed}
use Rattle.jz_meaning.specs.CallLaws.{IsScalar, variables_after}

pub passed_value : (at : Span) (k : Kind) (x : Ref) (e : Expr) (s : State) (inner : Store) → IsScalar k
    → passed at k x e s inner ≡ and_then (evaluated e (size_of k) s) (λ v. and_then (held x.span k v) (λ h. went [] (put inner (key_of x) (Some h))))
passed_value at (kind.Array z n) x e s inner scalar = absurd scalar
passed_value at k x e s inner scalar = refl

same_then : {A B : Type 0} (g : Evaluation A) (f h : A → Evaluation B) → ((x : A) → f x ≡ h x) → and_then g f ≡ and_then g h
same_then (stuck w) f h e = refl
same_then (went ns x) f h e = ap (numbers_first ns) (e x)

-- the value that is held, put among the variables or written to a state
put_written : (k : Key) (t : State) (g : Evaluation Value) → and_then g (λ h. went [] (put t.store k (Some h))) ≡ variables_after (and_then (and_then g (λ h. went [] (Some h))) (λ h. went [] (with_value t k h)))
put_written k t (stuck w) = refl
put_written k t (went ns h) = ap (λ ms. went ms (put t.store k (Some h))) (sym (append-nil ((ns ++ []) ++ []) ∙ append-nil (ns ++ [])))

pub arguments_assigned : (at : Span) (x : Var) (e : Expr) (z : Option Size) (s t : State) → IsScalar (ref_of x).kind
    → passed at (ref_of x).kind (ref_of x) e s t.store ≡ and_then (evaluated e (size_of (ref_of x).kind) s) (λ v. variables_after (written z (lval.Var x) (Some v) t))
arguments_assigned at x e z s t scalar =
    passed_value at (ref_of x).kind (ref_of x) e s t.store scalar
    ∙ same_then (evaluated e (size_of (ref_of x).kind) s) (λ v. and_then (held (ref_of x).span (ref_of x).kind v) (λ h. went [] (put t.store (key_of (ref_of x)) (Some h)))) (λ v. variables_after (written z (lval.Var x) (Some v) t))
    (λ v. put_written (key_of (ref_of x)) t (held (ref_of x).span (ref_of x).kind v))
