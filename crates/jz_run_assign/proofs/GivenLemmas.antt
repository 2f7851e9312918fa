-- A result that is read is no array, and is not dropped.
use Rattle.std.proofs.Common.{◌≡◌, Some, refl}
use Rattle.jz_tree.specs.declared.stmt.Lval.{Lval}
use Rattle.jz_tree.specs.declared.stmt.Lval.TheVariants as lval
use Rattle.jz_meaning.specs.declared.access.Kind.{Kind}
use Rattle.jz_meaning.specs.declared.access.Kind.TheVariants as kind
use Rattle.jz_meaning.specs.Assignments.{written}
use Rattle.jz_meaning.specs.Attempts.{and_then}
use Rattle.jz_meaning.specs.CallLaws.{IsScalar}
use Rattle.jz_meaning.specs.States.{Store, State}
use Rattle.jz_meaning.specs.Statements.{given}
use Rattle.jz_meaning.specs.Values.{Ref, size_of, variable_value}

abbrev pub IsKept : Lval → Type 0
IsKept (lval.Skip at) = ⊥
IsKept _ = Unit {0}

pub given_read : (k : Kind) (x : Ref) (d : Lval) (inner : Store) (s : State) → IsKept d → IsScalar k → given k x d inner s ≡ and_then (variable_value x inner) (λ v. written (size_of k) d (Some v) s)
given_read k x (lval.Skip at) inner s kept scalar = absurd kept
given_read (kind.Array z n) x d inner s kept scalar = absurd scalar
given_read k x d inner s kept scalar = refl
