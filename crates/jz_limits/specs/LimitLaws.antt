-- Laws of first limits and of counts.
use Rattle.std.specs.Prelude.{ℕ, ◌≡◌, ◌+◌, ◌*◌, ◌⊎◌, List, length, ℤ}
use Rattle.jz_tree.specs.declared.expr.Var.{Var}
use Rattle.jz_meaning.specs.Trees.{done}
use Rattle.jz_meaning.specs.Statements.{Counter}
use Rattle.jz_integers.specs.Integers.{KnownNumbers}
use Rattle.jz_limits.specs.Limits.{Limit, Step, count_of, IsWithin, IsFirstLimit}
use Rattle.jz_limits.specs.Values.{number_in}
use Rattle.jz_limits.specs.Walks.{Walk, rounds, counted_values, loop_walk, walk}

-- all is within the limits, or there is a first limit
abbrev pub WithinOrFirst : Type 0
WithinOrFirst = (steps : List Step)
    → IsWithin steps ⊎ ((limit : Limit) × IsFirstLimit steps limit)

-- and there is one at most, where all is within none
abbrev pub OneFirst : Type 0
OneFirst = (steps : List Step) (a b : Limit)
    → IsFirstLimit steps a → IsFirstLimit steps b → a ≡ b

abbrev pub NoneWithin : Type 0
NoneWithin = (steps : List Step) (limit : Limit)
    → IsWithin steps → IsFirstLimit steps limit → ⊥

-- where the body counts the same in each turn, a `for` counts one and that for each turn
abbrev pub TurnsCount : Type 0
TurnsCount = (v : Var) (body : KnownNumbers → Walk) (n : ℕ) (is : List ℤ) (e : KnownNumbers)
    → ((k : KnownNumbers) → count_of (body k).steps ≡ n)
    → count_of (rounds v body is e).steps ≡ length is * (1 + n)

-- and one without statements as many as it has values, also with those of its limits that are its
-- bounds'
abbrev pub EmptyLoops : Type 0
EmptyLoops = (f : Counter) (e : KnownNumbers)
    → count_of (loop_walk f (walk done) e).steps
    ≡ length (counted_values f.down (number_in e f.from) (number_in e f.to))
