use Rattle.std.proofs.Common.{◌≡◌, ◌≤◌, ◌+◌, ◌*◌}
use Rattle.jz_tree.specs.declared.expr.Expr.{size-Expr}
use Rattle.jz_terms.specs.Terms.{term_of}
use Rattle.jz_facts.specs.Intervals.{multiple}
use Rattle.jz_fact_readings.specs.Multiples.{times_of}
use Rattle.jz_fact_readings.proofs.multiples.+times.Given as goal

abbrev pub decreases-times : goal.decreases-times
decreases-times g l = 2 * size-Expr l.e.now + 1

abbrev pub decreases-settled : goal.decreases-settled
decreases-settled g l = 2 * size-Expr l.right.now + 2

abbrev pub invariant-times-loop-rest : goal.invariant-times-loop-rest
invariant-times-loop-rest g l =
    (multiple (g.K.Knows.given l.set) (g.K.Knows.facts l.set) (term_of l.rest) (times_of l.m)
    ≡ multiple (g.K.Knows.given l.set) (g.K.Knows.facts l.set) (term_of l.e) (times_of l.m))
    × (size-Expr l.rest ≤ size-Expr l.e)

abbrev pub decreases-times-loop-rest : goal.decreases-times-loop-rest
decreases-times-loop-rest g l = size-Expr l.rest
