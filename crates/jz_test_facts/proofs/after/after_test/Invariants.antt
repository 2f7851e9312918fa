use Rattle.std.proofs.Common.{◌≡◌}
use Rattle.jz_tree.specs.declared.expr.Expr.{size-Expr}
use Rattle.jz_terms.specs.Terms.{term_of}
use Rattle.jz_facts.specs.Tests.{adds}
use Rattle.jz_fact_sets.specs.Kept.{given_of, facts_of}
use Rattle.jz_test_facts.proofs.after.after_test.Given as goal

abbrev pub invariant-loop-e : goal.invariant-loop-e
invariant-loop-e l =
    adds (given_of l.given) (facts_of l.given l.fn.set) (term_of l.e) l.is ≡ adds (given_of l.given) (facts_of l.given l.fn.set) (term_of l.test) l.answer

abbrev pub decreases-loop-e : goal.decreases-loop-e
decreases-loop-e l = size-Expr l.e
