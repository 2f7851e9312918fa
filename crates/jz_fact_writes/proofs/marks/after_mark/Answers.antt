use Rattle.std.proofs.Common.{◌≤◌, length, ap, ◌∙◌, arith, List}
use Rattle.jz_tree.specs.declared.expr.Var.{Var}
use Rattle.jz_meaning.specs.Statements.{unset}
use Rattle.jz_facts.specs.Holding.{quieted}
use Rattle.jz_fact_sets.specs.Kept.{facts_of}
use Rattle.jz_fact_writes.proofs.Unmarking.{unmark_more, unmark_end}
use Rattle.jz_fact_writes.proofs.marks.after_mark.Goals as goal

pub loop-var-preserved : goal.loop-var-preserved
loop-var-preserved c =
    let xs = c.as_slice-var-items.result.now in (
      c.in_ok-forget.ensures.below ∙ c.loop-var.invariant.0,
      λ g. unmark_more xs c.loop-var.var-index c.var-item.result (facts_of g c.loop-var.set) (facts_of g c.forget.new.set) (quieted (unset xs) (facts_of g c.args.set.now)) c.loop-var-test.true c.var-item.is (c.in_ok-forget.ensures.facts g) (c.loop-var.invariant.1 g),
    )

pub returns-clause-facts : goal.returns-clause-facts
returns-clause-facts c g =
    let xs = c.as_slice-var-items.result.now in
    let l : length xs ≤ c.loop-var.var-index = omega (arith, c.loop-var-test.false) in
    unmark_end xs c.loop-var.var-index (facts_of g c.loop-var.set) (quieted (unset xs) (facts_of g c.args.set.now)) l (c.loop-var.invariant.1 g)
    ∙ ap (λ (ys : List Var). quieted (unset ys) (facts_of g c.args.set.now)) c.as_slice-var-items.ensures
