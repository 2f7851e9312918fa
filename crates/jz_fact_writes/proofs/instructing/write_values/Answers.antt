use Rattle.std.proofs.Common.{◌≤◌, ◌+◌, length, drop, ap, ◌∙◌, arith}
use Rattle.jz_facts.specs.Holding.{all_written}
use Rattle.jz_fact_sets.specs.Kept.{given_of, facts_of}
use Rattle.jz_fact_writes.specs.Instructing.{shown, next_written}
use Rattle.jz_fact_writes.proofs.Values.{value_more, value_end}
use Rattle.jz_fact_writes.proofs.instructing.write_values.Goals as goal

pub loop-left-preserved : goal.loop-left-preserved
loop-left-preserved c =
    let to = c.as_slice-left-items.result.now in
    let bs = c.args.values.now in
    let i = c.loop-left.left-index in (
      ap (λ n. n + 1) c.loop-left.invariant.0,
      c.in_ok-write_next.ensures.below ∙ c.loop-left.invariant.1,
      λ g s. value_more (given_of g) s to i c.left-item.result bs (facts_of g c.loop-left.set) (facts_of g c.write_next.new.set) (all_written (given_of g) s to (shown bs) (facts_of g c.args.set.now)) c.loop-left-test.true c.left-item.is
          (c.in_ok-write_next.ensures.facts g s ∙ ap (λ n. next_written (given_of g) s c.left-item.result (drop n bs) (facts_of g c.loop-left.set)) c.loop-left.invariant.0)
          (c.loop-left.invariant.2 g s),
    )

pub returns-clause-facts : goal.returns-clause-facts
returns-clause-facts c g s =
    let to = c.as_slice-left-items.result.now in
    let bs = c.args.values.now in
    let l : length to ≤ c.loop-left.left-index = omega (arith, c.loop-left-test.false) in
    value_end (given_of g) s to c.loop-left.left-index bs (facts_of g c.loop-left.set) (all_written (given_of g) s to (shown bs) (facts_of g c.args.set.now)) l (c.loop-left.invariant.2 g s)
    ∙ ap (λ xs. all_written (given_of g) s xs (shown bs) (facts_of g c.args.set.now)) c.as_slice-left-items.ensures
