use Rattle.std.proofs.Common.{◌≤◌, length, ◌∙◌, arith}
use Rattle.jz_fact_sets.specs.Kept.{given_of, facts_of}
use Rattle.jz_fact_writes.specs.Instructing.{got}
use Rattle.jz_fact_writes.proofs.Values.{now_written, none_written}
use Rattle.jz_fact_writes.proofs.instructing.write_next.Goals as goal

pub returns-then-index-values-clause-facts : goal.returns-then-index-values-clause-facts
returns-then-index-values-clause-facts c g s =
    let bs = c.args.values.now in
    let b = c.value_at.result in
    c.in_ok-write.ensures.facts g s (got b) (c.gets_of.ensures g s)
    ∙ now_written (given_of g) s c.args.left.now bs c.args.index b (facts_of g c.args.set.now) (omega (arith, c.if-index-values.true)) c.value_at.ensures

pub returns-clause-facts : goal.returns-clause-facts
returns-clause-facts c g s =
    let l : length c.args.values.now ≤ c.args.index = omega (arith, c.if-index-values.false) in
    none_written (given_of g) s c.args.left.now c.args.values.now c.args.index (facts_of g c.args.set.now) l
