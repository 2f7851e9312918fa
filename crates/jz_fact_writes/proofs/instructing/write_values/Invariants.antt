use Rattle.std.proofs.Common.{◌≡◌, drop}
use Rattle.jz_facts.specs.Facts.{Facts}
use Rattle.jz_facts.specs.Holding.{all_written}
use Rattle.jz_fact_sets.specs.declared.given.Given.{Given}
use Rattle.jz_fact_sets.specs.Kept.{given_of, facts_of}
use Rattle.jz_fact_writes.specs.Instructing.{shown}
use Rattle.jz_fact_writes.proofs.instructing.write_values.Given as goal

abbrev pub invariant-loop-left : goal.invariant-loop-left
invariant-loop-left l =
    (l.index ≡ l.left-index)
    × (l.set.below.items ≡ l.fn.set.below.items)
    × ((g : Given) (s : Facts) → all_written (given_of g) s (drop l.left-index l.left-items) (shown (drop l.left-index l.values)) (facts_of g l.set) ≡ all_written (given_of g) s l.left-items (shown l.values) (facts_of g l.fn.set))
