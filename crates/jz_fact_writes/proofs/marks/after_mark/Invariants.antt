use Rattle.std.proofs.Common.{◌≡◌, drop}
use Rattle.jz_meaning.specs.Statements.{unset}
use Rattle.jz_facts.specs.Holding.{quieted}
use Rattle.jz_fact_sets.specs.declared.given.Given.{Given}
use Rattle.jz_fact_sets.specs.Kept.{facts_of}
use Rattle.jz_fact_writes.proofs.marks.after_mark.Given as goal

abbrev pub invariant-loop-var : goal.invariant-loop-var
invariant-loop-var l =
    (l.set.below.items ≡ l.fn.set.below.items)
    × ((g : Given) → quieted (unset (drop l.var-index l.var-items)) (facts_of g l.set) ≡ quieted (unset l.var-items) (facts_of g l.fn.set))
