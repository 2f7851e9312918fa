use Rattle.std.proofs.Common.{◌≡◌, drop}
use Rattle.x64_insn.specs.Size.{Size}
use Rattle.jz_terms.specs.Terms.{Term}
use Rattle.jz_facts.specs.Facts.{Facts}
use Rattle.jz_facts.specs.Holding.{of_word, all_written, results}
use Rattle.jz_fact_sets.specs.declared.given.Given.{Given}
use Rattle.jz_fact_sets.specs.Kept.{given_of, facts_of}
use Rattle.jz_fact_sets.specs.Renewing.{own}
use Rattle.jz_fact_writes.proofs.writes.write_all.Given as goal

abbrev pub invariant-loop-left : goal.invariant-loop-left
invariant-loop-left l =
    (l.index ≡ l.left-index)
    × (l.set.below.items ≡ l.fn.set.below.items)
    × ((g : Given) (s : Facts) (z : Size) (t : Term) → own g l.known ≡ of_word (given_of g) s z t
    → all_written (given_of g) s (drop l.left-index l.lefts) (results z t (drop l.left-index l.lefts)) (facts_of g l.set) ≡ all_written (given_of g) s l.lefts (results z t l.lefts) (facts_of g l.fn.set))
