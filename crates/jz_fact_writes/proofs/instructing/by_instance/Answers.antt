use Rattle.std.proofs.Common.{ap, ◌∙◌}
use Rattle.jz_facts.specs.Holding.{all_written, counted}
use Rattle.jz_fact_sets.specs.Kept.{given_of, facts_of}
use Rattle.jz_fact_writes.specs.Instructing.{shown, count_of, values_of}
use Rattle.jz_fact_writes.proofs.Values.{instruction_shown}
use Rattle.jz_fact_writes.proofs.instructing.by_instance.Goals as goal

pub returns-clause-facts : goal.returns-clause-facts
returns-clause-facts c g =
    let s = facts_of g c.args.set.now in
    let name = c.args.instance.name in
    let count = c.count_of-count.ensures ∙ ap (λ es. count_of (counted es)) c.as_slice.ensures in
    c.in_ok-write_values.ensures.facts g s
    ∙ ap (λ bs. all_written (given_of g) s c.args.to.now (shown bs) s) (c.values_of-values.ensures ∙ ap (values_of name) count)
    ∙ ap (λ vs. all_written (given_of g) s c.args.to.now vs s) (instruction_shown name (counted c.args.args.now))
