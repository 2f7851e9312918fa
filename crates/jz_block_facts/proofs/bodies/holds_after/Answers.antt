use Rattle.std.proofs.Common.{refl, subst}
use Rattle.jz_runs.specs.Trees.{done}
use Rattle.jz_meaning.specs.Runs.{statement_tree}
use Rattle.jz_flow.specs.Flow.{After}
use Rattle.jz_facts.specs.Along.{fact_steps}
use Rattle.jz_fact_sets.specs.Kept.{given_of, facts_of}
use Rattle.jz_block_facts.specs.Heads.{no_callees}
use Rattle.jz_block_facts.proofs.LaidFacts.{facts_seen}
use Rattle.jz_block_facts.proofs.Leading.{first_place}
use Rattle.jz_block_facts.proofs.bodies.holds_after.Goals as goal

pub walk_statement-requires : goal.walk_statement-requires
walk_statement-requires c =
    first_place c.args.given.now (statement_tree no_callees c.args.stmt.now) (facts_of c.args.given.now c.in_ok-behind.behind) c.new-heads.result c.new-heads.ensures c.requires.different c.requires.words c.requires.plain

pub returns : goal.returns
returns c =
    let g = c.args.given.now in
    let t = statement_tree no_callees c.args.stmt.now done in
    let behind = facts_of g c.walk_statement.new.set in
    subst (λ s. After (fact_steps (given_of g)) t s behind)
    (facts_seen g c.args.set.now c.in_ok-behind.behind c.in_ok-behind.ensures)
    (c.in_ok-walk_statement.ensures.leads.after done behind refl)
