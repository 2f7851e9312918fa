use Rattle.std.proofs.Common.{refl, sym, subst, ◌∙◌}
use Rattle.jz_runs.specs.Trees.{done}
use Rattle.jz_meaning.specs.Runs.{block}
use Rattle.jz_fact_sets.specs.Kept.{facts_of}
use Rattle.jz_block_facts.specs.Heads.{no_callees, plain_block, AreHeads}
use Rattle.jz_block_facts.proofs.LaidFacts.{returned, facts_seen}
use Rattle.jz_block_facts.proofs.Leading.{first_place}
use Rattle.jz_block_facts.proofs.bodies.heads_of.Goals as goal

pub walk_block-requires : goal.walk_block-requires
walk_block-requires c =
    first_place c.args.given.now (block no_callees c.args.stmts.now) (facts_of c.args.given.now c.open.new.self) c.new-heads.result c.new-heads.ensures c.requires.different c.requires.words c.requires.plain

pub returns-clause-below : goal.returns-clause-below
returns-clause-below c =
    (returned c.args.set.now c.close.new.self c.walk_block.new.set.below.items (c.in_ok-walk_block.ensures.below ∙ c.in_ok-open.ensures.below) c.close.ensures.below).0

pub returns-clause-seen : goal.returns-clause-seen
returns-clause-seen c =
    (returned c.args.set.now c.close.new.self c.walk_block.new.set.below.items (c.in_ok-walk_block.ensures.below ∙ c.in_ok-open.ensures.below) c.close.ensures.below).1

pub returns-clause-heads : goal.returns-clause-heads
returns-clause-heads c =
    subst (λ us. AreHeads c.args.given.now (plain_block c.args.stmts.now) 0 us (facts_of c.args.given.now c.args.set.now)) (sym c.into_vec.ensures)
    (subst (AreHeads c.args.given.now (plain_block c.args.stmts.now) 0 c.walk_block.new.heads) (facts_seen c.args.given.now c.args.set.now c.open.new.self c.in_ok-open.ensures.seen)
    (c.in_ok-walk_block.ensures.leads.heads c.walk_block.new.heads (λ k i j. refl) done tt))
